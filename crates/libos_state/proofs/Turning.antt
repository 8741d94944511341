-- A turn of a world that a library OS with nothing in progress fits, beside a turn of the machine.
use Rattle.std.specs.Prelude.{◌≡◌, ℕ, ◌%◌, ◌≤◌, ◌==◌, Bool, true, false, not, ◌&&◌, cond, List, [], ◌∷◌, ◌++◌, map, filter, slice_get, is_some, remove as remove_at}
use Rattle.std.specs.List.{list_any}
use Rattle.std.specs.Option.{option_map}
use Rattle.std.specs.declared.option.Option.{Option}
use Rattle.std.specs.declared.option.Option.TheVariants.{None, Some}
use Rattle.std.proofs.Common.{refl, sym, ap, subst, ◌∙◌, arith, eq-eqb, eqb-true, inl, inr}
use Rattle.rv_core.specs.declared.context.Context.{Context}
use Rattle.guest_space.specs.Space.{Space}
use Rattle.guest_space.specs.Running.{Ran as Run, run_space}
use Rattle.turn_sched.specs.Lists.{Waiting, with_ready, picked_place, picked_by}
use Rattle.abi_calls.specs.declared.object.Object.TheVariants.{Process, Thread}
use Rattle.abi_calls.specs.declared.threads.Turned.{Turned}
use Rattle.abi_calls.specs.declared.threads.Turned.TheVariants.{Ran, Idle, Stuck, Exception}
use Rattle.abi_calls.specs.declared.threads.Upcall.{Upcall}
use Rattle.abi_calls.specs.Objects.{Objects, object_at, running, is_thread_of, with_object, with_lists}
use Rattle.abi_calls.specs.Sound.{IsSound}
use Rattle.abi_calls.specs.Turn.{world_turn, run_end, with_run_of, with_pick, with_turn, pick_of, with_due_ready, is_due, idle_turn}
use Rattle.abi_calls.proofs.Facts.{RunsIn}
use Rattle.abi_calls.proofs.TurnFacts.{world_turn-runs, world_turn-cases, home_apart}
use Rattle.abi_calls.proofs.Sounds.{IsSound-with_due_ready}
use Rattle.bas_items.proofs.NumberMaps.{get-insert-same, get-insert-other}
use Rattle.mono_model.specs.Machine.{Mono, process_at, with_memory_in, with_context, made_ready}
use Rattle.mono_model.specs.Calls.{Trap, Served, silently, memory_at, memory_in}
use Rattle.mono_model.specs.SystemCalls.{served}
use Rattle.mono_model.specs.Turns as machine
use Rattle.mono_model.specs.Turns.{turn_of, turn_of_pick, awoken, is_stuck, is_nobody, waits_for_time, pick_word, after_run}
use Rattle.libos_state.specs.declared.notes.ThreadNote.{ThreadNote}
use Rattle.libos_state.specs.declared.state.LibOs.{LibOs}
use Rattle.libos_state.specs.Records.{Visible, with_visible, base, thread_with, thread_seen, process_if, memory_of_object, context_of, tids_of, tid_of, pid_of}
use Rattle.libos_state.specs.Meaning.{caller_of}
use Rattle.libos_state.specs.Named.{recorded, times_named}
use Rattle.libos_state.specs.Fits.{FitsObjects, FitsUp, is_to_name}
use Rattle.libos_state.specs.Turned.{TurnsTo}
use Rattle.libos_state.proofs.Distinct.{some_of}
use Rattle.libos_state.proofs.Naming.{Linked, linked, find-passes, times_named-most, FitsObjects-same, FitsObjects-changed, Alike, Alike-thread, Alike-process}
use Rattle.libos_state.proofs.Bases.{process_at-found, thread_at-found, base-with_context, base-with_memory, base-with_ready, are_recorded}
use Rattle.libos_state.proofs.Waking.{thread_recorded, base-with_due_ready, are_recorded-ready, waits_for_time-base, tids_of-length, tids_of-place, tids_of-remove}

-- ---- nobody is ready

none_woken : (due : Waiting → Bool) (ready : List ℕ) (ws : List Waiting) → ready ++ map (λ v. v.thread) (filter due ws) ≡ [] → (ready ≡ []) × (filter due ws ≡ [])
none_woken due (t ∷ ready) ws none = absurd (cc)
none_woken due [] ws none = (refl, nothing (filter due ws) none)
  where
    nothing : (vs : List Waiting) → map (λ v. v.thread) vs ≡ [] → vs ≡ []
    nothing [] none = refl
    nothing (v ∷ vs) none = absurd (cc)

all_stay : (due : Waiting → Bool) (ws : List Waiting) → filter due ws ≡ [] → filter (λ v. not (due v)) ws ≡ ws
all_stay due [] none = refl
all_stay due (v ∷ ws) none = elim (due v) as (λ b. cond b (v ∷ filter due ws) (filter due ws) ≡ [] → cond (not b) (v ∷ filter (λ j. not (due j)) ws) (filter (λ j. not (due j)) ws) ≡ v ∷ ws) [
  | true ↦ λ some. absurd (cc)
  | false ↦ λ rest. ap (λ vs. v ∷ vs) (all_stay due ws rest)
] none

-- Where nobody is ready once those that are due are, nobody was due.
with_due_ready-nobody : (o : Objects) → (with_due_ready o).lists.ready ≡ [] → with_due_ready o ≡ o
with_due_ready-nobody o none =
    let parts = none_woken (is_due o) o.lists.ready o.lists.waiting none in
    let ready = none ∙ sym parts.0 in
    let waiting = all_stay (is_due o) o.lists.waiting parts.1 in
    λ i. record o { lists = record o.lists { ready = ready i; waiting = waiting i } }

module _ (os : LibOs) (w : Visible) (fits : FitsUp os w.objects) (sound : IsSound w.objects) where
  abbrev awake : Objects
  awake = with_due_ready w.objects

  awake_sound : IsSound awake
  awake_sound = IsSound-with_due_ready w.objects sound

  awake_objects : FitsObjects os awake [] None
  awake_objects = FitsObjects-same os w.objects awake [] None (λ q. refl) fits.objects

  -- the machine with those that are due ready
  abbrev woken : Visible
  woken = with_visible w awake

  abbrev m : Mono
  m = base os woken

  awoken_is : awoken (base os w) ≡ m
  awoken_is = base-with_due_ready os w fits.records fits.objects sound

  stuck_is : is_stuck (base os w) ≡ (is_nobody m.lists.ready && not (waits_for_time m))
  stuck_is = ap (λ a. is_nobody a.lists.ready && not (waits_for_time a)) awoken_is

  abbrev turn_from : Mono → Served
  turn_from a = turn_of_pick a (picked_by (pick_word a) a.lists)

  turn_is : turn_of (base os w) ≡ turn_from m
  unfolding turn_of
  turn_is = ap turn_from awoken_is

  -- ---- idle and stuck
  module _ (nobody : awake.lists.ready ≡ []) where
    no_tids : m.lists.ready ≡ []
    no_tids = ap (tids_of os.threads) nobody

    waits_alike : waits_for_time m ≡ list_any (λ v. is_some v.deadline) awake.lists.waiting
    waits_alike = waits_for_time-base os woken fits.records awake_objects awake_sound

    idle_is : turn_of (base os w) ≡ silently (cond (waits_for_time m) (machine.with_turn m) m)
    idle_is = turn_is ∙ ap (λ ts. turn_of_pick m (slice_get ts (picked_place (pick_word m) m.lists))) no_tids

    up_after : (o : Objects) → ((q : ℕ) → object_at o q ≡ object_at w.objects q) → o.lists.current ≡ None → FitsUp os o
    up_after o same current = record {
      records = fits.records;
      first = fits.first;
      objects = FitsObjects-same os w.objects o [] None same fits.objects;
      current = current;
    }

    idle_or_stuck : (b : Bool) → list_any (λ (v : Waiting). is_some v.deadline) awake.lists.waiting ≡ b
        → (let x : Turned × Objects = cond b (Idle, with_turn awake) (Stuck, awake) in TurnsTo os w x.0 x.1)
    idle_or_stuck true waits = (
      up_after (with_turn awake) (λ q. refl) fits.current,
      stuck_is ∙ (λ i. is_nobody (no_tids i) && not ((waits_alike ∙ waits) i)),
      idle_is ∙ ap (λ b. silently (cond b (machine.with_turn m) m)) (waits_alike ∙ waits),
    )
    idle_or_stuck false waits = (
      stuck_is ∙ (λ i. is_nobody (no_tids i) && not ((waits_alike ∙ waits) i)),
      with_due_ready-nobody w.objects nobody,
    )

    turns_idle : world_turn w.objects ≡ idle_turn awake → TurnsTo os w (world_turn w.objects).0 (world_turn w.objects).1
    turns_idle is = subst (λ (x : Turned × Objects). TurnsTo os w x.0 x.1) (sym is) (idle_or_stuck (list_any (λ (v : Waiting). is_some v.deadline) awake.lists.waiting) refl)

  -- ---- a thread runs
  module _ (t : ℕ) (at : slice_get awake.lists.ready (pick_of awake) ≡ Some t) (n : ThreadNote) (found : thread_with t os.threads ≡ Some n) where
    abbrev place : ℕ
    place = pick_of awake

    links : Linked os awake n
    links = linked os awake [] None fits.records awake_objects t n found

    handle_is : n.handle ≡ t
    handle_is = eqb-true n.handle t (find-passes (λ j. j.handle == t) os.threads n found)

    abbrev p : ℕ
    p = links.process.handle

    runs : RunsIn awake t p links.context links.memory
    runs = record { thread = ap (object_at awake) (sym handle_is) ∙ links.there; process = ap running links.runs }

    abbrev run : Run
    run = run_space w.objects.settings.slice links.context links.memory

    abbrev picked : Objects
    picked = with_pick awake place

    abbrev after : Objects
    after = with_run_of picked t p run

    turned_is : world_turn w.objects ≡ run_end after t p run.context run.trap
    turned_is = world_turn-runs w.objects t p links.context links.memory at runs

    -- the records go on fitting
    mid_thread : object_at (with_object picked p (Process run.space None)) t ≡ Some (Thread p links.context)
    mid_thread = get-insert-other awake.live p (Process run.space None) t (home_apart awake t p links.context links.memory runs) ∙ runs.thread

    after_objects : FitsObjects os after [] None
    after_objects =
        let mid = with_object picked p (Process run.space None) in
        let on_process = subst (λ x. Alike x (Some (Process run.space None))) (sym links.runs) (Alike-process links.memory run.space) in
        let on_thread = subst (λ x. Alike x (Some (Thread p run.context))) (sym mid_thread) (Alike-thread p links.context run.context) in
        let fits_picked = FitsObjects-same os awake picked [] None (λ q. refl) awake_objects in
        let fits_mid = FitsObjects-changed os picked p (Process run.space None) [] None on_process (ap (is_to_name None) (sym links.runs)) fits_picked in
        FitsObjects-changed os mid t (Thread p run.context) [] None on_thread (ap (is_to_name None) (sym mid_thread)) fits_mid

    after_thread : object_at after t ≡ Some (Thread p run.context)
    after_thread = get-insert-same (with_object picked p (Process run.space None)).live t (Thread p run.context)

    -- the machine picks the same thread
    all_recorded : are_recorded os.threads awake.lists.ready ≡ true
    all_recorded = are_recorded-ready os woken fits.records awake_objects awake_sound

    abbrev machine_place : ℕ
    machine_place = picked_place (pick_word m) m.lists

    place_is : machine_place ≡ place
    place_is = ap (λ k. pick_word m % k) (tids_of-length os.threads awake.lists.ready all_recorded)

    picked_is : picked_by (pick_word m) m.lists ≡ Some n.tid
    picked_is =
        ap (slice_get m.lists.ready) place_is ∙ tids_of-place os.threads awake.lists.ready all_recorded place
        ∙ ap (option_map (λ h. tid_of (thread_with h os.threads))) at ∙ ap (λ x. Some (tid_of x)) found

    abbrev machine_picked : Mono
    machine_picked = base os (with_visible w picked)

    base_picked : machine.with_pick m machine_place ≡ machine_picked
    base_picked =
        let left = ap (remove_at m.lists.ready) place_is ∙ tids_of-remove os.threads awake.lists.ready all_recorded place in
        λ i. record machine_picked { lists = record machine_picked.lists { ready = left i } }

    -- with the same registers and the same memory
    context_is : context_of (object_at awake n.handle) ≡ links.context
    context_is = ap context_of links.there

    memory_is : memory_at machine_picked n.pid ≡ links.memory
    memory_is =
        ap (memory_at machine_picked) (sym links.pid)
        ∙ ap memory_in (process_at-found os (with_visible w picked) p links.process fits.records links.behind)
        ∙ ap (λ code. (process_if links.process (memory_of_object (object_at awake p)) code).memory) links.code
        ∙ ap memory_of_object links.runs

    abbrev ran_from : Context → Space → Served
    ran_from context space =
        let r = run_space w.objects.settings.slice context space in
        after_run (machine.with_run_of machine_picked n.tid n.pid r) n.tid n.pid r.context r.trap

    ran_is : turn_of (base os w) ≡ ran_from links.context links.memory
    ran_is =
        turn_is ∙ ap (turn_of_pick m) picked_is
        ∙ ap (machine.run_thread (machine.with_pick m machine_place) n.tid) (thread_at-found os woken t n fits.records found)
        ∙ ap (λ a. machine.run_thread a n.tid (Some (thread_seen awake.live n))) base_picked
        ∙ (λ i. ran_from (context_is i) (memory_is i))

    someone : (ts : List ℕ) (k x : ℕ) → slice_get ts k ≡ Some x → is_nobody ts ≡ false
    someone [] k x there = absurd (cc)
    someone (y ∷ ts) k x there = refl

    not_stuck : is_stuck (base os w) ≡ false
    not_stuck = stuck_is ∙ ap (λ b. b && not (waits_for_time m)) (someone m.lists.ready machine_place n.tid picked_is)

    -- and so is what the run leaves
    recorded_once : (h : ℕ) → times_named h (recorded os) ≤ 1
    recorded_once h = omega (arith, times_named-most os awake [] None awake_objects h)

    base_after : base os (with_visible w after) ≡ machine.with_run_of machine_picked n.tid n.pid run
    base_after =
        let mid = with_object picked p (Process run.space None) in
        base-with_context os (with_visible w mid) t p n run.context fits.records (recorded_once t) found
        ∙ ap (λ a. with_context a n.tid n.pid run.context)
        (base-with_memory os (with_visible w picked) p links.process run.space fits.records (recorded_once p) links.behind links.code
        ∙ ap (λ q. with_memory_in machine_picked q run.space (process_at machine_picked q)) links.pid)

    abbrev machine_ran : Mono
    machine_ran = machine.with_run_of machine_picked n.tid n.pid run

    -- without a trap the thread is ready again
    ran_again : run.trap ≡ None → TurnsTo os w Ran (with_lists after (with_ready after.lists t))
    ran_again none = (
      record {
        records = fits.records;
        first = fits.first;
        objects = FitsObjects-same os after (with_lists after (with_ready after.lists t)) [] None (λ q. refl) after_objects;
        current = fits.current;
      },
      not_stuck,
      ran_is ∙ ap (after_run machine_ran n.tid n.pid run.context) none
          ∙ sym (ap silently (base-with_ready os (with_visible w after) t n found ∙ ap (λ a. made_ready a n.tid) base_after)),
    )

    -- with one it is current, and the trap is served
    abbrev trap_of : Trap → Upcall
    trap_of trap = record { process = p; thread = t; cause = trap.0; value = trap.1; context = run.context }

    abbrev stopped : Objects
    stopped = with_lists after (record after.lists { current = Some t })

    ran_trapped : (trap : Trap) → run.trap ≡ Some trap → TurnsTo os w (Exception (trap_of trap)) stopped
    ran_trapped trap is =
        let process = ap pid_of links.behind ∙ links.pid in
        let who : caller_of os (trap_of trap) ≡ record { thread = n.tid; process = n.pid; context = run.context } = λ i. record { thread = tid_of (found i); process = process i; context = run.context } in (
          record {
            records = fits.records;
            first = fits.first;
            objects = FitsObjects-same os after stopped [] None (λ q. refl) after_objects;
            current = refl;
            home = ap (is_thread_of p) after_thread ∙ eq-eqb p p refl;
            recorded = ap is_some found;
          },
          not_stuck,
          ran_is ∙ ap (after_run machine_ran n.tid n.pid run.context) is ∙ sym (λ i. served (base_after i) (who i) trap),
        )

    ends_as : (trap : Option Trap) → run.trap ≡ trap → TurnsTo os w (run_end after t p run.context trap).0 (run_end after t p run.context trap).1
    ends_as None is = ran_again is
    ends_as (Some trap) is = ran_trapped trap is

    turns_picked : TurnsTo os w (world_turn w.objects).0 (world_turn w.objects).1
    turns_picked = subst (λ (x : Turned × Objects). TurnsTo os w x.0 x.1) (sym turned_is) (ends_as run.trap refl)

  -- A turn is one of the two.
  pub turns : TurnsTo os w (world_turn w.objects).0 (world_turn w.objects).1
  turns = elim (world_turn-cases w.objects awake_sound) [
    | inl idle ↦ turns_idle idle.0 idle.1
    | inr picks ↦
        let n = some_of (thread_with picks.thread os.threads) (thread_recorded os awake fits.records awake_objects picks.thread picks.process picks.context picks.runs.thread) in
        turns_picked picks.thread picks.at n.0 n.1
  ]
