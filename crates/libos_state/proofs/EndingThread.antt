-- A thread that ends alone: its records go as the trap is entered, then its event is closed, and it exits.
use Rattle.std.specs.Prelude.{◌≡◌, ℕ, zero, suc, ◌+◌, ◌≤◌, ◌==◌, Bool, true, false, cond, not, List, [], ◌∷◌, ◌++◌, map, filter, filter_map, count_by, length, slice_index, is_some}
use Rattle.std.specs.List.{cons_option, list_all}
use Rattle.std.specs.FinMap.{remove}
use Rattle.std.specs.Option.{option_map}
use Rattle.std.specs.declared.option.Option.{Option}
use Rattle.std.specs.declared.option.Option.TheVariants.{None, Some}
use Rattle.std.proofs.Common.{refl, sym, ap, subst, ◌∙◌, arith, eq-eqb, eqb-true, ne_eqb}
use Rattle.std.proofs.lemmas.Bool.{and_parts, and_from, cond-true, cond-false}
use Rattle.std.proofs.lemmas.List.Folds as folds
use Rattle.std.proofs.lemmas.List.Folds.{list_all-append}
use Rattle.turn_sched.specs.Lists.{Waiting, without, unless_ended}
use Rattle.turn_sched.proofs.Renamed.{filter-map}
use Rattle.turn_sched.proofs.ThreadLists.{list_all-filter}
use Rattle.bas_items.proofs.NumberMaps.{get-remove, same_numbers}
use Rattle.abi_calls.specs.declared.reply.Reply.{Reply}
use Rattle.abi_calls.specs.declared.reply.Reply.TheVariants.{Done}
use Rattle.abi_calls.specs.declared.threads.Upcall.{Upcall}
use Rattle.abi_calls.specs.Objects.{Objects, object_at, is_thread_of, without_handles}
use Rattle.abi_calls.specs.Processes.{close_row}
use Rattle.abi_calls.specs.Threads.{thread_exit_row}
use Rattle.abi_calls.specs.Sound.{IsSound}
use Rattle.abi_calls.proofs.SoundChanges.{object_at-left}
use Rattle.mono_model.specs.Machine.{Target, Gone, Wakes, Waiter}
use Rattle.mono_model.specs.Calls as calls
use Rattle.mono_model.specs.Calls.{EXIT, silently, target_without, waiter_without}
use Rattle.mono_model.specs.Starting.{Runs}
use Rattle.libos_state.specs.declared.cont.Cont.{Cont}
use Rattle.libos_state.specs.declared.cont.Stage.TheVariants.{CloseEvent, ExitThread}
use Rattle.libos_state.specs.declared.notes.Description.{Description}
use Rattle.libos_state.specs.declared.notes.ProcessNote.{ProcessNote}
use Rattle.libos_state.specs.declared.notes.Queued.{Queued}
use Rattle.libos_state.specs.declared.notes.ThreadNote.{ThreadNote}
use Rattle.libos_state.specs.declared.state.Boot.TheVariants.{Up}
use Rattle.libos_state.specs.declared.state.LibOs.{LibOs}
use Rattle.libos_state.specs.Records.{View, Visible, visible, with_visible, base, process_named, process_with, thread_named, thread_with, thread_woken_by, description_with, queued_seen, thread_seen, threads_of, tids_of, tid_of, tid_with, event_in, target_of, target_by, waiter_of}
use Rattle.libos_state.specs.Pending.{asked, upcall_in, handle}
use Rattle.libos_state.specs.Answered.{bare, goes_on, ends, service_leaving}
use Rattle.libos_state.specs.Entered.{entered_with, has_other_thread, without_thread, ends_thread}
use Rattle.libos_state.specs.Meaning.{caller_of, leads_to, settles, meant_settled}
use Rattle.libos_state.specs.Named.{Named, ObjectKind, AProcess, AThread, AnEvent, AStreamOf, is_of, recorded, named_as, times_named}
use Rattle.libos_state.specs.Fits.{FitsRecords, FitsObjects, FitsStage, FitsUp, FitsBoot, FitsTrap, is_alive, is_given, is_home, is_call}
use Rattle.libos_state.specs.Turned.{FitsTrapped}
use Rattle.libos_state.proofs.Holds.{Holds}
use Rattle.libos_state.proofs.Rows.{Stands, by_row}
use Rattle.libos_state.proofs.Going.{FitsRecords-with_service, FitsObjects-with_service}
use Rattle.libos_state.proofs.Distinct.{find-key, are_distinct-filter}
use Rattle.libos_state.proofs.Naming.{is_named, find-passes, count_by-cons, kinds-kept, times_named-append, times_named-cons, times_named-recorded, times_recorded-most, unrecorded-kept, unrecorded-free, KindsRecorded, kinds-lists, FitsObjects-closed, EventOf, event_of, ThreadOf, thread_of, Trapped, trapped}
use Rattle.libos_state.proofs.Filtered.{kept_if, find-filter, filter-alone, count_by-distinct}
use Rattle.libos_state.proofs.Bases.{get-mapped, base-without_handles}
use Rattle.libos_state.proofs.Closing.{count_by-parted}
use Rattle.libos_state.proofs.Leaving.{list_any-mapped}
use Rattle.libos_state.proofs.Serving.{trap_of, on_trap}
use Rattle.libos_state.proofs.Views.{AnswersAs, on_objects}

-- ---- the records without a thread fit by themselves

module _ (os : LibOs) (t : ℕ) (fits : FitsRecords os) where
  abbrev stays : ThreadNote → Bool
  stays n = not (n.tid == t)

  abbrev left : LibOs
  left = without_thread os t

  -- another thread is found as before
  stays_found : (q : ℕ) (x : Option ThreadNote) → thread_named q os.threads ≡ x → not (q == t) ≡ true → is_some x ≡ true → is_some (kept_if stays x) ≡ true
  stays_found q None is other some = some
  stays_found q (Some n) is other some =
      let same : n.tid ≡ q = eqb-true n.tid q (find-passes (λ j. j.tid == q) os.threads n is) in
      ap is_some (cond-true (stays n) (Some n) None (ap (λ k. not (k == t)) same ∙ other))

  queued_left : (q : Queued) → not (q.tid == t) ≡ true → is_some (thread_named q.tid os.threads) ≡ true → is_some (thread_named q.tid left.threads) ≡ true
  queued_left q other some =
      ap is_some (find-filter stays (λ n. n.tid == q.tid) os.threads (count_by-distinct (λ (n : ThreadNote). n.tid) os.threads q.tid fits.tids))
      ∙ stays_found q.tid (thread_named q.tid os.threads) refl other some

  pub FitsRecords-without_thread : FitsRecords (without_thread os t)
  FitsRecords-without_thread =
      let waits : Queued → Bool = λ q. not (q.tid == t) in
      record {
        pids = fits.pids;
        tids = are_distinct-filter (λ (n : ThreadNote). n.tid) stays os.threads fits.tids;
        ids = fits.ids;
        given_pids = fits.given_pids;
        given_tids = list_all-filter stays (λ n. is_given os n.tid) (λ n. is_given os n.tid) (λ n _ is. is) os.threads fits.given_tids;
        processes = fits.processes;
        threads = list_all-filter stays (λ n. is_alive (process_named n.pid os.processes)) (λ n. is_alive (process_named n.pid os.processes)) (λ n _ is. is) os.threads fits.threads;
        described = fits.described;
        access = fits.access;
        append = fits.append;
        parents = fits.parents;
        queued = list_all-filter waits (λ q. is_some (thread_named q.tid os.threads)) (λ q. is_some (thread_named q.tid left.threads)) queued_left os.queue fits.queued;
        waits_once = are_distinct-filter (λ (q : Queued). q.tid) waits os.queue fits.waits_once;
        few_ids = fits.few_ids;
      }

-- ---- what they name, with the thread and its event

-- What is recorded is of its kind where each list of records is.
recorded_kinds : (os : LibOs) (o : Objects) → KindsRecorded os o → list_all (is_named o) (recorded os) ≡ true
recorded_kinds os o kinds =
    let test : Named → Bool = is_named o in
    let processes : List Named = map (λ n. (n.handle, AProcess)) os.processes in
    let threads : List Named = map (λ n. (n.handle, AThread)) os.threads in
    let events : List Named = map (λ n. (n.event, AnEvent)) os.threads in
    let descriptions : List Named = map (λ d. (d.handle, AStreamOf d.kind)) os.descriptions in
    let join : (xs ys : List Named) → list_all test xs ≡ true → list_all test ys ≡ true → list_all test (xs ++ ys) ≡ true =
    λ xs ys first second. list_all-append test xs ys ∙ and_from (list_all test xs) (list_all test ys) first second in
    join processes (threads ++ (events ++ descriptions)) (folds.list_all-map test (λ (n : ProcessNote). (n.handle, AProcess)) os.processes ∙ kinds.processes)
    (join threads (events ++ descriptions) (folds.list_all-map test (λ (n : ThreadNote). (n.handle, AThread)) os.threads ∙ kinds.threads)
    (join events descriptions (folds.list_all-map test (λ (n : ThreadNote). (n.event, AnEvent)) os.threads ∙ kinds.events)
    (folds.list_all-map test (λ (d : Description). (d.handle, AStreamOf d.kind)) os.descriptions ∙ kinds.descriptions)))

module _ (os : LibOs) (o : Objects) (u : Upcall) (at : Trapped os o u) (records : FitsRecords os) (fits : FitsObjects os o [] None) where
  abbrev thread : ThreadNote
  thread = at.thread

  abbrev t : ℕ
  t = tid_with os u.thread

  abbrev event : ℕ
  event = event_in (thread_with u.thread os.threads)

  abbrev after : LibOs
  after = without_thread os t

  abbrev kept : List Named
  kept = (u.thread, AThread) ∷ (event, AnEvent) ∷ []

  abbrev others : List ThreadNote
  others = filter (λ n. not (n.tid == t)) os.threads

  tid_is : t ≡ thread.tid
  tid_is = ap tid_of at.found

  event_is : event ≡ thread.event
  event_is = ap event_in at.found

  -- its record is the one that goes
  goes : filter (λ (n : ThreadNote). n.tid == t) os.threads ≡ thread ∷ []
  goes = filter-alone (λ (n : ThreadNote). n.tid == t) os.threads thread
      (ap (λ k. thread_named k os.threads) tid_is ∙ find-key (λ (n : ThreadNote). n.tid) (λ n. n.handle == u.thread) os.threads thread records.tids at.found)
      (count_by-distinct (λ (n : ThreadNote). n.tid) os.threads t records.tids)

  counted : (key : ThreadNote → ℕ) (q : ℕ) → cond (key thread == q) 1 0 + count_by (λ n. key n == q) others ≡ count_by (λ n. key n == q) os.threads
  counted key q = omega (
    arith,
    ap (count_by (λ n. key n == q)) goes,
    count_by-cons (λ n. key n == q) thread [],
    count_by-parted (λ (n : ThreadNote). n.tid == t) (λ n. key n == q) os.threads,
  )

  times-left : (q : ℕ) → times_named q (recorded after ++ kept) ≡ times_named q (recorded os ++ [])
  times-left q = omega (
    arith,
    times_named-append q (recorded after) kept,
    times_named-cons q u.thread AThread ((event, AnEvent) ∷ []),
    times_named-cons q event AnEvent [],
    times_named-recorded q after,
    times_named-recorded q os,
    times_named-append q (recorded os) [],
    ap (λ k. cond {A = ℕ} (k == q) 1 0) at.handle,
    ap (λ k. cond {A = ℕ} (k == q) 1 0) event_is,
    counted (λ n. n.handle) q,
    counted (λ n. n.event) q,
  )

  abbrev kinds : KindsRecorded os o
  kinds = kinds-lists os o [] None records fits

  kinds-left : KindsRecorded after o
  kinds-left = record {
    processes = kinds.processes;
    threads = list_all-filter (λ (n : ThreadNote). not (n.tid == t)) (λ n. is_of AThread (object_at o n.handle)) (λ n. is_of AThread (object_at o n.handle)) (λ n _ is. is) os.threads kinds.threads;
    events = list_all-filter (λ (n : ThreadNote). not (n.tid == t)) (λ n. is_of AnEvent (object_at o n.event)) (λ n. is_of AnEvent (object_at o n.event)) (λ n _ is. is) os.threads kinds.events;
    descriptions = kinds.descriptions;
  }

  kept_kinds : list_all (is_named o) kept ≡ true
  kept_kinds =
      let is_thread : is_of AThread (object_at o u.thread) ≡ true = ap (λ k. is_of AThread (object_at o k)) (sym at.handle) ∙ ap (is_of AThread) at.links.there in
      let is_event : is_of AnEvent (object_at o event) ≡ true = ap (λ k. is_of AnEvent (object_at o k)) event_is ∙ ap (is_of AnEvent) at.links.event in
      and_from _ _ is_thread (and_from _ _ is_event refl)

  pub FitsObjects-without_thread : FitsObjects (without_thread os (tid_with os u.thread)) o ((u.thread, AThread) ∷ (event_in (thread_with u.thread os.threads), AnEvent) ∷ []) None
  FitsObjects-without_thread = record {
    once = λ q. times-left q ∙ fits.once q;
    kinds = list_all-append (is_named o) (recorded after) kept ∙ and_from (list_all (is_named o) (recorded after)) (list_all (is_named o) kept) (recorded_kinds after o kinds-left) kept_kinds;
    homes = list_all-filter (λ (n : ThreadNote). not (n.tid == t)) (is_home os o) (is_home os o) (λ n _ is. is) os.threads fits.homes;
    codes = fits.codes;
  }

-- ---- the machine without the thread

module _ (os : LibOs) (v : Visible) (records : FitsRecords os) (t : ℕ) (once : (h : ℕ) → times_named h (recorded os) ≤ 1) where
  abbrev others_stay : ThreadNote → Bool
  others_stay n = not (n.tid == t)

  abbrev left_by : LibOs
  left_by = without_thread os t

  none_either : {A : Type 0} (b : Bool) → ◌≡◌ {A = Option A} None (cond b None None)
  none_either true = refl
  none_either false = refl

  thread_kept : (q : ℕ) (x : Option ThreadNote) → thread_named q os.threads ≡ x → option_map (thread_seen v.objects.live) (kept_if others_stay x) ≡ cond (q == t) None (option_map (thread_seen v.objects.live) x)
  thread_kept q None is = none_either (q == t)
  thread_kept q (Some n) is =
      let same : n.tid ≡ q = eqb-true n.tid q (find-passes (λ j. j.tid == q) os.threads n is) in
      ap (λ k. option_map (thread_seen v.objects.live) (cond (not (k == t)) (Some n) None)) same
      ∙ elim (q == t) as (λ b. option_map (thread_seen v.objects.live) (cond (not b) (Some n) None) ≡ cond b None (Some (thread_seen v.objects.live n))) [ true ↦ refl | false ↦ refl ]

  threads-left : threads_of (filter others_stay os.threads) v.objects.live ≡ remove (threads_of os.threads v.objects.live) t
  threads-left =
      let before = threads_of os.threads v.objects.live in
      same_numbers _ _ (λ q. get-mapped (λ n. n.tid) (thread_seen v.objects.live) (filter others_stay os.threads) q
      ∙ ap (option_map (thread_seen v.objects.live)) (find-filter others_stay (λ n. n.tid == q) os.threads (count_by-distinct (λ (n : ThreadNote). n.tid) os.threads q records.tids))
      ∙ thread_kept q (thread_named q os.threads) refl
      ∙ ap (λ x. cond (q == t) None x) (sym (get-mapped (λ n. n.tid) (thread_seen v.objects.live) os.threads q))
      ∙ sym (get-remove before t q))

  -- where threads stand
  thread_with-left : (h : ℕ) → thread_with h (filter others_stay os.threads) ≡ kept_if others_stay (thread_with h os.threads)
  thread_with-left h = find-filter others_stay (λ n. n.handle == h) os.threads (omega (arith, once h, times_named-recorded h os))

  tids-left : (hs : List ℕ) → tids_of (filter others_stay os.threads) hs ≡ without (tids_of os.threads hs) t
  tids-left [] = refl
  tids-left (h ∷ hs) =
      let rest = tids_of os.threads hs in
      ap (λ x. cons_option (option_map (λ (n : ThreadNote). n.tid) x) (tids_of (filter others_stay os.threads) hs)) (thread_with-left h)
      ∙ ap (cons_option (option_map (λ (n : ThreadNote). n.tid) (kept_if others_stay (thread_with h os.threads)))) (tids-left hs)
      ∙ elim (thread_with h os.threads) as (λ x. cons_option (option_map (λ (n : ThreadNote). n.tid) (kept_if others_stay x)) (without rest t) ≡ without (cons_option (option_map (λ (n : ThreadNote). n.tid) x) rest) t) [
        | None ↦ refl
        | Some n ↦ elim (n.tid == t) as (λ b. cons_option (option_map (λ (j : ThreadNote). j.tid) (cond (not b) (Some n) None)) (without rest t) ≡ cond (not b) (n.tid ∷ without rest t) (without rest t)) [
          | true ↦ refl
          | false ↦ refl
        ]
      ]

  -- what is waited for
  target_left-is : (d : Option Description) (n : Option ProcessNote) (w : Option ThreadNote) → target_by d n (kept_if others_stay w) ≡ target_without t (target_by d n w)
  target_left-is (Some d) n w = refl
  target_left-is None (Some n) w = refl
  target_left-is None None (Some w) = elim (w.tid == t) as (λ b. target_by None None (cond (not b) (Some w) None) ≡ cond b Gone (Wakes w.tid)) [ true ↦ refl | false ↦ refl ]
  target_left-is None None None = refl

  target_of-left : (h : ℕ) → target_of left_by h ≡ target_without t (target_of os h)
  target_of-left h =
      ap (target_by (description_with h os.descriptions) (process_with h os.processes)) (find-filter others_stay (λ n. n.event == h) os.threads (omega (arith, once h, times_named-recorded h os)))
      ∙ target_left-is (description_with h os.descriptions) (process_with h os.processes) (thread_woken_by h os.threads)

  targets-left : (hs : List ℕ) → map (target_of left_by) hs ≡ map (target_without t) (map (target_of os) hs)
  targets-left [] = refl
  targets-left (h ∷ hs) = λ i. target_of-left h i ∷ targets-left hs i

  abbrev leaves : Waiter → Bool
  leaves w = not (w.thread == t)

  waiters-left : (ws : List Waiting) → filter_map (waiter_of left_by) ws ≡ map (waiter_without t) (filter leaves (filter_map (waiter_of os) ws))
  waiters-left [] = refl
  waiters-left (w ∷ ws) =
      let named : List Target → ThreadNote → Waiter = λ targets n. record { thread = n.tid; targets = targets; deadline = w.deadline } in
      let targets = map (target_of os) w.handles in
      let rest = filter_map (waiter_of os) ws in
      (λ i. cons_option (option_map (named (targets-left w.handles i)) (thread_with-left w.thread i)) (waiters-left ws i))
      ∙ elim (thread_with w.thread os.threads) as (λ x. cons_option (option_map (named (map (target_without t) targets)) (kept_if others_stay x)) (map (waiter_without t) (filter leaves rest))
      ≡ map (waiter_without t) (filter leaves (cons_option (option_map (named targets) x) rest))) [
        | None ↦ refl
        | Some n ↦ elim (n.tid == t) as (λ b. cons_option (option_map (named (map (target_without t) targets)) (cond (not b) (Some n) None)) (map (waiter_without t) (filter leaves rest))
            ≡ map (waiter_without t) (cond (not b) (named targets n ∷ filter leaves rest) (filter leaves rest))) [
              | true ↦ refl
              | false ↦ refl
            ]
      ]

  -- the queue
  queue-left : map queued_seen left_by.queue ≡ filter (λ q. not (q.thread == t)) (map queued_seen os.queue)
  queue-left = sym (filter-map queued_seen (λ q. not (q.thread == t)) (λ q. not (q.tid == t)) (λ q. refl) os.queue)

  pub base-without_thread : base (without_thread os t) v ≡ calls.without_thread (base os v) t
  base-without_thread =
      let m = base os v in
      let ready = tids-left v.objects.lists.ready in
      let waiting = waiters-left v.objects.lists.waiting in
      λ i. record m { threads = threads-left i; lists = record m.lists { ready = ready i; waiting = waiting i }; queue = queue-left i }

-- The trap's process has another thread in the machine where it has one in the records.
pub has_other_thread-base : (os : LibOs) (v : Visible) (u : Upcall) → FitsRecords os → calls.has_other_thread (base os v) (caller_of os u) ≡ has_other_thread os u
has_other_thread-base os v u records =
    list_any-mapped (λ (n : ThreadNote). n.tid) (thread_seen v.objects.live) (calls.is_other_thread (caller_of os u).process (caller_of os u).thread) os.threads records.tids

-- ---- the trap's thread ends

module _ (os : LibOs) (v : Visible) (u : Upcall) (up : os.boot ≡ Up) (fits : FitsTrapped os v.objects u) where
  abbrev home_of : Trapped os v.objects u
  home_of = trapped os v.objects u [] None fits.records fits.objects fits.home fits.recorded

  abbrev without_it : LibOs
  without_it = without_thread os (tid_with os u.thread)

  abbrev leaving : Cont
  leaving = service_leaving (entered_with u) (event_in (thread_with u.thread os.threads))

  -- The library OS stands for the machine without the thread.
  pub thread_ends : is_call u EXIT ≡ true → Stands (ends_thread os u) v (leads_to (silently (calls.without_thread (base os v) (caller_of os u).thread)))
  thread_ends comes = record {
    fits = record {
      records = FitsRecords-with_service without_it os.boot (Some leaving) (FitsRecords-without_thread os (tid_with os u.thread) fits.records);
      objects = FitsObjects-with_service without_it os.boot (Some leaving) v.objects ((u.thread, AThread) ∷ (event_in (thread_with u.thread os.threads), AnEvent) ∷ []) None
          (FitsObjects-without_thread os v.objects u home_of fits.records fits.objects);
      event = record { up = up; first = fits.first; current = fits.current; home = fits.home; comes = comes };
      lists = record { next = λ keeps. refl; names = λ keeps. refl; bytes = λ keeps. refl; handles = refl; later = refl; numbers = refl };
      names = tt;
      kept = tt;
      made = tt;
    };
    means = ap (λ m. settles (Runs m)) (base-without_thread os v fits.records (tid_with os u.thread)
        (λ q. omega (arith, times_recorded-most os v.objects [] None fits.objects q, times_named-recorded q os)));
  }

-- ---- what the service names ends

module _ (os : LibOs) (v : Visible) (h : ℕ) (kind : ObjectKind) (xs ys : List Named) (fits : FitsObjects os v.objects (xs ++ (h, kind) ∷ ys) None) (sound : IsSound v.objects) where
  named_unrecorded : times_named h (recorded os) ≡ 0
  named_unrecorded = unrecorded-kept os v.objects (xs ++ (h, kind) ∷ ys) None fits h
      (let one : cond (h == h) 1 0 ≡ suc zero = ap (λ b. cond b 1 0) (eq-eqb h h refl) in
      omega (arith, one, times_named-append h xs ((h, kind) ∷ ys), times_named-cons h h kind ys))

  -- the machine of the records is the same
  pub named_base : base os (with_visible v (without_handles v.objects (λ k. k == h))) ≡ base os v
  named_base = base-without_handles os (λ k. k == h) (λ q same. ap (λ k. times_named k (recorded os)) (eqb-true q h same) ∙ named_unrecorded) v
      (unrecorded-free os v.objects (xs ++ (h, kind) ∷ ys) None fits 0 sound.positive)

-- ---- the event is closed

module _ (os : LibOs) (c : Cont) (v : Visible) (h : ℕ) (are : c.handles ≡ h ∷ []) (fits : FitsStage os v.objects c CloseEvent) (sound : IsSound v.objects) where
  abbrev leaving_u : Upcall
  leaving_u = upcall_in c.event

  abbrev closed : Objects
  closed = without_handles v.objects (λ k. k == h)

  objects_are : FitsObjects os v.objects ((leaving_u.thread, AThread) ∷ (h, AnEvent) ∷ []) None
  objects_are = subst (λ hs. FitsObjects os v.objects ((leaving_u.thread, AThread) ∷ named_as hs (AnEvent ∷ [])) None) are fits.objects

  is_event : EventOf (object_at v.objects h)
  is_event = event_of (object_at v.objects h)
      (and_parts (is_of AnEvent (object_at v.objects h)) true
      (and_parts (is_of AThread (object_at v.objects leaving_u.thread)) _ (kinds-kept os v.objects ((leaving_u.thread, AThread) ∷ (h, AnEvent) ∷ []) None objects_are)).1).0

  abbrev close_trap : FitsTrap os v.objects leaving_u CloseEvent
  close_trap = trap_of os v.objects c.event CloseEvent refl fits.event

  apart : (leaving_u.thread == h) ≡ false
  apart = ne_eqb leaving_u.thread h
      (λ same. absurd (let e : true ≡ false = sym close_trap.home ∙ ap (λ k. is_thread_of leaving_u.process (object_at v.objects k)) same ∙ ap (is_thread_of leaving_u.process) is_event.is in cc))

  pub event_row : close_row v.objects h (object_at v.objects h) ≡ (Done, closed)
  event_row = ap (close_row v.objects h) is_event.is

  exiting : (cont : Option Cont) → FitsTrap (record os { cont = cont }) closed leaving_u ExitThread
  exiting cont = record {
    up = close_trap.up;
    first = close_trap.first;
    current = ap (unless_ended (λ k. k == h)) close_trap.current ∙ cond-false (leaving_u.thread == h) None (Some leaving_u.thread) apart;
    home = ap (is_thread_of leaving_u.process) (object_at-left v.objects (λ k. k == h) leaving_u.thread apart) ∙ close_trap.home;
    comes = close_trap.comes;
  }

  pub closed_stands : Stands (goes_on os (bare c ExitThread)) (with_visible v closed) (settles (Runs (base os v)))
  closed_stands = record {
    fits = record {
      records = FitsRecords-with_service os os.boot (Some (bare c ExitThread)) fits.records;
      objects = FitsObjects-with_service os os.boot (Some (bare c ExitThread)) closed ((leaving_u.thread, AThread) ∷ []) None
          (FitsObjects-closed os v.objects h AnEvent ((leaving_u.thread, AThread) ∷ []) [] None objects_are);
      event = on_trap os (goes_on os (bare c ExitThread)) v.objects closed c.event CloseEvent ExitThread refl fits.event (exiting (Some (bare c ExitThread)));
      lists = record { next = λ keeps. refl; names = λ keeps. refl; bytes = λ keeps. refl; handles = refl; later = refl; numbers = refl };
      names = tt;
      kept = tt;
      made = tt;
    };
    means = ap (λ m. settles (Runs m)) (named_base os v h AnEvent ((leaving_u.thread, AThread) ∷ []) [] objects_are sound);
  }

closes_event : (os : LibOs) (c : Cont) (w w' : View) (r : Reply) (hs : List ℕ) → c.handles ≡ hs → FitsStage os w.objects c CloseEvent → IsSound w.objects → AnswersAs w (asked os c CloseEvent) r w' → Holds os c CloseEvent w r w'
closes_event os c w w' r [] are fits sound abi = absurd (let one = fits.lists.handles in let none = ap length are in omega (arith, one, none))
closes_event os c w w' r (h ∷ k ∷ hs) are fits sound abi = absurd (let one = fits.lists.handles in let more = ap length are in omega (arith, one, more))
closes_event os c w w' r (h ∷ []) are fits sound abi =
    let v : Visible = visible w in
    let first : handle c 0 ≡ h = ap (λ xs. slice_index xs 0) are in
    let row = ap (on_objects w) (ap (λ k. close_row w.objects k (object_at w.objects k)) first ∙ event_row os c v h are fits sound) in
    by_row os c CloseEvent w w' r Done (without_handles w.objects (λ k. k == h)) abi row (closed_stands os c v h are fits sound)

pub keeps_close_event : (os : LibOs) (c : Cont) (w w' : View) (r : Reply) → FitsStage os w.objects c CloseEvent → IsSound w.objects → AnswersAs w (asked os c CloseEvent) r w' → Holds os c CloseEvent w r w'
keeps_close_event os c w w' r fits sound abi = closes_event os c w w' r c.handles refl fits sound abi

-- ---- the thread exits

module _ (os : LibOs) (c : Cont) (v : Visible) (fits : FitsStage os v.objects c ExitThread) (sound : IsSound v.objects) where
  abbrev exit_u : Upcall
  exit_u = upcall_in c.event

  abbrev exited : Objects
  exited = without_handles v.objects (λ k. k == exit_u.thread)

  abbrev exit_trap : FitsTrap os v.objects exit_u ExitThread
  exit_trap = trap_of os v.objects c.event ExitThread refl fits.event

  abbrev thread_there : ThreadOf (object_at v.objects exit_u.thread) exit_u.process
  thread_there = thread_of exit_u.process (object_at v.objects exit_u.thread) exit_trap.home

  pub exit_row : thread_exit_row v.objects exit_u.thread (object_at v.objects exit_u.thread) ≡ (Done, exited)
  exit_row = ap (thread_exit_row v.objects exit_u.thread) thread_there.is

  pub exited_up : FitsUp (ends os) exited
  exited_up = record {
    records = FitsRecords-with_service os os.boot None fits.records;
    first = exit_trap.first;
    objects = FitsObjects-with_service os os.boot None exited [] None (FitsObjects-closed os v.objects exit_u.thread AThread [] [] None fits.objects);
    current = ap (unless_ended (λ k. k == exit_u.thread)) exit_trap.current
        ∙ cond-true (exit_u.thread == exit_u.thread) None (Some exit_u.thread) (eq-eqb exit_u.thread exit_u.thread refl);
  }

  pub exited_base : base os (with_visible v exited) ≡ base os v
  exited_base = named_base os v exit_u.thread AThread [] [] fits.objects sound

pub keeps_exit_thread : (os : LibOs) (c : Cont) (w w' : View) (r : Reply) → FitsStage os w.objects c ExitThread → IsSound w.objects → AnswersAs w (asked os c ExitThread) r w' → Holds os c ExitThread w r w'
keeps_exit_thread os c w w' r fits sound abi =
    let v : Visible = visible w in
    let trap = trap_of os w.objects c.event ExitThread refl fits.event in
    let after : Objects = exited os c v fits sound in
    by_row os c ExitThread w w' r Done after abi (ap (on_objects w) (exit_row os c v fits sound)) (record {
      fits = subst (FitsBoot (ends os) after) (sym trap.up) (exited_up os c v fits sound);
      means = ap (λ b. settles (meant_settled (ends os) (with_visible v after) b)) trap.up ∙ ap (λ m. settles (Runs m)) (exited_base os c v fits sound);
    })
