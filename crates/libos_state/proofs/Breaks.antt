-- The records with a break elsewhere: they fit as before, and their machine is the one with this break.
use Rattle.std.specs.Prelude.{◌≡◌, ◌≢◌, ℕ, ◌≤◌, ◌==◌, Bool, true, false, cond, ◌||◌, ◌&&◌, nat_lt, List, [], ◌∷◌, ◌++◌, map, find, filter_map, is_some}
use Rattle.std.specs.List.{list_all, list_any}
use Rattle.std.specs.Ordering.{nat_cmp}
use Rattle.std.specs.FinMap.{get, insert}
use Rattle.std.specs.Option.{option_map}
use Rattle.std.specs.declared.option.Option.{Option}
use Rattle.std.specs.declared.option.Option.TheVariants.{None, Some}
use Rattle.std.proofs.Common.{refl, sym, ap, subst, ◌∙◌, arith, eqb-true, ne_eqb}
use Rattle.std.proofs.lemmas.Bool.{cond-true, cond-false, eqb-false}
use Rattle.std.proofs.lemmas.List.Folds.{list_all-map}
use Rattle.guest_space.specs.Space.{Space}
use Rattle.bas_items.proofs.NumberMaps.{get-insert, same_numbers}
use Rattle.turn_sched.proofs.Renamed.{list_any-map}
use Rattle.abi_calls.specs.declared.threads.Upcall.{Upcall}
use Rattle.abi_calls.specs.Objects.{Objects, object_at, is_thread_of}
use Rattle.mono_model.specs.Machine as mono
use Rattle.mono_model.specs.Machine.{Target, Exits, process_at, with_break_in}
use Rattle.mono_model.specs.Calls.{Caller, silently, finished, break_in, break_given, break_moved}
use Rattle.libos_state.specs.declared.cont.Cont.{Cont}
use Rattle.libos_state.specs.declared.cont.Stage.TheVariants.{SetContext}
use Rattle.libos_state.specs.declared.notes.Description.{Description}
use Rattle.libos_state.specs.declared.notes.ProcessNote.{ProcessNote}
use Rattle.libos_state.specs.declared.notes.ThreadNote.{ThreadNote}
use Rattle.libos_state.specs.declared.state.LibOs.{LibOs}
use Rattle.libos_state.specs.Records.{Visible, base, process_named, process_with, thread_with, thread_woken_by, description_with, memory_of_object, process_if, process_seen, processes_of, lists_of, target_of, target_by, tid_of, pid_of}
use Rattle.libos_state.specs.Breaks.{break_of, note_with_break, with_break}
use Rattle.libos_state.specs.Pending.{argument, upcall_in}
use Rattle.libos_state.specs.Answered.{gives_break}
use Rattle.libos_state.specs.Meaning.{caller_in, leads_to}
use Rattle.libos_state.specs.Named.{Named, AProcess, AThread, AnEvent, AStreamOf, is_of, recorded, times_named}
use Rattle.libos_state.specs.Fits.{FitsRecords, FitsObjects, FitsEvent, FitsTrap, are_distinct, is_fit_process, is_fit_parent, is_alive, is_given, handle_in, has_code}
use Rattle.libos_state.proofs.Bases.{get-mapped, process_at-found, process-alone}
use Rattle.libos_state.proofs.Callers.{behind_process, caller_pid}
use Rattle.libos_state.proofs.Distinct.{find-key, find-map}
use Rattle.libos_state.proofs.Naming.{Trapped, trapped, find-passes, times_named-most}
use Rattle.libos_state.proofs.Rows.{Stands}
use Rattle.libos_state.proofs.Serving.{trap_of, on_trap, result_fits, returns-recorded, FitsTrap-with_service}

module _ (handle address : ℕ) where
  abbrev moves : ProcessNote → ProcessNote
  moves n = note_with_break handle address n

  -- ---- what doesn't hang on the break

  kept : {X : Type 0} (g : ProcessNote → X) → ((n : ProcessNote) → g (record n { break_now = address }) ≡ g n) → (n : ProcessNote) → g (moves n) ≡ g n
  kept g same n = elim (n.handle == handle) as (λ b. g (cond b (record n { break_now = address }) n) ≡ g n) [ true ↦ same n | false ↦ refl ]

  map_kept : {X : Type 0} (g : ProcessNote → X) → ((n : ProcessNote) → g (record n { break_now = address }) ≡ g n) → (notes : List ProcessNote) → map g (map moves notes) ≡ map g notes
  map_kept g same [] = refl
  map_kept g same (n ∷ notes) = λ i. kept g same n i ∷ map_kept g same notes i

  all_kept : (test : ProcessNote → Bool) → ((n : ProcessNote) → test (record n { break_now = address }) ≡ test n) → (notes : List ProcessNote) → list_all test (map moves notes) ≡ list_all test notes
  all_kept test same notes = list_all-map test moves notes ∙ (λ i. list_all (λ n. kept test same n i) notes)

  any_kept : (test : ProcessNote → Bool) → ((n : ProcessNote) → test (record n { break_now = address }) ≡ test n) → (notes : List ProcessNote) → list_any test (map moves notes) ≡ list_any test notes
  any_kept test same notes = list_any-map moves test (λ n. test (moves n)) (λ _. refl) notes ∙ (λ i. list_any (λ n. kept test same n i) notes)

  found_kept : {X : Type 0} (g : Option ProcessNote → X) → ((n : ProcessNote) → g (Some (record n { break_now = address })) ≡ g (Some n)) → (x : Option ProcessNote) → g (option_map moves x) ≡ g x
  found_kept g same None = refl
  found_kept g same (Some n) = kept (λ m. g (Some m)) same n

  named_moved : (q : ℕ) (notes : List ProcessNote) → process_named q (map moves notes) ≡ option_map moves (process_named q notes)
  named_moved q notes = find-map moves (λ n. n.pid == q) notes ∙ (λ i. option_map moves (find (λ n. kept (λ m. m.pid) (λ m. refl) n i == q) notes))

  with_moved : (h : ℕ) (notes : List ProcessNote) → process_with h (map moves notes) ≡ option_map moves (process_with h notes)
  with_moved h notes = find-map moves (λ n. n.handle == h) notes ∙ (λ i. option_map moves (find (λ n. kept (λ m. m.handle) (λ m. refl) n i == h) notes))

  module _ (os : LibOs) where
    abbrev moved : LibOs
    moved = with_break os handle address

    alive_same : (q : ℕ) → is_alive (process_named q moved.processes) ≡ is_alive (process_named q os.processes)
    alive_same q = ap is_alive (named_moved q os.processes) ∙ found_kept is_alive (λ n. refl) (process_named q os.processes)

    pub there_same : (q : ℕ) → is_some (process_named q moved.processes) ≡ is_some (process_named q os.processes)
    there_same q = ap is_some (named_moved q os.processes) ∙ found_kept is_some (λ n. refl) (process_named q os.processes)

    pub FitsRecords-with_break : FitsRecords os → FitsRecords moved
    FitsRecords-with_break fits = record {
      pids = ap are_distinct (map_kept (λ n. n.pid) (λ n. refl) os.processes) ∙ fits.pids;
      tids = fits.tids;
      ids = fits.ids;
      given_pids = all_kept (λ n. is_given os n.pid) (λ n. refl) os.processes ∙ fits.given_pids;
      given_tids = fits.given_tids;
      processes = all_kept (is_fit_process os) (λ n. refl) os.processes ∙ fits.processes;
      threads = (λ i. list_all (λ n. alive_same n.pid i) os.threads) ∙ fits.threads;
      described = (λ i. list_all (λ (d : Description). any_kept (λ n. list_any (λ j. j.description == d.id) n.descriptors) (λ n. refl) os.processes i) os.descriptions) ∙ fits.described;
      access = fits.access;
      append = fits.append;
      parents = all_kept (is_fit_parent moved) (λ n. refl) os.processes
          ∙ (λ i. list_all (λ n. n.parent == 0 || (nat_lt n.parent n.pid && there_same n.parent i)) os.processes) ∙ fits.parents;
      queued = fits.queued;
      waits_once = fits.waits_once;
      few_ids = fits.few_ids;
    }

    -- ---- the objects

    recorded_same : recorded moved ≡ recorded os
    recorded_same = ap (λ (names : List Named). names ++
        (map (λ n. (n.handle, AThread)) os.threads ++ (map (λ n. (n.event, AnEvent)) os.threads ++ map (λ d. (d.handle, AStreamOf d.kind)) os.descriptions)))
        (map_kept (λ n. (n.handle, AProcess)) (λ n. refl) os.processes)

    handle_same : (q : ℕ) → handle_in (process_named q moved.processes) ≡ handle_in (process_named q os.processes)
    handle_same q = ap handle_in (named_moved q os.processes) ∙ found_kept handle_in (λ n. refl) (process_named q os.processes)

    pub FitsObjects-with_break : (o : Objects) (names : List Named) (ending : Option ℕ) → FitsObjects os o names ending → FitsObjects moved o names ending
    FitsObjects-with_break o names ending fits = record {
      once = λ q. ap (λ all. times_named q (all ++ names)) recorded_same ∙ fits.once q;
      kinds = ap (λ all. list_all (λ (n : Named). is_of n.1 (object_at o n.0)) (all ++ names)) recorded_same ∙ fits.kinds;
      homes = (λ i. list_all (λ n. is_thread_of (handle_same n.pid i) (object_at o n.handle)) os.threads) ∙ fits.homes;
      codes = all_kept (λ n. has_code ending n (object_at o n.handle)) (λ n. refl) os.processes ∙ fits.codes;
    }

    -- ---- the caller

    pub caller-with_break : (c : Cont) → caller_in moved c ≡ caller_in os c
    caller-with_break c =
        let u = upcall_in c.event in
        let pid = ap pid_of (with_moved u.process os.processes) ∙ found_kept pid_of (λ n. refl) (process_with u.process os.processes) in
        λ i. record { thread = tid_of (thread_with u.thread os.threads); process = pid i; context = u.context }

    -- ---- the machine

    target_kept : (d : Option Description) (n : Option ProcessNote) (t : Option ThreadNote) → target_by d (option_map moves n) t ≡ target_by d n t
    target_kept (Some d) n t = refl
    target_kept None None t = refl
    target_kept None (Some n) t = ap Exits (kept (λ m. m.pid) (λ m. refl) n)

    target_same : (h : ℕ) → target_of moved h ≡ target_of os h
    target_same h = ap (λ n. target_by (description_with h os.descriptions) n (thread_woken_by h os.threads)) (with_moved h os.processes)
        ∙ target_kept (description_with h os.descriptions) (process_with h os.processes) (thread_woken_by h os.threads)

    module _ (w : Visible) (n : ProcessNote) (fits : FitsRecords os) (once : times_named handle (recorded os) ≤ 1) (is : process_with handle os.processes ≡ Some n) where
      abbrev seen : ProcessNote → mono.Process
      seen m = process_seen w.objects.live m

      abbrev now : mono.Process
      now = record (seen n) { break_now = address }

      seen_if : (memory : Space) (code : Option ℕ) → process_if (record n { break_now = address }) memory code ≡ record (process_if n memory code) { break_now = address }
      seen_if memory None = refl
      seen_if memory (Some code) = refl

      seen_moved : seen (moves n) ≡ now
      seen_moved = ap seen (cond-true (n.handle == handle) (record n { break_now = address }) n (find-passes (λ m. m.handle == handle) os.processes n is))
          ∙ seen_if (memory_of_object (get {R = nat_cmp} w.objects.live n.handle)) n.code

      -- every other process is as before
      other_seen : (q : ℕ) → q ≢ n.pid → (x : Option ProcessNote) → process_named q os.processes ≡ x → option_map seen (option_map moves x) ≡ option_map seen x
      other_seen q other None there = refl
      other_seen q other (Some m) there =
          let pid : m.pid ≡ q = eqb-true m.pid q (find-passes (λ j. j.pid == q) os.processes m there) in
          let apart : m.handle ≢ handle = λ same. other (sym pid ∙ ap (λ j. j.pid) (process-alone os handle n once is (λ j. j.pid == q) m there same)) in
          ap (λ j. Some (seen j)) (cond-false (m.handle == handle) (record m { break_now = address }) m (ne_eqb m.handle handle apart))

      processes_moved : processes_of moved.processes w.objects.live ≡ insert (processes_of os.processes w.objects.live) n.pid now
      processes_moved =
          let before = processes_of os.processes w.objects.live in
          same_numbers _ _ (λ q. get-mapped (λ m. m.pid) seen moved.processes q
          ∙ ap (option_map seen) (named_moved q os.processes)
          ∙ elim (q == n.pid) as (λ b. (q == n.pid) ≡ b → option_map seen (option_map moves (process_named q os.processes)) ≡ cond b (Some now) (get {R = nat_cmp} before q)) [
            | true ↦ λ same. ap (λ t. option_map seen (option_map moves (process_named t os.processes))) (eqb-true q n.pid same)
                ∙ ap (λ x. option_map seen (option_map moves x)) (find-key (λ (m : ProcessNote). m.pid) (λ m. m.handle == handle) os.processes n fits.pids is)
                ∙ ap Some seen_moved
            | false ↦ λ other. other_seen q (eqb-false q n.pid other) (process_named q os.processes) refl
                ∙ sym (get-mapped (λ m. m.pid) seen os.processes q)
          ] refl ∙ sym (get-insert before n.pid now q))

      pub base-with_break : base moved w ≡ with_break_in (base os w) n.pid address (process_at (base os w) n.pid)
      base-with_break =
          (λ i. record (base os w) {
            processes = processes_moved i;
            lists = record (lists_of os w.objects.lists) {
              waiting = filter_map (λ v. option_map (λ t. record { thread = t.tid; targets = map (λ h. target_same h i) v.handles; deadline = v.deadline }) (thread_with v.thread os.threads)) w.objects.lists.waiting;
            };
          })
          ∙ sym (ap (with_break_in (base os w) n.pid address) (process_at-found os w handle n fits is))

-- ---- the call gives the break

module _ (os : LibOs) (v : Visible) (c : Cont) (records : FitsRecords os) (objects : FitsObjects os v.objects [] None) (event : FitsEvent os v.objects c.event SetContext) where
  abbrev u : Upcall
  u = upcall_in c.event

  abbrev who : Caller
  who = caller_in os c

  trap : FitsTrap os v.objects u SetContext
  trap = trap_of os v.objects c.event SetContext refl event

  home : Trapped os v.objects u
  home = trapped os v.objects u [] None records objects trap.home (returns-recorded os u trap.comes)

  given_is : break_of (process_with u.process os.processes) ≡ break_in (process_at (base os v) who.process)
  given_is =
      let process = home.links.process in
      let behind = behind_process os c v records home in
      ap break_of behind
      ∙ sym (ap (λ p. break_in (process_at (base os v) p)) (caller_pid os c v records home)
      ∙ ap break_in (process_at-found os v u.process process records behind)
      ∙ seen_break process process.code)
    where
      seen_break : (n : ProcessNote) (code : Option ℕ) → break_in (Some (process_if n (memory_of_object (object_at v.objects n.handle)) code)) ≡ n.break_now
      seen_break n None = refl
      seen_break n (Some code) = refl

  pub given_stands : Stands (gives_break os c) v (leads_to (silently (break_given (base os v) who)))
  given_stands = record {
    fits = result_fits os v.objects c (break_of (process_with u.process os.processes)) records objects
        (on_trap os (gives_break os c) v.objects v.objects c.event SetContext SetContext refl event
        (FitsTrap-with_service os (gives_break os c).cont v.objects u SetContext SetContext trap trap.comes));
    means = ap (λ result. leads_to (silently (finished (base os v) who result))) given_is;
  }

-- The break is where a0 asks it to be, and the call gives it.
module _ (os : LibOs) (v : Visible) (c : Cont) (records : FitsRecords os) (objects : FitsObjects os v.objects [] None) (event : FitsEvent os v.objects c.event SetContext) where
  abbrev process : ℕ
  process = (upcall_in c.event).process

  abbrev address : ℕ
  address = argument c 0

  abbrev new : LibOs
  new = with_break os process address

  new_trap : FitsTrap os v.objects (upcall_in c.event) SetContext → FitsTrap new v.objects (upcall_in c.event) SetContext
  new_trap fits = record {
    up = fits.up;
    first = there_same process address os 1 ∙ fits.first;
    current = fits.current;
    home = fits.home;
    comes = fits.comes;
  }

  new_base : base new v ≡ with_break_in (base os v) (caller_in os c).process address (process_at (base os v) (caller_in os c).process)
  new_base =
      let at = home os v c records objects event in
      let once : times_named process (recorded os) ≤ 1 = omega (arith, times_named-most os v.objects [] None objects process) in
      base-with_break process address os v at.links.process records once (behind_process os c v records at)
      ∙ sym (ap (λ p. with_break_in (base os v) p address (process_at (base os v) p)) (caller_pid os c v records at))

  pub moved_stands : Stands (gives_break new c) v (leads_to (silently (break_moved (base os v) (caller_in os c))))
  moved_stands =
      let same = caller-with_break process address os c in
      subst (Stands (gives_break new c) v) (λ i. leads_to (silently (break_given (new_base i) (same i))))
      (given_stands new v c (FitsRecords-with_break process address os records) (FitsObjects-with_break process address os v.objects [] None objects)
      (on_trap os new v.objects v.objects c.event SetContext SetContext refl event (new_trap (trap os v c records objects event))))
