-- The machine of the records without a process that ends is the machine in which it has ended.
use Rattle.std.specs.Prelude.{◌≡◌, ℕ, ◌≤◌, ◌==◌, Bool, true, false, cond, not, ◌||◌, ◌&&◌, List, [], ◌∷◌, map, filter, filter_map, find, is_some, length}
use Rattle.std.specs.List.{cons_option, list_all, list_any}
use Rattle.std.specs.Ordering.{nat_cmp, is_eq}
use Rattle.std.specs.Cmp.{nat_cmp_total}
use Rattle.std.specs.FinMap.{FinMap, get, insert, empty, entries, values, retain_keys, entries-insert, get-entries, len-entries, len-empty}
use Rattle.std.specs.FinMap.Entries as rows
use Rattle.std.specs.FinMap.Entries.{put, by_order}
use Rattle.std.specs.Option.{option_map}
use Rattle.std.specs.declared.cmp.Ordering.TheVariants.{Less, Equal, Greater}
use Rattle.std.specs.declared.option.Option.{Option}
use Rattle.std.specs.declared.option.Option.TheVariants.{None, Some}
use Rattle.std.proofs.Common.{refl, sym, ap, ◌∙◌, arith, eqb-true}
use Rattle.std.proofs.lemmas.Bool.{and_parts, not-true, cond-true}
use Rattle.guest_space.specs.Space.{Space}
use Rattle.turn_sched.specs.Lists.{Waiting, contains}
use Rattle.turn_sched.proofs.Renamed.{list_any-map, filter-map}
use Rattle.bas_items.proofs.NumberMaps.{get-insert, get-retain_keys, same_numbers}
use Rattle.mono_model.specs.Machine.{Mono, Process, Target, Opened, Exits, Wakes, Gone, Waiter, exited, is_of_process, is_thread_in}
use Rattle.mono_model.specs.Calls as calls
use Rattle.mono_model.specs.Calls.{ended, with_exited, target_left, waiter_left}
use Rattle.libos_state.specs.declared.notes.Description.{Description}
use Rattle.libos_state.specs.declared.notes.DescriptorNote.{DescriptorNote}
use Rattle.libos_state.specs.declared.notes.ProcessNote.{ProcessNote}
use Rattle.libos_state.specs.declared.notes.ThreadNote.{ThreadNote}
use Rattle.libos_state.specs.declared.state.LibOs.{LibOs}
use Rattle.libos_state.specs.Records.{Visible, base, process_named, process_with, thread_named, thread_with, thread_woken_by, description_with, description_named, description_seen, queued_seen, memory_of_object, process_if, process_seen, thread_seen, processes_of, threads_of, descriptions_of, tids_of, target_of, target_by, waiter_of}
use Rattle.libos_state.specs.Entered.{names_description, is_open_without, note_ended, is_note_of, without_process}
use Rattle.libos_state.specs.Named.{recorded, times_named}
use Rattle.libos_state.specs.Fits.{FitsRecords, are_distinct, is_none, is_fit_process}
use Rattle.libos_state.proofs.Distinct.{find-absent, find-key, contains-map}
use Rattle.libos_state.proofs.Naming.{find-passes, find-uncounted, count_by-found, times_named-recorded}
use Rattle.libos_state.proofs.Bases.{mapped, get-mapped, none_are, process_at-base, thread_at-base}
use Rattle.libos_state.proofs.LeftRecords.{note_ended-pid, note_ended-other, process_named-ended, process_with-ended}
use Rattle.libos_state.proofs.Filtered.{kept_if, find-filter, count_by-distinct}

-- ---- the entries of a map of records

module _ {X : Type 0} (test : ℕ × X → Bool) where
  swapped : (a b c : Bool) → (a || (b || c)) ≡ (b || (a || c))
  swapped true true c = refl
  swapped true false c = refl
  swapped false b c = refl

  list_any-put : (k : ℕ) (v : X) (es : List (ℕ × X)) → rows.find nat_cmp k es ≡ None → list_any test (put nat_cmp k v es) ≡ (test (k, v) || list_any test es)
  list_any-put k v [] absent = refl
  list_any-put k v (e ∷ es) absent = elim (nat_cmp k e.0) as (λ r. cond (is_eq r) (Some e.1) (rows.find nat_cmp k es) ≡ None →
      list_any test (by_order r ((k, v) ∷ e ∷ es) ((e.0, v) ∷ es) (e ∷ put nat_cmp k v es)) ≡ (test (k, v) || (test e || list_any test es))) [
        | Less ↦ λ _. refl
        | Equal ↦ λ some. absurd (cc)
        | Greater ↦ λ rest. ap (λ b. test e || b) (list_any-put k v es rest) ∙ swapped (test e) (test (k, v)) (list_any test es)
      ] absent

  list_any-insert : (m : FinMap nat_cmp X) (k : ℕ) (v : X) → get m k ≡ None → list_any test (entries (insert m k v)) ≡ (test (k, v) || list_any test (entries m))
  list_any-insert m k v absent = ap (list_any test) (entries-insert nat_cmp_total m k v) ∙ list_any-put k v (entries m) (sym (get-entries m k) ∙ absent)

  no_entries : (es : List (ℕ × X)) → length es ≡ 0 → list_any test es ≡ false
  no_entries [] none = refl
  no_entries (e ∷ es) none = absurd (omega arith)

  list_any-empty : list_any test (entries {R = nat_cmp} empty) ≡ false
  list_any-empty = no_entries (entries empty) (sym (len-entries empty) ∙ len-empty nat_cmp X)

-- An entry passes where its record does.
pub list_any-mapped : {N X : Type 0} (key : N → ℕ) (value : N → X) (test : ℕ × X → Bool) (notes : List N) → are_distinct (map key notes) ≡ true
    → list_any test (entries (mapped key value notes)) ≡ list_any (λ n. test (key n, value n)) notes
list_any-mapped key value test [] distinct = list_any-empty test
list_any-mapped key value test (n ∷ notes) distinct =
    let parts = and_parts (not (contains (map key notes) (key n))) (are_distinct (map key notes)) distinct in
    let absent = get-mapped key value notes (key n)
    ∙ ap (option_map value) (find-absent (λ j. key j == key n) notes (sym (contains-map key notes (key n)) ∙ not-true _ parts.0)) in
    list_any-insert test (mapped key value notes) (key n) (value n) absent
    ∙ ap (λ b. test (key n, value n) || b) (list_any-mapped key value test notes parts.1)

-- ---- what is open

module _ (os : LibOs) (v : Visible) (records : FitsRecords os) (p : ℕ) where
  abbrev m : Mono
  m = base os v

  pub names_in : (id : ℕ) (memory : Space) (n : ProcessNote) (code : Option ℕ) → are_distinct (map (λ d. d.number) n.descriptors) ≡ true → (not (is_some code) || is_none n.descriptors) ≡ true
      → contains (values (process_if n memory code).descriptors) id ≡ list_any (λ d. d.description == id) n.descriptors
  names_in id memory n None distinct none =
      list_any-map (λ (e : ℕ × ℕ). e.1) (λ x. x == id) (λ e. e.1 == id) (λ _. refl) (entries (mapped (λ (d : DescriptorNote). d.number) (λ d. d.description) n.descriptors))
      ∙ list_any-mapped (λ (d : DescriptorNote). d.number) (λ d. d.description) (λ e. e.1 == id) n.descriptors distinct
  names_in id memory n (Some code) distinct none =
      list_any-map (λ (e : ℕ × ℕ). e.1) (λ x. x == id) (λ e. e.1 == id) (λ _. refl) (entries empty) ∙ list_any-empty (λ (e : ℕ × ℕ). e.1 == id)
      ∙ sym (ap (list_any (λ d. d.description == id)) (none_are n.descriptors none))

  pub list_any-same : {N : Type 0} (ok test other : N → Bool) → ((n : N) → ok n ≡ true → test n ≡ other n) → (notes : List N) → list_all ok notes ≡ true → list_any test notes ≡ list_any other notes
  list_any-same ok test other same [] all = refl
  list_any-same ok test other same (n ∷ notes) all =
      let parts = and_parts (ok n) (list_all ok notes) all in λ i. same n parts.0 i || list_any-same ok test other same notes parts.1 i

  -- A description is open in the machine without a process where it is in the records.
  pub is_open_without-base : (id : ℕ) → calls.is_open_without m p id ≡ is_open_without os p id
  is_open_without-base id =
      list_any-mapped (λ (n : ProcessNote). n.pid) (process_seen v.objects.live) (calls.names_description p id) os.processes records.pids
      ∙ list_any-same (is_fit_process os) (λ n. calls.names_description p id (n.pid, process_seen v.objects.live n)) (names_description p id)
      (λ n fit.
      let parts = and_parts (are_distinct (map (λ d. d.number) n.descriptors)) _ fit in
      let none = and_parts _ (not (is_some n.code) || is_none n.descriptors) parts.1 in
      ap (λ b. not (n.pid == p) && b) (names_in id (memory_of_object (get {R = nat_cmp} v.objects.live n.handle)) n n.code parts.0 none.1))
      os.processes records.processes

  -- ---- the three maps
  seen_ended : (code q : ℕ) → (q == p) ≡ false → (x : Option ProcessNote) → process_named q os.processes ≡ x
      → option_map (process_seen v.objects.live) (option_map (note_ended p code) x) ≡ option_map (process_seen v.objects.live) x
  seen_ended code q other None is = refl
  seen_ended code q other (Some n) is =
      let pid : n.pid ≡ q = eqb-true n.pid q (find-passes (λ j. j.pid == q) os.processes n is) in
      ap (λ j. Some (process_seen v.objects.live j)) (note_ended-other p code n (ap (λ k. k == p) pid ∙ other))

  -- of a process that exits nothing is seen but its code and the numbers of its record
  exited-seen : (code : ℕ) (n : ProcessNote) (was : Option ℕ) (memory old : Space)
      → ◌≡◌ {A = Process} (process_if (record n { code = Some code; descriptors = [] }) memory (Some code)) (exited (process_if n old was) code)
  exited-seen code n None memory old = refl
  exited-seen code n (Some was) memory old = refl

  processes-ended : (code : ℕ) (n : ProcessNote) → process_named p os.processes ≡ Some n
      → processes_of (map (note_ended p code) os.processes) v.objects.live ≡ insert (processes_of os.processes v.objects.live) p (exited (process_seen v.objects.live n) code)
  processes-ended code n is =
      let before = processes_of os.processes v.objects.live in
      let pid = find-passes (λ j. j.pid == p) os.processes n is in
      let gone = exited (process_seen v.objects.live n) code in
      let memory = memory_of_object (get {R = nat_cmp} v.objects.live n.handle) in
      same_numbers _ _ (λ q. get-mapped (λ n. n.pid) (process_seen v.objects.live) (map (note_ended p code) os.processes) q
      ∙ ap (option_map (process_seen v.objects.live)) (process_named-ended p code q os.processes)
      ∙ elim (q == p) as (λ b. (q == p) ≡ b → option_map (process_seen v.objects.live) (option_map (note_ended p code) (process_named q os.processes)) ≡ cond b (Some gone) (get before q)) [
        | true ↦ λ same. ap (λ t. option_map (process_seen v.objects.live) (option_map (note_ended p code) (process_named t os.processes))) (eqb-true q p same)
            ∙ ap (λ x. option_map (process_seen v.objects.live) (option_map (note_ended p code) x)) is
            ∙ ap (λ j. Some (process_seen v.objects.live j)) (cond-true (n.pid == p) (record n { code = Some code; descriptors = [] }) n pid)
            ∙ ap Some (exited-seen code n n.code memory memory)
        | false ↦ λ other. seen_ended code q other (process_named q os.processes) refl ∙ sym (get-mapped (λ n. n.pid) (process_seen v.objects.live) os.processes q)
      ] refl ∙ sym (get-insert before p gone q))

  abbrev stays : ThreadNote → Bool
  stays n = not (n.pid == p)

  thread_kept : (x : Option ThreadNote) → option_map (thread_seen v.objects.live) (kept_if stays x) ≡ cond (not (is_of_process p (option_map (thread_seen v.objects.live) x))) (option_map (thread_seen v.objects.live) x) None
  thread_kept None = refl
  thread_kept (Some n) = elim (n.pid == p) as (λ b. option_map (thread_seen v.objects.live) (cond (not b) (Some n) None) ≡ cond (not b) (Some (thread_seen v.objects.live n)) None) [ true ↦ refl | false ↦ refl ]

  threads-ended : threads_of (filter stays os.threads) v.objects.live ≡ retain_keys (threads_of os.threads v.objects.live) (λ t. not (is_thread_in m p t))
  threads-ended =
      let before = threads_of os.threads v.objects.live in
      same_numbers _ _ (λ q. get-mapped (λ n. n.tid) (thread_seen v.objects.live) (filter stays os.threads) q
      ∙ ap (option_map (thread_seen v.objects.live)) (find-filter stays (λ n. n.tid == q) os.threads (count_by-distinct (λ (n : ThreadNote). n.tid) os.threads q records.tids))
      ∙ thread_kept (thread_named q os.threads)
      ∙ ap (λ x. cond (not (is_of_process p x)) x None) (sym (thread_at-base os v q))
      ∙ sym (get-retain_keys before (λ t. not (is_thread_in m p t)) q))

  none_either : {A : Type 0} (b : Bool) → ◌≡◌ {A = Option A} None (cond b None None)
  none_either true = refl
  none_either false = refl

  description_kept : (q : ℕ) (x : Option Description) → description_named q os.descriptions ≡ x
      → option_map (description_seen v.objects.live) (kept_if (λ d. is_open_without os p d.id) x) ≡ cond (calls.is_open_without m p q) (option_map (description_seen v.objects.live) x) None
  description_kept q None is = none_either (calls.is_open_without m p q)
  description_kept q (Some d) is =
      let id : d.id ≡ q = eqb-true d.id q (find-passes (λ j. j.id == q) os.descriptions d is) in
      ap (λ k. option_map (description_seen v.objects.live) (cond (is_open_without os p k) (Some d) None)) id
      ∙ ap (λ b. option_map (description_seen v.objects.live) (cond b (Some d) None)) (sym (is_open_without-base q))
      ∙ elim (calls.is_open_without m p q) as (λ b. option_map (description_seen v.objects.live) (cond b (Some d) None) ≡ cond b (Some (description_seen v.objects.live d)) None) [ true ↦ refl | false ↦ refl ]

  descriptions-ended : descriptions_of (filter (λ d. is_open_without os p d.id) os.descriptions) v.objects.live ≡ retain_keys (descriptions_of os.descriptions v.objects.live) (calls.is_open_without m p)
  descriptions-ended =
      let before = descriptions_of os.descriptions v.objects.live in
      same_numbers _ _ (λ q. get-mapped (λ d. d.id) (description_seen v.objects.live) (filter (λ d. is_open_without os p d.id) os.descriptions) q
      ∙ ap (option_map (description_seen v.objects.live)) (find-filter (λ d. is_open_without os p d.id) (λ d. d.id == q) os.descriptions (count_by-distinct (λ (d : Description). d.id) os.descriptions q records.ids))
      ∙ description_kept q (description_named q os.descriptions) refl
      ∙ ap (λ x. cond (calls.is_open_without m p q) x None) (sym (get-mapped (λ d. d.id) (description_seen v.objects.live) os.descriptions q))
      ∙ sym (get-retain_keys before (calls.is_open_without m p) q))

  -- ---- where threads stand

  module _ (once : (h : ℕ) → times_named h (recorded os) ≤ 1) where
    thread_with-left : (h : ℕ) → thread_with h (filter stays os.threads) ≡ kept_if stays (thread_with h os.threads)
    thread_with-left h = find-filter stays (λ n. n.handle == h) os.threads (omega (arith, once h, times_named-recorded h os))

    -- a thread of the machine is of the process where its record is
    is_in : (test : ThreadNote → Bool) (n : ThreadNote) → find test os.threads ≡ Some n → is_thread_in m p n.tid ≡ (n.pid == p)
    is_in test n is = ap (is_of_process p) (thread_at-base os v n.tid ∙ ap (option_map (thread_seen v.objects.live)) (find-key (λ (j : ThreadNote). j.tid) test os.threads n records.tids is))

    tids-left : (hs : List ℕ) → tids_of (filter stays os.threads) hs ≡ filter (λ t. not (is_thread_in m p t)) (tids_of os.threads hs)
    tids-left [] = refl
    tids-left (h ∷ hs) =
        let leaves : ℕ → Bool = λ t. not (is_thread_in m p t) in
        ap (λ x. cons_option (option_map (λ (n : ThreadNote). n.tid) x) (tids_of (filter stays os.threads) hs)) (thread_with-left h)
        ∙ elim (thread_with h os.threads) as (λ x. thread_with h os.threads ≡ x → cons_option (option_map (λ (n : ThreadNote). n.tid) (kept_if stays x)) (tids_of (filter stays os.threads) hs)
        ≡ filter leaves (cons_option (option_map (λ (n : ThreadNote). n.tid) x) (tids_of os.threads hs))) [
          | None ↦ λ _. tids-left hs
          | Some n ↦ λ is. elim (n.pid == p) as (λ b. cons_option (option_map (λ (j : ThreadNote). j.tid) (cond (not b) (Some n) None)) (tids_of (filter stays os.threads) hs)
              ≡ cond (not b) (n.tid ∷ filter leaves (tids_of os.threads hs)) (filter leaves (tids_of os.threads hs))) [
                | true ↦ tids-left hs
                | false ↦ ap (λ ts. n.tid ∷ ts) (tids-left hs)
              ] ∙ ap (λ b. cond (not b) (n.tid ∷ filter leaves (tids_of os.threads hs)) (filter leaves (tids_of os.threads hs))) (sym (is_in (λ j. j.handle == h) n is))
        ] refl

    -- ---- what is waited for

    module _ (code : ℕ) where
      abbrev left : LibOs
      left = without_process os p code

      description_with-left : (h : ℕ) → description_with h left.descriptions ≡ kept_if (λ d. is_open_without os p d.id) (description_with h os.descriptions)
      description_with-left h = find-filter (λ d. is_open_without os p d.id) (λ d. d.handle == h) os.descriptions (omega (arith, once h, times_named-recorded h os))

      woken_by-left : (h : ℕ) → thread_woken_by h left.threads ≡ kept_if stays (thread_woken_by h os.threads)
      woken_by-left h = find-filter stays (λ n. n.event == h) os.threads (omega (arith, once h, times_named-recorded h os))

      -- by the record that has the number
      described_alone : (h : ℕ) (d : Description) → description_with h os.descriptions ≡ Some d → (process_with h os.processes ≡ None) × (thread_woken_by h os.threads ≡ None)
      described_alone h d is =
          let one = count_by-found (λ (j : Description). j.handle == h) (λ j. j.handle == h) os.descriptions d is (find-passes (λ j. j.handle == h) os.descriptions d is) in (
            find-uncounted (λ (n : ProcessNote). n.handle == h) os.processes (omega (arith, one, once h, times_named-recorded h os)),
            find-uncounted (λ (n : ThreadNote). n.event == h) os.threads (omega (arith, one, once h, times_named-recorded h os)),
          )

      target_left-is : (h : ℕ) (d : Option Description) (n : Option ProcessNote) (t : Option ThreadNote) → description_with h os.descriptions ≡ d → process_with h os.processes ≡ n → thread_woken_by h os.threads ≡ t
          → target_by (kept_if (λ j. is_open_without os p j.id) d) (option_map (note_ended p code) n) (kept_if stays t) ≡ target_left m p (target_by d n t)
      target_left-is h (Some d) n t describes names wakes =
          let alone = described_alone h d describes in
          let no_process = sym names ∙ alone.0 in
          let no_thread = sym wakes ∙ alone.1 in
          (λ i. target_by (cond (is_open_without os p d.id) (Some d) None) (option_map (note_ended p code) (no_process i)) (kept_if stays (no_thread i)))
          ∙ ap (λ b. target_by (cond b (Some d) None) None None) (sym (is_open_without-base d.id))
          ∙ elim (calls.is_open_without m p d.id) as (λ b. target_by (cond b (Some d) None) None None ≡ cond (not b) Gone (Opened d.id)) [ true ↦ refl | false ↦ refl ]
      target_left-is h None (Some n) t describes names wakes = ap Exits (note_ended-pid p code n)
      target_left-is h None None (Some n) describes names wakes =
          elim (n.pid == p) as (λ b. target_by None None (cond (not b) (Some n) None) ≡ cond b Gone (Wakes n.tid)) [ true ↦ refl | false ↦ refl ]
          ∙ ap (λ b. cond b Gone (Wakes n.tid)) (sym (is_in (λ j. j.event == h) n wakes))
      target_left-is h None None None describes names wakes = refl

      target_of-left : (h : ℕ) → target_of left h ≡ target_left m p (target_of os h)
      target_of-left h =
          (λ i. target_by (description_with-left h i) (process_with-ended p code h os.processes i) (woken_by-left h i))
          ∙ target_left-is h (description_with h os.descriptions) (process_with h os.processes) (thread_woken_by h os.threads) refl refl refl

      targets-left : (hs : List ℕ) → map (target_of left) hs ≡ map (target_left m p) (map (target_of os) hs)
      targets-left [] = refl
      targets-left (h ∷ hs) = λ i. target_of-left h i ∷ targets-left hs i

      waiters-left : (ws : List Waiting) → filter_map (waiter_of left) ws ≡ map (waiter_left m p) (filter (λ w. not (is_thread_in m p w.thread)) (filter_map (waiter_of os) ws))
      waiters-left [] = refl
      waiters-left (w ∷ ws) =
          let leaves : Waiter → Bool = λ j. not (is_thread_in m p j.thread) in
          let named : List Target → ThreadNote → Waiter = λ targets n. record { thread = n.tid; targets = targets; deadline = w.deadline } in
          let rest = filter_map (waiter_of os) ws in
          (λ i. cons_option (option_map (named (targets-left w.handles i)) (thread_with-left w.thread i)) (waiters-left ws i))
          ∙ elim (thread_with w.thread os.threads) as (λ x. thread_with w.thread os.threads ≡ x →
          cons_option (option_map (named (map (target_left m p) (map (target_of os) w.handles))) (kept_if stays x)) (map (waiter_left m p) (filter leaves rest))
          ≡ map (waiter_left m p) (filter leaves (cons_option (option_map (named (map (target_of os) w.handles)) x) rest))) [
            | None ↦ λ _. refl
            | Some n ↦ λ is. elim (n.pid == p) as (λ b. cons_option (option_map (named (map (target_left m p) (map (target_of os) w.handles))) (cond (not b) (Some n) None)) (map (waiter_left m p) (filter leaves rest))
                ≡ map (waiter_left m p) (cond (not b) (named (map (target_of os) w.handles) n ∷ filter leaves rest) (filter leaves rest))) [
                  | true ↦ refl
                  | false ↦ refl
                ] ∙ ap (λ b. map (waiter_left m p) (cond (not b) (named (map (target_of os) w.handles) n ∷ filter leaves rest) (filter leaves rest))) (sym (is_in (λ j. j.handle == w.thread) n is))
          ] refl

      -- The queue.
      queue-left : map queued_seen left.queue ≡ filter (λ q. not (is_thread_in m p q.thread)) (map queued_seen os.queue)
      queue-left = sym (filter-map queued_seen (λ q. not (is_thread_in m p q.thread)) (λ q. not (is_note_of p (thread_named q.tid os.threads)))
          (λ q. ap (λ x. not (is_of_process p x)) (thread_at-base os v q.tid) ∙ ap not (of_process-seen (thread_named q.tid os.threads))) os.queue)
        where
          of_process-seen : (x : Option ThreadNote) → is_of_process p (option_map (thread_seen v.objects.live) x) ≡ is_note_of p x
          of_process-seen None = refl
          of_process-seen (Some n) = refl

      -- The whole machine.
      pub base-without_process : (n : ProcessNote) → process_named p os.processes ≡ Some n → base (without_process os p code) v ≡ ended (base os v) p code
      base-without_process n is =
          let there = process_at-base os v p ∙ ap (option_map (process_seen v.objects.live)) is in
          let ps = processes-ended code n is ∙ sym (ap (with_exited m.processes p code) there) in
          let ready = tids-left v.objects.lists.ready in
          let waiting = waiters-left v.objects.lists.waiting in
          λ i. record m { processes = ps i; threads = threads-ended i; descriptions = descriptions-ended i; lists = record m.lists { ready = ready i; waiting = waiting i }; queue = queue-left i }
