-- The machine of records whose descriptors change, or one of whose descriptions goes.
use Rattle.std.specs.Prelude.{◌≡◌, ℕ, ◌≤◌, ◌==◌, Bool, true, false, cond, not, ◌&&◌, ◌||◌, List, [], ◌∷◌, map, filter, filter_map, find, is_some}
use Rattle.std.specs.List.{cons_option, list_all, list_any}
use Rattle.std.specs.Ordering.{nat_cmp}
use Rattle.std.specs.FinMap.{FinMap, get, insert, remove, values}
use Rattle.std.specs.Option.{option_map}
use Rattle.std.specs.declared.option.Option.{Option}
use Rattle.std.specs.declared.option.Option.TheVariants.{None, Some}
use Rattle.std.proofs.Common.{refl, sym, ap, ◌∙◌, arith, eqb-true}
use Rattle.std.proofs.lemmas.Bool.{and_parts, and_from, cond-true, cond-false}
use Rattle.guest_space.specs.First.{first_some}
use Rattle.guest_space.specs.Space.{Space}
use Rattle.turn_sched.specs.Lists.{Waiting, contains}
use Rattle.abi_calls.specs.Objects.{Live}
use Rattle.bas_items.proofs.NumberMaps.{get-insert, get-remove, same_numbers}
use Rattle.mono_model.specs.Machine as mono
use Rattle.mono_model.specs.Machine.{Mono, Target, Opened, Exits, Wakes, Gone, Waiter, process_at}
use Rattle.mono_model.specs.Descriptors as machine
use Rattle.mono_model.specs.Descriptors.{descriptors_in, descriptors_at, named_by, with_descriptors_in, is_named, target_without, waiter_without}
use Rattle.libos_state.specs.declared.notes.Description.{Description}
use Rattle.libos_state.specs.declared.notes.DescriptorNote.{DescriptorNote}
use Rattle.libos_state.specs.declared.notes.ProcessNote.{ProcessNote}
use Rattle.libos_state.specs.declared.notes.ThreadNote.{ThreadNote}
use Rattle.libos_state.specs.declared.state.LibOs.{LibOs}
use Rattle.libos_state.specs.Records.{Visible, base, process_named, process_with, thread_with, thread_woken_by, description_with, description_named, descriptor_named, description_seen, memory_of_object, process_if, process_running, process_seen, processes_of, descriptions_of, lists_of, target_of, target_by, waiter_of}
use Rattle.libos_state.specs.Descriptors.{redescribed, with_descriptors, left_by, without_descriptor, joined_by, joined_in, with_descriptor}
use Rattle.libos_state.specs.Entered as entered
use Rattle.libos_state.specs.Named.{recorded, times_named}
use Rattle.libos_state.specs.Fits.{FitsRecords, are_distinct, is_none, is_fit_process, is_described}
use Rattle.libos_state.proofs.Naming.{find-passes, find-uncounted, count_by-found, times_named-recorded}
use Rattle.libos_state.proofs.Bases.{mapped, get-mapped, process_at-base}
use Rattle.libos_state.proofs.Filtered.{kept_if, find-filter}
use Rattle.libos_state.proofs.Leaving.{list_any-mapped, names_in, list_any-same}
use Rattle.libos_state.proofs.Keyed.{filter-all, find-kept, find-left}
use Rattle.libos_state.proofs.Descriptors.{process_named-redescribed, process_with-redescribed, found-joined}

-- ---- what is waited for doesn't hang on descriptors

module _ (os : LibOs) (f : ProcessNote → List DescriptorNote) where
  target_same : (d : Option Description) (n : Option ProcessNote) (t : Option ThreadNote) → target_by d (option_map (redescribed f) n) t ≡ target_by d n t
  target_same (Some d) n t = refl
  target_same None (Some n) t = refl
  target_same None None t = refl

  target_of-redescribed : (h : ℕ) → target_of (with_descriptors os f) h ≡ target_of os h
  target_of-redescribed h =
      ap (λ n. target_by (description_with h os.descriptions) n (thread_woken_by h os.threads)) (process_with-redescribed f h os.processes)
      ∙ target_same (description_with h os.descriptions) (process_with h os.processes) (thread_woken_by h os.threads)

  waiting-redescribed : (ws : List Waiting) → filter_map (waiter_of (with_descriptors os f)) ws ≡ filter_map (waiter_of os) ws
  waiting-redescribed ws = λ i. filter_map
      (λ w. option_map (λ n. record { thread = n.tid; targets = map (λ h. target_of-redescribed h i) w.handles; deadline = w.deadline }) (thread_with w.thread os.threads)) ws

-- ---- a process has other descriptors

-- The descriptors of a record, as a map.
abbrev pub numbers_of : List DescriptorNote → FinMap nat_cmp ℕ
numbers_of ds = mapped (λ (d : DescriptorNote). d.number) (λ d. d.description) ds

module _ (os : LibOs) (v : Visible) (p : ℕ) (process : ProcessNote) (there : process_named p os.processes ≡ Some process) (alive : process.code ≡ None) where
  abbrev m : Mono
  m = base os v

  abbrev live : Live
  live = v.objects.live

  abbrev memory : Space
  memory = memory_of_object (get {R = nat_cmp} live process.handle)

  found_there : process_at m p ≡ Some (process_seen live process)
  found_there = process_at-base os v p ∙ ap (option_map (process_seen live)) there

  pub descriptors_are : descriptors_at m p ≡ numbers_of process.descriptors
  descriptors_are = ap descriptors_in found_there ∙ (λ i. descriptors_in (Some (process_if process memory (alive i))))

  pub named_by-found : (fd : ℕ) → named_by m p fd ≡ option_map (λ d. d.description) (descriptor_named fd process.descriptors)
  named_by-found fd = ap (λ ds. get {R = nat_cmp} ds fd) descriptors_are ∙ get-mapped (λ (d : DescriptorNote). d.number) (λ d. d.description) process.descriptors fd

  pub least_free-found : machine.least_free (descriptors_at m p) ≡ entered.least_free process.descriptors
  least_free-found = λ i. first_some (λ fd. free fd i) 0 machine.DESCRIPTORS
    where
      some_same : (x : Option DescriptorNote) → is_some (option_map (λ d. d.description) x) ≡ is_some x
      some_same None = refl
      some_same (Some d) = refl

      free : (fd : ℕ) → machine.if_free_descriptor (descriptors_at m p) fd ≡ entered.if_free_descriptor process.descriptors fd
      free fd = ap (λ b. cond b None (Some fd)) (ap is_some (named_by-found fd) ∙ some_same (descriptor_named fd process.descriptors))

  module _ (f : ProcessNote → List DescriptorNote) (ds : FinMap nat_cmp ℕ) (others : (n : ProcessNote) → (n.pid == p) ≡ false → f n ≡ n.descriptors)
      (are : numbers_of (f process) ≡ ds) where
    abbrev now : mono.Process
    now = record (process_seen live process) { descriptors = ds }

    seen : process_seen live (redescribed f process) ≡ now
    seen = (λ i. process_if (redescribed f process) memory (alive i)) ∙ ap (λ numbers. record (process_running process memory) { descriptors = numbers }) are
        ∙ (λ i. record (process_if process memory ((sym alive) i)) { descriptors = ds })

    seen_other : (q : ℕ) → (q == p) ≡ false → (x : Option ProcessNote) → process_named q os.processes ≡ x
        → option_map (process_seen live) (option_map (redescribed f) x) ≡ option_map (process_seen live) x
    seen_other q other None is = refl
    seen_other q other (Some n) is =
        let pid : n.pid ≡ q = eqb-true n.pid q (find-passes (λ j. j.pid == q) os.processes n is) in
        ap (λ ds. Some (process_seen live (record n { descriptors = ds }))) (others n (ap (λ k. k == p) pid ∙ other))

    processes-redescribed : processes_of (map (redescribed f) os.processes) live ≡ insert (processes_of os.processes live) p now
    processes-redescribed =
        let before = processes_of os.processes live in
        same_numbers _ _ (λ q. get-mapped (λ n. n.pid) (process_seen live) (map (redescribed f) os.processes) q
        ∙ ap (option_map (process_seen live)) (process_named-redescribed f q os.processes)
        ∙ elim (q == p) as (λ b. (q == p) ≡ b → option_map (process_seen live) (option_map (redescribed f) (process_named q os.processes)) ≡ cond b (Some now) (get before q)) [
          | true ↦ λ same. ap (λ t. option_map (process_seen live) (option_map (redescribed f) (process_named t os.processes))) (eqb-true q p same)
              ∙ ap (λ x. option_map (process_seen live) (option_map (redescribed f) x)) there ∙ ap Some seen
          | false ↦ λ other. seen_other q other (process_named q os.processes) refl ∙ sym (get-mapped (λ n. n.pid) (process_seen live) os.processes q)
        ] refl ∙ sym (get-insert before p now q))

    pub base-redescribed : base (with_descriptors os f) v ≡ with_descriptors_in m p ds (process_at m p)
    base-redescribed =
        (λ i. record m { processes = processes-redescribed i; lists = record (lists_of os v.objects.lists) { waiting = waiting-redescribed os f v.objects.lists.waiting i } })
        ∙ sym (ap (with_descriptors_in m p ds) found_there)

  own : (process.pid == p) ≡ true
  own = find-passes (λ n. n.pid == p) os.processes process there

  -- one is closed
  pub base-without_descriptor : (fd : ℕ) → base (without_descriptor os p fd) v ≡ machine.without_descriptor m p fd
  base-without_descriptor fd = base-redescribed (left_by p fd) (remove (descriptors_at m p) fd) others (same_numbers _ _ are)
    where
      others : (n : ProcessNote) → (n.pid == p) ≡ false → left_by p fd n ≡ n.descriptors
      others n other = (λ i. filter (λ d. not (other i && d.number == fd)) n.descriptors) ∙ filter-all (λ d. not (false && d.number == fd)) n.descriptors (λ d. refl)

      left : (q : ℕ) → find (λ d. d.number == q) (filter (λ d. not (true && d.number == fd)) process.descriptors) ≡ cond (q == fd) None (descriptor_named q process.descriptors)
      left q = elim (q == fd) as (λ b. (q == fd) ≡ b → find (λ d. d.number == q) (filter (λ d. not (true && d.number == fd)) process.descriptors) ≡ cond b None (descriptor_named q process.descriptors)) [
        | true ↦ λ same. find-left (λ d. not (true && d.number == fd)) (λ d. d.number == q) process.descriptors (λ d is. ap (λ k. not (k == fd)) (eqb-true d.number q is) ∙ ap not same)
        | false ↦ λ other. find-kept (λ d. not (true && d.number == fd)) (λ d. d.number == q) process.descriptors (λ d is. ap (λ k. not (k == fd)) (eqb-true d.number q is) ∙ ap not other)
      ] refl

      mapped_if : (b : Bool) (x : Option DescriptorNote) → option_map (λ d. d.description) (cond b None x) ≡ cond b None (option_map (λ d. d.description) x)
      mapped_if true x = refl
      mapped_if false x = refl

      are : (q : ℕ) → get {R = nat_cmp} (numbers_of (left_by p fd process)) q ≡ get {R = nat_cmp} (remove (descriptors_at m p) fd) q
      are q = get-mapped (λ (d : DescriptorNote). d.number) (λ d. d.description) (left_by p fd process) q
          ∙ (λ i. option_map (λ d. d.description) (find (λ d. d.number == q) (filter (λ d. not (own i && d.number == fd)) process.descriptors)))
          ∙ ap (option_map (λ d. d.description)) (left q)
          ∙ mapped_if (q == fd) (descriptor_named q process.descriptors)
          ∙ ap (cond (q == fd) None) (sym (named_by-found q))
          ∙ sym (get-remove (descriptors_at m p) fd q)

  -- one names a description
  pub base-with_descriptor : (fd id : ℕ) → base (with_descriptor os p fd id) v ≡ machine.with_descriptor m p fd id
  base-with_descriptor fd id = base-redescribed (joined_in p fd id) (insert (descriptors_at m p) fd id) others (same_numbers _ _ are)
    where
      others : (n : ProcessNote) → (n.pid == p) ≡ false → joined_in p fd id n ≡ n.descriptors
      others n other = cond-false (n.pid == p) (joined_by fd id n.descriptors) n.descriptors other

      mapped_if : (b : Bool) (it : DescriptorNote) (x : Option DescriptorNote) → option_map (λ d. d.description) (cond b (Some it) x) ≡ cond b (Some it.description) (option_map (λ d. d.description) x)
      mapped_if true it x = refl
      mapped_if false it x = refl

      are : (q : ℕ) → get {R = nat_cmp} (numbers_of (joined_in p fd id process)) q ≡ get {R = nat_cmp} (insert (descriptors_at m p) fd id) q
      are q = get-mapped (λ (d : DescriptorNote). d.number) (λ d. d.description) (joined_in p fd id process) q
          ∙ ap (λ ds. option_map (λ d. d.description) (descriptor_named q ds)) (cond-true (process.pid == p) (joined_by fd id process.descriptors) process.descriptors own)
          ∙ ap (option_map (λ d. d.description)) (found-joined fd id process.descriptors q)
          ∙ mapped_if (q == fd) (record { number = fd; description = id }) (descriptor_named q process.descriptors)
          ∙ ap (cond (q == fd) (Some id)) (sym (named_by-found q))
          ∙ sym (get-insert (descriptors_at m p) fd id q)

-- ---- what is named

-- Descriptors of a record with different numbers, none of which one that has exited has.
abbrev pub is_numbered : ProcessNote → Bool
is_numbered n = are_distinct (map (λ d. d.number) n.descriptors) && (not (is_some n.code) || is_none n.descriptors)

pub numbered_fit : (os : LibOs) (n : ProcessNote) → is_fit_process os n ≡ true → is_numbered n ≡ true
numbered_fit os n fit =
    let parts = and_parts (are_distinct (map (λ d. d.number) n.descriptors)) _ fit in
    and_from _ _ parts.0 (and_parts _ (not (is_some n.code) || is_none n.descriptors) parts.1).1

-- A description is named in the machine where a descriptor of the records names it.
pub is_named-base : (os : LibOs) (v : Visible) (id : ℕ) → (fits : LibOs) → FitsRecords fits → are_distinct (map (λ n. n.pid) os.processes) ≡ true → list_all is_numbered os.processes ≡ true
    → is_named (base os v) id ≡ is_described os id
is_named-base os v id fits records pids numbered =
    list_any-mapped (λ (n : ProcessNote). n.pid) (process_seen v.objects.live) (λ e. contains (values e.1.descriptors) id) os.processes pids
    ∙ list_any-same fits v records 0 is_numbered (λ n. contains (values (process_seen v.objects.live n).descriptors) id) (λ n. list_any (λ d. d.description == id) n.descriptors)
    (λ n is.
    let parts = and_parts (are_distinct (map (λ d. d.number) n.descriptors)) (not (is_some n.code) || is_none n.descriptors) is in
    names_in fits v records 0 id (memory_of_object (get {R = nat_cmp} v.objects.live n.handle)) n n.code parts.0 parts.1)
    os.processes numbered

-- ---- a description goes

module _ (os : LibOs) (v : Visible) (id : ℕ) (once : (h : ℕ) → times_named h (recorded os) ≤ 1) where
  abbrev others : Description → Bool
  others d = not (d.id == id)

  abbrev left : LibOs
  left = record os { descriptions = filter (λ d. not (d.id == id)) os.descriptions }

  description_left : (q : ℕ) → description_named q left.descriptions ≡ cond (q == id) None (description_named q os.descriptions)
  description_left q = elim (q == id) as (λ b. (q == id) ≡ b → description_named q left.descriptions ≡ cond b None (description_named q os.descriptions)) [
    | true ↦ λ same. find-left others (λ d. d.id == q) os.descriptions (λ d is. ap (λ k. not (k == id)) (eqb-true d.id q is) ∙ ap not same)
    | false ↦ λ other. find-kept others (λ d. d.id == q) os.descriptions (λ d is. ap (λ k. not (k == id)) (eqb-true d.id q is) ∙ ap not other)
  ] refl

  seen_if : (b : Bool) (x : Option Description) → option_map (description_seen v.objects.live) (cond b None x) ≡ cond b None (option_map (description_seen v.objects.live) x)
  seen_if true x = refl
  seen_if false x = refl

  descriptions-left : descriptions_of left.descriptions v.objects.live ≡ remove (descriptions_of os.descriptions v.objects.live) id
  descriptions-left = same_numbers _ _ (λ q. get-mapped (λ d. d.id) (description_seen v.objects.live) left.descriptions q
      ∙ ap (option_map (description_seen v.objects.live)) (description_left q) ∙ seen_if (q == id) (description_named q os.descriptions)
      ∙ ap (cond (q == id) None) (sym (get-mapped (λ d. d.id) (description_seen v.objects.live) os.descriptions q))
      ∙ sym (get-remove (descriptions_of os.descriptions v.objects.live) id q))

  -- what waits for it waits for what is gone
  described_alone : (h : ℕ) (d : Description) → description_with h os.descriptions ≡ Some d → (process_with h os.processes ≡ None) × (thread_woken_by h os.threads ≡ None)
  described_alone h d is =
      let one = count_by-found (λ (j : Description). j.handle == h) (λ j. j.handle == h) os.descriptions d is (find-passes (λ j. j.handle == h) os.descriptions d is) in (
        find-uncounted (λ (n : ProcessNote). n.handle == h) os.processes (omega (arith, one, once h, times_named-recorded h os)),
        find-uncounted (λ (n : ThreadNote). n.event == h) os.threads (omega (arith, one, once h, times_named-recorded h os)),
      )

  target-left : (h : ℕ) (d : Option Description) (n : Option ProcessNote) (t : Option ThreadNote) → description_with h os.descriptions ≡ d → process_with h os.processes ≡ n → thread_woken_by h os.threads ≡ t
      → target_by (kept_if others d) n t ≡ target_without id (target_by d n t)
  target-left h (Some d) n t describes names wakes =
      let alone = described_alone h d describes in
      let no_process = sym names ∙ alone.0 in
      let no_thread = sym wakes ∙ alone.1 in
      (λ i. target_by (cond (not (d.id == id)) (Some d) None) (no_process i) (no_thread i))
      ∙ elim (d.id == id) as (λ b. target_by (cond (not b) (Some d) None) None None ≡ cond b Gone (Opened d.id)) [ true ↦ refl | false ↦ refl ]
  target-left h None (Some n) t describes names wakes = refl
  target-left h None None (Some n) describes names wakes = refl
  target-left h None None None describes names wakes = refl

  target_of-left : (h : ℕ) → target_of left h ≡ target_without id (target_of os h)
  target_of-left h =
      ap (λ d. target_by d (process_with h os.processes) (thread_woken_by h os.threads)) (find-filter others (λ d. d.handle == h) os.descriptions (omega (arith, once h, times_named-recorded h os)))
      ∙ target-left h (description_with h os.descriptions) (process_with h os.processes) (thread_woken_by h os.threads) refl refl refl

  targets-left : (hs : List ℕ) → map (target_of left) hs ≡ map (target_without id) (map (target_of os) hs)
  targets-left [] = refl
  targets-left (h ∷ hs) = λ i. target_of-left h i ∷ targets-left hs i

  waiters-left : (ws : List Waiting) → filter_map (waiter_of left) ws ≡ map (waiter_without id) (filter_map (waiter_of os) ws)
  waiters-left [] = refl
  waiters-left (w ∷ ws) =
      let named : List Target → ThreadNote → Waiter = λ targets n. record { thread = n.tid; targets = targets; deadline = w.deadline } in
      let rest = filter_map (waiter_of os) ws in
      (λ i. cons_option (option_map (named (targets-left w.handles i)) (thread_with w.thread os.threads)) (waiters-left ws i))
      ∙ elim (thread_with w.thread os.threads) as (λ x. cons_option (option_map (named (map (target_without id) (map (target_of os) w.handles))) x) (map (waiter_without id) rest)
      ≡ map (waiter_without id) (cons_option (option_map (named (map (target_of os) w.handles)) x) rest)) [ None ↦ refl | Some n ↦ refl ]

  pub base-without_description : base left v ≡ machine.without_description (base os v) id
  base-without_description =
      let waiting = waiters-left v.objects.lists.waiting in
      λ i. record (base os v) { descriptions = descriptions-left i; lists = record (lists_of os v.objects.lists) { waiting = waiting i } }
