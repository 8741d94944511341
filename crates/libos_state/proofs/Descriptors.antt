-- Records whose processes have other descriptors, and which descriptors then name what.
use Rattle.std.specs.Prelude.{◌≡◌, ℕ, ◌+◌, ◌≤◌, ◌<◌, ◌==◌, Bool, true, false, not, ◌&&◌, ◌||◌, cond, nat_lt, List, [], ◌∷◌, ◌++◌, map, filter, find, count_by, is_some}
use Rattle.std.specs.List.{list_all, list_any}
use Rattle.std.specs.Option.{option_map, option_or}
use Rattle.std.specs.declared.option.Option.{Option}
use Rattle.std.specs.declared.option.Option.TheVariants.{None, Some}
use Rattle.std.proofs.Common.{refl, sym, ap, subst, ◌∙◌, arith, eq-eqb, eqb-true, ne_eqb, ltb-true, ltb-false}
use Rattle.std.proofs.lemmas.Bool.{and_parts, and_from, or_left, or_right, not-true, eqb-false}
use Rattle.std.proofs.lemmas.List.Folds as folds
use Rattle.turn_sched.proofs.Renamed.{list_any-map}
use Rattle.turn_sched.proofs.ThreadLists.{list_all-filter, list_all-weaker}
use Rattle.abi_calls.specs.Objects.{Objects, object_at, is_thread_of}
use Rattle.libos_state.specs.declared.notes.Description.{Description}
use Rattle.libos_state.specs.declared.notes.DescriptorNote.{DescriptorNote}
use Rattle.libos_state.specs.declared.notes.ProcessNote.{ProcessNote}
use Rattle.libos_state.specs.declared.notes.ThreadNote.{ThreadNote}
use Rattle.libos_state.specs.declared.state.LibOs.{LibOs}
use Rattle.libos_state.specs.Records.{process_named, process_with, description_named, descriptor_named, pid_of, pid_with}
use Rattle.libos_state.specs.Descriptors.{redescribed, with_descriptors, left_by, without_descriptor, joined_by, joined_in, with_descriptor}
use Rattle.libos_state.specs.Named.{Named, AProcess, AThread, AnEvent, AStreamOf, recorded}
use Rattle.libos_state.specs.Fits.{FitsRecords, FitsObjects, are_distinct, is_none, is_fit_process, is_fit_parent, is_alive, is_fit_access, is_fit_append, is_described, is_given, handle_in, is_home, has_code, is_to_name}
use Rattle.libos_state.proofs.Distinct.{some_of, find-map, find-key, map-keys, list_any-found, are_distinct-filter}
use Rattle.libos_state.proofs.Naming.{find-passes, list_all-find, count_by-cons, is_named}
use Rattle.libos_state.proofs.Filtered.{count_by-distinct, list_any-weaker}
use Rattle.libos_state.proofs.Closing.{count_by-append, count_by-filter, count_by-parted}
use Rattle.libos_state.proofs.Keyed.{none_both, or_none, list_any-among, find-kept, find-left, find-append, find-there, count_by-never, list_all-keyed, distinct_counted}

-- ---- other descriptors leave all else of the records

map-redescribed : {X : Type 0} (f : ProcessNote → List DescriptorNote) (key : ProcessNote → X) → ((n : ProcessNote) → key (redescribed f n) ≡ key n) → (notes : List ProcessNote)
    → map key (map (redescribed f) notes) ≡ map key notes
map-redescribed f key same [] = refl
map-redescribed f key same (n ∷ notes) = λ i. same n i ∷ map-redescribed f key same notes i

module _ (f : ProcessNote → List DescriptorNote) where
  pub process_named-redescribed : (q : ℕ) (notes : List ProcessNote) → process_named q (map (redescribed f) notes) ≡ option_map (redescribed f) (process_named q notes)
  process_named-redescribed q notes = find-map (redescribed f) (λ n. n.pid == q) notes

  pub process_with-redescribed : (h : ℕ) (notes : List ProcessNote) → process_with h (map (redescribed f) notes) ≡ option_map (redescribed f) (process_with h notes)
  process_with-redescribed h notes = find-map (redescribed f) (λ n. n.handle == h) notes

  there_still : (x : Option ProcessNote) → is_some (option_map (redescribed f) x) ≡ is_some x
  there_still None = refl
  there_still (Some n) = refl

  alive_still : (x : Option ProcessNote) → is_alive (option_map (redescribed f) x) ≡ is_alive x
  alive_still None = refl
  alive_still (Some n) = refl

  handle_still : (x : Option ProcessNote) → handle_in (option_map (redescribed f) x) ≡ handle_in x
  handle_still None = refl
  handle_still (Some n) = refl

  pid_still : (x : Option ProcessNote) → pid_of (option_map (redescribed f) x) ≡ pid_of x
  pid_still None = refl
  pid_still (Some n) = refl

-- Records that differ in descriptors and descriptions alone.
pub record SameProcesses (os os' : LibOs) : Type 0 where
  pub boot : os'.boot ≡ os.boot
  pub threads : os'.threads ≡ os.threads
  pub pid : (h : ℕ) → pid_with os' h ≡ pid_with os h
  pub there : (q : ℕ) → is_some (process_named q os'.processes) ≡ is_some (process_named q os.processes)

pub same_processes : (os : LibOs) → SameProcesses os os
same_processes os = record { boot = refl; threads = refl; pid = λ h. refl; there = λ q. refl }

pub same_after : (a b c : LibOs) → SameProcesses a b → SameProcesses b c → SameProcesses a c
same_after a b c first second = record {
  boot = second.boot ∙ first.boot;
  threads = second.threads ∙ first.threads;
  pid = λ h. second.pid h ∙ first.pid h;
  there = λ q. second.there q ∙ first.there q;
}

-- The records with other descriptors, and with these descriptions.
abbrev pub redone : LibOs → (ProcessNote → List DescriptorNote) → List Description → LibOs
redone os f ds = record os { processes = map (redescribed f) os.processes; descriptions = ds }

pub SameProcesses-redone : (os : LibOs) (f : ProcessNote → List DescriptorNote) (ds : List Description) → SameProcesses os (redone os f ds)
SameProcesses-redone os f ds = record {
  boot = refl;
  threads = refl;
  pid = λ h. ap pid_of (process_with-redescribed f h os.processes) ∙ pid_still f (process_with h os.processes);
  there = λ q. ap is_some (process_named-redescribed f q os.processes) ∙ there_still f (process_named q os.processes);
}

pub recorded-redescribed : (os : LibOs) (f : ProcessNote → List DescriptorNote) → recorded (with_descriptors os f) ≡ recorded os
recorded-redescribed os f =
    ap (λ (names : List Named). names ++ (map (λ n. (n.handle, AThread)) os.threads ++ (map (λ n. (n.event, AnEvent)) os.threads ++ map (λ d. (d.handle, AStreamOf d.kind)) os.descriptions)))
    (map-redescribed f (λ (n : ProcessNote). (n.handle, AProcess)) (λ n. refl) os.processes)

pub FitsObjects-redescribed : (os : LibOs) (f : ProcessNote → List DescriptorNote) (o : Objects) (kept : List Named) (ending : Option ℕ) → FitsObjects os o kept ending
    → FitsObjects (with_descriptors os f) o kept ending
FitsObjects-redescribed os f o kept ending fits =
    let os' = with_descriptors os f in
    let same = sym (recorded-redescribed os f) in
    let home : (n : ThreadNote) → is_home os' o n ≡ is_home os o n = λ n.
    ap (λ k. is_thread_of k (object_at o n.handle)) (ap handle_in (process_named-redescribed f n.pid os.processes) ∙ handle_still f (process_named n.pid os.processes)) in
    record {
      once = λ q. subst (λ (names : List Named). count_by (λ n. n.0 == q) (names ++ kept) ≡ cond (is_to_name ending (object_at o q)) 1 0) same (fits.once q);
      kinds = subst (λ (names : List Named). list_all (is_named o) (names ++ kept) ≡ true) same fits.kinds;
      homes = (λ i. list_all (λ n. home n i) os.threads) ∙ fits.homes;
      codes = folds.list_all-map (λ n. has_code ending n (object_at o n.handle)) (redescribed f) os.processes ∙ fits.codes;
    }

-- What other descriptors and descriptions have to fit.
pub record FitDescriptors (os : LibOs) (f : ProcessNote → List DescriptorNote) (ds : List Description) : Type 0 where
  pub ids : are_distinct (map (λ d. d.id) ds) ≡ true
  pub access : list_all (λ d. is_fit_access d.kind d.access) ds ≡ true
  pub append : list_all (λ d. is_fit_append d.kind d.append) ds ≡ true
  pub processes : list_all (λ n. is_fit_process (redone os f ds) (redescribed f n)) os.processes ≡ true
  pub described : list_all (λ d. is_described (redone os f ds) d.id) ds ≡ true

pub FitsRecords-redone : (os : LibOs) (f : ProcessNote → List DescriptorNote) (ds : List Description) → FitsRecords os → FitDescriptors os f ds → FitsRecords (redone os f ds)
FitsRecords-redone os f ds fits fit =
    let os' = redone os f ds in
    let alive : (n : ThreadNote) → is_alive (process_named n.pid os'.processes) ≡ is_alive (process_named n.pid os.processes) = λ n.
    ap is_alive (process_named-redescribed f n.pid os.processes) ∙ alive_still f (process_named n.pid os.processes) in
    let parent : (n : ProcessNote) → is_fit_parent os' (redescribed f n) ≡ is_fit_parent os n = λ n.
    ap (λ b. n.parent == 0 || (nat_lt n.parent n.pid && b)) ((SameProcesses-redone os f ds).there n.parent) in
    record {
      pids = ap are_distinct (map-keys (λ (n : ProcessNote). n.pid) (redescribed f) (λ n. refl) os.processes) ∙ fits.pids;
      tids = fits.tids;
      ids = fit.ids;
      given_pids = folds.list_all-map (λ (n : ProcessNote). is_given os n.pid) (redescribed f) os.processes ∙ fits.given_pids;
      given_tids = fits.given_tids;
      processes = folds.list_all-map (is_fit_process os') (redescribed f) os.processes ∙ fit.processes;
      threads = (λ i. list_all (λ n. alive n i) os.threads) ∙ fits.threads;
      described = fit.described;
      access = fit.access;
      append = fit.append;
      parents = folds.list_all-map (is_fit_parent os') (redescribed f) os.processes ∙ (λ i. list_all (λ n. parent n i) os.processes) ∙ fits.parents;
      queued = fits.queued;
      waits_once = fits.waits_once;
      few_ids = fits.few_ids;
    }

-- ---- some descriptors are left out

filter-none : (keeps : DescriptorNote → Bool) (xs : List DescriptorNote) → is_none xs ≡ true → is_none (filter keeps xs) ≡ true
filter-none keeps [] none = refl
filter-none keeps (x ∷ xs) none = absurd (cc)

none_filtered : (ended : Bool) (keeps : DescriptorNote → Bool) (xs : List DescriptorNote) → (not ended || is_none xs) ≡ true → (not ended || is_none (filter keeps xs)) ≡ true
none_filtered true keeps xs none = filter-none keeps xs none
none_filtered false keeps xs none = refl

pub left_fit : (os os' : LibOs) (keeps : DescriptorNote → Bool) (n : ProcessNote)
    → ((d : DescriptorNote) → keeps d ≡ true → is_some (description_named d.description os.descriptions) ≡ true → is_some (description_named d.description os'.descriptions) ≡ true)
    → is_fit_process os n ≡ true → is_fit_process os' (record n { descriptors = filter keeps n.descriptors }) ≡ true
left_fit os os' keeps n there fit =
    let parts = and_parts (are_distinct (map (λ d. d.number) n.descriptors)) _ fit in
    let named = and_parts (list_all (λ d. is_some (description_named d.description os.descriptions)) n.descriptors) _ parts.1 in
    and_from _ _ (are_distinct-filter (λ (d : DescriptorNote). d.number) keeps n.descriptors parts.0) (and_from _ _
    (list_all-filter keeps (λ d. is_some (description_named d.description os.descriptions)) (λ d. is_some (description_named d.description os'.descriptions)) there n.descriptors named.0)
    (none_filtered (is_some n.code) keeps n.descriptors named.1))

-- The numbers of a process's descriptors are different.
pub numbers_distinct : (os : LibOs) (n : ProcessNote) → is_fit_process os n ≡ true → are_distinct (map (λ d. d.number) n.descriptors) ≡ true
numbers_distinct os n fit = (and_parts (are_distinct (map (λ d. d.number) n.descriptors)) _ fit).0

-- ---- one descriptor is closed

same_process : (x : Option ProcessNote) (a b : ProcessNote) → x ≡ Some a → x ≡ Some b → a ≡ b
same_process x a b is also = cc

same_descriptor : (x : Option DescriptorNote) (a b : DescriptorNote) → x ≡ Some a → x ≡ Some b → a ≡ b
same_descriptor x a b is also = cc

-- The description that the descriptor names.
abbrev pub names_it : ℕ → DescriptorNote → Bool
names_it id d = d.description == id

module _ (os : LibOs) (p fd : ℕ) (process : ProcessNote) (records : FitsRecords os) (there : process_named p os.processes ≡ Some process) where
  -- A descriptor that is closed is the one that is found.
  pub closed_is : (n : ProcessNote) (d : DescriptorNote) → process_named n.pid os.processes ≡ Some n → descriptor_named d.number n.descriptors ≡ Some d
      → (n.pid == p && d.number == fd) ≡ true → descriptor_named fd process.descriptors ≡ Some d
  closed_is n d found named is =
      let parts = and_parts (n.pid == p) (d.number == fd) is in
      let same : n ≡ process = same_process (process_named p os.processes) n process (ap (λ q. process_named q os.processes) (sym (eqb-true n.pid p parts.0)) ∙ found) there in
      ap (λ (m : ProcessNote). descriptor_named fd m.descriptors) (sym same) ∙ ap (λ k. descriptor_named k n.descriptors) (sym (eqb-true d.number fd parts.1)) ∙ named

  -- What else is named is named still.
  pub named_still : (i : ℕ) → ((d : DescriptorNote) → descriptor_named fd process.descriptors ≡ Some d → (d.description == i) ≡ false)
      → is_described os i ≡ true → is_described (without_descriptor os p fd) i ≡ true
  named_still i other described =
      let names : ProcessNote → Bool = λ n. list_any (names_it i) n.descriptors in
      let left : ProcessNote → Bool = λ n. list_any (names_it i) (left_by p fd n) in
      let n = some_of (find names os.processes) (find-there names os.processes described) in
      let found = find-key (λ (m : ProcessNote). m.pid) names os.processes n.0 records.pids n.1 in
      let d = some_of (find (names_it i) n.0.descriptors) (find-there (names_it i) n.0.descriptors (find-passes names os.processes n.0 n.1)) in
      let fit = list_all-find (is_fit_process os) names os.processes n.0 records.processes n.1 in
      let named = find-key (λ (j : DescriptorNote). j.number) (names_it i) n.0.descriptors d.0 (numbers_distinct os n.0 fit) d.1 in
      let it = find-passes (names_it i) n.0.descriptors d.0 d.1 in
      let stays : not (n.0.pid == p && d.0.number == fd) ≡ true = elim (n.0.pid == p && d.0.number == fd) as (λ b. (n.0.pid == p && d.0.number == fd) ≡ b → not b ≡ true) [
        | true ↦ λ closed. let e : true ≡ false = sym it ∙ other d.0 (closed_is n.0 d.0 found named closed) in absurd (cc)
        | false ↦ λ _. refl
      ] refl in
      let here : left n.0 ≡ true = list_any-among (λ j. not (n.0.pid == p && j.number == fd)) (names_it i) n.0.descriptors
      ∙ list_any-found (λ (j : DescriptorNote). j.number) (names_it i) (λ j. not (n.0.pid == p && j.number == fd) && names_it i j) n.0.descriptors d.0 d.1 (and_from _ _ stays it) in
      list_any-map (redescribed (left_by p fd)) names left (λ _. refl) os.processes
      ∙ list_any-found (λ (m : ProcessNote). m.pid) names left os.processes n.0 n.1 here

  -- The records fit without it, where what it named is named still.
  pub FitsRecords-without_descriptor : ((d : DescriptorNote) → descriptor_named fd process.descriptors ≡ Some d → is_described (without_descriptor os p fd) d.description ≡ true)
      → FitsRecords (without_descriptor os p fd)
  FitsRecords-without_descriptor still = FitsRecords-redone os (left_by p fd) os.descriptions records (record {
    ids = records.ids;
    access = records.access;
    append = records.append;
    processes = list_all-weaker (is_fit_process os) (λ n. is_fit_process (without_descriptor os p fd) (redescribed (left_by p fd) n))
        (λ n fit. left_fit os (without_descriptor os p fd) (λ d. not (n.pid == p && d.number == fd)) n (λ d keeps is. is) fit) os.processes records.processes;
    described = list_all-weaker (λ d. is_described os d.id) (λ d. is_described (without_descriptor os p fd) d.id) (λ d is. described_still d.id is) os.descriptions records.described;
  })
    where
      by_descriptor : (i : ℕ) (x : Option DescriptorNote) → descriptor_named fd process.descriptors ≡ x → is_described os i ≡ true → is_described (without_descriptor os p fd) i ≡ true
      by_descriptor i None none is = named_still i (λ d some. absurd (let e : None ≡ Some d = sym none ∙ some in cc)) is
      by_descriptor i (Some d) some is = elim (d.description == i) as (λ b. (d.description == i) ≡ b → is_described (without_descriptor os p fd) i ≡ true) [
        | true ↦ λ same. ap (is_described (without_descriptor os p fd)) (sym (eqb-true d.description i same)) ∙ still d some
        | false ↦ λ other. named_still i (λ j found. ap (λ (k : DescriptorNote). k.description == i) (same_descriptor (descriptor_named fd process.descriptors) j d found some) ∙ other) is
      ] refl

      described_still : (i : ℕ) → is_described os i ≡ true → is_described (without_descriptor os p fd) i ≡ true
      described_still i is = by_descriptor i (descriptor_named fd process.descriptors) refl is

-- ---- a descriptor is put among the others

module _ (fd id : ℕ) (ds : List DescriptorNote) where
  abbrev below : DescriptorNote → Bool
  below d = nat_lt d.number fd

  abbrev above : DescriptorNote → Bool
  above d = nat_lt fd d.number

  abbrev it : DescriptorNote
  it = record { number = fd; description = id }

  abbrev numbered : ℕ → DescriptorNote → Bool
  numbered q d = d.number == q

  no_less : (a b : ℕ) → b ≤ a → nat_lt a b ≡ false
  no_less a b le = grind arith

  less : (a b : ℕ) → a < b → nat_lt a b ≡ true
  less a b lt = grind arith

  at_number : (P : ℕ → Type 0) (q : ℕ) (d : DescriptorNote) → numbered q d ≡ true → P q → P d.number
  at_number P q d is holds = subst P (sym (eqb-true d.number q is)) holds

  -- which is found by its number
  pub found-joined : (q : ℕ) → descriptor_named q (joined_by fd id ds) ≡ cond (q == fd) (Some it) (descriptor_named q ds)
  found-joined q = find-append (numbered q) (filter below ds) (it ∷ filter above ds) ∙ elim (q == fd) as (λ b. (q == fd) ≡ b →
      option_or (find (numbered q) (filter below ds)) (cond (fd == q) (Some it) (find (numbered q) (filter above ds))) ≡ cond b (Some it) (descriptor_named q ds)) [
        | true ↦ λ same.
            let e = eqb-true q fd same in
            (λ i. option_or (find-left below (numbered q) ds (λ d is. at_number (λ k. nat_lt k fd ≡ false) q d is (no_less q fd (omega (arith, e)))) i)
            (cond (eq-eqb fd q (sym e) i) (Some it) (find (numbered q) (filter above ds))))
        | false ↦ λ other.
            let apart = eqb-false q fd other in
            let not_it : (fd == q) ≡ false = ne_eqb fd q (λ e. apart (sym e)) in
            (λ i. option_or (find (numbered q) (filter below ds)) (cond (not_it i) (Some it) (find (numbered q) (filter above ds))))
            ∙ elim (nat_lt q fd) as (λ b. nat_lt q fd ≡ b → option_or (find (numbered q) (filter below ds)) (find (numbered q) (filter above ds)) ≡ descriptor_named q ds) [
              | true ↦ λ lower.
                  let lt = ltb-true q fd lower in
                  (λ i. option_or (find-kept below (numbered q) ds (λ d is. at_number (λ k. nat_lt k fd ≡ true) q d is lower) i)
                  (find-left above (numbered q) ds (λ d is. at_number (λ k. nat_lt fd k ≡ false) q d is (no_less fd q (omega (arith, lt)))) i))
                  ∙ or_none (descriptor_named q ds)
              | false ↦ λ higher.
                  let ge = ltb-false q fd higher in
                  (λ i. option_or (find-left below (numbered q) ds (λ d is. at_number (λ k. nat_lt k fd ≡ false) q d is higher) i)
                  (find-kept above (numbered q) ds (λ d is. at_number (λ k. nat_lt fd k ≡ true) q d is (less fd q (omega (arith, ge, apart)))) i))
            ] refl
      ] refl

  -- the numbers stay different
  module _ (distinct : are_distinct (map (λ d. d.number) ds) ≡ true) where
    joined_few : (q : ℕ) → count_by (numbered q) (joined_by fd id ds) ≤ 1
    joined_few q =
        let most = count_by-distinct (λ (d : DescriptorNote). d.number) ds q distinct in
        let sum = count_by-append (numbered q) (filter below ds) (it ∷ filter above ds) in
        let behind = count_by-cons (numbered q) it (filter above ds) in
        let lower = count_by-filter below (numbered q) ds in
        let upper = count_by-filter above (numbered q) ds in
        let fewer = count_by-parted below (numbered q) ds in
        let also = count_by-parted above (numbered q) ds in
        elim (fd == q) as (λ b. (fd == q) ≡ b → count_by (numbered q) (it ∷ filter above ds) ≡ cond b 1 0 + count_by (numbered q) (filter above ds) → count_by (numbered q) (joined_by fd id ds) ≤ 1) [
          | true ↦ λ same one.
              let e = eqb-true fd q same in
              let none = count_by-never (λ d. below d && numbered q d) ds (λ d. none_both (below d) (numbered q d) (λ is. at_number (λ k. nat_lt k fd ≡ false) q d is (no_less q fd (omega (arith, e))))) in
              let zero = count_by-never (λ d. above d && numbered q d) ds (λ d. none_both (above d) (numbered q d) (λ is. at_number (λ k. nat_lt fd k ≡ false) q d is (no_less fd q (omega (arith, e))))) in
              omega (arith, one, sum, lower, upper, none, zero)
          | false ↦ λ other one. elim (nat_lt q fd) as (λ b. nat_lt q fd ≡ b → count_by (numbered q) (joined_by fd id ds) ≤ 1) [
            | true ↦ λ low.
                let lt = ltb-true q fd low in
                let zero = count_by-never (λ d. above d && numbered q d) ds (λ d. none_both (above d) (numbered q d) (λ is. at_number (λ k. nat_lt fd k ≡ false) q d is (no_less fd q (omega (arith, lt))))) in
                omega (arith, one, sum, upper, zero, fewer, most)
            | false ↦ λ high.
                let none = count_by-never (λ d. below d && numbered q d) ds (λ d. none_both (below d) (numbered q d) (λ is. at_number (λ k. nat_lt k fd ≡ false) q d is high)) in
                omega (arith, one, sum, lower, none, also, most)
          ] refl
        ] refl behind

    pub joined-distinct : are_distinct (map (λ d. d.number) (joined_by fd id ds)) ≡ true
    joined-distinct = distinct_counted (λ (d : DescriptorNote). d.number) (joined_by fd id ds) joined_few

  -- what others name is named still, and so is what it names
  pub joined-names : (test : DescriptorNote → Bool) → list_any test (filter (λ d. not (d.number == fd)) ds) ≡ true → list_any test (joined_by fd id ds) ≡ true
  joined-names test some =
      let others : DescriptorNote → Bool = λ d. not (d.number == fd) && test d in
      let d = some_of (find others ds) (find-there others ds (sym (list_any-among (λ j. not (j.number == fd)) test ds) ∙ some)) in
      let parts = and_parts (not (d.0.number == fd)) (test d.0) (find-passes others ds d.0 d.1) in
      let apart = eqb-false d.0.number fd (not-true _ parts.0) in
      folds.list_any-append test (filter below ds) (it ∷ filter above ds)
      ∙ elim (nat_lt d.0.number fd) as (λ b. nat_lt d.0.number fd ≡ b → (list_any test (filter below ds) || (test it || list_any test (filter above ds))) ≡ true) [
        | true ↦ λ lower. or_left _ _ (list_any-among below test ds ∙ list_any-found (λ (j : DescriptorNote). j.number) others (λ j. below j && test j) ds d.0 d.1 (and_from _ _ lower parts.1))
        | false ↦ λ higher.
            let ge = ltb-false d.0.number fd higher in
            or_right _ _ (or_right _ _ (list_any-among above test ds
            ∙ list_any-found (λ (j : DescriptorNote). j.number) others (λ j. above j && test j) ds d.0 d.1 (and_from _ _ (less fd d.0.number (omega (arith, ge, apart))) parts.1)))
      ] refl

  pub joined-there : (test : DescriptorNote → Bool) → list_all test ds ≡ true → test it ≡ true → list_all test (joined_by fd id ds) ≡ true
  joined-there test all is = folds.list_all-append test (filter below ds) (it ∷ filter above ds)
      ∙ and_from _ _ (list_all-filter below test test (λ d keeps j. j) ds all) (and_from _ _ is (list_all-filter above test test (λ d keeps j. j) ds all))

-- ---- the records with one more, or another one

module _ (os : LibOs) (p fd id : ℕ) (process : ProcessNote) (records : FitsRecords os) (there : process_named p os.processes ≡ Some process) (alive : process.code ≡ None)
    (opened : is_some (description_named id os.descriptions) ≡ true) where
  abbrev joined : LibOs
  joined = with_descriptor os p fd id

  names_joined : (i : ℕ) (n : ProcessNote) → list_any (names_it i) (left_by p fd n) ≡ true → list_any (names_it i) (joined_in p fd id n) ≡ true
  names_joined i n some = elim (n.pid == p) as (λ b. list_any (names_it i) (filter (λ d. not (b && d.number == fd)) n.descriptors) ≡ true
      → list_any (names_it i) (cond b (joined_by fd id n.descriptors) n.descriptors) ≡ true) [
        | true ↦ λ left. joined-names fd id n.descriptors (names_it i) left
        | false ↦ λ left. sym (list_any-among (λ d. not (false && d.number == fd)) (names_it i) n.descriptors) ∙ left
      ] some

  described_joined : (i : ℕ) → is_described (without_descriptor os p fd) i ≡ true → is_described joined i ≡ true
  described_joined i is =
      let names : ProcessNote → Bool = λ n. list_any (names_it i) n.descriptors in
      list_any-map (redescribed (joined_in p fd id)) names (λ n. list_any (names_it i) (joined_in p fd id n)) (λ _. refl) os.processes
      ∙ list_any-weaker (λ n. list_any (names_it i) (left_by p fd n)) (λ n. list_any (names_it i) (joined_in p fd id n)) (names_joined i) os.processes
      (sym (list_any-map (redescribed (left_by p fd)) names (λ n. list_any (names_it i) (left_by p fd n)) (λ _. refl) os.processes) ∙ is)

  fit_joined : (n : ProcessNote) → process_named n.pid os.processes ≡ Some n → is_fit_process os n ≡ true → is_fit_process joined (redescribed (joined_in p fd id) n) ≡ true
  fit_joined n found fit = elim (n.pid == p) as (λ b. (n.pid == p) ≡ b → is_fit_process joined (record n { descriptors = cond b (joined_by fd id n.descriptors) n.descriptors }) ≡ true) [
    | true ↦ λ same.
        let e : n ≡ process = same_process (process_named p os.processes) n process (ap (λ q. process_named q os.processes) (sym (eqb-true n.pid p same)) ∙ found) there in
        let code : n.code ≡ None = ap (λ (m : ProcessNote). m.code) e ∙ alive in
        let parts = and_parts (are_distinct (map (λ d. d.number) n.descriptors)) _ fit in
        let named = and_parts (list_all (λ d. is_some (description_named d.description os.descriptions)) n.descriptors) _ parts.1 in
        and_from _ _ (joined-distinct fd id n.descriptors parts.0) (and_from _ _
        (joined-there fd id n.descriptors (λ d. is_some (description_named d.description os.descriptions)) named.0 opened)
        (ap (λ c. not (is_some c) || is_none (joined_by fd id n.descriptors)) code))
    | false ↦ λ _. fit
  ] refl

  -- The records fit with it, where what it named before is named still.
  pub FitsRecords-with_descriptor : FitsRecords (without_descriptor os p fd) → FitsRecords (with_descriptor os p fd id)
  FitsRecords-with_descriptor left = FitsRecords-redone os (joined_in p fd id) os.descriptions records (record {
    ids = records.ids;
    access = records.access;
    append = records.append;
    processes = list_all-keyed (λ (n : ProcessNote). n.pid) (is_fit_process os) (λ n. is_fit_process joined (redescribed (joined_in p fd id) n)) os.processes records.pids fit_joined records.processes;
    described = list_all-weaker (λ d. is_described (without_descriptor os p fd) d.id) (λ d. is_described joined d.id) (λ d is. described_joined d.id is) os.descriptions left.described;
  })
