-- No handle stands twice in records that fit the objects of a world.
use Rattle.std.specs.Prelude.{◌≡◌, ℕ, ◌+◌, ◌≤◌, ◌==◌, Bool, true, false, not, ◌||◌, cond, List, [], ◌∷◌, ◌++◌, map, filter, find, count_by, length, slice_index}
use Rattle.std.specs.List.{list_any}
use Rattle.std.specs.declared.option.Option.{Option}
use Rattle.std.specs.declared.option.Option.TheVariants.{None, Some}
use Rattle.std.proofs.Common.{refl, sym, ap, subst, ◌∙◌, arith, eq-eqb, eqb-true}
use Rattle.std.proofs.lemmas.Bool.{and_parts, and_from, or_parts, not-true, cond-true}
use Rattle.std.proofs.lemmas.List.Sums.{sum_by-append}
use Rattle.turn_sched.specs.Lists.{contains}
use Rattle.abi_calls.specs.Objects.{Objects}
use Rattle.libos_state.specs.declared.cont.Cont.{Cont}
use Rattle.libos_state.specs.declared.cont.Stage.{Stage}
use Rattle.libos_state.specs.declared.cont.Stage.TheVariants.{CloseStream}
use Rattle.libos_state.specs.declared.notes.Description.{Description}
use Rattle.libos_state.specs.declared.notes.ProcessNote.{ProcessNote}
use Rattle.libos_state.specs.declared.notes.ThreadNote.{ThreadNote}
use Rattle.libos_state.specs.declared.state.LibOs.{LibOs}
use Rattle.libos_state.specs.Records.{description_with}
use Rattle.libos_state.specs.Descriptors.{naming_others, without_stream, without_description}
use Rattle.libos_state.specs.Named.{Named, recorded, times_named, closed_name, kept_names}
use Rattle.libos_state.specs.Fits.{FitsRecords, FitsObjects, FitsStage, are_distinct, ending_at}
use Rattle.libos_state.specs.Alone.{handles_recorded, has_handles_once, HasNoRecords}
use Rattle.libos_state.proofs.Descriptors.{recorded-redescribed}
use Rattle.libos_state.proofs.Distinct.{contains-map, find-key}
use Rattle.libos_state.proofs.Naming.{count_by-cons, find-passes, times_recorded, times_named-recorded, times_named-most, times_recorded-most, times_named-cons}

-- ---- numbers that stand once each

list_any-uncounted : {N : Type 0} (test : N → Bool) (xs : List N) → count_by test xs ≡ 0 → list_any test xs ≡ false
list_any-uncounted test [] none = refl
list_any-uncounted test (x ∷ xs) none = elim (test x) as (λ b. count_by test (x ∷ xs) ≡ cond b 1 0 + count_by test xs → (b || list_any test xs) ≡ false) [
  | true ↦ λ count. absurd (omega (arith, count, none))
  | false ↦ λ count. list_any-uncounted test xs (omega (arith, count, none))
] (count_by-cons test x xs)

one_of : (k : ℕ) → ◌≡◌ {A = ℕ} (cond (k == k) 1 0) 1
one_of k = ap (λ b. cond {A = ℕ} b 1 0) (eq-eqb k k refl)

pub are_distinct-once : (xs : List ℕ) → ((q : ℕ) → count_by (λ x. x == q) xs ≤ 1) → are_distinct xs ≡ true
are_distinct-once [] once = refl
are_distinct-once (x ∷ xs) once = and_from _ _
    (ap not (list_any-uncounted (λ y. y == x) xs (omega (arith, once x, count_by-cons (λ y. y == x) x xs, one_of x))))
    (are_distinct-once xs (λ q. omega (arith, once q, count_by-cons (λ y. y == q) x xs)))

count_by-map : {N : Type 0} (key : N → ℕ) (q : ℕ) (xs : List N) → count_by (λ k. k == q) (map key xs) ≡ count_by (λ x. key x == q) xs
count_by-map key q [] = refl
count_by-map key q (x ∷ xs) = count_by-cons (λ k. k == q) (key x) (map key xs) ∙ ap (λ n. cond (key x == q) 1 0 + n) (count_by-map key q xs) ∙ sym (count_by-cons (λ y. key y == q) x xs)

count_by-append : (q : ℕ) (xs ys : List ℕ) → count_by (λ k. k == q) (xs ++ ys) ≡ count_by (λ k. k == q) xs + count_by (λ k. k == q) ys
count_by-append q xs ys = sum_by-append (λ k. cond (k == q) 1 0) xs ys

-- ---- the handles of the records

count_by-handles_recorded : (q : ℕ) (os : LibOs) → count_by (λ k. k == q) (handles_recorded os) ≡ times_recorded q os
count_by-handles_recorded q os =
    let processes : List ℕ = map (λ n. n.handle) os.processes in
    let threads : List ℕ = map (λ n. n.handle) os.threads in
    let events : List ℕ = map (λ n. n.event) os.threads in
    let descriptions : List ℕ = map (λ d. d.handle) os.descriptions in
    omega (
      arith,
      count_by-append q processes (threads ++ (events ++ descriptions)),
      count_by-append q threads (events ++ descriptions),
      count_by-append q events descriptions,
      count_by-map (λ (n : ProcessNote). n.handle) q os.processes,
      count_by-map (λ (n : ThreadNote). n.handle) q os.threads,
      count_by-map (λ (n : ThreadNote). n.event) q os.threads,
      count_by-map (λ (d : Description). d.handle) q os.descriptions,
    )

has_handles_once-few : (os : LibOs) → ((q : ℕ) → times_recorded q os ≤ 1) → has_handles_once os ≡ true
has_handles_once-few os few = are_distinct-once (handles_recorded os) (λ q. omega (arith, few q, count_by-handles_recorded q os))

pub has_handles_once-fits : (os : LibOs) (o : Objects) (kept : List Named) (ending : Option ℕ) → FitsObjects os o kept ending → has_handles_once os ≡ true
has_handles_once-fits os o kept ending fits = has_handles_once-few os (times_recorded-most os o kept ending fits)

pub has_handles_once-none : (os : LibOs) → HasNoRecords os → has_handles_once os ≡ true
has_handles_once-none os none = has_handles_once-few os (λ q. omega (
  arith,
  ap (count_by (λ (n : ProcessNote). n.handle == q)) none.processes,
  ap (count_by (λ (n : ThreadNote). n.handle == q)) none.threads,
  ap (count_by (λ (n : ThreadNote). n.event == q)) none.threads,
  ap (count_by (λ (d : Description). d.handle == q)) none.descriptions,
))

-- ---- a stream that is closed

module _ {N : Type 0} (key : N → ℕ) (gone : N) where
  abbrev others : N → Bool
  others n = not (key n == key gone)

  filter-others : (xs : List N) → list_any (λ n. key n == key gone) xs ≡ false → filter others xs ≡ xs
  filter-others [] none = refl
  filter-others (x ∷ xs) none =
      let parts = or_parts (key x == key gone) (list_any (λ n. key n == key gone) xs) none in
      cond-true (others x) (x ∷ filter others xs) (filter others xs) (ap not parts.0) ∙ ap (λ ys. x ∷ ys) (filter-others xs parts.1)

  -- Where keys are different, all but the one of a key are counted without it.
  count_by-others : (test : N → Bool) (xs : List N) → are_distinct (map key xs) ≡ true → find (λ n. key n == key gone) xs ≡ Some gone
      → count_by test xs ≡ cond (test gone) 1 0 + count_by test (filter others xs)
  count_by-others test [] distinct is = absurd (cc)
  count_by-others test (x ∷ xs) distinct is =
      let parts = and_parts (not (contains (map key xs) (key x))) (are_distinct (map key xs)) distinct in
      elim (key x == key gone) as (λ b. (key x == key gone) ≡ b → cond b (Some x) (find (λ n. key n == key gone) xs) ≡ Some gone → count_by test (x ∷ xs) ≡ cond (test gone) 1 0 + count_by test (cond (not b) (x ∷ filter others xs) (filter others xs))) [
        | true ↦ λ here same.
            let e : x ≡ gone = cc in
            let absent : list_any (λ n. key n == key x) xs ≡ false = sym (contains-map key xs (key x)) ∙ not-true _ parts.0 in
            let rest = filter-others xs (subst (λ k. list_any (λ n. key n == k) xs ≡ false) (ap key e) absent) in
            count_by-cons test x xs ∙ ap (λ n. cond (test n) 1 0 + count_by test xs) e ∙ ap (λ ys. cond (test gone) 1 0 + count_by test ys) (sym rest)
        | false ↦ λ apart found.
            let some = count_by-others test xs parts.1 found in
            omega (arith, some, count_by-cons test x xs, count_by-cons test x (filter others xs))
      ] refl is

module _ (os : LibOs) (o : Objects) (h : ℕ) (records : FitsRecords os) where
  times_closed : (x : Option Description) → description_with h os.descriptions ≡ x → FitsObjects (without_description os x) o (closed_name os h ∷ []) None → (q : ℕ) → times_recorded q os ≤ 1
  times_closed None none fits q = times_recorded-most os o (closed_name os h ∷ []) None fits q
  times_closed (Some d) found fits q =
      let left : LibOs = without_description os (Some d) in
      let handle_is : d.handle ≡ h = eqb-true d.handle h (find-passes (λ j. j.handle == h) os.descriptions d found) in
      let by_id = find-key (λ (j : Description). j.id) (λ j. j.handle == h) os.descriptions d records.ids found in
      let parted = count_by-others (λ (j : Description). j.id) d (λ j. j.handle == q) os.descriptions records.ids by_id in
      let most = times_named-most left o (closed_name os h ∷ []) None fits q in
      let named = times_named-cons q h (closed_name os h).1 [] in
      let same : ◌≡◌ {A = ℕ} (cond (d.handle == q) 1 0) (cond (h == q) 1 0) = ap (λ k. cond (k == q) 1 0) handle_is in
      let kept : times_named q (recorded left) ≡ times_named q (recorded (record os { descriptions = left.descriptions })) =
      ap (times_named q) (recorded-redescribed (record os { descriptions = left.descriptions }) (naming_others d.id)) in
      omega (arith, parted, most, named, same, kept, times_named-recorded q (record os { descriptions = left.descriptions }))

closed_at : (os : LibOs) (o : Objects) (handles : List ℕ) → FitsRecords os → length handles ≡ 1
    → FitsObjects (without_stream os (slice_index handles 0)) o (map (closed_name os) handles) None → has_handles_once os ≡ true
closed_at os o [] records one fits = absurd (omega arith)
closed_at os o (h ∷ []) records one fits = has_handles_once-few os (times_closed os o h records (description_with h os.descriptions) refl fits)
closed_at os o (h ∷ k ∷ handles) records one fits = absurd (omega arith)

pub has_handles_once-served : (os : LibOs) (o : Objects) (c : Cont) (stage : Stage) → FitsStage os o c stage → has_handles_once os ≡ true
has_handles_once-served os o c CloseStream fits = closed_at os o c.handles fits.records fits.lists.handles fits.objects
has_handles_once-served os o c stage fits = has_handles_once-fits os o (kept_names os c stage) (ending_at c stage) fits.objects
