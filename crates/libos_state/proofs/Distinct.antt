-- Lists of records: what a search finds in them, and keys that are all different.
use Rattle.std.specs.Prelude.{◌≡◌, ℕ, ◌+◌, ◌≤◌, ◌==◌, Bool, true, false, not, ◌||◌, cond, List, [], ◌∷◌, map, filter, find, count_by, is_some}
use Rattle.std.specs.List.{list_any}
use Rattle.std.specs.Option.{option_map}
use Rattle.std.specs.declared.option.Option.{Option}
use Rattle.std.specs.declared.option.Option.TheVariants.{None, Some}
use Rattle.std.proofs.Common.{refl, sym, ap, ◌∙◌, arith, eq-eqb, ne_eqb}
use Rattle.std.proofs.lemmas.Bool.{and_parts, and_from, or_parts, or_from, not-true, both_ways, cond-true, cond-false}
use Rattle.std.proofs.lemmas.List.Sums.{sum_by-cons}
use Rattle.turn_sched.specs.Lists.{contains}
use Rattle.turn_sched.proofs.Renamed.{list_any-map}
use Rattle.libos_state.specs.Fits.{are_distinct}

-- The value that is there.
pub some_of : {A : Type 0} (x : Option A) → is_some x ≡ true → (a : A) × (x ≡ Some a)
some_of None some = absurd (cc)
some_of (Some a) some = (a, refl)

module _ {N : Type 0} where
  -- Something is found where so many pass.
  pub find-counted : (test : N → Bool) (notes : List N) → 1 ≤ count_by test notes → is_some (find test notes) ≡ true
  find-counted test [] some = absurd (omega arith)
  find-counted test (m ∷ notes) some =
      let sum : count_by test (m ∷ notes) ≡ cond (test m) 1 0 + count_by test notes = sum_by-cons (λ n. cond (test n) 1 0) m notes in
      elim (test m) as (λ b. count_by test (m ∷ notes) ≡ cond b 1 0 + count_by test notes → is_some (cond b (Some m) (find test notes)) ≡ true) [
        | true ↦ λ _. refl
        | false ↦ λ rest. find-counted test notes (omega arith)
      ] sum

  pub find-absent : (test : N → Bool) (notes : List N) → list_any test notes ≡ false → find test notes ≡ None
  find-absent test [] none = refl
  find-absent test (m ∷ notes) none =
      let parts = or_parts (test m) (list_any test notes) none in
      cond-false (test m) (Some m) (find test notes) parts.0 ∙ find-absent test notes parts.1

  -- What is found among the records that change, and among those that are kept.
  found_map : {Y : Type 0} (f : N → Y) (b : Bool) (m : N) (rest : Option N) → cond b (Some (f m)) (option_map f rest) ≡ option_map f (cond b (Some m) rest)
  found_map f true m rest = refl
  found_map f false m rest = refl

  pub find-map : {Y : Type 0} (f : N → Y) (test : Y → Bool) (notes : List N) → find test (map f notes) ≡ option_map f (find (λ n. test (f n)) notes)
  find-map f test [] = refl
  find-map f test (m ∷ notes) = ap (cond (test (f m)) (Some (f m))) (find-map f test notes) ∙ found_map f (test (f m)) m (find (λ n. test (f n)) notes)

  pub list_any-filter : (keeps test : N → Bool) (notes : List N) → list_any test notes ≡ false → list_any test (filter keeps notes) ≡ false
  list_any-filter keeps test [] none = refl
  list_any-filter keeps test (m ∷ notes) none =
      let parts = or_parts (test m) (list_any test notes) none in
      elim (keeps m) as (λ b. list_any test (cond b (m ∷ filter keeps notes) (filter keeps notes)) ≡ false) [
        | true ↦ or_from _ _ parts.0 (list_any-filter keeps test notes parts.1)
        | false ↦ list_any-filter keeps test notes parts.1
      ]

  module _ (key : N → ℕ) where
    pub contains-map : (notes : List N) (k : ℕ) → contains (map key notes) k ≡ list_any (λ n. key n == k) notes
    contains-map notes k = list_any-map key (λ x. x == k) (λ n. key n == k) (λ _. refl) notes

    pub list_any-found : (test passes : N → Bool) (notes : List N) (n : N) → find test notes ≡ Some n → passes n ≡ true → list_any passes notes ≡ true
    list_any-found test passes [] n is holds = absurd (cc)
    list_any-found test passes (m ∷ notes) n is holds = elim (test m) as (λ b. cond b (Some m) (find test notes) ≡ Some n → (passes m || list_any passes notes) ≡ true) [
      | true ↦ λ same. let e : m ≡ n = cc in ap (λ b. b || list_any passes notes) (ap passes e ∙ holds)
      | false ↦ λ rest. or_right_of (passes m) (list_any passes notes) (list_any-found test passes notes n rest holds)
    ] is
      where
        or_right_of : (a b : Bool) → b ≡ true → (a || b) ≡ true
        or_right_of true b is = refl
        or_right_of false b is = is

    -- A record that is found anyhow is found by its key, where the keys are different.
    pub find-key : (test : N → Bool) (notes : List N) (n : N) → are_distinct (map key notes) ≡ true → find test notes ≡ Some n → find (λ m. key m == key n) notes ≡ Some n
    find-key test [] n distinct is = absurd (cc)
    find-key test (m ∷ notes) n distinct is =
        let parts = and_parts (not (contains (map key notes) (key m))) (are_distinct (map key notes)) distinct in
        elim (test m) as (λ b. cond b (Some m) (find test notes) ≡ Some n → cond (key m == key n) (Some m) (find (λ j. key j == key n) notes) ≡ Some n) [
          | true ↦ λ same. let e : m ≡ n = cc in cond-true (key m == key n) _ _ (eq-eqb (key m) (key n) (ap key e)) ∙ same
          | false ↦ λ rest. cond-false (key m == key n) _ _ (ne_eqb (key m) (key n) (λ e. apart e parts.0 rest)) ∙ find-key test notes n parts.1 rest
        ] is
      where
        apart : key m ≡ key n → not (contains (map key notes) (key m)) ≡ true → find test notes ≡ Some n → ⊥
        apart e absent rest = both_ways (contains (map key notes) (key m)) (not-true _ absent)
            (ap (contains (map key notes)) e ∙ contains-map notes (key n) ∙ list_any-found test (λ j. key j == key n) notes n rest (eq-eqb (key n) (key n) refl))

    -- Keys stay different where records are left out, and where they change otherwise.
    pub are_distinct-filter : (keeps : N → Bool) (notes : List N) → are_distinct (map key notes) ≡ true → are_distinct (map key (filter keeps notes)) ≡ true
    are_distinct-filter keeps [] distinct = refl
    are_distinct-filter keeps (m ∷ notes) distinct =
        let parts = and_parts (not (contains (map key notes) (key m))) (are_distinct (map key notes)) distinct in
        let rest = are_distinct-filter keeps notes parts.1 in
        let absent : list_any (λ n. key n == key m) notes ≡ false = sym (contains-map notes (key m)) ∙ not-true _ parts.0 in
        let left : contains (map key (filter keeps notes)) (key m) ≡ false = contains-map (filter keeps notes) (key m) ∙ list_any-filter keeps (λ n. key n == key m) notes absent in
        elim (keeps m) as (λ b. are_distinct (map key (cond b (m ∷ filter keeps notes) (filter keeps notes))) ≡ true) [
          | true ↦ and_from _ _ (ap not left) rest
          | false ↦ rest
        ]

    pub map-keys : (f : N → N) → ((n : N) → key (f n) ≡ key n) → (notes : List N) → map key (map f notes) ≡ map key notes
    map-keys f same [] = refl
    map-keys f same (m ∷ notes) = λ i. same m i ∷ map-keys f same notes i
