-- Lists of records: what is found among those that are kept, and what holds of records with different keys.
use Rattle.std.specs.Prelude.{◌≡◌, ℕ, ◌+◌, ◌≤◌, ◌==◌, Bool, true, false, not, ◌&&◌, ◌||◌, cond, List, [], ◌∷◌, ◌++◌, map, filter, find, count_by, is_some}
use Rattle.std.specs.List.{list_all, list_any}
use Rattle.std.specs.Option.{option_or}
use Rattle.std.specs.declared.option.Option.{Option}
use Rattle.std.specs.declared.option.Option.TheVariants.{None, Some}
use Rattle.std.proofs.Common.{refl, sym, ap, ◌∙◌, arith, eq-eqb, ne_eqb}
use Rattle.std.proofs.lemmas.Bool.{and_parts, and_from, not-true, both_ways, cond-true, cond-false}
use Rattle.turn_sched.specs.Lists.{contains}
use Rattle.libos_state.specs.Fits.{are_distinct}
use Rattle.libos_state.proofs.Distinct.{contains-map, list_any-found}
use Rattle.libos_state.proofs.Naming.{count_by-cons}

pub fails_unless : (a b : Bool) → (a ≡ true → b ≡ true) → b ≡ false → a ≡ false
fails_unless true b so none = absurd (let e : true ≡ false = sym (so refl) ∙ none in cc)
fails_unless false b so none = refl

pub fails_where : (a b : Bool) → (a ≡ true → b ≡ false) → b ≡ true → a ≡ false
fails_where true b so is = absurd (let e : true ≡ false = sym is ∙ so refl in cc)
fails_where false b so is = refl

pub none_both : (a b : Bool) → (b ≡ true → a ≡ false) → (a && b) ≡ false
none_both true true so = so refl
none_both true false so = refl
none_both false b so = refl

module _ {N : Type 0} where
  pub or_none : (x : Option N) → option_or x None ≡ x
  or_none None = refl
  or_none (Some n) = refl

  pub list_any-among : (keeps test : N → Bool) (xs : List N) → list_any test (filter keeps xs) ≡ list_any (λ x. keeps x && test x) xs
  list_any-among keeps test [] = refl
  list_any-among keeps test (x ∷ xs) = elim (keeps x) as (λ b. list_any test (cond b (x ∷ filter keeps xs) (filter keeps xs)) ≡ ((b && test x) || list_any (λ y. keeps y && test y) xs)) [
    | true ↦ ap (λ b. test x || b) (list_any-among keeps test xs)
    | false ↦ list_any-among keeps test xs
  ]

  pub filter-all : (keeps : N → Bool) (xs : List N) → ((x : N) → keeps x ≡ true) → filter keeps xs ≡ xs
  filter-all keeps [] all = refl
  filter-all keeps (x ∷ xs) all = cond-true (keeps x) (x ∷ filter keeps xs) (filter keeps xs) (all x) ∙ ap (λ ys. x ∷ ys) (filter-all keeps xs all)

  -- What is looked for is kept, or none of it is.
  pub find-kept : (keeps test : N → Bool) (xs : List N) → ((x : N) → test x ≡ true → keeps x ≡ true) → find test (filter keeps xs) ≡ find test xs
  find-kept keeps test [] so = refl
  find-kept keeps test (x ∷ xs) so = elim (keeps x) as (λ b. keeps x ≡ b → find test (cond b (x ∷ filter keeps xs) (filter keeps xs)) ≡ cond (test x) (Some x) (find test xs)) [
    | true ↦ λ _. ap (cond (test x) (Some x)) (find-kept keeps test xs so)
    | false ↦ λ left. find-kept keeps test xs so ∙ sym (cond-false (test x) (Some x) (find test xs) (fails_unless (test x) (keeps x) (so x) left))
  ] refl

  pub find-left : (keeps test : N → Bool) (xs : List N) → ((x : N) → test x ≡ true → keeps x ≡ false) → find test (filter keeps xs) ≡ None
  find-left keeps test [] so = refl
  find-left keeps test (x ∷ xs) so = elim (keeps x) as (λ b. keeps x ≡ b → find test (cond b (x ∷ filter keeps xs) (filter keeps xs)) ≡ None) [
    | true ↦ λ kept. cond-false (test x) (Some x) (find test (filter keeps xs)) (fails_where (test x) (keeps x) (so x) kept) ∙ find-left keeps test xs so
    | false ↦ λ _. find-left keeps test xs so
  ] refl

  pub find-append : (test : N → Bool) (xs ys : List N) → find test (xs ++ ys) ≡ option_or (find test xs) (find test ys)
  find-append test [] ys = refl
  find-append test (x ∷ xs) ys = elim (test x) as (λ b. cond b (Some x) (find test (xs ++ ys)) ≡ option_or (cond b (Some x) (find test xs)) (find test ys)) [
    | true ↦ refl
    | false ↦ find-append test xs ys
  ]

  pub find-there : (test : N → Bool) (xs : List N) → list_any test xs ≡ true → is_some (find test xs) ≡ true
  find-there test [] some = absurd (cc)
  find-there test (x ∷ xs) some = elim (test x) as (λ b. (b || list_any test xs) ≡ true → is_some (cond b (Some x) (find test xs)) ≡ true) [
    | true ↦ λ _. refl
    | false ↦ λ rest. find-there test xs rest
  ] some

  pub count_by-never : (test : N → Bool) (xs : List N) → ((x : N) → test x ≡ false) → count_by test xs ≡ 0
  count_by-never test [] none = refl
  count_by-never test (x ∷ xs) none = omega (arith, count_by-cons test x xs, ap (λ b. cond {A = ℕ} b 1 0) (none x), count_by-never test xs none)

  none_counted : (test : N → Bool) (xs : List N) → count_by test xs ≡ 0 → list_any test xs ≡ false
  none_counted test [] none = refl
  none_counted test (x ∷ xs) none = elim (test x) as (λ b. count_by test (x ∷ xs) ≡ cond b 1 0 + count_by test xs → (b || list_any test xs) ≡ false) [
    | true ↦ λ sum. absurd (omega (arith, sum, none))
    | false ↦ λ sum. none_counted test xs (omega (arith, sum, none))
  ] (count_by-cons test x xs)

  module _ (key : N → ℕ) where
    abbrev rest_distinct : (y : N) (ys : List N) → are_distinct (map key (y ∷ ys)) ≡ true → are_distinct (map key ys) ≡ true
    rest_distinct y ys distinct = (and_parts (not (contains (map key ys) (key y))) (are_distinct (map key ys)) distinct).1

    found_first : (y : N) (ys : List N) → find (λ m. key m == key y) (y ∷ ys) ≡ Some y
    found_first y ys = cond-true (key y == key y) (Some y) (find (λ m. key m == key y) ys) (eq-eqb (key y) (key y) refl)

    found_behind : (y : N) (ys : List N) (n : N) → are_distinct (map key (y ∷ ys)) ≡ true → find (λ m. key m == key n) ys ≡ Some n → find (λ m. key m == key n) (y ∷ ys) ≡ Some n
    found_behind y ys n distinct is = cond-false (key y == key n) (Some y) (find (λ m. key m == key n) ys) (ne_eqb (key y) (key n) apart) ∙ is
      where
        apart : key y ≡ key n → ⊥
        apart e =
            let parts = and_parts (not (contains (map key ys) (key y))) (are_distinct (map key ys)) distinct in
            both_ways (contains (map key ys) (key y)) (not-true _ parts.0)
            (ap (contains (map key ys)) e ∙ contains-map key ys (key n) ∙ list_any-found key (λ m. key m == key n) (λ m. key m == key n) ys n is (eq-eqb (key n) (key n) refl))

    -- What holds of each record that its key finds.
    pub map-keyed : {Y : Type 0} (f g : N → Y) (ns : List N) → are_distinct (map key ns) ≡ true → ((n : N) → find (λ m. key m == key n) ns ≡ Some n → f n ≡ g n) → map f ns ≡ map g ns
    map-keyed f g [] distinct same = refl
    map-keyed f g (y ∷ ys) distinct same =
        let here = same y (found_first y ys) in
        let rest = map-keyed f g ys (rest_distinct y ys distinct) (λ n is. same n (found_behind y ys n distinct is)) in
        λ i. here i ∷ rest i

    pub filter-keyed : (f g : N → Bool) (ns : List N) → are_distinct (map key ns) ≡ true → ((n : N) → find (λ m. key m == key n) ns ≡ Some n → f n ≡ g n) → filter f ns ≡ filter g ns
    filter-keyed f g [] distinct same = refl
    filter-keyed f g (y ∷ ys) distinct same =
        let here = same y (found_first y ys) in
        let rest = filter-keyed f g ys (rest_distinct y ys distinct) (λ n is. same n (found_behind y ys n distinct is)) in
        λ i. cond (here i) (y ∷ rest i) (rest i)

    pub list_all-keyed : (ok other : N → Bool) (ns : List N) → are_distinct (map key ns) ≡ true → ((n : N) → find (λ m. key m == key n) ns ≡ Some n → ok n ≡ true → other n ≡ true)
        → list_all ok ns ≡ true → list_all other ns ≡ true
    list_all-keyed ok other [] distinct so all = refl
    list_all-keyed ok other (y ∷ ys) distinct so all =
        let parts = and_parts (ok y) (list_all ok ys) all in
        and_from (other y) (list_all other ys) (so y (found_first y ys) parts.0)
        (list_all-keyed ok other ys (rest_distinct y ys distinct) (λ n is. so n (found_behind y ys n distinct is)) parts.1)

    -- Keys that stand once each are different.
    pub distinct_counted : (ns : List N) → ((q : ℕ) → count_by (λ n. key n == q) ns ≤ 1) → are_distinct (map key ns) ≡ true
    distinct_counted [] few = refl
    distinct_counted (y ∷ ys) few =
        let here : cond {A = ℕ} (key y == key y) 1 0 ≡ 1 = ap (λ b. cond b 1 0) (eq-eqb (key y) (key y) refl) in
        let none : count_by (λ n. key n == key y) ys ≡ 0 = omega (arith, few (key y), here, count_by-cons (λ n. key n == key y) y ys) in
        and_from _ _ (ap not (contains-map key ys (key y) ∙ none_counted (λ n. key n == key y) ys none))
        (distinct_counted ys (λ q. omega (arith, few q, count_by-cons (λ n. key n == q) y ys)))
