-- Lists of records of which some are left out: what is found in what is kept, and how often a key stands there.
use Rattle.std.specs.Prelude.{◌≡◌, ℕ, ◌+◌, ◌≤◌, ◌==◌, Bool, true, false, not, ◌||◌, cond, List, [], ◌∷◌, map, filter, find, count_by}
use Rattle.std.specs.List.{list_all, list_any}
use Rattle.std.specs.declared.option.Option.{Option}
use Rattle.std.specs.declared.option.Option.TheVariants.{None, Some}
use Rattle.std.proofs.Common.{refl, sym, ap, ◌∙◌, arith, eqb-true}
use Rattle.std.proofs.lemmas.Bool.{and_parts, and_from, or_parts, or_left, or_right, not-true, cond-true, cond-false}
use Rattle.turn_sched.specs.Lists.{contains}
use Rattle.libos_state.specs.Fits.{are_distinct}
use Rattle.libos_state.proofs.Distinct.{contains-map}
use Rattle.libos_state.proofs.Naming.{count_by-cons, find-uncounted}

module _ {N : Type 0} where
  -- A record that is found, if it is kept.
  abbrev pub kept_if : (N → Bool) → Option N → Option N
  kept_if keeps None = None
  kept_if keeps (Some n) = cond (keeps n) (Some n) None

  find-filter_left : (keeps test : N → Bool) (notes : List N) → find test notes ≡ None → find test (filter keeps notes) ≡ None
  find-filter_left keeps test [] none = refl
  find-filter_left keeps test (m ∷ notes) none = elim (test m) as (λ b. test m ≡ b → cond b (Some m) (find test notes) ≡ None → find test (filter keeps (m ∷ notes)) ≡ None) [
    | true ↦ λ _ some. absurd (cc)
    | false ↦ λ fails rest. elim (keeps m) as (λ b. find test (cond b (m ∷ filter keeps notes) (filter keeps notes)) ≡ None) [
      | true ↦ cond-false (test m) (Some m) (find test (filter keeps notes)) fails ∙ find-filter_left keeps test notes rest
      | false ↦ find-filter_left keeps test notes rest
    ]
  ] refl none

  -- Where one passes at most, the one that is kept is found among those that are kept.
  pub find-filter : (keeps test : N → Bool) (notes : List N) → count_by test notes ≤ 1 → find test (filter keeps notes) ≡ kept_if keeps (find test notes)
  find-filter keeps test [] few = refl
  find-filter keeps test (m ∷ notes) few =
      let sum : count_by test (m ∷ notes) ≡ cond (test m) 1 0 + count_by test notes = count_by-cons test m notes in
      elim (test m) as (λ b. test m ≡ b → count_by test (m ∷ notes) ≡ cond b 1 0 + count_by test notes → find test (filter keeps (m ∷ notes)) ≡ kept_if keeps (cond b (Some m) (find test notes))) [
        | true ↦ λ passes count. elim (keeps m) as (λ b. find test (cond b (m ∷ filter keeps notes) (filter keeps notes)) ≡ cond b (Some m) None) [
          | true ↦ cond-true (test m) (Some m) (find test (filter keeps notes)) passes
          | false ↦ find-filter_left keeps test notes (find-uncounted test notes (omega arith))
        ]
        | false ↦ λ fails count. elim (keeps m) as (λ b. find test (cond b (m ∷ filter keeps notes) (filter keeps notes)) ≡ kept_if keeps (find test notes)) [
          | true ↦ cond-false (test m) (Some m) (find test (filter keeps notes)) fails ∙ find-filter keeps test notes (omega arith)
          | false ↦ find-filter keeps test notes (omega arith)
        ]
      ] refl sum

  filter-uncounted : (test : N → Bool) (notes : List N) → count_by test notes ≡ 0 → filter test notes ≡ []
  filter-uncounted test [] none = refl
  filter-uncounted test (m ∷ notes) none = elim (test m) as (λ b. count_by test (m ∷ notes) ≡ cond b 1 0 + count_by test notes → cond b (m ∷ filter test notes) (filter test notes) ≡ []) [
    | true ↦ λ count. absurd (omega (arith, count, none))
    | false ↦ λ count. filter-uncounted test notes (omega (arith, count, none))
  ] (count_by-cons test m notes)

  -- The only one that passes is all that passes.
  pub filter-alone : (test : N → Bool) (notes : List N) (n : N) → find test notes ≡ Some n → count_by test notes ≤ 1 → filter test notes ≡ n ∷ []
  filter-alone test [] n is few = absurd (cc)
  filter-alone test (m ∷ notes) n is few = elim (test m) as (λ b. count_by test (m ∷ notes) ≡ cond b 1 0 + count_by test notes → cond b (Some m) (find test notes) ≡ Some n →
      cond b (m ∷ filter test notes) (filter test notes) ≡ n ∷ []) [
        | true ↦ λ count same.
            let e : m ≡ n = cc in
            let none = filter-uncounted test notes (omega (arith, count, few)) in
            λ i. e i ∷ none i
        | false ↦ λ count rest. filter-alone test notes n rest (omega (arith, count, few))
      ] (count_by-cons test m notes) is

  pub list_any-weaker : (test weaker : N → Bool) → ((n : N) → test n ≡ true → weaker n ≡ true) → (notes : List N) → list_any test notes ≡ true → list_any weaker notes ≡ true
  list_any-weaker test weaker so [] some = absurd (cc)
  list_any-weaker test weaker so (m ∷ notes) some = elim (test m) as (λ b. test m ≡ b → (b || list_any test notes) ≡ true → (weaker m || list_any weaker notes) ≡ true) [
    | true ↦ λ here _. or_left (weaker m) (list_any weaker notes) (so m here)
    | false ↦ λ _ rest. or_right (weaker m) (list_any weaker notes) (list_any-weaker test weaker so notes rest)
  ] refl some

  -- What each of a list passes, where a test that it passes finds one in the list.
  pub list_all-within : (ok other : N → Bool) (notes : List N) → ((n : N) → ((test : N → Bool) → test n ≡ true → list_any test notes ≡ true) → ok n ≡ true → other n ≡ true)
      → list_all ok notes ≡ true → list_all other notes ≡ true
  list_all-within ok other [] so all = refl
  list_all-within ok other (m ∷ notes) so all =
      let parts = and_parts (ok m) (list_all ok notes) all in
      and_from _ _ (so m (λ test passes. or_left (test m) (list_any test notes) passes) parts.0)
      (list_all-within ok other notes (λ n there is. so n (λ test passes. or_right (test m) (list_any test notes) (there test passes)) is) parts.1)

  pub count_by-absent : (test : N → Bool) (notes : List N) → list_any test notes ≡ false → count_by test notes ≡ 0
  count_by-absent test [] none = refl
  count_by-absent test (m ∷ notes) none =
      let parts = or_parts (test m) (list_any test notes) none in
      omega (arith, count_by-cons test m notes, ap (λ b. cond {A = ℕ} b 1 0) parts.0, count_by-absent test notes parts.1)

  -- Of different keys each stands once at most.
  pub count_by-distinct : (key : N → ℕ) (notes : List N) (q : ℕ) → are_distinct (map key notes) ≡ true → count_by (λ n. key n == q) notes ≤ 1
  count_by-distinct key [] q distinct = omega arith
  count_by-distinct key (m ∷ notes) q distinct =
      let parts = and_parts (not (contains (map key notes) (key m))) (are_distinct (map key notes)) distinct in
      let rest = count_by-distinct key notes q parts.1 in
      elim (key m == q) as (λ b. (key m == q) ≡ b → count_by (λ n. key n == q) (m ∷ notes) ≡ cond b 1 0 + count_by (λ n. key n == q) notes → count_by (λ n. key n == q) (m ∷ notes) ≤ 1) [
        | true ↦ λ same count.
            let absent : list_any (λ n. key n == q) notes ≡ false = sym (contains-map key notes q) ∙ ap (contains (map key notes)) (sym (eqb-true (key m) q same)) ∙ not-true _ parts.0 in
            let none = count_by-absent (λ n. key n == q) notes absent in
            omega (arith, count, none)
        | false ↦ λ _ count. omega (arith, count, rest)
      ] refl (count_by-cons (λ n. key n == q) m notes)
