-- What is left of a list without a number.
use Rattle.std.proofs.Common.{◌≡◌, ℕ, ◌≤◌, Bool, true, false, not, cond, nat_eq, nat_lt, List, [], ◌∷◌, length, refl, ap, sym, ◌∙◌, arith}
use Rattle.std.proofs.lemmas.Grind.{common_steps}
use Rattle.std.specs.Prelude.{◌||◌}
use Rattle.std.specs.Bool.{OnFalse}
use Rattle.turn_sched.specs.Lists.{contains, without}

-- No number more than before.
pub length-without : (xs : List ℕ) (h : ℕ) → length (without xs h) ≤ length xs
length-without [] h = omega arith
length-without (x ∷ xs) h =
    let rest : length (without xs h) ≤ length xs = length-without xs h in
    elim (nat_eq x h) as (λ b. length (cond (not b) (x ∷ without xs h) (without xs h)) ≤ length (x ∷ xs)) [ true ↦ omega arith | false ↦ omega arith ]

-- It is shorter exactly where the number was there.
pub contains-shorter : (xs : List ℕ) (h : ℕ) → nat_lt (length (without xs h)) (length xs) ≡ contains xs h
contains-shorter [] h = refl
contains-shorter (x ∷ xs) h =
    let rest : nat_lt (length (without xs h)) (length xs) ≡ contains xs h = contains-shorter xs h in
    let le : length (without xs h) ≤ length xs = length-without xs h in
    elim (nat_eq x h) as (λ b. nat_lt (length (cond (not b) (x ∷ without xs h) (without xs h))) (length (x ∷ xs)) ≡ (b || contains xs h)) [
      | true ↦ grind (arith, common_steps)
      | false ↦ grind (arith, common_steps)
    ]

-- Without a number that isn't there the list is as it was.
pub without-absent : (xs : List ℕ) (h : ℕ) → contains xs h ≡ false → without xs h ≡ xs
without-absent [] h = λ e. refl
without-absent (x ∷ xs) h =
    elim (nat_eq x h) as (λ b. (b || contains xs h) ≡ false → cond (not b) (x ∷ without xs h) (without xs h) ≡ x ∷ xs) [
      | true ↦ λ e. cc
      | false ↦ λ e. ap (λ ys. x ∷ ys) (without-absent xs h e)
    ]

-- Whether the number was there, by the lengths before and after.
pub contains_by_length : (xs ys : List ℕ) (h before after : ℕ) → ys ≡ without xs h → before ≡ length xs → after ≡ length ys → nat_lt after before ≡ contains xs h
contains_by_length xs ys h before after e b a = rw (b, a, e) (contains-shorter xs h)

same_unless : (b : Bool) (xs ys : List ℕ) → (b ≡ false → ys ≡ xs) → OnFalse b (ys ≡ xs)
same_unless true xs ys same = tt
same_unless false xs ys same = same refl

-- Where the lengths are the same, so are the lists.
pub same_by_length : (xs ys : List ℕ) (h before after : ℕ) → ys ≡ without xs h → before ≡ length xs → after ≡ length ys → OnFalse (nat_lt after before) (ys ≡ xs)
same_by_length xs ys h before after e b a = same_unless _ xs ys (λ same. e ∙ without-absent xs h (sym (contains_by_length xs ys h before after e b a) ∙ same))
