-- The first thing that a function gives at numbers that follow one another.
use Rattle.std.proofs.Common.{◌≡◌, ℕ, zero, suc, ◌+◌, ◌-◌, ◌<◌, ◌≤◌, refl, sym, ap, ◌∙◌, arith, Option, Some, None, inl, inr}
use Rattle.std.proofs.lemmas.Bool.{cases_eq}
use Rattle.std.proofs.lemmas.Option.{none-some}
use Rattle.std.specs.Option.{option_map, option_or}
use Rattle.guest_space.specs.First.{first_some}

option_or_assoc : {A : Type 0} (x y z : Option A) → option_or x (option_or y z) ≡ option_or (option_or x y) z
option_or_assoc None y z = refl
option_or_assoc (Some x) y z = refl

option_map-or : {A B : Type 0} (g : A → B) (x y : Option A) → option_map g (option_or x y) ≡ option_or (option_map g x) (option_map g y)
option_map-or g None y = refl
option_map-or g (Some x) y = refl

option_or_none : {A : Type 0} (x y : Option A) → option_or x y ≡ None → (x ≡ None) × (y ≡ None)
option_or_none None y is = (refl, is)
option_or_none (Some x) y is = absurd (none-some x (sym is))

module _ {A : Type 0} (f : ℕ → Option A) where
  pub first_some-zero : (at : ℕ) → first_some f at 0 ≡ None
  unfolding first_some
  first_some-zero at = refl

  pub first_some-suc : (at n : ℕ) → first_some f at (suc n) ≡ option_or (f at) (first_some f (at + 1) n)
  unfolding first_some
  first_some-suc at n = refl

  -- nothing at the first number: look at the others
  pub first_some-skip : (at n : ℕ) → f at ≡ None → first_some f at (n + 1) ≡ first_some f (at + 1) n
  first_some-skip at n none =
      ap (first_some f at) (let k : n + 1 ≡ suc n = omega arith in k) ∙ first_some-suc at n ∙ ap (λ o. option_or o (first_some f (at + 1) n)) none

  pub first_some-here : (at n : ℕ) (x : A) → f at ≡ Some x → first_some f at (n + 1) ≡ Some x
  first_some-here at n x is =
      ap (first_some f at) (let k : n + 1 ≡ suc n = omega arith in k) ∙ first_some-suc at n ∙ ap (λ o. option_or o (first_some f (at + 1) n)) is

  pub first_some-add : (at n k : ℕ) → first_some f at (n + k) ≡ option_or (first_some f at n) (first_some f (at + n) k)
  first_some-add at zero k =
      (let e : 0 + k ≡ k = omega arith in let d : at ≡ at + 0 = omega arith in λ i. first_some f (d i) (e i))
      ∙ ap (λ o. option_or o (first_some f (at + 0) k)) (sym (first_some-zero at))
  first_some-add at (suc n) k =
      ap (first_some f at) (let e : suc n + k ≡ suc (n + k) = omega arith in e)
      ∙ first_some-suc at (n + k)
      ∙ ap (option_or (f at)) (first_some-add (at + 1) n k)
      ∙ option_or_assoc (f at) (first_some f (at + 1) n) (first_some f (at + 1 + n) k)
      ∙ (let d : at + 1 + n ≡ at + suc n = omega arith in λ i. option_or (sym (first_some-suc at n) i) (first_some f (d i) k))

  pub first_some-none : (at n : ℕ) → ((a : ℕ) → at ≤ a → a < at + n → f a ≡ None) → first_some f at n ≡ None
  first_some-none at zero none = first_some-zero at
  first_some-none at (suc n) none =
      first_some-suc at n
      ∙ ap (λ o. option_or o (first_some f (at + 1) n)) (none at (omega arith) (omega arith))
      ∙ first_some-none (at + 1) n (λ a low high. none a (omega arith) (omega arith))

  -- something at a, and nothing before it
  pub first_some-at : (at n a : ℕ) (x : A) → at ≤ a → a < at + n → f a ≡ Some x → ((b : ℕ) → at ≤ b → b < a → f b ≡ None) → first_some f at n ≡ Some x
  first_some-at at zero a x low high is before = absurd (omega arith)
  first_some-at at (suc n) a x low high is before =
      elim (cases_eq at a) [
        | inl e ↦ first_some-suc at n ∙ ap (λ o. option_or o (first_some f (at + 1) n)) (ap f e ∙ is)
        | inr ne ↦ first_some-suc at n
            ∙ ap (λ o. option_or o (first_some f (at + 1) n)) (before at (omega arith) (omega arith))
            ∙ first_some-at (at + 1) n a x (omega arith) (omega arith) is (λ b l h. before b (omega arith) (omega arith))
      ]

  -- what `None` says of each number
  pub first_some_none_at : (at n a : ℕ) → first_some f at n ≡ None → at ≤ a → a < at + n → f a ≡ None
  first_some_none_at at zero a is low high = absurd (omega arith)
  first_some_none_at at (suc n) a is low high =
      let both = option_or_none (f at) (first_some f (at + 1) n) (sym (first_some-suc at n) ∙ is) in
      elim (cases_eq a at) [
        | inl e ↦ ap f e ∙ both.0
        | inr ne ↦ first_some_none_at (at + 1) n a both.1 (omega arith) (omega arith)
      ]

  pub first_some-same : (g : ℕ → Option A) (at n : ℕ) → ((a : ℕ) → at ≤ a → a < at + n → f a ≡ g a) → first_some f at n ≡ first_some g at n
  unfolding first_some
  first_some-same g at zero same = refl
  first_some-same g at (suc n) same =
      let rest = first_some-same g (at + 1) n (λ a low high. same a (omega arith) (omega arith)) in
      let here = same at (omega arith) (omega arith) in
      λ i. option_or (here i) (rest i)

  pub first_some-map : {B : Type 0} (g : A → B) (at n : ℕ) → option_map g (first_some f at n) ≡ first_some (λ a. option_map g (f a)) at n
  unfolding first_some
  first_some-map g at zero = refl
  first_some-map g at (suc n) = option_map-or g (f at) (first_some f (at + 1) n) ∙ ap (option_or (option_map g (f at))) (first_some-map g (at + 1) n)

  -- ---- a loop that counts up to an end
  pub first_some-next : (at end : ℕ) → at < end → f at ≡ None → first_some f (at + 1) (end - (at + 1)) ≡ first_some f at (end - at)
  first_some-next at end h none = sym (ap (first_some f at) (let e : end - at ≡ end - (at + 1) + 1 = omega arith in e) ∙ first_some-skip at (end - (at + 1)) none)

  pub first_some-stop : (at end : ℕ) (x : A) → at < end → f at ≡ Some x → first_some f at (end - at) ≡ Some x
  first_some-stop at end x h is = ap (first_some f at) (let e : end - at ≡ end - (at + 1) + 1 = omega arith in e) ∙ first_some-here at (end - (at + 1)) x is

  pub first_some-end : (at end : ℕ) → end ≤ at → first_some f at (end - at) ≡ None
  first_some-end at end h = ap (first_some f at) (let e : end - at ≡ 0 = omega arith in e) ∙ first_some-zero at
