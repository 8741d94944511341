-- Tests, unions and maxima over the numbers below n.
use Rattle.std.proofs.Common.{◌≡◌, ◌⊎◌, ℕ, zero, suc, ◌+◌, ◌^◌, ◌<◌, ◌≤◌, max, Bool, true, false, ◌||◌, bit_or, refl, ap, sym, ◌∙◌, inl, inr, ⊎_elim, arith, add-one, subst}
use Rattle.std.proofs.lemmas.Bool.{or_left, or_right, or_parts, or_cases, or_from, cases_order, cases_lt, cases_eq}
use Rattle.std.specs.Int.{bit_at}
use Rattle.std.proofs.lemmas.Nat.{or_lt, pow_pos}
use Rattle.std.proofs.lemmas.Nat.Bits.{bit_at-zero, bit_at-lt, bit_at_or}
use Rattle.elf_loader.specs.Segments.{any_below, union_below, max_below}

pub at_last : (j n : ℕ) → j < suc n → (j ≡ n) ⊎ (j < n)
at_last j n h = ⊎_elim (λ e. inl e) (λ o. ⊎_elim (λ (l : j < n). inr l) (λ (l : n < j). absurd (omega arith)) o) (cases_order j n)

module _ (test : ℕ → Bool) where
  pub any_below-none : any_below test 0 ≡ false
  unfolding any_below
  any_below-none = refl

  pub any_below-more : (n : ℕ) → any_below test (n + 1) ≡ (any_below test n || test n)
  unfolding any_below
  any_below-more n = rw add-one refl

  pub any_below-at : (n j : ℕ) → j < n → test j ≡ true → any_below test n ≡ true
  unfolding any_below
  any_below-at zero j below is = absurd (omega arith)
  any_below-at (suc n) j below is =
      ⊎_elim
      (λ (e : j ≡ n). or_right (any_below test n) (test n) (subst (λ k. test k ≡ true) e is))
      (λ (l : j < n). or_left (any_below test n) (test n) (any_below-at n j l is))
      (at_last j n below)

  pub any_below-false : (n j : ℕ) → j < n → any_below test n ≡ false → test j ≡ false
  unfolding any_below
  any_below-false zero j below is = absurd (omega arith)
  any_below-false (suc n) j below is =
      let parts = or_parts (any_below test n) (test n) is in
      ⊎_elim
      (λ (e : j ≡ n). subst (λ k. test k ≡ false) (sym e) parts.1)
      (λ (l : j < n). any_below-false n j l parts.0)
      (at_last j n below)

  pub any_below-all_false : (n : ℕ) → ((j : ℕ) → j < n → test j ≡ false) → any_below test n ≡ false
  unfolding any_below
  any_below-all_false zero none = refl
  any_below-all_false (suc n) none =
      or_from (any_below test n) (test n) (any_below-all_false n (λ j l. none j (omega arith))) (none n (omega arith))

  pub any_below-some : (n : ℕ) → any_below test n ≡ true → (j : ℕ) × (j < n) × (test j ≡ true)
  unfolding any_below
  any_below-some zero is = cc
  any_below-some (suc n) is =
      ⊎_elim
      (λ (front : any_below test n ≡ true). let found = any_below-some n front in (found.0, (let l = found.1 in omega arith), found.2))
      (λ (last : test n ≡ true). (n, omega arith, last))
      (or_cases (any_below test n) (test n) is)

module _ (value : ℕ → ℕ) where
  pub union_below-more : (n : ℕ) → union_below value (n + 1) ≡ bit_or (union_below value n) (value n)
  unfolding union_below
  union_below-more n = rw add-one refl

  pub max_below-at : (n j : ℕ) → j < n → value j ≤ max_below value n
  unfolding max_below
  max_below-at zero j below = absurd (omega arith)
  max_below-at (suc n) j below =
      ⊎_elim
      (λ (e : j ≡ n). let same = ap value e in omega arith)
      (λ (l : j < n). let front = max_below-at n j l in omega arith)
      (at_last j n below)

pub max_below-le : (value : ℕ → ℕ) (bound n : ℕ) → ((j : ℕ) → j < n → value j ≤ bound) → max_below value n ≤ bound
unfolding max_below
max_below-le value bound zero le = omega arith
max_below-le value bound (suc n) le =
    let front = max_below-le value bound n (λ j below. le j (omega arith)) in
    let last = le n (omega arith) in
    omega arith

-- a maximum is 0 or one of the values
pub max_below-some : (value : ℕ → ℕ) (n : ℕ) → (max_below value n ≡ 0) ⊎ ((j : ℕ) × (j < n) × (value j ≡ max_below value n))
unfolding max_below
max_below-some value zero = inl refl
max_below-some value (suc n) =
    ⊎_elim
    (λ (last : max_below value n < value n). inr (n, omega arith, omega arith))
    (λ (front : value n ≤ max_below value n).
    let same : max (max_below value n) (value n) ≡ max_below value n = omega arith in
    ⊎_elim
    (λ (none : max_below value n ≡ 0). inl (same ∙ none))
    (λ (some : (j : ℕ) × (j < n) × (value j ≡ max_below value n)).
    inr (some.0, (let l = some.1 in omega arith), some.2 ∙ sym same))
    (max_below-some value n))
    (cases_lt (max_below value n) (value n))

pub union_below-lt : (value : ℕ → ℕ) (k n : ℕ) → ((j : ℕ) → value j < 2 ^ k) → union_below value n < 2 ^ k
unfolding union_below
union_below-lt value k zero lt = pow_pos k
union_below-lt value k (suc n) lt = or_lt k (union_below value n) (value n) (union_below-lt value k n lt) (lt n)

-- a bit of a union is that of a part
pub union_below-from : (value : ℕ → ℕ) (k n j : ℕ) → j < n → bit_at (value j) k ≡ 1 → bit_at (union_below value n) k ≡ 1
unfolding union_below
union_below-from value k zero j below has = absurd (omega arith)
union_below-from value k (suc n) j below has =
    let front = bit_at-lt (union_below value n) k in
    let back = bit_at-lt (value n) k in
    bit_at_or (union_below value n) (value n) k
    ∙ ⊎_elim
    (λ (e : j ≡ n). let here = subst (λ i. bit_at (value i) k ≡ 1) e has in omega arith)
    (λ (l : j < n). let rest = union_below-from value k n j l has in omega arith)
    (at_last j n below)

pub union_below-has : (value : ℕ → ℕ) (k n : ℕ) → bit_at (union_below value n) k ≡ 1 → (j : ℕ) × (j < n) × (bit_at (value j) k ≡ 1)
unfolding union_below
union_below-has value k zero has = let none = bit_at-zero k in absurd (omega arith)
union_below-has value k (suc n) has =
    let both = bit_at_or (union_below value n) (value n) k in
    let back = bit_at-lt (value n) k in
    ⊎_elim
    (λ (front : bit_at (union_below value n) k ≡ 1). let found = union_below-has value k n front in (found.0, (let l = found.1 in omega arith), found.2))
    (λ (other : bit_at (union_below value n) k ≡ 1 → ⊥). (n, omega arith, last_bit (bit_at (union_below value n) k) (bit_at (value n) k) (bit_at-lt (union_below value n) k) back other (sym both ∙ has)))
    (cases_eq (bit_at (union_below value n) k) 1)
  where
    last_bit : (a b : ℕ) → a < 2 → b < 2 → (a ≡ 1 → ⊥) → max a b ≡ 1 → b ≡ 1
    last_bit a b x y other e = omega arith
