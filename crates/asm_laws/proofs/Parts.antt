-- The sum of a number's high and low part, as the machine adds them.
use Rattle.std.proofs.Common.{◌≡◌, ℕ, suc, ◌+◌, ◌-◌, ◌%◌, ◌^◌, ◌≤◌, ◌<◌, ◌⊎◌, inl, inr, true, ℤ, pos, negsuc, ◌-ℤ◌, ◌∙◌, ap, refl, arith}
use Rattle.std.proofs.lemmas.Bool.{cases_lt, ltb-true}
use Rattle.std.proofs.lemmas.Bool.Decides.{nat_tests}
use Rattle.std.proofs.lemmas.Int.{ints}
use Rattle.std.specs.Int.{cast_unsigned, w64}
use Rattle.rv_core.specs.Rows.{word, extended}
use Rattle.rv_core.specs.Encoding.{is_signed_by}
use Rattle.rv_asm.specs.Encoding.{residue, low_part, high_part}
use Rattle.rv_asm.proofs.Parts.{by_half, low-near, low-far, low-under, low-over, high-from}

-- The high part

residue-pos : (p : ℕ) → p < 2 ^ 31 → residue (2 ^ 31) (pos p) ≡ pos p
residue-pos p h = grind (arith, nat_tests, ints)

residue-neg : (p : ℕ) → p < 2 ^ 31 → residue (2 ^ 31) (negsuc p) ≡ negsuc p
residue-neg p h = grind (arith, nat_tests, ints)

pub high-near : (a : ℕ) → a < 2 ^ 31 → a % 4096 < 2048 → high_part (pos a) ≡ pos (a - a % 4096)
high-near a h c =
    let d : pos a -ℤ pos (a % 4096) ≡ pos (a - a % 4096) = omega (arith, ints) in
    high-from (pos a) _ _ (low-near a c) d ∙ residue-pos (a - a % 4096) (omega arith)

pub high-far : (a : ℕ) → a + 4096 - a % 4096 < 2 ^ 31 → 2048 ≤ a % 4096 → high_part (pos a) ≡ pos (a + 4096 - a % 4096)
high-far a h c =
    let d : pos a -ℤ negsuc (4095 - a % 4096) ≡ pos (a + 4096 - a % 4096) = omega (arith, ints) in
    high-from (pos a) _ _ (low-far a c) d ∙ residue-pos (a + 4096 - a % 4096) h

pub high-last : (a : ℕ) → a < 2 ^ 31 → 2 ^ 31 ≤ a + 4096 - a % 4096 → 2048 ≤ a % 4096 → high_part (pos a) ≡ negsuc (2 ^ 31 - 1)
high-last a h big c =
    let d : pos a -ℤ negsuc (4095 - a % 4096) ≡ pos (2 ^ 31) = omega (arith, ints) in
    high-from (pos a) _ _ (low-far a c) d ∙ refl

pub high-over : (a : ℕ) → a < 2 ^ 31 → 2048 ≤ a % 4096 → high_part (negsuc a) ≡ negsuc (a + 4095 - a % 4096)
high-over a h c =
    let d : negsuc a -ℤ pos (4095 - a % 4096) ≡ negsuc (a + 4095 - a % 4096) = omega (arith, ints) in
    high-from (negsuc a) _ _ (low-over a c) d ∙ residue-neg (a + 4095 - a % 4096) (omega arith)

pub high-first : (a : ℕ) → a < 4096 → a % 4096 < 2048 → high_part (negsuc a) ≡ pos 0
high-first a h c =
    let d : negsuc a -ℤ negsuc (a % 4096) ≡ pos 0 = omega (arith, ints) in
    high-from (negsuc a) _ _ (low-under a c) d ∙ refl

pub high-under : (a : ℕ) → a < 2 ^ 31 → 4096 ≤ a → a % 4096 < 2048 → high_part (negsuc a) ≡ negsuc (a - a % 4096 - 1)
high-under a h big c =
    let d : negsuc a -ℤ negsuc (a % 4096) ≡ negsuc (a - a % 4096 - 1) = omega (arith, ints) in
    high-from (negsuc a) _ _ (low-under a c) d ∙ residue-neg (a - a % 4096 - 1) (omega arith)

-- The sum, of 32 bits

abbrev pub parts_sum : ℤ → ℕ
parts_sum n = cast_unsigned w64 (high_part n) + cast_unsigned w64 (low_part n)

parts_sum-is : (z hi lo : ℤ) → high_part z ≡ hi → low_part z ≡ lo → parts_sum z ≡ cast_unsigned w64 hi + cast_unsigned w64 lo
parts_sum-is z hi lo e f = ap (λ x. cast_unsigned w64 x + cast_unsigned w64 (low_part z)) e ∙ ap (λ x. cast_unsigned w64 hi + cast_unsigned w64 x) f

extended-pos : (s a : ℕ) → a < 2 ^ 31 → s % 2 ^ 32 ≡ a → extended s ≡ cast_unsigned w64 (pos a)
extended-pos s a h e = grind (arith, nat_tests, ints)

extended-neg : (s a : ℕ) → a < 2 ^ 31 → s % 2 ^ 32 ≡ 2 ^ 32 - suc a → extended s ≡ cast_unsigned w64 (negsuc a)
extended-neg s a h e = grind (arith, nat_tests, ints)

extended-far : (a : ℕ) → a < 2 ^ 31 → 2048 ≤ a % 4096 → (a + 4096 - a % 4096 < 2 ^ 31) ⊎ (2 ^ 31 ≤ a + 4096 - a % 4096)
    → extended (parts_sum (pos a)) ≡ cast_unsigned w64 (pos a)
extended-far a h c (inl small) =
    let e = parts_sum-is (pos a) _ _ (high-far a small c) (low-far a c) in
    extended-pos (parts_sum (pos a)) a h (omega (arith, e))
extended-far a h c (inr big) =
    let e = parts_sum-is (pos a) _ _ (high-last a h big c) (low-far a c) in
    extended-pos (parts_sum (pos a)) a h (omega (arith, e))

extended-under : (a : ℕ) → a < 2 ^ 31 → a % 4096 < 2048 → (a < 4096) ⊎ (4096 ≤ a)
    → extended (parts_sum (negsuc a)) ≡ cast_unsigned w64 (negsuc a)
extended-under a h c (inl small) =
    let e = parts_sum-is (negsuc a) _ _ (high-first a small c) (low-under a c) in
    extended-neg (parts_sum (negsuc a)) a h (omega (arith, e))
extended-under a h c (inr big) =
    let e = parts_sum-is (negsuc a) _ _ (high-under a h big c) (low-under a c) in
    extended-neg (parts_sum (negsuc a)) a h (omega (arith, e))

-- LUI's value and what ADDIW adds are the number, modulo 2^64.
pub extended-parts : (n : ℤ) → is_signed_by (2 ^ 31) n ≡ true → extended (parts_sum n) ≡ cast_unsigned w64 n
extended-parts (pos a) h =
    let below = ltb-true a (2 ^ 31) h in
    by_half a
    (λ c. let e = parts_sum-is (pos a) _ _ (high-near a below c) (low-near a c) in extended-pos (parts_sum (pos a)) a below (omega (arith, e)))
    (λ c. extended-far a below c (cases_lt _ _))
extended-parts (negsuc a) h =
    let below = ltb-true a (2 ^ 31) h in
    by_half a (λ c. extended-under a below c (cases_lt _ _))
    (λ c. let e = parts_sum-is (negsuc a) _ _ (high-over a below c) (low-over a c) in extended-neg (parts_sum (negsuc a)) a below (omega (arith, e)))

-- The sum, of 64 bits

word-under : (a : ℕ) → a < 2 ^ 30 → a % 4096 < 2048 → (a < 4096) ⊎ (4096 ≤ a) → word (parts_sum (negsuc a)) ≡ cast_unsigned w64 (negsuc a)
word-under a h c (inl small) =
    let e = parts_sum-is (negsuc a) _ _ (high-first a small c) (low-under a c) in omega (arith, e)
word-under a h c (inr big) =
    let e = parts_sum-is (negsuc a) _ _ (high-under a (omega arith) big c) (low-under a c) in omega (arith, e)

-- What AUIPC and ADDI add are a smaller number, modulo 2^64.
pub word-parts : (n : ℤ) → is_signed_by (2 ^ 30) n ≡ true → word (parts_sum n) ≡ cast_unsigned w64 n
word-parts (pos a) h =
    let below = ltb-true a (2 ^ 30) h in
    by_half a
    (λ c. let e = parts_sum-is (pos a) _ _ (high-near a (omega arith) c) (low-near a c) in omega (arith, e))
    (λ c. let e = parts_sum-is (pos a) _ _ (high-far a (omega arith) c) (low-far a c) in omega (arith, e))
word-parts (negsuc a) h =
    let below = ltb-true a (2 ^ 30) h in
    by_half a (λ c. word-under a below c (cases_lt _ _))
    (λ c. let e = parts_sum-is (negsuc a) _ _ (high-over a (omega arith) c) (low-over a c) in omega (arith, e))
