-- The two parts of a number, each in its range.
use Rattle.std.proofs.Common.{◌≡◌, ℕ, suc, ◌+◌, ◌-◌, ◌%◌, ◌^◌, ◌≤◌, ◌<◌, inl, inr, true, ℤ, pos, negsuc, ◌-ℤ◌, ◌∙◌, ap, arith}
use Rattle.std.proofs.lemmas.Bool.{cases_lt, lt-ltb}
use Rattle.std.proofs.lemmas.Bool.Decides.{nat_tests}
use Rattle.std.proofs.lemmas.Int.{ints}
use Rattle.rv_core.specs.declared.listing.Layout.TheVariants.{U}
use Rattle.rv_core.specs.Encoding.{is_signed_by, is_immediate}
use Rattle.rv_asm.specs.Encoding.{residue, low_part, high_part}

pub by_half : {P : Type 0} (a : ℕ) → (a % 4096 < 2048 → P) → (2048 ≤ a % 4096 → P) → P
by_half a near far = elim (cases_lt (a % 4096) 2048) [ inl c ↦ near c | inr c ↦ far c ]

-- The low part

pub low-near : (a : ℕ) → a % 4096 < 2048 → low_part (pos a) ≡ pos (a % 4096)
unfolding low_part
low-near a h = grind (arith, nat_tests, ints)

pub low-far : (a : ℕ) → 2048 ≤ a % 4096 → low_part (pos a) ≡ negsuc (4095 - a % 4096)
unfolding low_part
low-far a h = grind (arith, nat_tests, ints)

pub low-under : (a : ℕ) → a % 4096 < 2048 → low_part (negsuc a) ≡ negsuc (a % 4096)
unfolding low_part
low-under a h = grind (arith, nat_tests, ints)

pub low-over : (a : ℕ) → 2048 ≤ a % 4096 → low_part (negsuc a) ≡ pos (4095 - a % 4096)
unfolding low_part
low-over a h = grind (arith, nat_tests, ints)

pub low-fits : (n : ℤ) → is_signed_by (2 ^ 11) (low_part n) ≡ true
low-fits (pos a) =
    by_half a (λ c. ap (is_signed_by (2 ^ 11)) (low-near a c) ∙ lt-ltb (a % 4096) 2048 c)
    (λ c. ap (is_signed_by (2 ^ 11)) (low-far a c) ∙ lt-ltb (4095 - a % 4096) 2048 (omega arith))
low-fits (negsuc a) =
    by_half a (λ c. ap (is_signed_by (2 ^ 11)) (low-under a c) ∙ lt-ltb (a % 4096) 2048 c)
    (λ c. ap (is_signed_by (2 ^ 11)) (low-over a c) ∙ lt-ltb (4095 - a % 4096) 2048 (omega arith))

-- The high part

pub high-from : (z l y : ℤ) → low_part z ≡ l → z -ℤ l ≡ y → high_part z ≡ residue (2 ^ 31) y
unfolding high_part
high-from z l y e d = ap (λ x. residue (2 ^ 31) (z -ℤ x)) e ∙ ap (residue (2 ^ 31)) d

pub upper-pos : (opcode p : ℕ) → p < 2 ^ 31 → p % 4096 ≡ 0 → is_immediate (U opcode) (pos p) ≡ true
upper-pos opcode p h e = rw (lt-ltb p (2 ^ 31) h) (grind (arith, nat_tests))

pub upper-neg : (opcode p : ℕ) → p < 2 ^ 31 → suc p % 4096 ≡ 0 → is_immediate (U opcode) (negsuc p) ≡ true
upper-neg opcode p h e =
    let whole : (2 ^ 32 - suc p) % 4096 ≡ 0 = omega arith in
    rw (lt-ltb p (2 ^ 31) h) (grind (arith, nat_tests))

residue-near : (p : ℕ) → p % 2 ^ 32 < 2 ^ 31 → residue (2 ^ 31) (pos p) ≡ pos (p % 2 ^ 32)
residue-near p h = grind (arith, nat_tests, ints)

residue-far : (p : ℕ) → 2 ^ 31 ≤ p % 2 ^ 32 → residue (2 ^ 31) (pos p) ≡ negsuc (2 ^ 32 - 1 - p % 2 ^ 32)
residue-far p h = grind (arith, nat_tests, ints)

residue-fits : (opcode p : ℕ) → p % 4096 ≡ 0 → is_immediate (U opcode) (residue (2 ^ 31) (pos p)) ≡ true
residue-fits opcode p whole =
    elim (cases_lt (p % 2 ^ 32) (2 ^ 31)) [
      | inl near ↦ ap (is_immediate (U opcode)) (residue-near p near) ∙ upper-pos opcode (p % 2 ^ 32) near (omega arith)
      | inr far ↦ ap (is_immediate (U opcode)) (residue-far p far) ∙ upper-neg opcode (2 ^ 32 - 1 - p % 2 ^ 32) (omega arith) (omega arith)
    ]

-- However far ahead, the high part of a number is held.
pub high-ahead : (opcode a : ℕ) → is_immediate (U opcode) (high_part (pos a)) ≡ true
high-ahead opcode a =
    by_half a
    (λ c.
    let d : pos a -ℤ pos (a % 4096) ≡ pos (a - a % 4096) = omega (arith, ints) in
    ap (is_immediate (U opcode)) (high-from (pos a) _ _ (low-near a c) d) ∙ residue-fits opcode (a - a % 4096) (omega arith))
    (λ c.
    let d : pos a -ℤ negsuc (4095 - a % 4096) ≡ pos (a + 4096 - a % 4096) = omega (arith, ints) in
    ap (is_immediate (U opcode)) (high-from (pos a) _ _ (low-far a c) d) ∙ residue-fits opcode (a + 4096 - a % 4096) (omega arith))
