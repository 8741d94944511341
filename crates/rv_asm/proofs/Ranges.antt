-- Numbers that fit no field of an instruction.
use Rattle.std.proofs.Common.{◌≡◌, ◌≤◌, ◌^◌, ◌≤ℤ◌, ℕ, Bool, false, ◌&&◌, cond, Some, None, ℤ, pos, negsuc, refl, sym, subst, arith}
use Rattle.std.specs.Int.{w64, w128}
use Rattle.std.proofs.lemmas.Int.{ints, to_z-of_z}
use mir.Val.{to_z, of_z}
use Rattle.std.specs.Int.RustNames.{FitsSigned}
use Rattle.std.proofs.lemmas.Int.{fits_signed_from_abs}
use Rattle.std.proofs.Math.Bool.{and-false}
use Rattle.std.proofs.lemmas.Bool.{false_from_ne_true, ltb-true}
use Rattle.asm_text.specs.Numbers.{nearest}
use Rattle.rv_core.specs.declared.instr.Instr.{Instr}
use Rattle.rv_core.specs.declared.listing.Layout.{Layout}
use Rattle.rv_core.specs.declared.listing.Layout.TheVariants.{U, J, I, S, B, R, Shift, ShiftW, Ignored, Whole}
use Rattle.rv_core.specs.Listing.{form}
use Rattle.rv_core.specs.Encoding.{encoded, is_signed_by, is_below, is_immediate}

far-signed : (half : ℕ) (z : ℤ) → half ≤ 2 ^ 62 → ¬ FitsSigned w64 z → is_signed_by half z ≡ false
far-signed half (pos n) small far =
    false_from_ne_true _ (λ within. far (fits_signed_from_abs w64 (pos n) (omega (arith, ltb-true n half within, small))))
far-signed half (negsuc n) small far =
    false_from_ne_true _ (λ within. far (fits_signed_from_abs w64 (negsuc n) (omega (arith, ltb-true n half within, small))))

far-below : (bound : ℕ) (z : ℤ) → bound ≤ 2 ^ 62 → ¬ FitsSigned w64 z → is_below bound z ≡ false
far-below bound (pos n) small far =
    false_from_ne_true _ (λ within. far (fits_signed_from_abs w64 (pos n) (omega (arith, ltb-true n bound within, small))))
far-below bound (negsuc n) small far = refl

far-immediate : (f : Layout) (z : ℤ) → ¬ FitsSigned w64 z → is_immediate f z ≡ false
far-immediate (U opcode) z far = rw (far-signed (2 ^ 31) z (omega arith) far) refl
far-immediate (J opcode) z far = rw (far-signed (2 ^ 20) z (omega arith) far) refl
far-immediate (I opcode f3) z far = far-signed (2 ^ 11) z (omega arith) far
far-immediate (S opcode f3) z far = far-signed (2 ^ 11) z (omega arith) far
far-immediate (B opcode f3) z far = rw (far-signed (2 ^ 12) z (omega arith) far) refl
far-immediate (R opcode f3 f7) z far = far-below 1 z (omega arith) far
far-immediate (Shift opcode f3 f6) z far = far-below 64 z (omega arith) far
far-immediate (ShiftW opcode f3 f7) z far = far-below 32 z (omega arith) far
far-immediate (Ignored opcode f3) z far = far-below 1 z (omega arith) far
far-immediate (Whole word) z far = far-below 1 z (omega arith) far

cond-and-false : {A : Type 0} (b c : Bool) (x : A) → c ≡ false → cond (b && c) (Some x) None ≡ None
cond-and-false b c x h = rw (h, and-false b) refl

-- An immediate past 64 bits fits no layout.
pub encoded-far : (i : Instr) → ¬ FitsSigned w64 i.imm → encoded i ≡ None
unfolding encoded
encoded-far i far = cond-and-false _ _ _ (far-immediate (form i.op) i.imm far)

-- The parts of a number are held as they are.
pub held-part : (z : ℤ) → negsuc (2 ^ 31) ≤ℤ z → z ≤ℤ pos (2 ^ 31) → to_z w128 (of_z w128 z) ≡ z
held-part z low high = search (arith, ints, to_z-of_z)

fits-nearest : (z : ℤ) → FitsSigned w128 (nearest z)
fits-nearest (pos n) = fits_signed_from_abs w128 (nearest (pos n)) (omega arith)
fits-nearest (negsuc n) = fits_signed_from_abs w128 (nearest (negsuc n)) (omega arith)

-- A nearest number is held as it is.
pub held-nearest : (z n : ℤ) → n ≡ nearest z → to_z w128 (of_z w128 n) ≡ n
held-nearest z n is = to_z-of_z w128 n (subst (FitsSigned w128) (sym is) (fits-nearest z))
