-- What a decoder reads, an encoder spells.
use Rattle.std.proofs.Common.{◌≡◌, ℕ, ◌+◌, ◌*◌, ◌^◌, ◌<◌, Bool, true, false, cond, Some, None, refl, ap, ◌∙◌, arith, inl, inr}
use Rattle.rv_core.specs.declared.instr.Op.{Op}
use Rattle.rv_core.specs.declared.listing.Layout.{Layout}
use Rattle.rv_core.specs.declared.listing.Layout.TheVariants.{U, J, I, S, B, R, Shift, ShiftW, Ignored, Whole}
use Rattle.rv_core.specs.declared.instr.Op.TheVariants as op
use Rattle.rv_core.specs.Listing.{form, has_form, bits, has_rd, has_rs1, has_rs2, immediate, signed_by, fields_of}
use Rattle.rv_core.specs.Encoding.{is_register, is_immediate, is_encodable, spelling, unsigned_by, is_signed_by, encoded, IsFence}
use Rattle.rv_core.proofs.Names.{one, two, three}
use Rattle.rv_core.proofs.Signs.{unsigned_by-signed_by, is_signed_by-signed_by}
use Rattle.rv_core.proofs.Spelled.{fields_under, both, same, within}

-- A layout whose fields are all read.
abbrev reads_all : Layout → Bool
reads_all (Ignored opcode f3) = false
reads_all _ = true

IsFence-form : (o : Op) → reads_all (form o) ≡ false → IsFence o
IsFence-form op.Fence h = inl refl
IsFence-form op.FenceI h = inr refl
IsFence-form _ h = cc

true_or : (b : Bool) → (b ≡ false → ⊥) → b ≡ true
true_or true h = refl
true_or false h = absurd (h refl)

-- The word is what an encoder makes of the fields that it holds.
abbrev Spells : ℕ → Op → Layout → Type 0
Spells w o f = (is_encodable f (fields_under w o f) ≡ true) × (spelling f (fields_under w o f) ≡ w)

is_register-field : (has : Bool) (n : ℕ) → n < 32 → is_register has (cond has n 0) ≡ true
is_register-field true n h = within n 32 h
is_register-field false n h = refl

-- The registers that a word names are registers.
is_encodable-fields_under : (f : Layout) (w : ℕ) (o : Op) → is_immediate f (immediate w f) ≡ true → is_encodable f (fields_under w o f) ≡ true
is_encodable-fields_under f w o h =
    let rd = is_register-field (has_rd f) (bits w 11 7) (omega arith) in
    let rs1 = is_register-field (has_rs1 f) (bits w 19 15) (omega arith) in
    let rs2 = is_register-field (has_rs2 f) (bits w 24 20) (omega arith) in
    both _ _ (both _ _ (both _ _ rd rs1) rs2) h

-- A number in two's complement can be spelled, as it was.
signed_by-laws : (half n : ℕ) → n < 2 * half → (is_signed_by half (signed_by half n) ≡ true) × (unsigned_by half (signed_by half n) ≡ n)
signed_by-laws half n h = (is_signed_by-signed_by half n h, unsigned_by-signed_by half n h)

spells-has_form : (f : Layout) (w : ℕ) (o : Op) → w < 2 ^ 32 → reads_all f ≡ true → has_form w f ≡ true → Spells w o f
spells-has_form (U opcode) w o b r h =
    let e = one (bits w 6 0) opcode h in
    let n = bits w 31 12 * 2 ^ 12 in
    let s = signed_by-laws (2 ^ 31) n (omega arith) in
    (is_encodable-fields_under (U opcode) w o (both _ _ s.0 (same _ _ (omega arith))), omega arith)
spells-has_form (J opcode) w o b r h =
    let e = one (bits w 6 0) opcode h in
    let n = bits w 31 31 * 2 ^ 20 + bits w 19 12 * 2 ^ 12 + bits w 20 20 * 2 ^ 11 + bits w 30 21 * 2 in
    let s = signed_by-laws (2 ^ 20) n (omega arith) in
    (is_encodable-fields_under (J opcode) w o (both _ _ s.0 (same _ _ (omega arith))), omega arith)
spells-has_form (I opcode f3) w o b r h =
    let e = two (bits w 6 0) opcode (bits w 14 12) f3 h in
    let n = bits w 31 20 in
    let s = signed_by-laws (2 ^ 11) n (omega arith) in
    (is_encodable-fields_under (I opcode f3) w o s.0, omega arith)
spells-has_form (S opcode f3) w o b r h =
    let e = two (bits w 6 0) opcode (bits w 14 12) f3 h in
    let n = bits w 31 25 * 2 ^ 5 + bits w 11 7 in
    let s = signed_by-laws (2 ^ 11) n (omega arith) in
    (is_encodable-fields_under (S opcode f3) w o s.0, omega arith)
spells-has_form (B opcode f3) w o b r h =
    let e = two (bits w 6 0) opcode (bits w 14 12) f3 h in
    let n = bits w 31 31 * 2 ^ 12 + bits w 7 7 * 2 ^ 11 + bits w 30 25 * 2 ^ 5 + bits w 11 8 * 2 in
    let s = signed_by-laws (2 ^ 12) n (omega arith) in
    (is_encodable-fields_under (B opcode f3) w o (both _ _ s.0 (same _ _ (omega arith))), omega arith)
spells-has_form (R opcode f3 f7) w o b r h =
    let e = three (bits w 6 0) opcode (bits w 14 12) f3 (bits w 31 25) f7 h in
    (is_encodable-fields_under (R opcode f3 f7) w o refl, omega arith)
spells-has_form (Shift opcode f3 f6) w o b r h =
    let e = three (bits w 6 0) opcode (bits w 14 12) f3 (bits w 31 26) f6 h in
    (is_encodable-fields_under (Shift opcode f3 f6) w o (within (bits w 25 20) 64 (omega arith)), omega arith)
spells-has_form (ShiftW opcode f3 f7) w o b r h =
    let e = three (bits w 6 0) opcode (bits w 14 12) f3 (bits w 31 25) f7 h in
    (is_encodable-fields_under (ShiftW opcode f3 f7) w o (within (bits w 24 20) 32 (omega arith)), omega arith)
spells-has_form (Ignored opcode f3) w o b r h = cc
spells-has_form (Whole word) w o b r h =
    let e = two (bits w 6 0) (bits word 6 0) w word h in
    (refl, omega arith)

-- A word is what the instruction that it spells encodes to, the fences aside.
pub encoded-fields_of : (w : ℕ) (o : Op) → w < 2 ^ 32 → has_form w (form o) ≡ true → ¬ IsFence o → encoded (fields_of w o) ≡ Some w
unfolding encoded
encoded-fields_of w o b h plain =
    let s = spells-has_form (form o) w o b (true_or (reads_all (form o)) (λ e. plain (IsFence-form o e))) h in
    ap (λ t. cond t (Some (spelling (form o) (fields_of w o))) None) s.0 ∙ ap Some s.1
