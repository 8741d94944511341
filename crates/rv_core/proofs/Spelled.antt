-- What an encoder spells, a decoder reads.
use Rattle.std.proofs.Common.{◌≡◌, ℕ, ◌+◌, ◌*◌, ◌%◌, ◌^◌, ◌<◌, Bool, true, false, cond, eqb, ltb, ◌&&◌, Some, None, refl, sym, ap, ◌∙◌, arith, lit<, rules, ℤ, pos, negsuc, IfSome}
use Rattle.std.proofs.lemmas.Bool.Decides.{nat_tests}
use Rattle.rv_core.specs.declared.instr.Op.{Op}
use Rattle.rv_core.specs.declared.listing.Layout.{Layout}
use Rattle.rv_core.specs.declared.listing.Layout.TheVariants.{U, J, I, S, B, R, Shift, ShiftW, Ignored, Whole}
use Rattle.rv_core.specs.declared.instr.Op.TheVariants as op
use Rattle.rv_core.specs.declared.instr.Instr.{Instr}
use Rattle.rv_core.specs.Listing.{HasRoom, form, has_form, bits, has_rd, has_rs1, has_rs2, immediate, signed_by, decoded, Decodes}
use Rattle.rv_core.specs.Encoding.{is_register, has_registers, is_encodable, is_immediate, spelling, unsigned_by, is_signed_by, is_below, encoded}
use Rattle.rv_core.proofs.Names.{decoded-is}
use Rattle.rv_core.proofs.Signs.{unsigned_by-bound, signed_by-unsigned_by, is_below-bound, pos-unsigned_by}

-- The instruction o with the fields that a word holds under a layout.
abbrev pub fields_under : ℕ → Op → Layout → Instr
fields_under w o f = record {
  op = o;
  rd = cond (has_rd f) (bits w 11 7) 0;
  rs1 = cond (has_rs1 f) (bits w 19 15) 0;
  rs2 = cond (has_rs2 f) (bits w 24 20) 0;
  imm = immediate w f;
}

-- The fields that the listing fixes fit into their bits.
HasRoom-form : (o : Op) → HasRoom (form o)
HasRoom-form op.Lui = lit< tt
HasRoom-form _ = search rules

pub and_true : (a b : Bool) → (a && b) ≡ true → (a ≡ true) × (b ≡ true)
and_true true b h = (refl, h)
and_true false b h = cc

below : (a b : ℕ) → ltb a b ≡ true → a < b
below a b h = grind (arith, nat_tests)

pub within : (a b : ℕ) → a < b → ltb a b ≡ true
within a b h = grind (arith, nat_tests)

pub same : (a b : ℕ) → a ≡ b → eqb a b ≡ true
same a b h = grind (arith, nat_tests)

pub equal : (a b : ℕ) → eqb a b ≡ true → a ≡ b
equal a b h = grind (arith, nat_tests)

zero_below : (z : ℤ) → is_below 1 z ≡ true → pos 0 ≡ z
zero_below (pos n) h = let e : 0 ≡ n = grind (arith, nat_tests) in ap pos e
zero_below (negsuc n) h = cc

pub both : (a b : Bool) → a ≡ true → b ≡ true → (a && b) ≡ true
both a b h k = ap (λ x. x && b) h ∙ k

two_same : (a b c d : ℕ) → a ≡ b → c ≡ d → (eqb a b && eqb c d) ≡ true
two_same a b c d e f = both _ _ (same a b e) (same c d f)

three_same : (a b c d x y : ℕ) → a ≡ b → c ≡ d → x ≡ y → (eqb a b && eqb c d && eqb x y) ≡ true
three_same a b c d x y e f g = both _ _ (two_same a b c d e f) (same x y g)

-- What is known of the fields of an instruction that can be spelled.
record InRange (f : Layout) (i : Instr) : Type 0 where
  rd : i.rd < cond (has_rd f) 32 1
  rs1 : i.rs1 < cond (has_rs1 f) 32 1
  rs2 : i.rs2 < cond (has_rs2 f) 32 1
  immediate : is_immediate f i.imm ≡ true

in_range : (f : Layout) (i : Instr) → is_encodable f i ≡ true → InRange f i
in_range f i h =
    let e = and_true (has_registers (has_rd f) (has_rs1 f) (has_rs2 f) i) (is_immediate f i.imm) h in
    let r = and_true (is_register (has_rd f) i.rd && is_register (has_rs1 f) i.rs1) (is_register (has_rs2 f) i.rs2) e.0 in
    let q = and_true (is_register (has_rd f) i.rd) (is_register (has_rs1 f) i.rs1) r.0 in
    record { rd = below _ _ q.0; rs1 = below _ _ q.1; rs2 = below _ _ r.1; immediate = e.1 }

-- A word has a layout, and holds an instruction's fields.
abbrev Holds : Layout → ℕ → Instr → Type 0
Holds f w i = (has_form w f ≡ true) × (fields_under w i.op f ≡ i)

-- From the fields at their places.
Holds-fields : (f : Layout) (i : Instr) → has_form (spelling f i) f ≡ true → cond (has_rd f) (bits (spelling f i) 11 7) 0 ≡ i.rd → cond (has_rs1 f) (bits (spelling f i) 19 15) 0 ≡ i.rs1 → cond (has_rs2 f) (bits (spelling f i) 24 20) 0 ≡ i.rs2 → immediate (spelling f i) f ≡ i.imm → Holds f (spelling f i) i
Holds-fields f i h rd rs1 rs2 imm = (h, λ t. record { op = i.op; rd = rd t; rs1 = rs1 t; rs2 = rs2 t; imm = imm t })

-- A spelling has its layout, and each field stands at its place.
Holds-spelling : (f : Layout) (i : Instr) → HasRoom f → InRange f i → Holds f (spelling f i) i
Holds-spelling (U opcode) i room r =
    let n = unsigned_by (2 ^ 31) i.imm in
    let parts = and_true (is_signed_by (2 ^ 31) i.imm) (eqb (n % 2 ^ 12) 0) r.immediate in
    let whole : n % 2 ^ 12 ≡ 0 = equal _ _ parts.1 in
    let in_n : n < 2 * 2 ^ 31 = unsigned_by-bound (2 ^ 31) i.imm parts.0 in
    let w = spelling (U opcode) i in
    let at_n : bits w 31 12 * 2 ^ 12 ≡ n = omega arith in
    Holds-fields (U opcode) i (same (bits w 6 0) opcode (omega arith)) (omega arith) (omega arith) (omega arith)
    (ap (signed_by (2 ^ 31)) at_n ∙ signed_by-unsigned_by (2 ^ 31) i.imm parts.0)
Holds-spelling (J opcode) i room r =
    let n = unsigned_by (2 ^ 20) i.imm in
    let parts = and_true (is_signed_by (2 ^ 20) i.imm) (eqb (n % 2) 0) r.immediate in
    let whole : n % 2 ≡ 0 = equal _ _ parts.1 in
    let in_n : n < 2 * 2 ^ 20 = unsigned_by-bound (2 ^ 20) i.imm parts.0 in
    let w = spelling (J opcode) i in
    let at_n : bits w 31 31 * 2 ^ 20 + bits w 19 12 * 2 ^ 12 + bits w 20 20 * 2 ^ 11 + bits w 30 21 * 2 ≡ n = omega arith in
    Holds-fields (J opcode) i (same (bits w 6 0) opcode (omega arith)) (omega arith) (omega arith) (omega arith)
    (ap (signed_by (2 ^ 20)) at_n ∙ signed_by-unsigned_by (2 ^ 20) i.imm parts.0)
Holds-spelling (I opcode f3) i room r =
    let n = unsigned_by (2 ^ 11) i.imm in
    let in_n : n < 2 * 2 ^ 11 = unsigned_by-bound (2 ^ 11) i.imm r.immediate in
    let w = spelling (I opcode f3) i in
    let at_n : bits w 31 20 ≡ n = omega arith in
    Holds-fields (I opcode f3) i (two_same (bits w 6 0) opcode (bits w 14 12) f3 (omega arith) (omega arith)) (omega arith) (omega arith) (omega arith)
    (ap (signed_by (2 ^ 11)) at_n ∙ signed_by-unsigned_by (2 ^ 11) i.imm r.immediate)
Holds-spelling (S opcode f3) i room r =
    let n = unsigned_by (2 ^ 11) i.imm in
    let in_n : n < 2 * 2 ^ 11 = unsigned_by-bound (2 ^ 11) i.imm r.immediate in
    let w = spelling (S opcode f3) i in
    let at_n : bits w 31 25 * 2 ^ 5 + bits w 11 7 ≡ n = omega arith in
    Holds-fields (S opcode f3) i (two_same (bits w 6 0) opcode (bits w 14 12) f3 (omega arith) (omega arith)) (omega arith) (omega arith) (omega arith)
    (ap (signed_by (2 ^ 11)) at_n ∙ signed_by-unsigned_by (2 ^ 11) i.imm r.immediate)
Holds-spelling (B opcode f3) i room r =
    let n = unsigned_by (2 ^ 12) i.imm in
    let parts = and_true (is_signed_by (2 ^ 12) i.imm) (eqb (n % 2) 0) r.immediate in
    let whole : n % 2 ≡ 0 = equal _ _ parts.1 in
    let in_n : n < 2 * 2 ^ 12 = unsigned_by-bound (2 ^ 12) i.imm parts.0 in
    let w = spelling (B opcode f3) i in
    let at_n : bits w 31 31 * 2 ^ 12 + bits w 7 7 * 2 ^ 11 + bits w 30 25 * 2 ^ 5 + bits w 11 8 * 2 ≡ n = omega arith in
    Holds-fields (B opcode f3) i (two_same (bits w 6 0) opcode (bits w 14 12) f3 (omega arith) (omega arith)) (omega arith) (omega arith) (omega arith)
    (ap (signed_by (2 ^ 12)) at_n ∙ signed_by-unsigned_by (2 ^ 12) i.imm parts.0)
Holds-spelling (R opcode f3 f7) i room r =
    let w = spelling (R opcode f3 f7) i in
    Holds-fields (R opcode f3 f7) i (three_same (bits w 6 0) opcode (bits w 14 12) f3 (bits w 31 25) f7 (omega arith) (omega arith) (omega arith)) (omega arith) (omega arith) (omega arith) (zero_below i.imm r.immediate)
Holds-spelling (Shift opcode f3 f6) i room r =
    let n = unsigned_by (2 ^ 6) i.imm in
    let in_n : n < 2 ^ 6 = is_below-bound (2 ^ 6) (2 ^ 6) i.imm r.immediate in
    let w = spelling (Shift opcode f3 f6) i in
    let at_n : bits w 25 20 ≡ n = omega arith in
    Holds-fields (Shift opcode f3 f6) i (three_same (bits w 6 0) opcode (bits w 14 12) f3 (bits w 31 26) f6 (omega arith) (omega arith) (omega arith)) (omega arith) (omega arith) (omega arith)
    (ap pos at_n ∙ pos-unsigned_by (2 ^ 6) (2 ^ 6) i.imm r.immediate)
Holds-spelling (ShiftW opcode f3 f7) i room r =
    let n = unsigned_by (2 ^ 5) i.imm in
    let in_n : n < 2 ^ 5 = is_below-bound (2 ^ 5) (2 ^ 5) i.imm r.immediate in
    let w = spelling (ShiftW opcode f3 f7) i in
    let at_n : bits w 24 20 ≡ n = omega arith in
    Holds-fields (ShiftW opcode f3 f7) i (three_same (bits w 6 0) opcode (bits w 14 12) f3 (bits w 31 25) f7 (omega arith) (omega arith) (omega arith)) (omega arith) (omega arith) (omega arith)
    (ap pos at_n ∙ pos-unsigned_by (2 ^ 5) (2 ^ 5) i.imm r.immediate)
Holds-spelling (Ignored opcode f3) i room r =
    let w = spelling (Ignored opcode f3) i in
    Holds-fields (Ignored opcode f3) i (two_same (bits w 6 0) opcode (bits w 14 12) f3 (omega arith) (omega arith)) (omega arith) (omega arith) (omega arith) (zero_below i.imm r.immediate)
Holds-spelling (Whole word) i room r =
    let w = spelling (Whole word) i in
    let at_word : w ≡ word = omega arith in
    Holds-fields (Whole word) i (both _ _ (same _ _ (ap (λ v. bits v 6 0) at_word)) (same _ _ at_word)) (omega arith) (omega arith) (omega arith) (zero_below i.imm r.immediate)

-- An instruction decodes from its spelling.
pub decoded-spelling : (i : Instr) → is_encodable (form i.op) i ≡ true → decoded (spelling (form i.op) i) ≡ Some i
decoded-spelling i e =
    let h = Holds-spelling (form i.op) i (HasRoom-form i.op) (in_range (form i.op) i e) in
    let d : Decodes (spelling (form i.op) i) (Some i) = (h.0, sym h.1) in
    decoded-is _ (Some i) d

decoded-cond : (i : Instr) (b : Bool) → is_encodable (form i.op) i ≡ b → IfSome (cond b (Some (spelling (form i.op) i)) None) (λ w. decoded w ≡ Some i)
decoded-cond i true e = decoded-spelling i e
decoded-cond i false e = tt

-- What an instruction encodes to decodes to it.
pub decoded-encoded : (i : Instr) → IfSome (encoded i) (λ w. decoded w ≡ Some i)
unfolding encoded
decoded-encoded i = decoded-cond i (is_encodable (form i.op) i) refl
