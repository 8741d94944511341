-- A word has the layout of one instruction at most, and the listing finds that one.
use Rattle.std.proofs.Common.{◌≡◌, ℕ, Bool, true, false, cond, eqb, ◌&&◌, List, [], ◌∷◌, Option, Some, None, refl, sym, subst, ap, ◌∙◌, arith, find, option_map, pos, ◌/◌, ◌%◌, ◌^◌, ◌<◌}
use Rattle.std.proofs.lemmas.Bool.Decides.{nat_tests}
use Rattle.rv_core.specs.declared.instr.Op.{Op}
use Rattle.rv_core.specs.declared.instr.Op.TheVariants as op
use Rattle.rv_core.specs.declared.instr.Instr.{Instr}
use Rattle.rv_core.specs.declared.listing.Layout.{Layout}
use Rattle.rv_core.specs.declared.listing.Layout.TheVariants.{U, J, I, S, B, R, Shift, ShiftW, Ignored, Whole}
use Rattle.rv_core.specs.Listing.{form, is_layout_at, has_form, has_rd, has_rs1, has_rs2, bits, listed, decoded, fields_of, op_at, op_of, Decodes, NamesRegisters}

pub one : (a b : ℕ) → eqb a b ≡ true → a ≡ b
one a b h = grind (arith, nat_tests)

pub two : (a b c d : ℕ) → (eqb a b && eqb c d) ≡ true → (a ≡ b) × (c ≡ d)
two a b c d h = (grind (arith, nat_tests), grind (arith, nat_tests))

pub three : (a b c d e f : ℕ) → (eqb a b && eqb c d && eqb e f) ≡ true → (a ≡ b) × (c ≡ d) × (e ≡ f)
three a b c d e f h = (grind (arith, nat_tests), grind (arith, nat_tests), grind (arith, nat_tests))

-- A function of the parts of a word, at the parts that a layout fixes.
abbrev at_layout : {A : Type 0} → (ℕ → ℕ → ℕ → ℕ → ℕ → A) → Layout → ℕ → ℕ → ℕ → ℕ → A
at_layout g (U opcode) w f3 f6 f7 = g w opcode f3 f6 f7
at_layout g (J opcode) w f3 f6 f7 = g w opcode f3 f6 f7
at_layout g (I opcode f3') w f3 f6 f7 = g w opcode f3' f6 f7
at_layout g (S opcode f3') w f3 f6 f7 = g w opcode f3' f6 f7
at_layout g (B opcode f3') w f3 f6 f7 = g w opcode f3' f6 f7
at_layout g (R opcode f3' f7') w f3 f6 f7 = g w opcode f3' f6 f7'
at_layout g (Shift opcode f3' f6') w f3 f6 f7 = g w opcode f3' f6' f7
at_layout g (ShiftW opcode f3' f7') w f3 f6 f7 = g w opcode f3' f6 f7'
at_layout g (Ignored opcode f3') w f3 f6 f7 = g w opcode f3' f6 f7
at_layout g (Whole word) w f3 f6 f7 = g word (bits word 6 0) f3 f6 f7

at_layout-is : {A : Type 0} (g : ℕ → ℕ → ℕ → ℕ → ℕ → A) (f : Layout) (w opcode f3 f6 f7 : ℕ) → is_layout_at w opcode f3 f6 f7 f ≡ true → at_layout g f w f3 f6 f7 ≡ g w opcode f3 f6 f7
at_layout-is g (U opcode') w opcode f3 f6 f7 h = let e = one opcode opcode' h in cc
at_layout-is g (J opcode') w opcode f3 f6 f7 h = let e = one opcode opcode' h in cc
at_layout-is g (I opcode' f3') w opcode f3 f6 f7 h = let e = two opcode opcode' f3 f3' h in cc
at_layout-is g (S opcode' f3') w opcode f3 f6 f7 h = let e = two opcode opcode' f3 f3' h in cc
at_layout-is g (B opcode' f3') w opcode f3 f6 f7 h = let e = two opcode opcode' f3 f3' h in cc
at_layout-is g (R opcode' f3' f7') w opcode f3 f6 f7 h = let e = three opcode opcode' f3 f3' f7 f7' h in cc
at_layout-is g (Shift opcode' f3' f6') w opcode f3 f6 f7 h = let e = three opcode opcode' f3 f3' f6 f6' h in cc
at_layout-is g (ShiftW opcode' f3' f7') w opcode f3 f6 f7 h = let e = three opcode opcode' f3 f3' f7 f7' h in cc
at_layout-is g (Ignored opcode' f3') w opcode f3 f6 f7 h = let e = two opcode opcode' f3 f3' h in cc
at_layout-is g (Whole word) w opcode f3 f6 f7 h = let e = two opcode (bits word 6 0) w word h in cc

-- Each instruction is the first of the listing that has the parts that its layout fixes.
op_at-form : (o : Op) (w f3 f6 f7 : ℕ) → at_layout op_at (form o) w f3 f6 f7 ≡ Some o
op_at-form op.Lui w f3 f6 f7 = refl
op_at-form _ w f3 f6 f7 = refl

-- The instruction whose layout a word has is the one that the listing finds.
pub op_of-form : (o : Op) (w : ℕ) → has_form w (form o) ≡ true → op_of w ≡ Some o
unfolding op_of
op_of-form o w h = sym (at_layout-is op_at (form o) w _ _ _ _ h) ∙ op_at-form o w _ _ _

some_same : {A : Type 0} (x y : A) → Some x ≡ Some y → x ≡ y
some_same x y e = cc

pub form-unique : (o p : Op) (w : ℕ) → has_form w (form o) ≡ true → has_form w (form p) ≡ true → p ≡ o
form-unique o p w h k = some_same p o (sym (op_of-form p w k) ∙ op_of-form o w h)

false_or_true : (b : Bool) → (b ≡ true → ⊥) → b ≡ false
false_or_true true h = absurd (h refl)
false_or_true false h = refl

-- Where the listing finds nothing, the word has no instruction's layout.
pub form-none : (w : ℕ) → op_of w ≡ None → (o : Op) → has_form w (form o) ≡ false
form-none w e o = false_or_true _ (λ h. let s : Some o ≡ None = sym (op_of-form o w h) ∙ e in cc)

found_head : {X : Type 0} (p : X → Bool) (y : X) (ys : List X) (x : X) (b : Bool) → p y ≡ b → (find p ys ≡ Some x → p x ≡ true) → cond b (Some y) (find p ys) ≡ Some x → p x ≡ true
found_head p y ys x true h rest e = ap p (sym (some_same y x e)) ∙ h
found_head p y ys x false h rest e = rest e

found-holds : {X : Type 0} (p : X → Bool) (xs : List X) (x : X) → find p xs ≡ Some x → p x ≡ true
found-holds p [] x e = cc
found-holds p (y ∷ ys) x e = found_head p y ys x (p y) refl (found-holds p ys x) e

-- What a decoder finds by the parts of a word.
pub op_of-parts : (w opcode f3 f6 f7 : ℕ) → bits w 6 0 ≡ opcode → f3 ≡ bits w 14 12 → f6 ≡ bits w 31 26 → f7 ≡ bits w 31 25 → op_at w opcode f3 f6 f7 ≡ op_of w
unfolding op_of
op_of-parts w opcode f3 f6 f7 a b c d = cc

-- What the listing finds has the word's layout.
pub has_form-op_of : (w : ℕ) (o : Op) → op_of w ≡ Some o → has_form w (form o) ≡ true
unfolding op_of
has_form-op_of w o e = found-holds (λ p. has_form w (form p)) listed o e

pub Decodes-op_of : (w : ℕ) (o : Op) → op_of w ≡ Some o → Decodes w (Some (fields_of w o))
Decodes-op_of w o e = (has_form-op_of w o e, refl)

op_of-none : (w : ℕ) (r : Option Op) → op_of w ≡ r → ((o : Op) → has_form w (form o) ≡ false) → r ≡ None
op_of-none w None e h = refl
op_of-none w (Some o) e h = absurd (let t = has_form-op_of w o e in let f = h o in cc)

-- A word decodes to the one answer that the listing gives it.
pub decoded-is : (w : ℕ) (r : Option Instr) → Decodes w r → decoded w ≡ r
unfolding decoded op_of
decoded-is w None h = ap (option_map (fields_of w)) (op_of-none w (op_of w) refl h)
decoded-is w (Some i) h = ap (option_map (fields_of w)) (op_of-form i.op w h.0) ∙ ap Some (sym h.1)

-- ---- the registers of what a word spells
register_below : (has : Bool) (n : ℕ) → cond has (n % 32) 0 < 32
register_below true n = omega arith
register_below false n = omega arith

NamesRegisters-fields_of : (w : ℕ) (o : Op) → NamesRegisters (fields_of w o)
NamesRegisters-fields_of w o = record {
  rd = register_below (has_rd (form o)) (w / 2 ^ 7);
  rs1 = register_below (has_rs1 (form o)) (w / 2 ^ 15);
  rs2 = register_below (has_rs2 (form o)) (w / 2 ^ 20);
}

NamesRegisters-found : (w : ℕ) (r : Option Op) (i : Instr) → option_map (fields_of w) r ≡ Some i → NamesRegisters i
NamesRegisters-found w None i e = absurd cc
NamesRegisters-found w (Some o) i e = subst NamesRegisters (some_same (fields_of w o) i e) (NamesRegisters-fields_of w o)

pub NamesRegisters-decoded : (w : ℕ) (i : Instr) → decoded w ≡ Some i → NamesRegisters i
unfolding decoded
NamesRegisters-decoded w i e = NamesRegisters-found w (find (λ o. has_form w (form o)) listed) i e

-- 0x13 is the word of `addi x0, x0, 0`.
pub decoded-nop : decoded 0x13 ≡ Some (record { op = op.Addi; rd = 0; rs1 = 0; rs2 = 0; imm = pos 0 })
unfolding decoded
decoded-nop = refl
