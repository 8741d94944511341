-- The instruction by the parts of the word.
use Rattle.std.proofs.Common.{◌≡◌, ◌≢◌, ℕ, sym, ◌∙◌, refl, arith, None, rules}
use Rattle.std.proofs.lemmas.Bool.Decides.{nat_tests}
use Rattle.rv_core.specs.Listing.{bits, op_at, op_of}
use Rattle.rv_core.proofs.Names.{op_of-parts}
use Rattle.rv_core.proofs.opcodes.op_of.Goals as goal

-- The fields that an opcode's instructions don't have.
abbrev f3 : ℕ → ℕ
f3 w = bits w 14 12

abbrev f6 : ℕ → ℕ
f6 w = bits w 31 26

abbrev f7 : ℕ → ℕ
f7 w = bits w 31 25

pub returns-in-55 : goal.returns-in-55
returns-in-55 c =
    op_of-parts c.args.word 0x37 _ _ _ (sym c.bits.ensures ∙ c.in-55.is) refl refl refl

pub returns-in-23 : goal.returns-in-23
returns-in-23 c =
    op_of-parts c.args.word 0x17 _ _ _ (sym c.bits.ensures ∙ c.in-23.is) refl refl refl

pub returns-in-111 : goal.returns-in-111
returns-in-111 c =
    op_of-parts c.args.word 0x6f _ _ _ (sym c.bits.ensures ∙ c.in-111.is) refl refl refl

pub returns-in-103 : goal.returns-in-103
returns-in-103 c =
    op_of-parts c.args.word 0x67 0 _ _ (sym c.bits.ensures ∙ c.in-103.is) (sym c.if-f3-eq0.true ∙ c.bits-f3.ensures) refl refl

pub returns-in-99 : goal.returns-in-99
returns-in-99 c =
    c.branch_of.ensures c.args.word (f6 c.args.word) (f7 c.args.word) ∙ op_of-parts c.args.word 0x63 _ _ _ (sym c.bits.ensures ∙ c.in-99.is) c.bits-f3.ensures refl refl

pub returns-in-3 : goal.returns-in-3
returns-in-3 c =
    c.load_of.ensures c.args.word (f6 c.args.word) (f7 c.args.word) ∙ op_of-parts c.args.word 0x03 _ _ _ (sym c.bits.ensures ∙ c.in-3.is) c.bits-f3.ensures refl refl

pub returns-in-35 : goal.returns-in-35
returns-in-35 c =
    c.store_of.ensures c.args.word (f6 c.args.word) (f7 c.args.word) ∙ op_of-parts c.args.word 0x23 _ _ _ (sym c.bits.ensures ∙ c.in-35.is) c.bits-f3.ensures refl refl

pub returns-in-15 : goal.returns-in-15
returns-in-15 c =
    c.fence_of.ensures c.args.word (f6 c.args.word) (f7 c.args.word) ∙ op_of-parts c.args.word 0x0f _ _ _ (sym c.bits.ensures ∙ c.in-15.is) c.bits-f3.ensures refl refl

pub returns-in-51 : goal.returns-in-51
returns-in-51 c =
    c.register_of.ensures c.args.word (f6 c.args.word) ∙ op_of-parts c.args.word 0x33 _ _ _ (sym c.bits.ensures ∙ c.in-51.is) c.bits-f3.ensures refl c.bits-f7.ensures

pub returns-in-27 : goal.returns-in-27
returns-in-27 c =
    c.immediate_32_of.ensures c.args.word (f6 c.args.word) ∙ op_of-parts c.args.word 0x1b _ _ _ (sym c.bits.ensures ∙ c.in-27.is) c.bits-f3.ensures refl c.bits-f7.ensures

pub returns-in-59 : goal.returns-in-59
returns-in-59 c =
    c.register_32_of.ensures c.args.word (f6 c.args.word) ∙ op_of-parts c.args.word 0x3b _ _ _ (sym c.bits.ensures ∙ c.in-59.is) c.bits-f3.ensures refl c.bits-f7.ensures

pub returns-in-19 : goal.returns-in-19
returns-in-19 c =
    c.immediate_of.ensures c.args.word (f7 c.args.word) ∙ op_of-parts c.args.word 0x13 _ _ _ (sym c.bits.ensures ∙ c.in-19.is) c.bits-f3.ensures c.bits-in-19.ensures refl

pub returns-in-115 : goal.returns-in-115
returns-in-115 c =
    c.system_of.ensures (f3 c.args.word) (f6 c.args.word) (f7 c.args.word) ∙ op_of-parts c.args.word 0x73 _ _ _ (sym c.bits.ensures ∙ c.in-115.is) refl refl refl

jalr_or_none : (w f3 f6 f7 : ℕ) → f3 ≢ 0 → None ≡ op_at w 0x67 f3 f6 f7
jalr_or_none w f3 f6 f7 h = grind (arith, nat_tests)

pub returns-in_default : goal.returns-in_default
returns-in_default c =
    jalr_or_none c.args.word c.bits-f3.result (f6 c.args.word) (f7 c.args.word) (search rules) ∙ op_of-parts c.args.word 0x67 _ _ _ (sym c.bits.ensures ∙ c.in-103.is) c.bits-f3.ensures refl refl

pub returns-in_default-2 : goal.returns-in_default-2
unfolding op_of
returns-in_default-2 c = grind (arith, nat_tests)
