-- The assembler accepts `li` with each number of 32 bits with a sign.
use Rattle.std.proofs.Common.{◌≡◌, ℕ, suc, ◌+◌, ◌-◌, ◌^◌, ◌≤◌, ◌<◌, ◌%◌, ◌⊎◌, inl, inr, Bool, true, false, cond, ltb, List, [], ◌∷◌, Option, refl, ap, ◌∙◌, arith, ℤ, pos, negsuc}
use Rattle.std.specs.Prelude.{IsOk}
use Rattle.std.specs.List.{list_all}
use Rattle.std.proofs.lemmas.Bool.{cases_lt, ltb-true, lt-ltb, le-ltb}
use Rattle.std.proofs.lemmas.Bool.Decides.{nat_tests}
use Rattle.rv_core.specs.declared.instr.Op.TheVariants as op
use Rattle.rv_core.specs.declared.listing.Layout.TheVariants.{U}
use Rattle.rv_core.specs.Encoding.{is_signed_by, is_immediate, encoded}
use Rattle.rv_asm.specs.declared.labels.Definition.{Definition}
use Rattle.rv_asm.specs.declared.statement.Statement.TheVariants.{LoadNumber}
use Rattle.rv_asm.specs.Encoding.{limit, instr, low_part, high_part, is_short, two_instructions, instructions_of, fits_word, bytes_of}
use Rattle.rv_asm.proofs.Parts.{by_half, low-fits, upper-pos, upper-neg}
use Rattle.asm_laws.proofs.Parts.{high-near, high-far, high-last, high-over, high-first, high-under}

far-fits : (a : ℕ) → a < 2 ^ 31 → 2048 ≤ a % 4096 → (a + 4096 - a % 4096 < 2 ^ 31) ⊎ (2 ^ 31 ≤ a + 4096 - a % 4096) → is_immediate (U 0x37) (high_part (pos a)) ≡ true
far-fits a h c (inl small) = ap (is_immediate (U 0x37)) (high-far a small c) ∙ upper-pos 0x37 (a + 4096 - a % 4096) small (omega arith)
far-fits a h c (inr big) = ap (is_immediate (U 0x37)) (high-last a h big c) ∙ refl

under-fits : (a : ℕ) → a < 2 ^ 31 → a % 4096 < 2048 → (a < 4096) ⊎ (4096 ≤ a) → is_immediate (U 0x37) (high_part (negsuc a)) ≡ true
under-fits a h c (inl small) = ap (is_immediate (U 0x37)) (high-first a small c) ∙ refl
under-fits a h c (inr big) = ap (is_immediate (U 0x37)) (high-under a h big c) ∙ upper-neg 0x37 (a - a % 4096 - 1) (omega arith) (omega arith)

pub high-fits : (n : ℤ) → is_signed_by (2 ^ 31) n ≡ true → is_immediate (U 0x37) (high_part n) ≡ true
high-fits (pos a) h =
    let below = ltb-true a (2 ^ 31) h in
    by_half a (λ c. ap (is_immediate (U 0x37)) (high-near a below c) ∙ upper-pos 0x37 (a - a % 4096) (omega arith) (omega arith))
    (λ c. far-fits a below c (cases_lt _ _))
high-fits (negsuc a) h =
    let below = ltb-true a (2 ^ 31) h in
    by_half a (λ c. under-fits a below c (cases_lt _ _))
    (λ c. ap (is_immediate (U 0x37)) (high-over a below c) ∙ upper-neg 0x37 (a + 4095 - a % 4096) (omega arith) (omega arith))

lui-fits : (rd : ℕ) (z : ℤ) → rd < 32 → is_immediate (U 0x37) z ≡ true → fits_word (instr op.Lui rd 0 0 z) ≡ true
unfolding encoded
lui-fits rd z h e = rw (lt-ltb rd 32 h, e) refl

addiw-fits : (rd : ℕ) (z : ℤ) → rd < 32 → is_signed_by (2 ^ 11) z ≡ true → fits_word (instr op.Addiw rd rd 0 z) ≡ true
unfolding encoded
addiw-fits rd z h e = rw (lt-ltb rd 32 h, e) refl

addi-fits : (rd : ℕ) (z : ℤ) → rd < 32 → is_signed_by (2 ^ 11) z ≡ true → fits_word (instr op.Addi rd 0 0 z) ≡ true
unfolding encoded
addi-fits rd z h e = rw (lt-ltb rd 32 h, e) refl

instructions-fit : (b : Bool) (rd : ℕ) (n : ℤ) → rd < 32 → is_signed_by (2 ^ 31) n ≡ true → is_short n ≡ b
    → list_all fits_word (cond b (instr op.Addi rd 0 0 n ∷ []) (two_instructions op.Lui op.Addiw rd n)) ≡ true
instructions-fit true rd n h range short = rw (addi-fits rd n h short) refl
instructions-fit false rd n h range short = rw (lui-fits rd (high_part n) h (high-fits n range), addiw-fits rd (low_part n) h (low-fits n)) refl

size-bound : (b : Bool) → cond b 4 8 ≤ 8
size-bound true = omega arith
size-bound false = omega arith

-- `li` is accepted for each number of 32 bits with a sign.
pub li_accepted : (find : List ℕ → Option Definition) (at rd : ℕ) (n : ℤ) → rd < 32 → is_signed_by (2 ^ 31) n ≡ true → at + 8 ≤ limit
    → IsOk (bytes_of find at (LoadNumber rd n))
unfolding bytes_of instructions_of
li_accepted find at rd n h range room =
    let fit = instructions-fit (is_short n) rd n h range refl in
    let size : cond (is_short n) 4 8 ≤ 8 = size-bound (is_short n) in
    let small : ltb limit (at + cond (is_short n) 4 8) ≡ false = le-ltb limit (at + cond (is_short n) 4 8) (omega arith) in
    rw (range, fit, small) refl
