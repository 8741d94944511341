-- `li` on the machine.
use Rattle.std.proofs.Common.{◌≡◌, ℕ, ◌+◌, ◌*◌, ◌%◌, ◌^◌, ◌≤◌, ◌/◌, Ok, ◌<◌, Bool, true, false, cond, List, [], ◌∷◌, length, Option, ap, refl, ◌∙◌, arith, ℤ, pos, negsuc}
use Rattle.std.specs.List.{list_all}
use Rattle.std.specs.Int.{cast_unsigned, w64}
use Rattle.std.proofs.lemmas.Bool.Decides.{nat_tests}
use Rattle.rv_core.specs.declared.context.Context.{Context}
use Rattle.rv_core.specs.declared.instr.Op.TheVariants as op
use Rattle.rv_core.specs.Memory.{Memory}
use Rattle.rv_core.specs.Encoding.{is_signed_by}
use Rattle.rv_core.specs.Rows.{word, extended}
use Rattle.rv_core.specs.Machine.{Goes, register, with_register, at, next, instructions}
use Rattle.rv_core.proofs.Spelled.{and_true}
use Rattle.rv_asm.specs.declared.labels.Definition.{Definition}
use Rattle.rv_asm.specs.declared.statement.Statement.TheVariants.{LoadNumber}
use Rattle.rv_asm.specs.Encoding.{instr, is_short, low_part, high_part, two_instructions, number_instructions, instructions_of, fits_word, fits_values}
use Rattle.rv_asm.specs.Encoding.{bytes_of, data_of}
use Rattle.asm_laws.specs.Code.{HoldsCode}
use Rattle.asm_laws.proofs.Bytes.{HoldsWords, fits-accepted, words-accepted, final-accepted}
use Rattle.asm_laws.proofs.Parts.{extended-parts}
use Rattle.asm_laws.proofs.Run.{final, instruction-fetched, instructions-one, instructions-two, register-with, with_register-twice}

word-cast : (n : ℤ) → is_signed_by (2 ^ 31) n ≡ true → word (0 + cast_unsigned w64 n) ≡ cast_unsigned w64 n
word-cast (pos a) h = grind (arith, nat_tests)
word-cast (negsuc a) h = grind (arith, nat_tests)

-- The registers that `li` leaves, behind so many bytes.
abbrev with_number : Context → ℕ → ℤ → ℕ → Context
with_number cx rd n size = at (with_register cx rd (cast_unsigned w64 n)) (word (cx.pc + size))

one_ran : (cx : Context) (m : Memory) (rd : ℕ) (n : ℤ) → cx.pc % 4 ≡ 0 → is_signed_by (2 ^ 31) n ≡ true
    → list_all fits_word (instr op.Addi rd 0 0 n ∷ []) ≡ true → HoldsWords m cx.pc (instr op.Addi rd 0 0 n ∷ [])
    → instructions 1 cx m ≡ final (with_number cx rd n 4) m
one_ran cx m rd n whole range fits held =
    instructions-one cx (with_number cx rd n 4) m
    (instruction-fetched cx m (instr op.Addi rd 0 0 n) whole held.0 (and_true _ _ fits).0
    ∙ ap (λ v. Goes (at (with_register cx rd v) (next cx)) m) (word-cast n range))

two_ran : (cx : Context) (m : Memory) (rd : ℕ) (n : ℤ) → 1 ≤ rd → rd ≤ length cx.x → cx.pc % 4 ≡ 0 → is_signed_by (2 ^ 31) n ≡ true
    → list_all fits_word (two_instructions op.Lui op.Addiw rd n) ≡ true → HoldsWords m cx.pc (two_instructions op.Lui op.Addiw rd n)
    → instructions 2 cx m ≡ final (with_number cx rd n 8) m
two_ran cx m rd n low high whole range fits held =
    let aligned : word (cx.pc + 4) % 4 ≡ 0 = omega arith in
    let behind : word (word (cx.pc + 4) + 4) ≡ word (cx.pc + 8) = omega arith in
    let v = cast_unsigned w64 (high_part n) in
    let c = at (with_register cx rd v) (word (cx.pc + 4)) in
    let first = instruction-fetched cx m (instr op.Lui rd 0 0 (high_part n)) whole held.0 (and_true _ _ fits).0 in
    let more : fits_word (instr op.Addiw rd rd 0 (low_part n)) ≡ true = (and_true _ _ (and_true _ _ fits).1).0 in
    let second = instruction-fetched c m (instr op.Addiw rd rd 0 (low_part n)) aligned held.1.0 more in
    let value : extended (register c rd + cast_unsigned w64 (low_part n)) ≡ cast_unsigned w64 n =
    ap (λ r. extended (r + cast_unsigned w64 (low_part n))) (register-with cx rd v (word (cx.pc + 4)) low high) ∙ extended-parts n range in
    instructions-two cx c (with_number cx rd n 8) m first
    (second ∙ (ap (λ w. Goes (at (with_register c rd w) (word (word (cx.pc + 4) + 4))) m) value
    ∙ (ap (λ d. Goes d m) (with_register-twice cx rd v (cast_unsigned w64 n) (word (cx.pc + 4)) (word (word (cx.pc + 4) + 4)))
    ∙ ap (λ pc. Goes (at (with_register cx rd (cast_unsigned w64 n)) pc) m) behind)))

both_ran : (b : Bool) (cx : Context) (m : Memory) (rd : ℕ) (n : ℤ) → 1 ≤ rd → rd ≤ length cx.x → cx.pc % 4 ≡ 0 → is_signed_by (2 ^ 31) n ≡ true
    → list_all fits_word (cond b (instr op.Addi rd 0 0 n ∷ []) (two_instructions op.Lui op.Addiw rd n)) ≡ true
    → HoldsWords m cx.pc (cond b (instr op.Addi rd 0 0 n ∷ []) (two_instructions op.Lui op.Addiw rd n))
    → instructions (length (cond b (instr op.Addi rd 0 0 n ∷ []) (two_instructions op.Lui op.Addiw rd n))) cx m
    ≡ final (with_number cx rd n (4 * length (cond b (instr op.Addi rd 0 0 n ∷ []) (two_instructions op.Lui op.Addiw rd n)))) m
both_ran true cx m rd n low high whole range fits held = one_ran cx m rd n whole range fits held
both_ran false cx m rd n low high whole range fits held = two_ran cx m rd n low high whole range fits held

li_ran : (find : List ℕ → Option Definition) (cx : Context) (m : Memory) (rd : ℕ) (n : ℤ)
    → 1 ≤ rd → rd < 32 → length cx.x ≡ 31 → cx.pc % 4 ≡ 0 → fits_values find cx.pc (LoadNumber rd n) ≡ true
    → HoldsWords m cx.pc (instructions_of find cx.pc (LoadNumber rd n))
    → instructions (length (instructions_of find cx.pc (LoadNumber rd n))) cx m
    ≡ final (with_number cx rd n (4 * length (instructions_of find cx.pc (LoadNumber rd n)))) m
unfolding instructions_of
li_ran find cx m rd n low high long whole fits held =
    let parts = and_true (is_signed_by (2 ^ 31) n) (list_all fits_word (number_instructions rd n)) fits in
    both_ran (is_short n) cx m rd n low (omega arith) whole parts.0 parts.1 held

-- `li` leaves its number.
pub li_done : (find : List ℕ → Option Definition) (cx : Context) (m : Memory) (rd : ℕ) (n : ℤ) (bytes : List ℕ)
    → 1 ≤ rd → rd < 32 → length cx.x ≡ 31 → cx.pc % 4 ≡ 0 → bytes_of find cx.pc (LoadNumber rd n) ≡ Ok bytes → HoldsCode m cx.pc bytes
    → instructions (length bytes / 4) cx m ≡ final (with_number cx rd n (length bytes)) m
unfolding data_of
li_done find cx m rd n bytes low high long whole ok held =
    let s = LoadNumber rd n in
    final-accepted find cx.pc s bytes ok refl cx m (with_number cx rd n)
    (li_ran find cx m rd n low high long whole (fits-accepted find cx.pc s bytes ok) (words-accepted find cx.pc s bytes ok refl m held))
