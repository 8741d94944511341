-- `la` and jumps on the machine.
use Rattle.std.proofs.Common.{◌≡◌, ℕ, ◌+◌, ◌*◌, ◌%◌, ◌^◌, ◌≤◌, ◌/◌, Ok, ◌<◌, true, cond, List, length, Option, Some, ap, subst, refl, ◌∙◌, arith, ℤ, pos, ◌-ℤ◌}
use Rattle.std.specs.List.{list_all}
use Rattle.std.specs.Option.{option_map_or}
use Rattle.std.specs.Int.{cast_unsigned, w64}
use Rattle.std.proofs.lemmas.Int.{ints}
use Rattle.std.proofs.lemmas.Bool.Decides.{nat_tests}
use Rattle.rv_core.specs.declared.context.Context.{Context}
use Rattle.rv_core.specs.declared.instr.Op.TheVariants as op
use Rattle.rv_core.specs.Memory.{Memory}
use Rattle.rv_core.specs.Encoding.{is_signed_by}
use Rattle.rv_core.specs.Rows.{word}
use Rattle.rv_core.specs.Machine.{Goes, Faults, register, with_register, at, next, jumps, instructions}
use Rattle.rv_core.proofs.Spelled.{and_true}
use Rattle.rv_asm.specs.declared.labels.Definition.{Definition}
use Rattle.rv_asm.specs.declared.statement.Statement.TheVariants.{LoadAddress, Jump}
use Rattle.rv_asm.specs.Encoding.{instr, limit, distance, low_part, high_part, address_instructions, instructions_of, fits_word, fits_values}
use Rattle.rv_asm.specs.Encoding.{bytes_of, data_of}
use Rattle.asm_laws.specs.Code.{HoldsCode}
use Rattle.asm_laws.proofs.Bytes.{HoldsWords, fits-accepted, words-accepted, final-accepted}
use Rattle.rv_asm.proofs.Sizes.{within-accepted}
use Rattle.asm_laws.proofs.Parts.{word-parts}
use Rattle.asm_laws.proofs.Run.{final, is_zero, instruction-fetched, instructions-one, instructions-two, register-with, with_register-twice}

-- Distances

pub small_distance : (to from : ℕ) → to ≤ limit → from ≤ limit → is_signed_by (2 ^ 30) (pos to -ℤ pos from) ≡ true
small_distance to from h k = grind (arith, nat_tests, ints)

-- A distance from an address, added to it, is the address that it leads to.
word-distance : (to from : ℕ) → to ≤ limit → from ≤ limit → word (from + cast_unsigned w64 (pos to -ℤ pos from)) ≡ to
word-distance to from h k = grind (arith, ints)

pub distance-is : (find : List ℕ → Option Definition) (from : ℕ) (label : List ℕ) (d : Definition) → find label ≡ Some d
    → distance find from label ≡ pos d.address -ℤ pos from
distance-is find from label d e = ap (λ (o : Option Definition). option_map_or (λ x. pos x.address -ℤ pos from) o (pos 0)) e

word-twice : (p h l s : ℕ) → word (h + l) ≡ s → word (word (p + h) + l) ≡ word (p + s)
word-twice p h l s e = omega arith

-- `la`

address_value : (to from : ℕ) → to ≤ limit → from ≤ limit
    → word (word (from + cast_unsigned w64 (high_part (pos to -ℤ pos from))) + cast_unsigned w64 (low_part (pos to -ℤ pos from))) ≡ to
address_value to from h k =
    let n = pos to -ℤ pos from in
    word-twice from (cast_unsigned w64 (high_part n)) (cast_unsigned w64 (low_part n)) (cast_unsigned w64 n) (word-parts n (small_distance to from h k))
    ∙ word-distance to from h k

address_done : (cx : Context) (m : Memory) (rd to : ℕ) → 1 ≤ rd → rd ≤ length cx.x → cx.pc % 4 ≡ 0 → to ≤ limit → cx.pc ≤ limit
    → list_all fits_word (address_instructions rd (pos to -ℤ pos cx.pc)) ≡ true → HoldsWords m cx.pc (address_instructions rd (pos to -ℤ pos cx.pc))
    → instructions 2 cx m ≡ final (at (with_register cx rd to) (word (cx.pc + 8))) m
address_done cx m rd to low high whole near here fits held =
    let aligned : word (cx.pc + 4) % 4 ≡ 0 = omega arith in
    let behind : word (word (cx.pc + 4) + 4) ≡ word (cx.pc + 8) = omega arith in
    let n = pos to -ℤ pos cx.pc in
    let v = word (cx.pc + cast_unsigned w64 (high_part n)) in
    let c = at (with_register cx rd v) (word (cx.pc + 4)) in
    let first = instruction-fetched cx m (instr op.Auipc rd 0 0 (high_part n)) whole held.0 (and_true _ _ fits).0 in
    let more : fits_word (instr op.Addi rd rd 0 (low_part n)) ≡ true = (and_true _ _ (and_true _ _ fits).1).0 in
    let second = instruction-fetched c m (instr op.Addi rd rd 0 (low_part n)) aligned held.1.0 more in
    let value : word (register c rd + cast_unsigned w64 (low_part n)) ≡ to =
    ap (λ r. word (r + cast_unsigned w64 (low_part n))) (register-with cx rd v (word (cx.pc + 4)) low high) ∙ address_value to cx.pc near here in
    instructions-two cx c (at (with_register cx rd to) (word (cx.pc + 8))) m first
    (second ∙ (ap (λ w. Goes (at (with_register c rd w) (word (word (cx.pc + 4) + 4))) m) value
    ∙ (ap (λ d. Goes d m) (with_register-twice cx rd v to (word (cx.pc + 4)) (word (word (cx.pc + 4) + 4)))
    ∙ ap (λ pc. Goes (at (with_register cx rd to) pc) m) behind)))

la_ran : (find : List ℕ → Option Definition) (cx : Context) (m : Memory) (rd : ℕ) (label : List ℕ) (d : Definition)
    → 1 ≤ rd → rd < 32 → length cx.x ≡ 31 → cx.pc % 4 ≡ 0 → find label ≡ Some d → cx.pc ≤ limit → d.address ≤ limit
    → fits_values find cx.pc (LoadAddress rd label) ≡ true → HoldsWords m cx.pc (instructions_of find cx.pc (LoadAddress rd label))
    → instructions (length (instructions_of find cx.pc (LoadAddress rd label))) cx m
    ≡ final (at (with_register cx rd d.address) (word (cx.pc + 4 * length (instructions_of find cx.pc (LoadAddress rd label))))) m
unfolding instructions_of
la_ran find cx m rd label d low high long whole found here near fits held =
    let e = distance-is find cx.pc label d found in
    address_done cx m rd d.address low (omega arith) whole near here
    (subst (λ (z : ℤ). list_all fits_word (address_instructions rd z) ≡ true) e fits) (subst (λ (z : ℤ). HoldsWords m cx.pc (address_instructions rd z)) e held)

-- Jumps

jumps-there : (cx : Context) (m : Memory) (rd to : ℕ) → to % 4 ≡ 0 → jumps cx m rd to ≡ Goes (at (with_register cx rd (next cx)) to) m
jumps-there cx m rd to h = ap (λ b. cond b (Goes (at (with_register cx rd (next cx)) to) m) (Faults 0 to)) (is_zero (to % 4) h)

jump_ran : (find : List ℕ → Option Definition) (cx : Context) (m : Memory) (rd : ℕ) (label : List ℕ) (d : Definition)
    → cx.pc % 4 ≡ 0 → find label ≡ Some d → cx.pc ≤ limit → d.address ≤ limit → d.address % 4 ≡ 0
    → fits_values find cx.pc (Jump rd label) ≡ true → HoldsWords m cx.pc (instructions_of find cx.pc (Jump rd label))
    → instructions (length (instructions_of find cx.pc (Jump rd label))) cx m ≡ final (at (with_register cx rd (next cx)) d.address) m
unfolding instructions_of
jump_ran find cx m rd label d whole found here near even fits held =
    let e = distance-is find cx.pc label d found in
    let to : word (cx.pc + cast_unsigned w64 (distance find cx.pc label)) ≡ d.address =
    ap (λ z. word (cx.pc + cast_unsigned w64 z)) e ∙ word-distance d.address cx.pc near here in
    instructions-one cx (at (with_register cx rd (next cx)) d.address) m
    (instruction-fetched cx m (instr op.Jal rd 0 0 (distance find cx.pc label)) whole held.0 (and_true _ _ fits).0
    ∙ (ap (jumps cx m rd) to ∙ jumps-there cx m rd d.address even))

-- By their bytes

-- `la` leaves its label's address.
pub la_done : (find : List ℕ → Option Definition) (cx : Context) (m : Memory) (rd : ℕ) (label : List ℕ) (d : Definition) (bytes : List ℕ)
    → 1 ≤ rd → rd < 32 → length cx.x ≡ 31 → cx.pc % 4 ≡ 0 → find label ≡ Some d → d.address ≤ limit
    → bytes_of find cx.pc (LoadAddress rd label) ≡ Ok bytes → HoldsCode m cx.pc bytes
    → instructions (length bytes / 4) cx m ≡ final (at (with_register cx rd d.address) (word (cx.pc + length bytes))) m
unfolding data_of
la_done find cx m rd label d bytes low high long whole found near ok held =
    let s = LoadAddress rd label in
    let here : cx.pc ≤ limit = omega (arith, within-accepted find cx.pc s bytes ok) in
    final-accepted find cx.pc s bytes ok refl cx m (λ size. at (with_register cx rd d.address) (word (cx.pc + size)))
    (la_ran find cx m rd label d low high long whole found here near (fits-accepted find cx.pc s bytes ok) (words-accepted find cx.pc s bytes ok refl m held))

-- A jump comes to its label.
pub jump_done : (find : List ℕ → Option Definition) (cx : Context) (m : Memory) (rd : ℕ) (label : List ℕ) (d : Definition) (bytes : List ℕ)
    → cx.pc % 4 ≡ 0 → find label ≡ Some d → d.address ≤ limit → d.address % 4 ≡ 0
    → bytes_of find cx.pc (Jump rd label) ≡ Ok bytes → HoldsCode m cx.pc bytes
    → instructions (length bytes / 4) cx m ≡ final (at (with_register cx rd (next cx)) d.address) m
unfolding data_of
jump_done find cx m rd label d bytes whole found near even ok held =
    let s = Jump rd label in
    let here : cx.pc ≤ limit = omega (arith, within-accepted find cx.pc s bytes ok) in
    final-accepted find cx.pc s bytes ok refl cx m (λ size. at (with_register cx rd (next cx)) d.address)
    (jump_ran find cx m rd label d whole found here near even (fits-accepted find cx.pc s bytes ok) (words-accepted find cx.pc s bytes ok refl m held))
