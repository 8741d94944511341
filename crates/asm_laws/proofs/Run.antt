-- The machine does the instructions that its memory holds.
use Rattle.std.proofs.Common.{◌≡◌, ℕ, ◌-◌, ◌%◌, ◌≤◌, true, false, cond, eqb, length, set, Option, Some, None, refl, ap, ◌∙◌, arith}
use Rattle.std.specs.Option.{IfSome, is_some, unwrap_or}
use Rattle.std.proofs.lemmas.Bool.Decides.{nat_tests}
use Rattle.std.proofs.lemmas.List.{set-set, get_or-set_same}
use Rattle.rv_core.specs.declared.context.Context.{Context}
use Rattle.rv_core.specs.declared.instr.Instr.{Instr}
use Rattle.rv_core.specs.Memory.{Memory, fetched}
use Rattle.rv_core.specs.Listing.{decoded}
use Rattle.rv_core.specs.Encoding.{encoded}
use Rattle.rv_core.specs.Machine.{Goes, Faults, Reached, register, with_register, at, next, executed, executed_word, executed_at, instruction, instructions, go_on}
use Rattle.rv_core.proofs.Spelled.{decoded-encoded}
use Rattle.rv_asm.specs.Encoding.{fits_word, word_of}

decoded-if : (i : Instr) (o : Option ℕ) → IfSome o (λ w. decoded w ≡ Some i) → is_some o ≡ true → decoded (unwrap_or o 0) ≡ Some i
decoded-if i (Some w) h fits = h
decoded-if i None h fits = cc

decoded-word_of : (i : Instr) → fits_word i ≡ true → decoded (word_of i) ≡ Some i
decoded-word_of i fits = decoded-if i (encoded i) (decoded-encoded i) fits

pub is_zero : (n : ℕ) → n ≡ 0 → eqb n 0 ≡ true
is_zero n h = grind (arith, nat_tests)

-- An instruction whose word is fetched is done.
pub instruction-fetched : (cx : Context) (m : Memory) (i : Instr) → cx.pc % 4 ≡ 0 → fetched m cx.pc ≡ Some (word_of i) → fits_word i ≡ true
    → instruction cx m ≡ executed cx m i
instruction-fetched cx m i whole held fits =
    ap (λ b. cond b (executed_at cx m (fetched m cx.pc)) (Faults 0 cx.pc)) (is_zero (cx.pc % 4) whole)
    ∙ (ap (executed_at cx m) held ∙ ap (executed_word cx m (word_of i)) (decoded-word_of i fits))

abbrev pub final : Context → Memory → Reached
final cx m = record { context = cx; memory = m; trap = None }

pub instructions-one : (cx c : Context) (m : Memory) → instruction cx m ≡ Goes c m → instructions 1 cx m ≡ final c m
unfolding instructions
instructions-one cx c m e = ap (go_on (instructions 0) cx m) e

pub instructions-two : (cx c d : Context) (m : Memory) → instruction cx m ≡ Goes c m → instruction c m ≡ Goes d m → instructions 2 cx m ≡ final d m
unfolding instructions
instructions-two cx c d m e f = ap (go_on (instructions 1) cx m) e ∙ instructions-one c d m f

-- Registers

not_zero : (n : ℕ) → 1 ≤ n → eqb n 0 ≡ false
not_zero n h = grind (arith, nat_tests)

-- A register holds what was written to it.
pub register-with : (cx : Context) (rd v pc : ℕ) → 1 ≤ rd → rd ≤ length cx.x → register (at (with_register cx rd v) pc) rd ≡ v
register-with cx rd v pc low high =
    rw (not_zero rd low) (get_or-set_same cx.x (rd - 1) v 0 (omega arith))

-- Of two writes to one register the second one stays.
pub with_register-twice : (cx : Context) (rd v w pc next : ℕ) → at (with_register (at (with_register cx rd v) pc) rd w) next ≡ at (with_register cx rd w) next
with_register-twice cx rd v w pc next =
    elim (eqb rd 0) as (λ b. at (cond b (at (cond b cx (record cx { x = set cx.x (rd - 1) v })) pc) (record (at (cond b cx (record cx { x = set cx.x (rd - 1) v })) pc) { x = set (at (cond b cx (record cx { x = set cx.x (rd - 1) v })) pc).x (rd - 1) w })) next ≡ at (cond b cx (record cx { x = set cx.x (rd - 1) w })) next)
    [ true ↦ refl | false ↦ ap (λ xs. record { pc = next; x = xs }) (set-set cx.x (rd - 1) v w) ]
