-- The machine: one instruction, and a run of several, on registers, program counter and memory
-- (RISC-V Unprivileged ISA, "Programmers' Model for Base Integer ISA"; the causes of traps are those
-- of the Privileged ISA, "Machine Cause Register").
use Rattle.std.specs.Prelude.{◌≡◌, ℕ, zero, suc, ◌+◌, ◌-◌, ◌*◌, ◌%◌, ◌==◌, Bool, true, false, if◌then◌else◌, Option, Some, None, slice_index, slice_set}
use Rattle.std.specs.Int.{cast_unsigned, w64}
use Rattle.rv_core.specs.declared.context.Context.{Context}
use Rattle.rv_core.specs.declared.context.Trap.{Trap}
use Rattle.rv_core.specs.declared.context.Ended.{Ended}
use Rattle.rv_core.specs.declared.context.Ended.TheVariants.{Ran, Trapped}
use Rattle.rv_core.specs.declared.instr.Instr.{Instr}
use Rattle.rv_core.specs.declared.rows.Effect.{Effect}
use Rattle.rv_core.specs.declared.rows.Effect.TheVariants.{Sets, Jumps, Branches, Loads, Stores, Nothing, Traps}
use Rattle.rv_core.specs.Memory.{Memory, fetched, loaded, storable, stored}
use Rattle.rv_core.specs.Listing.{decoded}
use Rattle.rv_core.specs.Rows.{word, row, sign_extended}

-- What a register holds: x0 holds 0.
abbrev pub register : Context → ℕ → ℕ
register cx n = if n == 0 then 0 else slice_index cx.x (n - 1)

-- The registers after a value is written to one of them: a write to x0 is lost.
abbrev pub with_register : Context → ℕ → ℕ → Context
with_register cx n value = if n == 0 then cx else record cx { x = slice_set cx.x (n - 1) value }

-- The same registers at another program counter.
abbrev pub at : Context → ℕ → Context
at cx pc = record cx { pc = pc }

-- The address of the next instruction.
abbrev pub next : Context → ℕ
next cx = word (cx.pc + 4)

-- What an instruction leads to: new registers and memory, or a trap with its cause and value.
pub data Outcome : Type 0 where
  Goes : Context → Memory → Outcome
  Faults : ℕ → ℕ → Outcome

-- A value for the destination, and on to the next instruction.
abbrev pub sets : Context → Memory → ℕ → ℕ → Outcome
sets cx m rd value = Goes (at (with_register cx rd value) (next cx)) m

-- A jump: the destination gets the next instruction's address. A target that isn't a multiple of 4
-- is cause 0.
abbrev pub jumps : Context → Memory → ℕ → ℕ → Outcome
jumps cx m rd to =
    if to % 4 == 0 then Goes (at (with_register cx rd (next cx)) to) m else Faults 0 to

-- A branch that isn't taken doesn't test its target.
abbrev pub branches : Context → Memory → Bool → ℕ → Outcome
branches cx m true to = jumps cx m 0 to
branches cx m false to = Goes (at cx (next cx)) m

abbrev pub loaded_value : ℕ → Bool → ℕ → ℕ
loaded_value size true value = sign_extended (8 * size) value
loaded_value size false value = value

-- A load of a byte that isn't there or can't be read is cause 5.
abbrev pub loads : Context → Memory → ℕ → ℕ → ℕ → Bool → Option ℕ → Outcome
loads cx m rd from size sign None = Faults 5 from
loads cx m rd from size sign (Some value) = sets cx m rd (loaded_value size sign value)

-- A store to a byte that isn't there or can't be written is cause 7.
abbrev pub stores : Context → Memory → ℕ → ℕ → ℕ → Outcome
stores cx m to size value =
    if storable m to size then Goes (at cx (next cx)) (stored m to size value) else Faults 7 to

abbrev pub outcome : Context → Memory → ℕ → Effect → Outcome
outcome cx m rd (Sets value) = sets cx m rd value
outcome cx m rd (Jumps to) = jumps cx m rd to
outcome cx m rd (Branches taken to) = branches cx m taken to
outcome cx m rd (Loads from size sign) = loads cx m rd from size sign (loaded m from size)
outcome cx m rd (Stores to size value) = stores cx m to size value
outcome cx m rd Nothing = Goes (at cx (next cx)) m
outcome cx m rd (Traps cause value) = Faults cause value

-- An instruction at the program counter.
abbrev pub executed : Context → Memory → Instr → Outcome
executed cx m i = outcome cx m i.rd
    (row i.op cx.pc (cast_unsigned w64 i.imm) (register cx i.rs1) (register cx i.rs2))

-- A word that spells no instruction is cause 2.
abbrev pub executed_word : Context → Memory → ℕ → Option Instr → Outcome
executed_word cx m w None = Faults 2 w
executed_word cx m w (Some i) = executed cx m i

-- A word that isn't there or can't be run is cause 1.
abbrev pub executed_at : Context → Memory → Option ℕ → Outcome
executed_at cx m None = Faults 1 cx.pc
executed_at cx m (Some w) = executed_word cx m w (decoded w)

-- One instruction. A program counter that isn't a multiple of 4 is cause 0.
abbrev pub instruction : Context → Memory → Outcome
instruction cx m = if cx.pc % 4 == 0 then executed_at cx m (fetched m cx.pc) else Faults 0 cx.pc

-- What a step answers and leaves. A trap leaves registers, program counter and memory as they were.
abbrev pub Gives : Outcome → Context → Memory → Option Trap → Context → Memory → Type 0
Gives o cx m None cx' m' = o ≡ Goes cx' m'
Gives o cx m (Some trap) cx' m' = (o ≡ Faults trap.cause trap.value) × (cx' ≡ cx) × (m' ≡ m)

-- Where a run of instructions ends: registers, memory, and the cause and value of the trap that
-- ended it, if one did.
pub record Reached : Type 0 where
  pub context : Context
  pub memory : Memory
  pub trap : Option (ℕ × ℕ)

abbrev pub go_on : (Context → Memory → Reached) → Context → Memory → Outcome → Reached
go_on rest cx m (Goes cx' m') = rest cx' m'
go_on rest cx m (Faults cause value) =
    record { context = cx; memory = m; trap = Some (cause, value) }

-- A run of n instructions, or up to the first trap, which leaves all as it was before its
-- instruction.
unfoldable pub instructions : ℕ → Context → Memory → Reached
instructions zero cx m = record { context = cx; memory = m; trap = None }
instructions (suc n) cx m = go_on (instructions n) cx m (instruction cx m)

abbrev pub trap_of : Ended → Option (ℕ × ℕ)
trap_of Ran = None
trap_of (Trapped trap) = Some (trap.cause, trap.value)

-- What a run answers and leaves.
abbrev pub Ends : Reached → Ended → Context → Memory → Type 0
Ends r ended cx m = r ≡ record { context = cx; memory = m; trap = trap_of ended }
