-- Which instructions have a spelling as a word of 32 bits, and which word it is
-- (RISC-V Unprivileged ISA, "Base Instruction Formats" and "Immediate Encoding Variants").
use Rattle.std.specs.Prelude.{◌≡◌, ℕ, suc, ◌+◌, ◌-◌, ◌*◌, ◌%◌, ◌^◌, ◌==◌, Bool, false, ◌&&◌, if◌then◌else◌, nat_lt, Option, Some, None, ℤ, pos, negsuc, ◌⊎◌}
use Rattle.rv_core.specs.declared.instr.Op.{Op}
use Rattle.rv_core.specs.declared.instr.Op.TheVariants as op
use Rattle.rv_core.specs.declared.instr.Instr.{Instr}
use Rattle.rv_core.specs.declared.listing.Layout.{Layout}
use Rattle.rv_core.specs.declared.listing.Layout.TheVariants.{U, J, I, S, B, R, Shift, ShiftW, Ignored, Whole}
use Rattle.rv_core.specs.Listing.{form, bits, has_rd, has_rs1, has_rs2}

-- A register field that a layout has is below 32, and one that it hasn't is 0.
abbrev pub is_register : Bool → ℕ → Bool
is_register has n = nat_lt n (if has then 32 else 1)

-- A number from minus half up to half without half, and how it is spelled in two's complement.
abbrev pub is_signed_by : ℕ → ℤ → Bool
is_signed_by half (pos n) = nat_lt n half
is_signed_by half (negsuc n) = nat_lt n half

abbrev pub unsigned_by : ℕ → ℤ → ℕ
unsigned_by half (pos n) = n
unsigned_by half (negsuc n) = 2 * half - suc n

-- A number from 0 up to a bound.
abbrev pub is_below : ℕ → ℤ → Bool
is_below bound (pos n) = nat_lt n bound
is_below bound (negsuc n) = false

-- An immediate that a layout holds.
abbrev pub is_immediate : Layout → ℤ → Bool
is_immediate (U opcode) z = is_signed_by (2 ^ 31) z && unsigned_by (2 ^ 31) z % 2 ^ 12 == 0
is_immediate (J opcode) z = is_signed_by (2 ^ 20) z && unsigned_by (2 ^ 20) z % 2 == 0
is_immediate (I opcode f3) z = is_signed_by (2 ^ 11) z
is_immediate (S opcode f3) z = is_signed_by (2 ^ 11) z
is_immediate (B opcode f3) z = is_signed_by (2 ^ 12) z && unsigned_by (2 ^ 12) z % 2 == 0
is_immediate (R opcode f3 f7) z = is_below 1 z
is_immediate (Shift opcode f3 f6) z = is_below 64 z
is_immediate (ShiftW opcode f3 f7) z = is_below 32 z
is_immediate (Ignored opcode f3) z = is_below 1 z
is_immediate (Whole word) z = is_below 1 z

abbrev pub has_registers : Bool → Bool → Bool → Instr → Bool
has_registers rd rs1 rs2 i = is_register rd i.rd && is_register rs1 i.rs1 && is_register rs2 i.rs2

abbrev pub is_encodable : Layout → Instr → Bool
is_encodable f i = has_registers (has_rd f) (has_rs1 f) (has_rs2 f) i && is_immediate f i.imm

-- The bits that are the same in each word of a layout: the opcode, funct3 and funct7.
abbrev pub fixed : Layout → ℕ
fixed (U opcode) = opcode
fixed (J opcode) = opcode
fixed (I opcode f3) = opcode + f3 * 2 ^ 12
fixed (S opcode f3) = opcode + f3 * 2 ^ 12
fixed (B opcode f3) = opcode + f3 * 2 ^ 12
fixed (R opcode f3 f7) = opcode + f3 * 2 ^ 12 + f7 * 2 ^ 25
fixed (Shift opcode f3 f6) = opcode + f3 * 2 ^ 12 + f6 * 2 ^ 26
fixed (ShiftW opcode f3 f7) = opcode + f3 * 2 ^ 12 + f7 * 2 ^ 25
fixed (Ignored opcode f3) = opcode + f3 * 2 ^ 12
fixed (Whole word) = word

-- The register fields, at their places.
abbrev pub registers : Instr → ℕ
registers i = i.rd * 2 ^ 7 + i.rs1 * 2 ^ 15 + i.rs2 * 2 ^ 20

-- The parts of an immediate n, at their places.
abbrev pub store_bits : ℕ → ℕ
store_bits n = bits n 4 0 * 2 ^ 7 + bits n 11 5 * 2 ^ 25

abbrev pub branch_bits : ℕ → ℕ
branch_bits n =
    bits n 11 11 * 2 ^ 7 + bits n 4 1 * 2 ^ 8 + bits n 10 5 * 2 ^ 25 + bits n 12 12 * 2 ^ 31

abbrev pub jump_bits : ℕ → ℕ
jump_bits n =
    bits n 19 12 * 2 ^ 12 + bits n 11 11 * 2 ^ 20 + bits n 10 1 * 2 ^ 21 + bits n 20 20 * 2 ^ 31

abbrev pub immediate_bits : Layout → ℤ → ℕ
immediate_bits (U opcode) z = unsigned_by (2 ^ 31) z
immediate_bits (J opcode) z = jump_bits (unsigned_by (2 ^ 20) z)
immediate_bits (I opcode f3) z = unsigned_by (2 ^ 11) z * 2 ^ 20
immediate_bits (S opcode f3) z = store_bits (unsigned_by (2 ^ 11) z)
immediate_bits (B opcode f3) z = branch_bits (unsigned_by (2 ^ 12) z)
immediate_bits (R opcode f3 f7) z = 0
immediate_bits (Shift opcode f3 f6) z = unsigned_by (2 ^ 6) z * 2 ^ 20
immediate_bits (ShiftW opcode f3 f7) z = unsigned_by (2 ^ 5) z * 2 ^ 20
immediate_bits (Ignored opcode f3) z = 0
immediate_bits (Whole word) z = 0

-- The word of an instruction under a layout.
abbrev pub spelling : Layout → Instr → ℕ
spelling f i = fixed f + registers i + immediate_bits f i.imm

abbrev pub encoded_as : Layout → Instr → Option ℕ
encoded_as f i = if is_encodable f i then Some (spelling f i) else None

-- The word that spells an instruction, if its fields are in range and those that it doesn't have
-- are 0.
unfoldable pub encoded : Instr → Option ℕ
encoded i = encoded_as (form i.op) i

-- The instructions with ignored fields: other words than their spelling decode to them too.
abbrev pub IsFence : Op → Type 0
IsFence o = (o ≡ op.Fence) ⊎ (o ≡ op.FenceI)
