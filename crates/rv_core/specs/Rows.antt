-- What each instruction does (RISC-V Unprivileged ISA, "RV32I Base Integer Instruction Set",
-- "RV64I Base Integer Instruction Set" and "Zifencei"). Registers hold natural numbers below 2^64.
use Rattle.std.specs.Prelude.{ℕ, ◌+◌, ◌-◌, ◌*◌, ◌/◌, ◌%◌, ◌^◌, ◌==◌, Bool, true, false, not, if◌then◌else◌, nat_lt, ℤ, bit_and, bit_or, bit_xor, int_lt}
use Rattle.std.specs.Int.{cast_signed, cast_unsigned, int_shr, w32, w64}
use Rattle.rv_core.specs.Memory.{IsSize}
use Rattle.rv_core.specs.Listing.{signed_by}
use Rattle.rv_core.specs.declared.instr.Op.{Op}
use Rattle.rv_core.specs.declared.instr.Op.TheVariants as op
use Rattle.rv_core.specs.declared.rows.Effect.{Effect}
use Rattle.rv_core.specs.declared.rows.Effect.TheVariants.{Sets, Jumps, Branches, Loads, Stores, Nothing, Traps}

-- The low 64 bits.
abbrev pub word : ℕ → ℕ
word n = n % 2 ^ 64

-- The difference modulo 2^64.
abbrev pub minus : ℕ → ℕ → ℕ
minus a b = word (a + (2 ^ 64 - b))

-- A register as a signed number.
abbrev pub signed : ℕ → ℤ
signed a = cast_signed w64 a

-- The low bits of a number as a signed number, on 64 bits.
abbrev pub sign_extended : ℕ → ℕ → ℕ
sign_extended count n = cast_unsigned w64 (signed_by (2 ^ (count - 1)) (n % 2 ^ count))

-- The result of an instruction on words of 32 bits.
abbrev pub extended : ℕ → ℕ
extended n = sign_extended 32 n

-- A test's result.
abbrev pub bit : Bool → ℕ
bit b = if b then 1 else 0

-- An arithmetic shift to the right, of 64 and of 32 bits.
abbrev pub shift_right : ℕ → ℕ → ℕ
shift_right a k = cast_unsigned w64 (int_shr (signed a) k)

abbrev pub shift_right_32 : ℕ → ℕ → ℕ
shift_right_32 a k = cast_unsigned w64 (int_shr (cast_signed w32 (a % 2 ^ 32)) k)

-- One line an instruction. pc is its address, i its immediate modulo 2^64, a and b are what rs1 and
-- rs2 hold.
abbrev pub row : Op → ℕ → ℕ → ℕ → ℕ → Effect
row op.Lui pc i a b = Sets i
row op.Auipc pc i a b = Sets (word (pc + i))
row op.Jal pc i a b = Jumps (word (pc + i))
row op.Jalr pc i a b = Jumps (word (a + i) - word (a + i) % 2)
row op.Beq pc i a b = Branches (a == b) (word (pc + i))
row op.Bne pc i a b = Branches (not (a == b)) (word (pc + i))
row op.Blt pc i a b = Branches (int_lt (signed a) (signed b)) (word (pc + i))
row op.Bge pc i a b = Branches (not (int_lt (signed a) (signed b))) (word (pc + i))
row op.Bltu pc i a b = Branches (nat_lt a b) (word (pc + i))
row op.Bgeu pc i a b = Branches (not (nat_lt a b)) (word (pc + i))
row op.Lb pc i a b = Loads (word (a + i)) 1 true
row op.Lh pc i a b = Loads (word (a + i)) 2 true
row op.Lw pc i a b = Loads (word (a + i)) 4 true
row op.Ld pc i a b = Loads (word (a + i)) 8 false
row op.Lbu pc i a b = Loads (word (a + i)) 1 false
row op.Lhu pc i a b = Loads (word (a + i)) 2 false
row op.Lwu pc i a b = Loads (word (a + i)) 4 false
row op.Sb pc i a b = Stores (word (a + i)) 1 b
row op.Sh pc i a b = Stores (word (a + i)) 2 b
row op.Sw pc i a b = Stores (word (a + i)) 4 b
row op.Sd pc i a b = Stores (word (a + i)) 8 b
row op.Addi pc i a b = Sets (word (a + i))
row op.Slti pc i a b = Sets (bit (int_lt (signed a) (signed i)))
row op.Sltiu pc i a b = Sets (bit (nat_lt a i))
row op.Xori pc i a b = Sets (bit_xor a i)
row op.Ori pc i a b = Sets (bit_or a i)
row op.Andi pc i a b = Sets (bit_and a i)
row op.Slli pc i a b = Sets (word (a * 2 ^ (i % 64)))
row op.Srli pc i a b = Sets (a / 2 ^ (i % 64))
row op.Srai pc i a b = Sets (shift_right a (i % 64))
row op.Add pc i a b = Sets (word (a + b))
row op.Sub pc i a b = Sets (minus a b)
row op.Sll pc i a b = Sets (word (a * 2 ^ (b % 64)))
row op.Slt pc i a b = Sets (bit (int_lt (signed a) (signed b)))
row op.Sltu pc i a b = Sets (bit (nat_lt a b))
row op.Xor pc i a b = Sets (bit_xor a b)
row op.Srl pc i a b = Sets (a / 2 ^ (b % 64))
row op.Sra pc i a b = Sets (shift_right a (b % 64))
row op.Or pc i a b = Sets (bit_or a b)
row op.And pc i a b = Sets (bit_and a b)
row op.Addiw pc i a b = Sets (extended (a + i))
row op.Slliw pc i a b = Sets (extended (a % 2 ^ 32 * 2 ^ (i % 32)))
row op.Srliw pc i a b = Sets (extended (a % 2 ^ 32 / 2 ^ (i % 32)))
row op.Sraiw pc i a b = Sets (shift_right_32 a (i % 32))
row op.Addw pc i a b = Sets (extended (a + b))
row op.Subw pc i a b = Sets (extended (minus a b))
row op.Sllw pc i a b = Sets (extended (a % 2 ^ 32 * 2 ^ (b % 32)))
row op.Srlw pc i a b = Sets (extended (a % 2 ^ 32 / 2 ^ (b % 32)))
row op.Sraw pc i a b = Sets (shift_right_32 a (b % 32))
row op.Fence pc i a b = Nothing
row op.FenceI pc i a b = Nothing
row op.Ecall pc i a b = Traps 8 0
row op.Ebreak pc i a b = Traps 3 pc

-- A load or a store takes 1, 2, 4 or 8 bytes.
abbrev pub HasSize : Effect → Type 0
HasSize (Loads at size sign) = IsSize size
HasSize (Stores at size value) = IsSize size
HasSize _ = Unit {0}
