-- The definitions computed on a few words.
use Rattle.std.proofs.Common.{◌≡◌, ℕ, ◌-◌, ◌^◌, List, [], ◌∷◌, map, replicate, Option, Some, None, refl, pos, slice_index_or, if◌then◌else◌, nat_lt}
use Rattle.rv_core.specs.declared.context.Context.{Context}
use Rattle.rv_core.specs.declared.instr.Op.TheVariants as op
use Rattle.rv_core.specs.Memory.{Memory, Cell, loaded, stored}
use Rattle.rv_core.specs.Listing.{decoded}
use Rattle.rv_core.specs.Encoding.{encoded}
use Rattle.rv_core.specs.Machine.{Outcome, Goes, Faults, executed_word, instruction, instructions, at, with_register}

addi : decoded 0x00100513 ≡ Some (record { op = op.Addi; rd = 10; rs1 = 0; rs2 = 0; imm = pos 1 })
unfolding decoded
addi = refl

auipc : decoded 0x00000597 ≡ Some (record { op = op.Auipc; rd = 11; rs1 = 0; rs2 = 0; imm = pos 0 })
unfolding decoded
auipc = refl

ecall : decoded 0x00000073 ≡ Some (record { op = op.Ecall; rd = 0; rs1 = 0; rs2 = 0; imm = pos 0 })
unfolding decoded
ecall = refl

illegal : decoded 0x00000000 ≡ None
unfolding decoded
illegal = refl

store : encoded (record { op = op.Sd; rd = 0; rs1 = 2; rs2 = 10; imm = pos 8 }) ≡ Some 0x00a13423
unfolding encoded
store = refl

-- A program at address 4096 with the rights to read and run: addi a0, x0, 1; auipc a1, 0; addi a1, a1, 32;
-- ecall; jalr ra, 2(x0); and a word of zeros.
code : List ℕ
code =
    0x13 ∷ 0x05 ∷ 0x10 ∷ 0x00 ∷ 0x97 ∷ 0x05 ∷ 0x00 ∷ 0x00 ∷ 0x93 ∷ 0x85 ∷ 0x05 ∷ 0x02
    ∷ 0x73 ∷ 0x00 ∷ 0x00 ∷ 0x00 ∷ 0xe7 ∷ 0x00 ∷ 0x20 ∷ 0x00 ∷ 0x00 ∷ 0x00 ∷ 0x00 ∷ 0x00 ∷ []

cell : ℕ → Option Cell
cell byte = Some (record { byte = byte; rights = 5 })

program : Memory
program a = if nat_lt a 4096 then None else slice_index_or (map cell code) (a - 4096) None

at_addi : (cx : Context) → instruction (at cx 4096) program ≡ Goes (at (with_register cx 10 1) 4100) program
unfolding decoded program cell code
at_addi cx = refl

at_auipc : (cx : Context) → instruction (at cx 4100) program ≡ Goes (at (with_register cx 11 4100) 4104) program
unfolding decoded program cell code
at_auipc cx = refl

at_ecall : (cx : Context) → instruction (at cx 4108) program ≡ Faults 8 0
unfolding decoded program cell code
at_ecall cx = refl

-- A jump to an address that isn't a multiple of 4.
at_jump : (cx : Context) → instruction (at cx 4112) program ≡ Faults 0 2
unfolding decoded program cell code
at_jump cx = refl

at_zeros : (cx : Context) → instruction (at cx 4116) program ≡ Faults 2 0
unfolding decoded program cell code
at_zeros cx = refl

-- Past the program's end, and at a program counter that isn't a multiple of 4.
at_end : (cx : Context) → instruction (at cx 4120) program ≡ Faults 1 4120
unfolding decoded program cell code
at_end cx = refl

between : (cx : Context) → instruction (at cx 4098) program ≡ Faults 0 4098
between cx = refl

-- Two instructions, and three up to the trap of the third.
run_2 : (cx : Context) → instructions 2 (at cx 4096) program ≡ record { context = at (with_register (with_register cx 10 1) 11 4100) 4104; memory = program; trap = None }
unfolding instructions decoded program cell code
run_2 cx = refl

run_trapped : (cx : Context) → instructions 3 (at cx 4108) program ≡ record { context = at cx 4108; memory = program; trap = Some (8, 0) }
unfolding instructions decoded program cell code
run_trapped cx = refl

-- Single words at address 4096 over eight bytes at 1024 that can be read and written, with v in each register but x0.
bytes : Memory
bytes a = if nat_lt a 1024 then None else
    slice_index_or (map (λ byte. Some (record { byte = byte; rights = 3 }))
    (0xf0 ∷ 0xde ∷ 0xbc ∷ 0x9a ∷ 0x78 ∷ 0x56 ∷ 0x34 ∷ 0x12 ∷ [])) (a - 1024) None

holding : ℕ → Context
holding v = record { pc = 4096; x = replicate 31 v }

does : ℕ → ℕ → Outcome
does w v = executed_word (holding v) bytes w (decoded w)

goes_on : Context → Outcome
goes_on cx = Goes (at cx 4100) bytes

-- lw a0, 1024(x0) extends the sign, and lhu a0, 1024(x0) does not.
load_word : (v : ℕ) → does 0x40002503 v ≡ goes_on (with_register (holding v) 10 0xffffffff9abcdef0)
unfolding does goes_on holding decoded bytes
load_word v = refl

load_half : (v : ℕ) → does 0x40005503 v ≡ goes_on (with_register (holding v) 10 0xdef0)
unfolding does goes_on holding decoded bytes
load_half v = refl

-- sb a1, 1024(x0) changes one byte, and sh a1, 1024(x0) two.
store_byte : does 0x40b00023 0x1234 ≡ Goes (at (holding 0x1234) 4100) (stored bytes 1024 1 0x1234)
unfolding does holding decoded bytes
store_byte = refl

stored_byte : loaded (stored bytes 1024 1 0x1234) 1024 4 ≡ Some 0x9abcde34
unfolding bytes
stored_byte = refl

stored_half : loaded (stored bytes 1024 2 0x1234) 1024 4 ≡ Some 0x9abc1234
unfolding bytes
stored_half = refl

-- beq x0, x0, 8 is taken, and bne x0, x0, 8 is not.
taken : (v : ℕ) → does 0x00000463 v ≡ Goes (at (holding v) 4104) bytes
unfolding does holding decoded bytes
taken v = refl

not_taken : (v : ℕ) → does 0x00001463 v ≡ goes_on (holding v)
unfolding does goes_on holding decoded bytes
not_taken v = refl

-- addw a0, a1, a2 adds 32 bits and extends the sign.
add_word : does 0x00c5853b 0x7fffffff ≡ goes_on (with_register (holding 0x7fffffff) 10 (2 ^ 64 - 2))
unfolding does goes_on holding decoded bytes
add_word = refl

-- jalr ra, 5(x0) clears bit 0, and jalr ra, 6(x0) goes to no multiple of 4.
jump_odd : (v : ℕ) → does 0x005000e7 v ≡ Goes (at (with_register (holding v) 1 4100) 4) bytes
unfolding does holding decoded bytes
jump_odd v = refl

jump_between : (v : ℕ) → does 0x006000e7 v ≡ Faults 0 6
unfolding does holding decoded bytes
jump_between v = refl
