-- How each instruction is spelled as a word of 32 bits (RISC-V Unprivileged ISA,
-- "RV32/64G Instruction Set Listings" and "Base Instruction Formats").
use Rattle.std.specs.Prelude.{◌≡◌, ℕ, ◌+◌, ◌-◌, ◌*◌, ◌/◌, ◌%◌, ◌^◌, ◌<◌, ◌==◌, Bool, true, false, ◌&&◌, if◌then◌else◌, nat_lt, IsTrue, Option, Some, None, option_map, find, List, ℤ, pos, ◌-ℤ◌}
use Rattle.rv_core.specs.declared.instr.TheConstants.{OPS}
use Rattle.rv_core.specs.declared.instr.Op.{Op}
use Rattle.rv_core.specs.declared.instr.Op.TheVariants as op
use Rattle.rv_core.specs.declared.instr.Instr.{Instr}
use Rattle.rv_core.specs.declared.listing.Layout.{Layout}
use Rattle.rv_core.specs.declared.listing.Layout.TheVariants.{U, J, I, S, B, R, Shift, ShiftW, Ignored, Whole}

-- The listing, one line an instruction.
abbrev pub form : Op → Layout
form op.Lui = U 0x37
form op.Auipc = U 0x17
form op.Jal = J 0x6f
form op.Jalr = I 0x67 0
form op.Beq = B 0x63 0
form op.Bne = B 0x63 1
form op.Blt = B 0x63 4
form op.Bge = B 0x63 5
form op.Bltu = B 0x63 6
form op.Bgeu = B 0x63 7
form op.Lb = I 0x03 0
form op.Lh = I 0x03 1
form op.Lw = I 0x03 2
form op.Ld = I 0x03 3
form op.Lbu = I 0x03 4
form op.Lhu = I 0x03 5
form op.Lwu = I 0x03 6
form op.Sb = S 0x23 0
form op.Sh = S 0x23 1
form op.Sw = S 0x23 2
form op.Sd = S 0x23 3
form op.Addi = I 0x13 0
form op.Slti = I 0x13 2
form op.Sltiu = I 0x13 3
form op.Xori = I 0x13 4
form op.Ori = I 0x13 6
form op.Andi = I 0x13 7
form op.Slli = Shift 0x13 1 0x00
form op.Srli = Shift 0x13 5 0x00
form op.Srai = Shift 0x13 5 0x10
form op.Add = R 0x33 0 0x00
form op.Sub = R 0x33 0 0x20
form op.Sll = R 0x33 1 0x00
form op.Slt = R 0x33 2 0x00
form op.Sltu = R 0x33 3 0x00
form op.Xor = R 0x33 4 0x00
form op.Srl = R 0x33 5 0x00
form op.Sra = R 0x33 5 0x20
form op.Or = R 0x33 6 0x00
form op.And = R 0x33 7 0x00
form op.Addiw = I 0x1b 0
form op.Slliw = ShiftW 0x1b 1 0x00
form op.Srliw = ShiftW 0x1b 5 0x00
form op.Sraiw = ShiftW 0x1b 5 0x20
form op.Addw = R 0x3b 0 0x00
form op.Subw = R 0x3b 0 0x20
form op.Sllw = R 0x3b 1 0x00
form op.Srlw = R 0x3b 5 0x00
form op.Sraw = R 0x3b 5 0x20
form op.Fence = Ignored 0x0f 0
form op.FenceI = Ignored 0x0f 1
form op.Ecall = Whole 0x00000073
form op.Ebreak = Whole 0x00100073

-- All instructions.
abbrev pub listed : List Op
listed = OPS

-- Bits high to low of a word, as a number.
abbrev pub bits : ℕ → ℕ → ℕ → ℕ
bits w high low = w / 2 ^ low % 2 ^ (high + 1 - low)

-- The opcode and the function fields of a layout fit into their bits.
abbrev pub HasRoom : Layout → Type 0
HasRoom (U opcode) = opcode < 2 ^ 7
HasRoom (J opcode) = opcode < 2 ^ 7
HasRoom (I opcode f3) = (opcode < 2 ^ 7) × (f3 < 2 ^ 3)
HasRoom (S opcode f3) = (opcode < 2 ^ 7) × (f3 < 2 ^ 3)
HasRoom (B opcode f3) = (opcode < 2 ^ 7) × (f3 < 2 ^ 3)
HasRoom (R opcode f3 f7) = (opcode < 2 ^ 7) × (f3 < 2 ^ 3) × (f7 < 2 ^ 7)
HasRoom (Shift opcode f3 f6) = (opcode < 2 ^ 7) × (f3 < 2 ^ 3) × (f6 < 2 ^ 6)
HasRoom (ShiftW opcode f3 f7) = (opcode < 2 ^ 7) × (f3 < 2 ^ 3) × (f7 < 2 ^ 7)
HasRoom (Ignored opcode f3) = (opcode < 2 ^ 7) × (f3 < 2 ^ 3)
HasRoom (Whole word) = word < 2 ^ 32

-- A word w with these parts has a layout: the opcode (bits 6 to 0), f3 (14 to 12), f6 (31 to 26)
-- and f7 (31 to 25).
abbrev pub is_layout_at : ℕ → ℕ → ℕ → ℕ → ℕ → Layout → Bool
is_layout_at w opcode f3 f6 f7 (U opcode') = opcode == opcode'
is_layout_at w opcode f3 f6 f7 (J opcode') = opcode == opcode'
is_layout_at w opcode f3 f6 f7 (I opcode' f3') = opcode == opcode' && f3 == f3'
is_layout_at w opcode f3 f6 f7 (S opcode' f3') = opcode == opcode' && f3 == f3'
is_layout_at w opcode f3 f6 f7 (B opcode' f3') = opcode == opcode' && f3 == f3'
is_layout_at w opcode f3 f6 f7 (R opcode' f3' f7') = opcode == opcode' && f3 == f3' && f7 == f7'
is_layout_at w opcode f3 f6 f7 (Shift opcode' f3' f6') = opcode == opcode' && f3 == f3' && f6 == f6'
is_layout_at w opcode f3 f6 f7 (ShiftW opcode' f3' f7') =
    opcode == opcode' && f3 == f3' && f7 == f7'
is_layout_at w opcode f3 f6 f7 (Ignored opcode' f3') = opcode == opcode' && f3 == f3'
is_layout_at w opcode f3 f6 f7 (Whole word) = opcode == bits word 6 0 && w == word

-- A word has the opcode and the function fields of a layout.
abbrev pub has_form : ℕ → Layout → Bool
has_form w f = is_layout_at w (bits w 6 0) (bits w 14 12) (bits w 31 26) (bits w 31 25) f

-- The listed instruction whose layout a word with these parts has, if there is one.
abbrev pub op_at : ℕ → ℕ → ℕ → ℕ → ℕ → Option Op
op_at w opcode f3 f6 f7 = find (λ o. is_layout_at w opcode f3 f6 f7 (form o)) listed

-- The instruction whose layout a word has, by the word's parts.
unfoldable pub op_of : ℕ → Option Op
op_of w = op_at w (bits w 6 0) (bits w 14 12) (bits w 31 26) (bits w 31 25)

-- Which of the fields rd (bits 11 to 7), rs1 (19 to 15) and rs2 (24 to 20) a layout has.
abbrev pub has_rd : Layout → Bool
has_rd (U opcode) = true
has_rd (J opcode) = true
has_rd (I opcode f3) = true
has_rd (S opcode f3) = false
has_rd (B opcode f3) = false
has_rd (R opcode f3 f7) = true
has_rd (Shift opcode f3 f6) = true
has_rd (ShiftW opcode f3 f7) = true
has_rd (Ignored opcode f3) = false
has_rd (Whole word) = false

abbrev pub has_rs1 : Layout → Bool
has_rs1 (U opcode) = false
has_rs1 (J opcode) = false
has_rs1 (I opcode f3) = true
has_rs1 (S opcode f3) = true
has_rs1 (B opcode f3) = true
has_rs1 (R opcode f3 f7) = true
has_rs1 (Shift opcode f3 f6) = true
has_rs1 (ShiftW opcode f3 f7) = true
has_rs1 (Ignored opcode f3) = false
has_rs1 (Whole word) = false

abbrev pub has_rs2 : Layout → Bool
has_rs2 (U opcode) = false
has_rs2 (J opcode) = false
has_rs2 (I opcode f3) = false
has_rs2 (S opcode f3) = true
has_rs2 (B opcode f3) = true
has_rs2 (R opcode f3 f7) = true
has_rs2 (Shift opcode f3 f6) = false
has_rs2 (ShiftW opcode f3 f7) = false
has_rs2 (Ignored opcode f3) = false
has_rs2 (Whole word) = false

-- A number below twice half in two's complement: from half on it stands for less.
abbrev pub signed_by : ℕ → ℕ → ℤ
signed_by half n = if nat_lt n half then pos n else pos n -ℤ pos (2 * half)

-- The distance of a branch and of a jump, with a zero bit below.
abbrev pub branch_distance : ℕ → ℤ
branch_distance w = signed_by (2 ^ 12)
    (bits w 31 31 * 2 ^ 12 + bits w 7 7 * 2 ^ 11 + bits w 30 25 * 2 ^ 5 + bits w 11 8 * 2)

abbrev pub jump_distance : ℕ → ℤ
jump_distance w = signed_by (2 ^ 20)
    (bits w 31 31 * 2 ^ 20 + bits w 19 12 * 2 ^ 12 + bits w 20 20 * 2 ^ 11 + bits w 30 21 * 2)

-- The immediate of a word. U's has twelve zero bits below.
abbrev pub immediate : ℕ → Layout → ℤ
immediate w (U opcode) = signed_by (2 ^ 31) (bits w 31 12 * 2 ^ 12)
immediate w (J opcode) = jump_distance w
immediate w (I opcode f3) = signed_by (2 ^ 11) (bits w 31 20)
immediate w (S opcode f3) = signed_by (2 ^ 11) (bits w 31 25 * 2 ^ 5 + bits w 11 7)
immediate w (B opcode f3) = branch_distance w
immediate w (R opcode f3 f7) = pos 0
immediate w (Shift opcode f3 f6) = pos (bits w 25 20)
immediate w (ShiftW opcode f3 f7) = pos (bits w 24 20)
immediate w (Ignored opcode f3) = pos 0
immediate w (Whole word) = pos 0

-- The instruction with the fields that a word holds.
abbrev pub fields_of : ℕ → Op → Instr
fields_of w o = record {
  op = o;
  rd = (if has_rd (form o) then bits w 11 7 else 0);
  rs1 = (if has_rs1 (form o) then bits w 19 15 else 0);
  rs2 = (if has_rs2 (form o) then bits w 24 20 else 0);
  imm = immediate w (form o);
}

-- A word spells an instruction that has the word's layout and fields, and nothing if no
-- instruction has its layout.
abbrev pub Decodes : ℕ → Option Instr → Type 0
Decodes w (Some i) = IsTrue (has_form w (form i.op)) × (i ≡ fields_of w i.op)
Decodes w None = (o : Op) → has_form w (form o) ≡ false

-- The instruction that a word spells, if there is one: the listed one whose layout it has.
unfoldable pub decoded : ℕ → Option Instr
decoded w = option_map (fields_of w) (find (λ o. has_form w (form o)) listed)

-- The registers that an instruction names are among x0 to x31.
pub record NamesRegisters (i : Instr) : Type 0 where
  pub rd : i.rd < 32
  pub rs1 : i.rs1 < 32
  pub rs2 : i.rs2 < 32
