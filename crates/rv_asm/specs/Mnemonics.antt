-- The words of instructions and directives, and the operands of each instruction.
use Rattle.std.specs.Prelude.{ℕ, ◌==◌, ◌||◌, if◌then◌else◌, List, [], ◌∷◌, Option, find, codes}
use Rattle.std.specs.Str.{bytes_eq}
use Rattle.rv_core.specs.declared.instr.Op.{Op}
use Rattle.rv_core.specs.declared.instr.Op.TheVariants as op
use Rattle.rv_core.specs.declared.listing.Layout.{Layout}
use Rattle.rv_core.specs.declared.listing.Layout.TheVariants.{U, J, I, S, B, R, Shift, ShiftW, Ignored, Whole}
use Rattle.rv_core.specs.Listing.{form, listed}
use Rattle.rv_asm.specs.declared.mnemonics.Shape.{Shape}
use Rattle.rv_asm.specs.declared.mnemonics.Shape.TheVariants as shapes
use Rattle.rv_asm.specs.declared.mnemonics.Pseudo.{Pseudo}
use Rattle.rv_asm.specs.declared.mnemonics.Pseudo.TheVariants as pseudos
use Rattle.rv_asm.specs.declared.mnemonics.Directive.{Directive}
use Rattle.rv_asm.specs.declared.mnemonics.Directive.TheVariants as directives

-- The instructions are written in lower case.
abbrev pub word_of : Op → List ℕ
word_of op.Lui = codes "lui"
word_of op.Auipc = codes "auipc"
word_of op.Jal = codes "jal"
word_of op.Jalr = codes "jalr"
word_of op.Beq = codes "beq"
word_of op.Bne = codes "bne"
word_of op.Blt = codes "blt"
word_of op.Bge = codes "bge"
word_of op.Bltu = codes "bltu"
word_of op.Bgeu = codes "bgeu"
word_of op.Lb = codes "lb"
word_of op.Lh = codes "lh"
word_of op.Lw = codes "lw"
word_of op.Ld = codes "ld"
word_of op.Lbu = codes "lbu"
word_of op.Lhu = codes "lhu"
word_of op.Lwu = codes "lwu"
word_of op.Sb = codes "sb"
word_of op.Sh = codes "sh"
word_of op.Sw = codes "sw"
word_of op.Sd = codes "sd"
word_of op.Addi = codes "addi"
word_of op.Slti = codes "slti"
word_of op.Sltiu = codes "sltiu"
word_of op.Xori = codes "xori"
word_of op.Ori = codes "ori"
word_of op.Andi = codes "andi"
word_of op.Slli = codes "slli"
word_of op.Srli = codes "srli"
word_of op.Srai = codes "srai"
word_of op.Add = codes "add"
word_of op.Sub = codes "sub"
word_of op.Sll = codes "sll"
word_of op.Slt = codes "slt"
word_of op.Sltu = codes "sltu"
word_of op.Xor = codes "xor"
word_of op.Srl = codes "srl"
word_of op.Sra = codes "sra"
word_of op.Or = codes "or"
word_of op.And = codes "and"
word_of op.Addiw = codes "addiw"
word_of op.Slliw = codes "slliw"
word_of op.Srliw = codes "srliw"
word_of op.Sraiw = codes "sraiw"
word_of op.Addw = codes "addw"
word_of op.Subw = codes "subw"
word_of op.Sllw = codes "sllw"
word_of op.Srlw = codes "srlw"
word_of op.Sraw = codes "sraw"
word_of op.Fence = codes "fence"
word_of op.FenceI = codes "fence.i"
word_of op.Ecall = codes "ecall"
word_of op.Ebreak = codes "ebreak"

-- The instruction that a word names.
unfoldable pub op_named : List ℕ → Option Op
op_named word = find (λ o. bytes_eq (word_of o) word) listed

-- The operands of an instruction, by its layout. Loads (opcode 0x03) and JALR (0x67) have an
-- address.
abbrev pub shape_by : Layout → Shape
shape_by (U opcode) = shapes.Upper
shape_by (J opcode) = shapes.Jump
shape_by (I opcode f3) = if opcode == 0x03 || opcode == 0x67 then shapes.Load else shapes.Immediate
shape_by (S opcode f3) = shapes.Store
shape_by (B opcode f3) = shapes.Branch
shape_by (R opcode f3 f7) = shapes.Registers
shape_by (Shift opcode f3 f6) = shapes.Immediate
shape_by (ShiftW opcode f3 f7) = shapes.Immediate
shape_by (Ignored opcode f3) = shapes.Alone
shape_by (Whole word) = shapes.Alone

abbrev pub shape_of : Op → Shape
shape_of o = shape_by (form o)

-- Instructions that stand for others.
abbrev pub pseudo_word : Pseudo → List ℕ
pseudo_word pseudos.Li = codes "li"
pseudo_word pseudos.La = codes "la"
pseudo_word pseudos.Mv = codes "mv"
pseudo_word pseudos.J = codes "j"
pseudo_word pseudos.Call = codes "call"
pseudo_word pseudos.Ret = codes "ret"
pseudo_word pseudos.Nop = codes "nop"

abbrev pub pseudos_listed : List Pseudo
pseudos_listed =
    pseudos.Li ∷ pseudos.La ∷ pseudos.Mv ∷ pseudos.J ∷ pseudos.Call ∷ pseudos.Ret ∷ pseudos.Nop ∷ []

unfoldable pub pseudo_named : List ℕ → Option Pseudo
pseudo_named word = find (λ p. bytes_eq (pseudo_word p) word) pseudos_listed

-- Directives.
abbrev pub directive_word : Directive → List ℕ
directive_word directives.Ascii = codes ".ascii"
directive_word directives.Byte = codes ".byte"
directive_word directives.Word = codes ".word"
directive_word directives.Dword = codes ".dword"
directive_word directives.Zero = codes ".zero"
directive_word directives.Align = codes ".align"

abbrev pub directives_listed : List Directive
directives_listed =
    directives.Ascii ∷ directives.Byte ∷ directives.Word ∷ directives.Dword ∷ directives.Zero
    ∷ directives.Align ∷ []

unfoldable pub directive_named : List ℕ → Option Directive
directive_named word = find (λ d. bytes_eq (directive_word d) word) directives_listed
