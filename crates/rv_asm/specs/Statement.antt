-- Statements: what a line puts into the program, by its first word and its operands.
use Rattle.std.specs.Prelude.{ℕ, Bool, if◌then◌else◌, List, [], ◌∷◌, map, Option, option_map, ℤ, pos}
use Rattle.std.specs.Option.{option_or}
use Rattle.std.specs.List.{starts_with}
use Rattle.std.specs.Bool.{nat_eq}
use Rattle.rv_core.specs.declared.instr.Op.{Op}
use Rattle.rv_core.specs.declared.instr.Op.TheVariants as op
use Rattle.rv_asm.specs.declared.AsmCause.{AsmCause}
use Rattle.rv_asm.specs.declared.AsmCause.TheVariants as causes
use Rattle.rv_asm.specs.declared.mnemonics.Shape.{Shape}
use Rattle.rv_asm.specs.declared.mnemonics.Shape.TheVariants as shapes
use Rattle.rv_asm.specs.declared.mnemonics.Pseudo.{Pseudo}
use Rattle.rv_asm.specs.declared.mnemonics.Pseudo.TheVariants as pseudos
use Rattle.rv_asm.specs.declared.mnemonics.Directive.{Directive}
use Rattle.rv_asm.specs.declared.mnemonics.Directive.TheVariants as directives
use Rattle.rv_asm.specs.declared.operands.Kind.{Kind}
use Rattle.rv_asm.specs.declared.operands.Kind.TheVariants.{Rd, Rs1, Rs2, Number, Address, Label}
use Rattle.rv_asm.specs.declared.operands.Fields.{Fields}
use Rattle.rv_asm.specs.declared.statement.Width.TheVariants as widths
use Rattle.rv_asm.specs.declared.statement.Word.{Word}
use Rattle.rv_asm.specs.declared.statement.Word.TheVariants as words
use Rattle.rv_asm.specs.declared.statement.Statement.{Statement}
use Rattle.rv_asm.specs.declared.statement.Statement.TheVariants.{Plain, Upper, Branch, Jump, LoadNumber, LoadAddress, Bytes, Numbers, Zeros, Align}
use Rattle.rv_asm.specs.Operands.{Syntax, Each, Quoted, fields_of, value_of, bytes_in}
use Rattle.rv_asm.specs.Operands as operands
use Rattle.rv_asm.specs.Mnemonics.{op_named, shape_of, pseudo_named, directive_named}

-- Words

-- Directives begin with a point.
abbrev pub is_directive : List ℕ → Bool
is_directive word = starts_with nat_eq word (46 ∷ [])

-- What a first word names, if it names something.
unfoldable pub word_named : List ℕ → Option Word
word_named word =
    if is_directive word then option_map (λ d. words.Directive d) (directive_named word)
    else option_or (option_map (λ o. words.Instruction o) (op_named word))
    (option_map (λ p. words.Pseudo p) (pseudo_named word))

-- The cause to refuse a word that names nothing.
abbrev pub unknown : List ℕ → AsmCause
unknown word = if is_directive word then causes.Directive else causes.Mnemonic

-- Operands

abbrev pub kinds_by : Shape → List Kind
kinds_by shapes.Registers = Rd ∷ Rs1 ∷ Rs2 ∷ []  -- add rd, rs1, rs2
kinds_by shapes.Immediate = Rd ∷ Rs1 ∷ Number ∷ []  -- addi rd, rs1, n
kinds_by shapes.Upper = Rd ∷ Number ∷ []  -- lui rd, n
kinds_by shapes.Load = Rd ∷ Address ∷ []  -- ld rd, n(rs1)
kinds_by shapes.Store = Rs2 ∷ Address ∷ []  -- sd rs2, n(rs1)
kinds_by shapes.Branch = Rs1 ∷ Rs2 ∷ Label ∷ []  -- beq rs1, rs2, NAME
kinds_by shapes.Jump = Rd ∷ Label ∷ []  -- jal rd, NAME
kinds_by shapes.Alone = []  -- ecall

abbrev pub pseudo_kinds : Pseudo → List Kind
pseudo_kinds pseudos.Li = Rd ∷ Number ∷ []  -- li rd, n
pseudo_kinds pseudos.La = Rd ∷ Label ∷ []  -- la rd, NAME
pseudo_kinds pseudos.Mv = Rd ∷ Rs1 ∷ []  -- mv rd, rs
pseudo_kinds pseudos.J = Label ∷ []  -- j NAME
pseudo_kinds pseudos.Call = Label ∷ []  -- call NAME
pseudo_kinds pseudos.Ret = []  -- ret
pseudo_kinds pseudos.Nop = []  -- nop

abbrev pub directive_syntax : Directive → Syntax
directive_syntax directives.Ascii = Quoted  -- .ascii "TEXT"
directive_syntax directives.Byte = operands.Numbers  -- .byte n, ..
directive_syntax directives.Word = operands.Numbers  -- .word n, ..
directive_syntax directives.Dword = operands.Numbers  -- .dword n, ..
directive_syntax directives.Zero = Each (Number ∷ [])  -- .zero n
directive_syntax directives.Align = Each (Number ∷ [])  -- .align n

-- The operands of a word.
abbrev pub syntax_of : Word → Syntax
syntax_of (words.Instruction o) = Each (kinds_by (shape_of o))
syntax_of (words.Pseudo p) = Each (pseudo_kinds p)
syntax_of (words.Directive d) = directive_syntax d

-- Statements, by what the operands give

abbrev pub instruction_by : Shape → Op → Fields → ℤ → Statement
instruction_by shapes.Registers o f n = Plain o f.rd f.rs1 f.rs2 n
instruction_by shapes.Immediate o f n = Plain o f.rd f.rs1 f.rs2 n
instruction_by shapes.Upper o f n = Upper o f.rd n
instruction_by shapes.Load o f n = Plain o f.rd f.rs1 f.rs2 n
instruction_by shapes.Store o f n = Plain o f.rd f.rs1 f.rs2 n
instruction_by shapes.Branch o f n = Branch o f.rs1 f.rs2 f.label
instruction_by shapes.Jump o f n = Jump f.rd f.label
instruction_by shapes.Alone o f n = Plain o f.rd f.rs1 f.rs2 n

-- `mv` is ADDI with 0, `j` and `call` are JAL with x0 and ra, `ret` is JALR to ra, `nop` is ADDI of
-- x0 with 0.
abbrev pub pseudo_by : Pseudo → Fields → ℤ → Statement
pseudo_by pseudos.Li f n = LoadNumber f.rd n
pseudo_by pseudos.La f n = LoadAddress f.rd f.label
pseudo_by pseudos.Mv f n = Plain op.Addi f.rd f.rs1 0 (pos 0)
pseudo_by pseudos.J f n = Jump 0 f.label
pseudo_by pseudos.Call f n = Jump 1 f.label
pseudo_by pseudos.Ret f n = Plain op.Jalr 0 1 0 (pos 0)
pseudo_by pseudos.Nop f n = Plain op.Addi 0 0 0 (pos 0)

-- The number among the operands.
abbrev pub number_in : List (List ℕ) → ℤ
number_in texts = value_of (fields_of (Number ∷ []) texts).number

abbrev pub directive_by : Directive → List (List ℕ) → Statement
directive_by directives.Ascii texts = Bytes (bytes_in texts)
directive_by directives.Byte texts = Numbers widths.Byte (map value_of texts)
directive_by directives.Word texts = Numbers widths.Word (map value_of texts)
directive_by directives.Dword texts = Numbers widths.Dword (map value_of texts)
directive_by directives.Zero texts = Zeros (number_in texts)
directive_by directives.Align texts = Align (number_in texts)

-- The statement of a word with operands.
abbrev pub statement_of : Word → List (List ℕ) → Statement
statement_of (words.Instruction o) texts =
    let f = fields_of (kinds_by (shape_of o)) texts in
    instruction_by (shape_of o) o f (value_of f.number)
statement_of (words.Pseudo p) texts =
    let f = fields_of (pseudo_kinds p) texts in pseudo_by p f (value_of f.number)
statement_of (words.Directive d) texts = directive_by d texts
