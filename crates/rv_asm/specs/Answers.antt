-- What the program's own functions answer: what is wanted or a refusal, where memory may run out,
-- and numbers as its types hold them. No answer of the assembler depends on how they are held.
use Rattle.std.specs.Prelude.{◌≡◌, ℕ, ◌-◌, ◌^◌, min, List, map, Option, option_map, ℤ, Result, Ok, Err}
use Rattle.asm_text.specs.Numbers.{nearest}
use Rattle.rv_asm.specs.declared.AsmCause.{AsmCause}
use Rattle.rv_asm.specs.declared.AsmError.{AsmError}
use Rattle.rv_asm.specs.declared.AsmError.TheVariants as errors
use Rattle.rv_asm.specs.declared.refusal.LineError.{LineError}
use Rattle.rv_asm.specs.declared.refusal.LineError.TheVariants.{Refused, Memory}
use Rattle.rv_asm.specs.declared.statement.Statement.{Statement}
use Rattle.rv_asm.specs.declared.statement.Statement.TheVariants.{Plain, Upper, Branch, Jump, LoadNumber, LoadAddress, Bytes, Numbers, Zeros, Align}
use Rattle.rv_asm.specs.declared.labels.Definition.{Definition}
use Rattle.rv_asm.specs.declared.line.Line.{Line}
use Rattle.rv_asm.specs.Operands.{value_of}

-- The answer is what is wanted, or its cause. Want of memory tells nothing.
abbrev pub Answers : {A : Type 0} → Result A LineError → Result A AsmCause → Type 0
Answers (Ok a) wanted = wanted ≡ Ok a
Answers (Err (Refused cause)) wanted = wanted ≡ Err cause
Answers (Err Memory) wanted = Unit {0}

-- The error of the line of that number.
abbrev pub error_at : ℕ → LineError → AsmError
error_at number (Refused cause) = errors.Line number cause
error_at number Memory = errors.Memory

-- The nearest number of at most 2^64 in size.
abbrev pub nearest_value : List ℕ → ℤ
nearest_value text = nearest (value_of text)

abbrev pub nearest_statement : Statement → Statement
nearest_statement (Plain o rd rs1 rs2 n) = Plain o rd rs1 rs2 (nearest n)
nearest_statement (Upper o rd n) = Upper o rd (nearest n)
nearest_statement (Branch o rs1 rs2 label) = Branch o rs1 rs2 label
nearest_statement (Jump rd label) = Jump rd label
nearest_statement (LoadNumber rd n) = LoadNumber rd (nearest n)
nearest_statement (LoadAddress rd label) = LoadAddress rd label
nearest_statement (Bytes bytes) = Bytes bytes
nearest_statement (Numbers width ns) = Numbers width (map nearest ns)
nearest_statement (Zeros n) = Zeros (nearest n)
nearest_statement (Align n) = Align (nearest n)

abbrev pub nearest_said : Result (Option Statement) AsmCause → Result (Option Statement) AsmCause
nearest_said (Ok said) = Ok (option_map nearest_statement said)
nearest_said (Err cause) = Err cause

abbrev pub nearest_line : Line → Line
nearest_line line = record { label = line.label; statement = nearest_said line.statement }

-- The greatest address of 64 bits, and the nearest of these to an address: that address itself, or
-- both are behind the limit.
abbrev pub farthest : ℕ
farthest = 2 ^ 64 - 1

abbrev pub nearest_address : ℕ → ℕ
nearest_address at = min farthest at

abbrev pub nearest_definition : Definition → Definition
nearest_definition d = record { line = d.line; address = nearest_address d.address }
