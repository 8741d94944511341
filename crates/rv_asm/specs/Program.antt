-- A whole text: the addresses of its lines, its labels, its bytes and the first line that is
-- refused.
use Rattle.std.specs.Prelude.{◌≡◌, ℕ, ◌+◌, List, [], ◌∷◌, ◌++◌, length, map, Option, None, Result, Ok, Err, IsOk}
use Rattle.std.specs.List.{flat_map, AllByRecursion}
use Rattle.rv_asm.specs.declared.AsmCause.{AsmCause}
use Rattle.rv_asm.specs.declared.AsmError.{AsmError}
use Rattle.rv_asm.specs.declared.AsmError.TheVariants as errors
use Rattle.rv_asm.specs.declared.labels.Definition.{Definition}
use Rattle.asm_text.specs.Text.{lines}
use Rattle.rv_asm.specs.Labels.{otherwise, own_definition}
use Rattle.rv_asm.specs.Encoding.{base}
use Rattle.rv_asm.specs.Line.{read, line_end, line_bytes}
use Rattle.rv_asm.specs.File.{file_of}

-- What a label is by the first of the lines that defines it. The first line has that number and
-- that address.
unfoldable pub definition_in : ℕ → ℕ → List (List ℕ) → List ℕ → Option Definition
definition_in number at [] name = None
definition_in number at (line ∷ lines) name =
    otherwise (own_definition number at (read line).label name)
    (definition_in (number + 1) (line_end at (read line)) lines name)

-- What a label of the text is.
abbrev pub definition_of : List ℕ → List ℕ → Option Definition
definition_of text name = definition_in 1 base (lines text) name

-- A line, its number and its address.
pub record Place : Type 0 where
  pub number : ℕ
  pub address : ℕ
  pub line : List ℕ

-- The lines in their places. The first has that number and that address.
unfoldable pub places_in : ℕ → ℕ → List (List ℕ) → List Place
places_in number at [] = []
places_in number at (line ∷ lines) =
    record { number = number; address = at; line = line }
    ∷ places_in (number + 1) (line_end at (read line)) lines

-- The lines of a text, the first of which is number 1.
abbrev pub places : List ℕ → List Place
places text = places_in 1 base (lines text)

-- What comes of a line: its bytes, or the first cause for which it is refused.
abbrev pub outcome : (List ℕ → Option Definition) → Place → Result (List ℕ) AsmCause
outcome find p = line_bytes find p.number p.address (read p.line)

abbrev pub outcomes_in : (List ℕ → Option Definition) → ℕ → ℕ → List (List ℕ)
    → List (Result (List ℕ) AsmCause)
outcomes_in find number at lines = map (outcome find) (places_in number at lines)

-- What comes of each line of the text.
abbrev pub outcomes : List ℕ → List (Result (List ℕ) AsmCause)
outcomes text = outcomes_in (definition_of text) 1 base (lines text)

-- Bytes in front of those of the lines behind, or the line that is refused there.
abbrev pub in_front : List ℕ → Result (List ℕ) AsmError → Result (List ℕ) AsmError
in_front bytes (Ok more) = Ok (bytes ++ more)
in_front bytes (Err error) = Err error

-- The bytes of the lines in a row, or the first of the lines that is refused. The first line has
-- that number.
unfoldable pub gathered : ℕ → List (Result (List ℕ) AsmCause) → Result (List ℕ) AsmError
gathered number [] = Ok []
gathered number (Ok bytes ∷ outcomes) = in_front bytes (gathered (number + 1) outcomes)
gathered number (Err cause ∷ outcomes) = Err (errors.Line number cause)

-- The bytes of the text behind the headers, or the first line that is refused, with its first
-- cause.
unfoldable pub program_of : List ℕ → Result (List ℕ) AsmError
program_of text = gathered 1 (outcomes text)

-- The file of the text, or the first line that is refused, with its first cause.
abbrev pub filed : Result (List ℕ) AsmError → Result (List ℕ) AsmError
filed (Ok bytes) = Ok (file_of bytes)
filed (Err error) = Err error

unfoldable pub assembled : List ℕ → Result (List ℕ) AsmError
assembled text = filed (program_of text)

-- The answer tells the file or the refused line. Want of memory tells nothing.
abbrev pub Tells : Result (List ℕ) AsmError → Result (List ℕ) AsmError → Type 0
Tells (Ok bytes) outcome = outcome ≡ Ok bytes
Tells (Err (errors.Line number cause)) outcome = outcome ≡ Err (errors.Line number cause)
Tells (Err errors.Memory) outcome = Unit {0}

-- In words

-- The line of that number is refused for that cause, and no line before it is. The first line has
-- the number first.
pub record IsFirstRefused (first : ℕ) (outcomes : List (Result (List ℕ) AsmCause))
    (number : ℕ) (cause : AsmCause) : Type 0 where
  pub before : List (Result (List ℕ) AsmCause)
  pub behind : List (Result (List ℕ) AsmCause)
  pub place : outcomes ≡ before ++ Err cause ∷ behind
  pub count : first + length before ≡ number
  pub accepted : AllByRecursion IsOk before

-- The bytes of lines that are all accepted.
abbrev pub bytes_or_none : Result (List ℕ) AsmCause → List ℕ
bytes_or_none (Ok bytes) = bytes
bytes_or_none (Err cause) = []

-- Each line is accepted, and the file holds the bytes of the lines in a row behind its headers.
pub record IsFileOf (outcomes : List (Result (List ℕ) AsmCause)) (file : List ℕ) : Type 0 where
  pub accepted : AllByRecursion IsOk outcomes
  pub bytes : file ≡ file_of (flat_map bytes_or_none outcomes)

-- What the answer says of the lines.
abbrev pub Follows : List (Result (List ℕ) AsmCause) → Result (List ℕ) AsmError → Type 0
Follows outcomes (Ok file) = IsFileOf outcomes file
Follows outcomes (Err (errors.Line number cause)) = IsFirstRefused 1 outcomes number cause
Follows outcomes (Err errors.Memory) = Unit {0}
