-- A line of the text: its label, its statement and its bytes.
use Rattle.std.specs.Prelude.{ℕ, ◌+◌, ◌==◌, Bool, false, not, ◌&&◌, ◌||◌, if◌then◌else◌, nat_lt, List, [], ◌∷◌, length, Option, Some, None, is_some, option_map, unwrap_or, Result, Ok, Err}
use Rattle.std.specs.Option.{ok_or, option_map_or, option_and_then}
use Rattle.std.specs.List.{list_any}
use Rattle.std.specs.Str.{is_utf8}
use Rattle.rv_asm.specs.declared.AsmCause.{AsmCause}
use Rattle.rv_asm.specs.declared.AsmCause.TheVariants as causes
use Rattle.rv_asm.specs.declared.statement.Statement.{Statement}
use Rattle.rv_asm.specs.declared.labels.Definition.{Definition}
use Rattle.rv_asm.specs.declared.line.Line.{Line}
use Rattle.asm_text.specs.Text.{before, behind, is_closed, trim_start, trim, is_name, operands, quoted}
use Rattle.rv_asm.specs.Operands.{unless_refused}
use Rattle.rv_asm.specs.Statement.{word_named, unknown, syntax_of, statement_of}
use Rattle.rv_asm.specs.Encoding.{statement_size, bytes_of}

-- The parts of a line

-- The line without its comment, which begins at the first `#` outside quotes.
unfoldable pub uncommented : List ℕ → List ℕ
uncommented line = before (35 ∷ []) line

-- What stands before the first `:` outside quotes, if there is one. No blank stands between the
-- label and its `:`.
unfoldable pub label_text : List ℕ → Option (List ℕ)
label_text text = option_map (λ rest. trim_start (before (58 ∷ []) text)) (behind (58 ∷ []) text)

-- What stands behind it, or all.
unfoldable pub statement_text : List ℕ → List ℕ
statement_text text = trim (unwrap_or (behind (58 ∷ []) text) text)

-- The first word of a statement ends at the first blank outside quotes.
unfoldable pub first_word : List ℕ → List ℕ
first_word statement = before (32 ∷ 9 ∷ []) statement

unfoldable pub operand_texts : List ℕ → List (List ℕ)
operand_texts statement = operands (trim (unwrap_or (behind (32 ∷ 9 ∷ []) statement) []))

-- The text's own faults

-- An operand with a quote that isn't one quoted text.
abbrev pub shares_quote : List ℕ → Bool
shares_quote operand = list_any (λ c. c == 34) operand && not (is_some (quoted operand))

-- Quotes that aren't closed or have a wrong escape, a label that is no name, a quoted text that
-- shares its operand.
unfoldable pub has_fault : List ℕ → List (List ℕ) → Bool
has_fault text operands =
    not (is_closed text)
    || (option_map_or (λ label. not (is_name label)) (label_text text) false
    || list_any shares_quote operands)

-- What a line says

-- What is read by one step and then by others: the first cause counts.
infixl 10 ◌>>=◌
abbrev pub ◌>>=◌ : {A B : Type 0} → Result A AsmCause → (A → Result B AsmCause) → Result B AsmCause
Ok a >>= next = next a
Err cause >>= next = Err cause

-- A label is a name, whatever else the line holds.
unfoldable pub label_of : Option (List ℕ) → Option (List ℕ)
label_of text = option_and_then (λ name. if is_name name then Some name else None) text

-- The statement of a word and its operands, or the first cause for which they are refused by
-- themselves. Without a word there is none.
unfoldable pub statement_in : List ℕ → List (List ℕ) → Result (Option Statement) AsmCause
statement_in word operands =
    if length word == 0 then Ok None else
    (ok_or (word_named word) (unknown word)
    >>= (λ named. unless_refused (syntax_of named) operands (Some (statement_of named operands))))

-- A line, without its comment, whose bytes are UTF-8 or not.
abbrev pub read_text : Bool → List ℕ → Line
read_text is_text text =
    let operands = operand_texts (statement_text text) in record {
      label = label_of (label_text text);
      statement = (if not is_text || has_fault text operands then Err causes.Text
          else statement_in (first_word (statement_text text)) operands);
    }

-- The label and the statement of a line, or the first cause for which it is refused by itself.
unfoldable pub read : List ℕ → Line
read line = read_text (is_utf8 line) (uncommented line)

-- Its bytes

-- A line that is refused by itself takes none.
abbrev pub size_of : ℕ → Result (Option Statement) AsmCause → ℕ
size_of at (Ok (Some statement)) = statement_size at statement
size_of at (Ok None) = 0
size_of at (Err cause) = 0

-- The address behind a line.
abbrev pub line_end : ℕ → Line → ℕ
line_end at line = at + size_of at line.statement

-- An earlier line defines the label.
abbrev pub is_twice : (List ℕ → Option Definition) → ℕ → Option (List ℕ) → Bool
is_twice find number label =
    option_map_or (λ name. option_map_or (λ d. nat_lt d.line number) (find name) false) label false

-- The bytes of what is no statement.
abbrev pub bytes_in : (List ℕ → Option Definition) → ℕ → Option Statement → Result (List ℕ) AsmCause
bytes_in find at (Some statement) = bytes_of find at statement
bytes_in find at None = Ok []

-- The bytes of the line of that number at an address, or the first cause for which it is refused:
-- first what is wrong with the line by itself, then a label that an earlier line defines, then what
-- its statement gives.
unfoldable pub line_bytes : (List ℕ → Option Definition) → ℕ → ℕ → Line → Result (List ℕ) AsmCause
line_bytes find number at line =
    line.statement >>= (λ statement.
    if is_twice find number line.label then Err causes.Twice else bytes_in find at statement)
