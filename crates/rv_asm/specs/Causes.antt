-- Why a line is refused: where each cause fits, and which is answered.
use Rattle.std.specs.Prelude.{◌≡◌, ℕ, ◌==◌, Bool, true, false, not, ◌&&◌, ◌||◌, if◌then◌else◌, List, [], ◌∷◌, ◌++◌, length, Option, None, is_none, Result, Ok, Err}
use Rattle.std.specs.Option.{option_map_or}
use Rattle.std.specs.List.{AllByRecursion}
use Rattle.std.specs.Str.{is_utf8}
use Rattle.rv_asm.specs.declared.AsmCause.{AsmCause}
use Rattle.rv_asm.specs.declared.AsmCause.TheVariants as causes
use Rattle.rv_asm.specs.declared.AsmError.{AsmError}
use Rattle.rv_asm.specs.declared.AsmError.TheVariants as errors
use Rattle.rv_asm.specs.declared.labels.Definition.{Definition}
use Rattle.rv_asm.specs.declared.statement.Word.{Word}
use Rattle.rv_asm.specs.declared.statement.Statement.{Statement}
use Rattle.rv_asm.specs.Operands.{are_operands, are_spelled}
use Rattle.rv_asm.specs.Statement.{is_directive, word_named, syntax_of, statement_of}
use Rattle.rv_asm.specs.Encoding.{is_undefined, fits_values, is_big}
use Rattle.rv_asm.specs.Line.{uncommented, label_text, statement_text, first_word, operand_texts, has_fault, label_of, is_twice}
use Rattle.rv_asm.specs.Program.{Place, places, definition_of}

-- The parts of a line: its label, its first word, its operands.
abbrev pub label : List ℕ → Option (List ℕ)
label line = label_of (label_text (uncommented line))

abbrev pub word : List ℕ → List ℕ
word line = first_word (statement_text (uncommented line))

abbrev pub operands : List ℕ → List (List ℕ)
operands line = operand_texts (statement_text (uncommented line))

-- The line has a word that names nothing.
abbrev pub is_unknown : List ℕ → Bool
is_unknown line = not (length (word line) == 0) && is_none (word_named (word line))

-- What the line's word names, if it has one.
abbrev pub named : List ℕ → Option Word
named line = if length (word line) == 0 then None else word_named (word line)

-- What holds of the line's word, and of its statement. Without a word nothing does.
abbrev pub of_word : (Word → Bool) → List ℕ → Bool
of_word test line = option_map_or test (named line) false

abbrev pub of_statement : (Statement → Bool) → List ℕ → Bool
of_statement test line = of_word (λ w. test (statement_of w (operands line))) line

-- Where each cause fits.
abbrev pub fits : (List ℕ → Option Definition) → Place → AsmCause → Bool
fits find p causes.Text = not (is_utf8 p.line) || has_fault (uncommented p.line) (operands p.line)
fits find p causes.Mnemonic = is_unknown p.line && not (is_directive (word p.line))
fits find p causes.Directive = is_unknown p.line && is_directive (word p.line)
fits find p causes.Operand =
    of_word (λ w. not (are_operands (syntax_of w) (operands p.line))) p.line
fits find p causes.Number = of_word (λ w. not (are_spelled (syntax_of w) (operands p.line))) p.line
fits find p causes.Twice = is_twice find p.number (label p.line)
fits find p causes.Label = of_statement (is_undefined find) p.line
fits find p causes.Range = of_statement (λ s. not (fits_values find p.address s)) p.line
fits find p causes.Big = of_statement (is_big p.address) p.line

-- Their order.
abbrev pub causes_listed : List AsmCause
causes_listed =
    causes.Text ∷ causes.Mnemonic ∷ causes.Directive ∷ causes.Operand ∷ causes.Number ∷ causes.Twice
    ∷ causes.Label ∷ causes.Range ∷ causes.Big ∷ []

-- The cause fits, and none before it does.
pub record IsFirstFitting (fitting : AsmCause → Bool) (cause : AsmCause) : Type 0 where
  pub before : List AsmCause
  pub behind : List AsmCause
  pub place : causes_listed ≡ before ++ cause ∷ behind
  pub fits : fitting cause ≡ true
  pub first : AllByRecursion (λ c. fitting c ≡ false) before

-- No cause fits.
abbrev pub FitsNone : (AsmCause → Bool) → Type 0
FitsNone fitting = (cause : AsmCause) → fitting cause ≡ false

-- The line of that number is there, and this is the first cause that fits it.
pub record IsAccused (text : List ℕ) (number : ℕ) (cause : AsmCause) : Type 0 where
  pub before : List Place
  pub line : Place
  pub behind : List Place
  pub there : places text ≡ before ++ line ∷ behind
  pub numbered : line.number ≡ number
  pub first : IsFirstFitting (fits (definition_of text) line) cause

-- What the answer says of causes: that of the refused line is the first that fits, and none fits a
-- line of a file.
abbrev pub HasCause : List ℕ → Result (List ℕ) AsmError → Type 0
HasCause text (Ok file) =
    AllByRecursion (λ line. FitsNone (fits (definition_of text) line)) (places text)
HasCause text (Err (errors.Line number cause)) = IsAccused text number cause
HasCause text (Err errors.Memory) = Unit {0}
