-- The operands of a statement: their kinds, and what they give.
use Rattle.std.specs.Prelude.{ℕ, ◌-◌, ◌==◌, Bool, true, false, not, ◌&&◌, if◌then◌else◌, List, [], ◌∷◌, length, take, drop, Option, Some, None, is_some, unwrap_or, ℤ, pos, Result, Ok, Err}
use Rattle.std.specs.Option.{option_and_then}
use Rattle.std.specs.List.{list_all}
use Rattle.std.specs.Str.{bytes_eq}
use Rattle.rv_asm.specs.declared.AsmCause.{AsmCause}
use Rattle.rv_asm.specs.declared.AsmCause.TheVariants as causes
use Rattle.rv_asm.specs.declared.operands.Kind.{Kind}
use Rattle.rv_asm.specs.declared.operands.Kind.TheVariants.{Rd, Rs1, Rs2, Number, Address, Label}
use Rattle.rv_asm.specs.declared.operands.Fields.{Fields}
use Rattle.asm_text.specs.Text.{before, behind, is_name, quoted}
use Rattle.asm_text.specs.Numbers.{is_number, number_of}
use Rattle.asm_text.specs.Registers.{register_of}

-- `n(rs1)` without blanks inside: n ends at the first parenthesis, and the other one stands at the
-- end.
abbrev pub number_text : List ℕ → List ℕ
number_text text = before (40 ∷ []) text

abbrev pub without_close : List ℕ → Option (List ℕ)
without_close text =
    if bytes_eq (drop (length text - 1) text) (41 ∷ [])
    then Some (take (length text - 1) text) else None

abbrev pub base_text : List ℕ → Option (List ℕ)
base_text text = option_and_then without_close (behind (40 ∷ []) text)

-- The register between the parentheses.
unfoldable pub base : List ℕ → Option ℕ
base text = option_and_then register_of (base_text text)

-- An operand is of a kind. A text that begins with a digit or `-` is of the kind number, whatever
-- follows.
abbrev pub is_of : Kind → List ℕ → Bool
is_of Rd text = is_some (register_of text)
is_of Rs1 text = is_some (register_of text)
is_of Rs2 text = is_some (register_of text)
is_of Number text = is_number text
is_of Address text = is_number text && is_some (base text)
is_of Label text = is_name text

-- What an operand of a kind gives.
abbrev pub with_operand : Kind → List ℕ → Fields → Fields
with_operand Rd text f = record f { rd = unwrap_or (register_of text) 0 }
with_operand Rs1 text f = record f { rs1 = unwrap_or (register_of text) 0 }
with_operand Rs2 text f = record f { rs2 = unwrap_or (register_of text) 0 }
with_operand Number text f = record f { number = text }
with_operand Address text f = record f { rs1 = unwrap_or (base text) 0; number = number_text text }
with_operand Label text f = record f { label = text }

-- A field that no operand gives is x0, the number 0 or no name.
abbrev pub no_fields : Fields
no_fields = record { rd = 0; rs1 = 0; rs2 = 0; number = 48 ∷ []; label = [] }

-- The operands are as many as the kinds, each of its kind.
abbrev pub are_of : List Kind → List (List ℕ) → Bool
are_of [] [] = true
are_of [] (text ∷ texts) = false
are_of (kind ∷ kinds) [] = false
are_of (kind ∷ kinds) (text ∷ texts) = is_of kind text && are_of kinds texts

-- What they give.
abbrev pub fields_behind : Fields → List Kind → List (List ℕ) → Fields
fields_behind f [] texts = f
fields_behind f (kind ∷ kinds) [] = f
fields_behind f (kind ∷ kinds) (text ∷ texts) = fields_behind (with_operand kind text f) kinds texts

unfoldable pub fields_of : List Kind → List (List ℕ) → Fields
fields_of kinds texts = fields_behind no_fields kinds texts

-- A text spells a number, and which.
abbrev pub is_spelled : List ℕ → Bool
is_spelled text = is_some (number_of text)

abbrev pub value_of : List ℕ → ℤ
value_of text = unwrap_or (number_of text) (pos 0)

-- The operands of a statement: one of each kind, one number or more, or one quoted text.
pub data Syntax : Type 0 where
  Each : List Kind → Syntax
  Numbers : Syntax
  Quoted : Syntax

-- The number and the kinds of the operands are right.
abbrev pub are_operands : Syntax → List (List ℕ) → Bool
are_operands (Each kinds) texts = are_of kinds texts
are_operands Numbers texts = not (length texts == 0) && list_all is_number texts
are_operands Quoted [] = false
are_operands Quoted (text ∷ []) = is_some (quoted text)
are_operands Quoted (text ∷ other ∷ texts) = false

-- Each text of the kind number spells one.
abbrev pub are_spelled : Syntax → List (List ℕ) → Bool
are_spelled (Each kinds) texts = is_spelled (fields_of kinds texts).number
are_spelled Numbers texts = list_all is_spelled texts
are_spelled Quoted texts = true

-- The bytes of the quoted text.
abbrev pub bytes_in : List (List ℕ) → List ℕ
bytes_in [] = []
bytes_in (text ∷ texts) = unwrap_or (quoted text) []

-- What operands give, unless they are refused: the number or a kind of the operands is wrong, or a
-- number spells none.
abbrev pub unless_refused : {A : Type 0} → Syntax → List (List ℕ) → A → Result A AsmCause
unless_refused syntax texts given =
    if not (are_operands syntax texts) then Err causes.Operand else
    (if not (are_spelled syntax texts) then Err causes.Number else Ok given)
