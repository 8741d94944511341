-- The text of an assembly program, as bytes: its lines, and the parts of a line.
use Rattle.std.specs.Prelude.{ℕ, ◌+◌, ◌==◌, Bool, true, false, ◌&&◌, ◌||◌, if◌then◌else◌, nat_lt, List, [], ◌∷◌, length, take, drop, map, fold, Option, Some, None, is_some, option_map, option_and_then}
use Rattle.std.specs.List.{slice_split, onto_first, list_any, list_all}
use denote.Ref.{Bor}
use Rattle.std.specs.Char.{is_ascii_alphabetic, is_ascii_alphanumeric}
use Rattle.asm_text.specs.declared.text.Quoting.{Quoting}
use Rattle.asm_text.specs.declared.text.Quoting.TheVariants.{Outside, Inside, Escaped, Broken}

-- Lines end with a line feed. Behind the last one stands one more line, which may be empty.
abbrev pub lines : List ℕ → List (List ℕ)
lines text = slice_split (λ c. c == 10) text

-- The lines of what is left of a text, if anything is.
abbrev pub lines_left : Option (Bor (List ℕ)) → List (List ℕ)
lines_left None = []
lines_left (Some text) = lines text.now

-- Quotes

-- The byte that `\n`, `\t`, `\0`, `\\` or `\"` stands for, by the byte behind the backslash.
abbrev pub escape_of : ℕ → Option ℕ
escape_of c =
    if c == 110 then Some 10 else
    (if c == 116 then Some 9 else
    (if c == 48 then Some 0 else
    (if c == 92 then Some 92 else
    (if c == 34 then Some 34 else None))))

-- Where a place stands to quotes, behind a byte. Behind a wrong escape the quotes are broken.
abbrev pub quoting_behind : Quoting → ℕ → Quoting
quoting_behind Outside c = if c == 34 then Inside else Outside
quoting_behind Inside c = if c == 34 then Outside else (if c == 92 then Escaped else Inside)
quoting_behind Escaped c = if is_some (escape_of c) then Inside else Broken
quoting_behind Broken c = Broken

abbrev pub is_outside : Quoting → Bool
is_outside Outside = true
is_outside Inside = false
is_outside Escaped = false
is_outside Broken = false

-- All quotes of the text are closed, with no wrong escape.
abbrev pub is_closed : List ℕ → Bool
is_closed text = is_outside (fold quoting_behind Outside text)

-- One of the marks, outside quotes.
abbrev pub is_mark : List ℕ → Quoting → ℕ → Bool
is_mark marks quoting c = is_outside quoting && list_any (λ m. m == c) marks

-- How many bytes stand before the first of the marks that is outside quotes.
abbrev pub length_before : List ℕ → Quoting → List ℕ → ℕ
length_before marks quoting [] = 0
length_before marks quoting (c ∷ cs) =
    if is_mark marks quoting c then 0 else 1 + length_before marks (quoting_behind quoting c) cs

-- What stands before the first of the marks that is outside quotes, or all.
unfoldable pub before : List ℕ → List ℕ → List ℕ
before marks text = take (length_before marks Outside text) text

-- What stands behind that mark, if there is one.
unfoldable pub behind : List ℕ → List ℕ → Option (List ℕ)
behind marks text =
    let place = length_before marks Outside text in
    if nat_lt place (length text) then Some (drop (place + 1) text) else None

-- The parts between commas outside quotes.
abbrev pub parts : Quoting → List ℕ → List (List ℕ)
parts quoting [] = [] ∷ []
parts quoting (c ∷ cs) =
    if is_mark (44 ∷ []) quoting c then [] ∷ parts Outside cs
    else onto_first c (parts (quoting_behind quoting c) cs)

-- The bytes of a quoted text, from behind its first quote on. The text has to end with its last
-- quote.
abbrev pub unquoted : List ℕ → Option (List ℕ)
unquoted [] = None
unquoted (c ∷ []) = if c == 34 then Some [] else None
unquoted (c ∷ d ∷ cs) =
    if c == 34 then None else
    (if c == 92
    then option_and_then (λ byte. option_map (λ bytes. byte ∷ bytes) (unquoted cs)) (escape_of d)
    else option_map (λ bytes. c ∷ bytes) (unquoted (d ∷ cs)))

-- The bytes of an operand that is one quoted text.
abbrev pub quoted : List ℕ → Option (List ℕ)
quoted [] = None
quoted (c ∷ cs) = if c == 34 then unquoted cs else None

-- Blanks

abbrev pub is_blank : ℕ → Bool
is_blank c = c == 32 || c == 9

-- Without the blanks in front, and without those at the end.
abbrev pub trim_start : List ℕ → List ℕ
trim_start [] = []
trim_start (c ∷ cs) = if is_blank c then trim_start cs else c ∷ cs

abbrev pub before_blanks : ℕ → List ℕ → List ℕ
before_blanks c [] = if is_blank c then [] else c ∷ []
before_blanks c (d ∷ ds) = c ∷ d ∷ ds

abbrev pub trim_end : List ℕ → List ℕ
trim_end [] = []
trim_end (c ∷ cs) = before_blanks c (trim_end cs)

abbrev pub trim : List ℕ → List ℕ
trim text = trim_end (trim_start text)

-- Names

abbrev pub begins_name : ℕ → Bool
begins_name c = is_ascii_alphabetic c || (c == 95 || c == 46)

abbrev pub continues_name : ℕ → Bool
continues_name c = is_ascii_alphanumeric c || c == 95

-- A letter, `_` or `.`, and then letters, digits and `_`.
abbrev pub is_name : List ℕ → Bool
is_name [] = false
is_name (c ∷ cs) = begins_name c && list_all continues_name cs

-- Operands

-- What stands between commas outside quotes, without the blanks at its ends. Without a text there
-- is none.
abbrev pub operands : List ℕ → List (List ℕ)
operands text = if length text == 0 then [] else map trim (parts Outside text)
