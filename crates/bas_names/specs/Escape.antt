-- A name as a text of letters, digits and few signs (percent-encoding, RFC 3986, section 2.1).
use Rattle.std.specs.Prelude.{ℕ, ◌/◌, ◌%◌, ◌==◌, Bool, true, ◌||◌, if◌then◌else◌, List, [], ◌∷◌}
use Rattle.std.specs.List.{flat_map}
use Rattle.std.specs.Char.{is_ascii_alphanumeric}
use Rattle.std.specs.Fmt.{digit_glyph}

-- Letters, digits, `-`, `.`, `/` and `_` stand for themselves.
abbrev pub is_plain : ℕ → Bool
is_plain byte =
    is_ascii_alphanumeric byte || (byte == 45 || (byte == 46 || (byte == 47 || byte == 95)))

-- Every other byte becomes `%` and its two upper-case hexadecimal digits.
abbrev pub escaped_byte : ℕ → List ℕ
escaped_byte byte =
    if is_plain byte then byte ∷ []
    else 37 ∷ digit_glyph true (byte / 16) ∷ digit_glyph true (byte % 16) ∷ []

unfoldable pub escaped : List ℕ → List ℕ
escaped name = flat_map escaped_byte name
