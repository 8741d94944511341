-- The numbers of the text.
use Rattle.std.specs.Prelude.{ℕ, ◌-◌, ◌^◌, min, ◌==◌, Bool, false, not, ◌||◌, if◌then◌else◌, List, [], ◌∷◌, length, drop, Option, Some, None, option_map, ℤ, pos, negsuc, ◌-ℤ◌}
use Rattle.std.specs.List.{starts_with, list_all}
use Rattle.std.specs.Bool.{nat_eq}
use Rattle.std.specs.Char.{is_ascii_digit, is_digit}
use Rattle.std.specs.Str.Parse.{digits_value}

-- The number of one or more digits. Letters are digits in either case.
abbrev pub magnitude : ℕ → List ℕ → Option ℕ
magnitude base digits =
    if length digits == 0 || not (list_all (λ c. is_digit c base) digits) then None
    else Some (digits_value base digits)

-- Decimal with an optional `-`, or `0x` and hexadecimal digits.
abbrev pub number_of : List ℕ → Option ℤ
number_of text =
    if starts_with nat_eq text (48 ∷ 120 ∷ []) then option_map pos (magnitude 16 (drop 2 text)) else
    (if starts_with nat_eq text (45 ∷ [])
    then option_map (λ n. pos 0 -ℤ pos n) (magnitude 10 (drop 1 text))
    else option_map pos (magnitude 10 text))

-- A text that begins with a digit or `-` is of the kind number.
abbrev pub is_number : List ℕ → Bool
is_number [] = false
is_number (c ∷ cs) = is_ascii_digit c || c == 45

-- The nearest number of at most 2^64 in size.
abbrev pub largest : ℕ
largest = 2 ^ 64

abbrev pub nearest : ℤ → ℤ
nearest (pos n) = pos (min largest n)
nearest (negsuc n) = negsuc (min (largest - 1) n)
