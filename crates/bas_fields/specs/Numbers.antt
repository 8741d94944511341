-- Numbers as text: the digits of a number in a base, the highest first.
use Rattle.std.specs.Prelude.{◌≡◌, ℕ, ◌<◌, false, List, [], ◌∷◌, map}
use Rattle.std.specs.Char.{digit_char}
use Rattle.std.specs.Fmt.{digits}
use Rattle.std.specs.Int.Digits.{AllBelowBase, number_from_digits}

-- There is a digit, and no zero stands before another one.
abbrev pub HasNoLeadingZero : List ℕ → Type 0
HasNoLeadingZero [] = ⊥
HasNoLeadingZero (digit ∷ []) = Unit {0}
HasNoLeadingZero (digit ∷ next ∷ rest) = 0 < digit

-- The text spells the number in the base: by digits below the base, the highest first, without a
-- leading zero. A digit is written as `0` to `9`, and from 10 on as a lower-case letter from `a`
-- on.
pub record Spells (base : ℕ) (text : List ℕ) (number : ℕ) : Type 0 where
  pub places : List ℕ
  pub below : AllBelowBase base places
  pub value : number_from_digits base places ≡ number
  pub shortest : HasNoLeadingZero places
  pub written : text ≡ map digit_char places

-- What a number is in hexadecimal digits, as `{:x}` writes it.
abbrev pub hexadecimal_text : ℕ → List ℕ
hexadecimal_text n = digits 16 false n
