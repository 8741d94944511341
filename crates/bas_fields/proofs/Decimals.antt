-- What `parse` reads, where no sign and no needless zero stands first, is the number that `decimal` writes.
use Rattle.std.proofs.Common.{◌≡◌, ◌≢◌, ℕ, ◌^◌, ◌<◌, ◌↔◌, inl, inr, List, [], ◌∷◌, length, get_or, Ok, Err, refl, sym, ◌∙◌, ap, arith, decimal, Result, Option, Some, None, ◌⊎◌}
use Rattle.std.proofs.lemmas.Fmt.{decimal-digits_value, decimal_digit, first_decimal, parse-decimal}
use Rattle.std.proofs.lemmas.Bool.{cases_lt}
use Rattle.std.proofs.lemmas.Str.Parse.{IsNumeralModel, numerals_by_value, parse_plain, tells_digits}
use Rattle.std.specs.Result.{OkIff}
use Rattle.std.specs.Str.Parse.{AllDigits, ParsesUnsigned, digits_value}
use Rattle.bas_fields.specs.Numbers.{Spells}
use Rattle.bas_fields.proofs.Spellings.{Spells-decimal, Spells-text}

own : IsNumeralModel (AllDigits 10) (digits_value 10)
own = numerals_by_value (AllDigits 10) tells_digits

-- a decimal text begins with a digit, which is 0 only where it is the whole text
pub decimal-first : (n : ℕ) (text : List ℕ) → n < 2 ^ 64 → text ≡ decimal n → (47 < get_or text 0 0) × (get_or text 0 0 ≡ 48 → length text ≡ 1)
decimal-first n text small e =
    elim (cases_lt 0 n) [
      | inl positive ↦
          let first = first_decimal n positive small in
          let found : get_or text 0 0 ≡ get_or (decimal n) 0 0 = ap (λ (ds : List ℕ). get_or ds 0 0) e in
          (omega arith, λ nought. absurd (omega arith))
      | inr none ↦
          let nought : n ≡ 0 = omega arith in
          let whole : text ≡ 48 ∷ [] = e ∙ (ap decimal nought ∙ decimal_digit 0 (omega arith)) in
          rw whole (omega arith, λ _. refl)
    ]

reads_back : {E : Type 0} (text : List ℕ) (r : Result ℕ E) (n : ℕ) → ParsesUnsigned 64 10 text r → get_or text 0 0 ≢ 43
    → (get_or text 0 0 ≡ 48 → length text ≡ 1) → r ≡ Ok n → (text ≡ decimal n) × (n < 2 ^ 64)
reads_back {E = E} text r n parses plain short same =
    let read : OkIff {E = E} (Ok n) (AllDigits 10 text × (0 < length text) × (digits_value 10 text < 2 ^ 64)) (digits_value 10 text) =
    rw same at (parse_plain own 64 text r parses plain) in
    let back = decimal-digits_value own text read.0.0 read.0.1 short read.0.2 in
    (sym (ap decimal read.1 ∙ back), rw read.1 read.0.2)

pub parsed-is-decimal : {E : Type 0} (text : List ℕ) (r : Result ℕ E) (number n : ℕ) → r ≡ Ok number → ParsesUnsigned 64 10 text r
    → get_or text 0 0 ≢ 43 → (get_or text 0 0 ≡ 48 → length text ≡ 1) → n < 2 ^ 64 → (number ≡ n) ↔ (text ≡ decimal n)
parsed-is-decimal text r number n answer parses plain short small = (
  λ same. let read : r ≡ Ok n = rw (← same) answer in (reads_back text r n parses plain short read).0,
  λ e. let same = sym answer ∙ parse-decimal 64 n text r small small e parses in cc same,
)

pub unparsed-is-no-decimal : {E : Type 0} (text : List ℕ) (r : Result ℕ E) (error : E) (n : ℕ) → r ≡ Err error → ParsesUnsigned 64 10 text r
    → n < 2 ^ 64 → text ≡ decimal n → ⊥
unparsed-is-no-decimal text r error n answer parses small e =
    let same = sym answer ∙ parse-decimal 64 n text r small small e parses in cc same

pub not_decimal : (n : ℕ) (text : List ℕ) → n < 2 ^ 64 → (get_or text 0 0 ≡ 43) ⊎ ((get_or text 0 0 ≡ 48) × (1 < length text))
    → text ≡ decimal n → ⊥
not_decimal n text small (inl plus) e = let first = decimal-first n text small e in omega arith
not_decimal n text small (inr longer) e =
    let one : length text ≡ 1 = (decimal-first n text small e).1 longer.0 in
    omega arith

-- Where the text is of no number in the range, none is what is to be answered.
pub none-exact : (limit : ℕ) (text : List ℕ) → ((n : ℕ) → n < limit → text ≡ decimal n → ⊥)
    → (n : ℕ) → (◌≡◌ {A = Option ℕ} None (Some n)) ↔ ((n < limit) × (text ≡ decimal n))
none-exact limit text none n = (λ e. cc, λ p. absurd (none n p.0 p.1))

pub some-exact : (limit : ℕ) (text : List ℕ) (number : ℕ) → number < limit → ((n : ℕ) → n < limit → (number ≡ n) ↔ (text ≡ decimal n))
    → (n : ℕ) → (◌≡◌ {A = Option ℕ} (Some number) (Some n)) ↔ ((n < limit) × (text ≡ decimal n))
some-exact limit text number within exact n = (
  λ e.
      let same : number ≡ n = cc in
      let small : n < limit = omega arith in
      (small, (exact n small).0 same),
  λ p. let same : number ≡ n = (exact n p.0).1 p.1 in cc,
)

pub Spells-is-decimal : (n : ℕ) (text : List ℕ) → n < 2 ^ 64 → Spells 10 text n → text ≡ decimal n
Spells-is-decimal n text small spelled = Spells-text 10 n text (decimal n) (omega arith) spelled (Spells-decimal n small)
