-- The number of digits that stops at a largest one.
use Rattle.std.proofs.Common.{◌≡◌, ℕ, ◌+◌, ◌*◌, ◌<◌, ◌≤◌, ◌==◌, min, Bool, true, false, not, ◌||◌, ◌&&◌, cond, if◌then◌else◌, List, [], ◌∷◌, length, drop, Option, Some, None, option_map, refl, sym, ap, ◌∙◌, inl, inr, arith, ◌⊎◌}
use Rattle.std.proofs.Math.Nat.{le-mul_of_pos_right}
use Rattle.std.proofs.lemmas.Bool.{cases_lt}
use Rattle.std.proofs.lemmas.List.{drop_all}
use Rattle.std.specs.List.{list_all}
use Rattle.std.specs.Char.{is_digit, digit_value}
use Rattle.std.specs.Str.Parse.{digits_value_after}
use Rattle.asm_text.specs.Numbers.{largest, magnitude}

-- The digits behind those of n, one by one.
abbrev pub counted : ℕ → ℕ → List ℕ → Option ℕ
counted base n [] = Some n
counted base n (c ∷ cs) = if is_digit c base then counted base (min largest (n * base + digit_value c)) cs else None

le-digits_value_after : (base n : ℕ) (cs : List ℕ) → 0 < base → n ≤ digits_value_after base n cs
le-digits_value_after base n [] positive = omega arith
le-digits_value_after base n (c ∷ cs) positive =
    let rest = le-digits_value_after base (n * base + digit_value c) cs positive in
    let times = le-mul_of_pos_right n positive in
    omega (arith, rest, times)

min-digits_by : (base n : ℕ) (cs : List ℕ) → 0 < base → (n < largest) ⊎ (largest ≤ n)
    → min largest (digits_value_after base (min largest n) cs) ≡ min largest (digits_value_after base n cs)
min-digits_by base n cs positive (inl below) =
    let e : min largest n ≡ n = omega (arith, below) in ap (λ m. min largest (digits_value_after base m cs)) e
min-digits_by base n cs positive (inr beyond) =
    let e : min largest n ≡ largest = omega (arith, beyond) in
    let from = le-digits_value_after base n cs positive in
    let least = le-digits_value_after base largest cs positive in
    let high : min largest (digits_value_after base n cs) ≡ largest = omega (arith, from, beyond) in
    let same : min largest (digits_value_after base largest cs) ≡ largest = omega (arith, least) in
    ap (λ m. min largest (digits_value_after base m cs)) e ∙ (same ∙ sym high)

min-digits : (base n : ℕ) (cs : List ℕ) → 0 < base
    → min largest (digits_value_after base (min largest n) cs) ≡ min largest (digits_value_after base n cs)
min-digits base n cs positive = min-digits_by base n cs positive (cases_lt n largest)

-- What is counted, by whether all are digits.
abbrev digits_or_none : ℕ → ℕ → List ℕ → Bool → Option ℕ
digits_or_none base n cs all = if all then Some (min largest (digits_value_after base n cs)) else None

digits_or_none-more : (base n : ℕ) (c : ℕ) (cs : List ℕ) (all : Bool) → 0 < base
    → digits_or_none base (min largest (n * base + digit_value c)) cs all ≡ digits_or_none base n (c ∷ cs) all
digits_or_none-more base n c cs true positive = ap Some (min-digits base (n * base + digit_value c) cs positive)
digits_or_none-more base n c cs false positive = refl

counted-more : (base n : ℕ) (c : ℕ) (cs : List ℕ) (b : Bool) → is_digit c base ≡ b
    → ((m : ℕ) → m ≤ largest → counted base m cs ≡ digits_or_none base m cs (list_all (λ d. is_digit d base) cs)) → 0 < base
    → cond b (counted base (min largest (n * base + digit_value c)) cs) None
    ≡ digits_or_none base n (c ∷ cs) (b && list_all (λ d. is_digit d base) cs)
counted-more base n c cs true digit rest positive =
    rest (min largest (n * base + digit_value c)) (omega arith)
    ∙ digits_or_none-more base n c cs (list_all (λ d. is_digit d base) cs) positive
counted-more base n c cs false digit rest positive = refl

counted-digits : (base n : ℕ) (cs : List ℕ) → 0 < base → n ≤ largest
    → counted base n cs ≡ digits_or_none base n cs (list_all (λ d. is_digit d base) cs)
counted-digits base n [] positive below = let e : n ≡ min largest n = omega (arith, below) in ap Some e
counted-digits base n (c ∷ cs) positive below =
    counted-more base n c cs (is_digit c base) refl (λ m at. counted-digits base m cs positive at) positive

magnitude-counted : (base : ℕ) (digits : List ℕ) (empty all : Bool) → empty ≡ false
    → digits_or_none base 0 digits all ≡ option_map (min largest) (if empty || not all then None else Some (digits_value_after base 0 digits))
magnitude-counted base digits true all some = absurd (cc)
magnitude-counted base digits false true some = refl
magnitude-counted base digits false false some = refl

-- The number where the digits end.
pub counted-magnitude : (base n i : ℕ) (digits : List ℕ) → (length digits == 0) ≡ false → 0 < base → length digits ≤ i
    → counted base 0 digits ≡ counted base n (drop i digits) → Some n ≡ option_map (min largest) (magnitude base digits)
counted-magnitude base n i digits some positive end so_far =
    sym (so_far ∙ ap (counted base n) (drop_all i digits end))
    ∙ (counted-digits base 0 digits positive (omega arith)
    ∙ magnitude-counted base digits (length digits == 0) (list_all (λ d. is_digit d base) digits) some)
