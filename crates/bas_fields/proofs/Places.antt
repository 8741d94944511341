-- Digits without a leading zero are the digits of their number.
use Rattle.std.proofs.Common.{◌≡◌, ℕ, zero, suc, ◌+◌, ◌*◌, ◌<◌, ◌≤◌, ◌⊎◌, inl, inr, List, [], ◌∷◌, ◌++◌, length, get_or, take, refl, sym, ◌∙◌, ap, subst, arith, add-one}
use Rattle.std.proofs.Math.Seq.{take-length}
use Rattle.std.proofs.lemmas.Int.Digits.{digits_of_step, number_after_ge, number_more}
use Rattle.std.proofs.lemmas.List.{take_more}
use Rattle.std.proofs.lemmas.Nat.{div-mul-add, mod-mul-add}
use Rattle.std.specs.Int.Digits.{AllBelowBase, digits_of, number_from_digits}
use Rattle.bas_fields.specs.Numbers.{HasNoLeadingZero}

pub get_or-below : (base : ℕ) (places : List ℕ) (i : ℕ) → AllBelowBase base places → i < length places → get_or places i 0 < base
get_or-below base [] i all h = absurd (omega arith)
get_or-below base (d ∷ ds) zero all h = all.0
get_or-below base (d ∷ ds) (suc i) all h = get_or-below base ds i all.1 (omega arith)

-- the number of digits whose first isn't 0
pub number_from_digits-positive : (base : ℕ) (places : List ℕ) → 2 ≤ base → 0 < get_or places 0 0 → 0 < number_from_digits base places
number_from_digits-positive base [] two first = absurd (omega arith)
number_from_digits-positive base (d ∷ ds) two first = omega (arith, number_after_ge base (0 * base + d) ds (omega arith))

first_of_front : (places : List ℕ) (i : ℕ) → 0 < get_or places 0 0 → 0 < get_or (take (suc i) places) 0 0
first_of_front [] i first = first
first_of_front (d ∷ ds) i first = first

digits_of_more : (base n d : ℕ) → 2 ≤ base → d < base → 0 < n * base + d → digits_of base (n * base + d) ≡ digits_of base n ++ (d ∷ [])
digits_of_more base n d two small positive =
    digits_of_step base (n * base + d) two positive
    ∙ rw (div-mul-add n base d small, mod-mul-add n base d small) refl

digits_of-front-more : (base : ℕ) (places : List ℕ) (i : ℕ) → 2 ≤ base → AllBelowBase base places → 0 < get_or places 0 0
    → i < length places → digits_of base (number_from_digits base (take i places)) ≡ take i places
    → digits_of base (number_from_digits base (take (i + 1) places)) ≡ take (i + 1) places
digits_of-front-more base places i two all first within front =
    let more = number_more base places i within in
    let positive : 0 < number_from_digits base (take (i + 1) places) =
    rw (add-one i) (number_from_digits-positive base (take (suc i) places) two (first_of_front places i first)) in
    let next : 0 < number_from_digits base (take i places) * base + get_or places i 0 = subst (λ (m : ℕ). 0 < m) more positive in
    ap (digits_of base) more
    ∙ (digits_of_more base (number_from_digits base (take i places)) (get_or places i 0) two (get_or-below base places i all within) next
    ∙ (ap (λ ds. ds ++ (get_or places i 0 ∷ [])) front ∙ sym (take_more places i 0 within)))

digits_of-front : (base : ℕ) (places : List ℕ) (i : ℕ) → 2 ≤ base → AllBelowBase base places → 0 < get_or places 0 0
    → i ≤ length places → digits_of base (number_from_digits base (take i places)) ≡ take i places
digits_of-front base places zero two all first h = refl
digits_of-front base places (suc i) two all first h =
    rw (add-one i) at (digits_of-front-more base places i two all first (omega arith)
    (digits_of-front base places i two all first (omega arith)))

pub digits_of-number : (base : ℕ) (places : List ℕ) → 2 ≤ base → AllBelowBase base places → 0 < get_or places 0 0
    → digits_of base (number_from_digits base places) ≡ places
digits_of-number base places two all first =
    rw (take-length places) at (digits_of-front base places (length places) two all first (omega arith))

-- digits without a leading zero: the one digit 0, or the digits of a number that isn't 0
pub places_cases : (base : ℕ) (places : List ℕ) → 2 ≤ base → AllBelowBase base places → HasNoLeadingZero places
    → ((number_from_digits base places ≡ 0) × (places ≡ 0 ∷ []))
    ⊎ ((0 < number_from_digits base places) × (places ≡ digits_of base (number_from_digits base places)))
places_cases base [] two all shortest = absurd shortest
places_cases base (zero ∷ []) two all shortest = inl (omega arith, refl)
places_cases base (suc d ∷ []) two all shortest =
    let first : 0 < suc d = omega arith in
    inr (number_from_digits-positive base (suc d ∷ []) two first, sym (digits_of-number base (suc d ∷ []) two all first))
places_cases base (d ∷ e ∷ ds) two all shortest =
    inr (number_from_digits-positive base (d ∷ e ∷ ds) two shortest, sym (digits_of-number base (d ∷ e ∷ ds) two all shortest))

pub places-unique : (base : ℕ) (places others : List ℕ) → 2 ≤ base → AllBelowBase base places → AllBelowBase base others
    → HasNoLeadingZero places → HasNoLeadingZero others → number_from_digits base places ≡ number_from_digits base others
    → places ≡ others
places-unique base places others two all all' shortest shortest' same =
    elim (places_cases base places two all shortest) [
      | inl p ↦ elim (places_cases base others two all' shortest') [
        | inl q ↦ p.1 ∙ sym q.1
        | inr q ↦ absurd (omega arith)
      ]
      | inr p ↦ elim (places_cases base others two all' shortest') [
        | inl q ↦ absurd (omega arith)
        | inr q ↦ p.1 ∙ (ap (digits_of base) same ∙ sym q.1)
      ]
    ]
