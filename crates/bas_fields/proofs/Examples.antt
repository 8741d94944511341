-- Worked examples of spellings.
use Rattle.std.proofs.Common.{◌≡◌, ℕ, ◌<◌, List, [], ◌∷◌, ap, arith, codes, get_or, length, lit<, refl, sym}
use Rattle.bas_fields.specs.Numbers.{Spells}
use Rattle.bas_fields.proofs.Spellings.{Spells-text}

nought : Spells 10 (codes "0") 0
nought = record { places = 0 ∷ []; below = (omega arith, tt); value = refl; shortest = tt; written = refl }

ten : Spells 10 (codes "10") 10
ten = record { places = 1 ∷ 0 ∷ []; below = (omega arith, (omega arith, tt)); value = refl; shortest = omega arith; written = refl }

two_hexadecimal_digits : Spells 16 (codes "fa") 250
two_hexadecimal_digits = record { places = 15 ∷ 10 ∷ []; below = (omega arith, (omega arith, tt)); value = refl; shortest = omega arith; written = refl }

distinct : (m n : ℕ) → m ≡ n → m < n → ⊥
distinct m n same below = omega arith

no_leading_zero : ¬ Spells 10 (codes "010") 10
no_leading_zero s =
    let same : codes "010" ≡ codes "10" = Spells-text 10 10 (codes "010") (codes "10") (omega arith) s ten in
    distinct 2 3 (sym (ap length same)) (lit< tt)

no_capital_letter : ¬ Spells 16 (codes "FA") 250
no_capital_letter s =
    let same : codes "FA" ≡ codes "fa" = Spells-text 16 250 (codes "FA") (codes "fa") (omega arith) s two_hexadecimal_digits in
    distinct 70 102 (ap (λ (text : List ℕ). get_or text 0 0) same) (lit< tt)
