-- The texts that `{}` and `{:x}` write spell the number, and are its one spelling.
use Rattle.std.proofs.Common.{◌≡◌, ℕ, zero, suc, ◌/◌, ◌%◌, ◌^◌, ◌<◌, ◌≤◌, ◌==◌, inl, inr, Bool, true, false, cond, List, [], ◌∷◌, ◌++◌, get_or, map, refl, sym, subst, ◌∙◌, ap, arith, append_assoc, decimal, lit≤}
use Rattle.std.proofs.Math.Nat.{div-lt_iff_lt-mul, lt_of_lt_of_le, pow-suc, pow-zero, zero-div, zero-mod}
use Rattle.std.proofs.lemmas.Bool.{cases_lt, eq-eqb, ne_eqb}
use Rattle.std.proofs.lemmas.Int.Digits.{all_below_base_digits_of, digits_of_step, first_digits_of, number_digits_of}
use Rattle.std.proofs.lemmas.List.{append-nil, map-append}
use Rattle.std.proofs.lemmas.Str.{digit_value-digit_char}
use Rattle.std.specs.Char.{digit_char, digit_value}
use Rattle.std.specs.Fmt.{digits, digits_onto}
use Rattle.std.specs.Int.Digits.{AllBelowBase, digits_of, number_from_digits}
use Rattle.bas_fields.specs.Numbers.{HasNoLeadingZero, Spells, hexadecimal_text}
use Rattle.bas_fields.proofs.Places.{places-unique}

-- One step of writing digits: the last digit goes before those that are written.
digits_onto_by : (k base n : ℕ) (behind : List ℕ) (t : Bool) → (n / base == 0) ≡ t
    → digits_onto (suc k) base false n behind
    ≡ cond t (digit_char (n % base) ∷ behind) (digits_onto k base false (n / base) (digit_char (n % base) ∷ behind))
digits_onto_by k base n behind t e =
    ap (λ (b : Bool). cond b (digit_char (n % base) ∷ behind) (digits_onto k base false (n / base) (digit_char (n % base) ∷ behind))) e

digits_onto_last : (k base n : ℕ) (behind : List ℕ) → n / base ≡ 0
    → digits_onto (suc k) base false n behind ≡ digit_char (n % base) ∷ behind
digits_onto_last k base n behind e = digits_onto_by k base n behind true (eq-eqb (n / base) 0 e)

digits_onto_more : (k base n : ℕ) (behind : List ℕ) → 0 < n / base
    → digits_onto (suc k) base false n behind ≡ digits_onto k base false (n / base) (digit_char (n % base) ∷ behind)
digits_onto_more k base n behind positive = digits_onto_by k base n behind false (ne_eqb (n / base) 0 (λ e. absurd (omega arith)))

places_of_step : (base n : ℕ) (behind : List ℕ) → 2 ≤ base → 0 < n
    → map digit_char (digits_of base n) ++ behind ≡ map digit_char (digits_of base (n / base)) ++ (digit_char (n % base) ∷ behind)
places_of_step base n behind two positive =
    rw (digits_of_step base n two positive, map-append, append_assoc) refl

digits_onto-places : (k base n : ℕ) (behind : List ℕ) → 2 ≤ base → 0 < n → n < base ^ k
    → digits_onto k base false n behind ≡ map digit_char (digits_of base n) ++ behind
digits_onto-places zero base n behind two positive small = absurd (omega (arith, rw pow-zero at small))
digits_onto-places (suc k) base n behind two positive small =
    elim (cases_lt 0 (n / base)) [
      | inl more ↦
          let next : n / base < base ^ k = (div-lt_iff_lt-mul (omega arith)).1 (rw pow-suc at small) in
          digits_onto_more k base n behind more
          ∙ (digits_onto-places k base (n / base) (digit_char (n % base) ∷ behind) two more next
          ∙ sym (places_of_step base n behind two positive))
      | inr none ↦
          let zero_left : n / base ≡ 0 = omega arith in
          digits_onto_last k base n behind zero_left
          ∙ sym (places_of_step base n behind two positive ∙ rw zero_left refl)
    ]

HasNoLeadingZero-first : (places : List ℕ) → 0 < get_or places 0 0 → HasNoLeadingZero places
HasNoLeadingZero-first [] first = omega arith
HasNoLeadingZero-first (d ∷ []) first = tt
HasNoLeadingZero-first (d ∷ e ∷ ds) first = first

Spells-positive : (base n : ℕ) → 2 ≤ base → 0 < n → Spells base (map digit_char (digits_of base n)) n
Spells-positive base n two positive = record {
  places = digits_of base n;
  below = all_below_base_digits_of base n two;
  value = number_digits_of base n two;
  shortest = HasNoLeadingZero-first (digits_of base n) (first_digits_of base n two positive);
  written = refl;
}

Spells-zero : (base : ℕ) → 2 ≤ base → Spells base (48 ∷ []) 0
Spells-zero base two = record {
  places = 0 ∷ [];
  below = (omega arith, tt);
  value = omega arith;
  shortest = tt;
  written = refl;
}

digits_in_turn : (base n : ℕ) → digits_onto 64 base false n [] ≡ digits base false n
unfolding digits
digits_in_turn base n = refl

Spells-digits : (base n : ℕ) → 2 ≤ base → n < base ^ 64 → Spells base (digits base false n) n
Spells-digits base zero two small =
    subst (λ (text : List ℕ). Spells base text 0)
    (sym (digits_onto_last 63 base 0 [] (zero-div base) ∙ ap (λ (d : ℕ). digit_char d ∷ []) (zero-mod base)) ∙ digits_in_turn base 0) (Spells-zero base two)
Spells-digits base (suc m) two small =
    let positive : 0 < suc m = omega arith in
    subst (λ (text : List ℕ). Spells base text (suc m))
    (sym (digits_onto-places 64 base (suc m) [] two positive small ∙ append-nil _) ∙ digits_in_turn base (suc m))
    (Spells-positive base (suc m) two positive)

pub Spells-decimal : (n : ℕ) → n < 2 ^ 64 → Spells 10 (decimal n) n
Spells-decimal n small = Spells-digits 10 n (omega arith) (lt_of_lt_of_le small (lit≤ tt))

pub Spells-hexadecimal : (n : ℕ) → n < 2 ^ 64 → Spells 16 (hexadecimal_text n) n
Spells-hexadecimal n small = Spells-digits 16 n (omega arith) (lt_of_lt_of_le small (lit≤ tt))

pub Spells-text : (base n : ℕ) (text other : List ℕ) → 2 ≤ base → Spells base text n → Spells base other n → text ≡ other
Spells-text base n text other two s t =
    s.written
    ∙ (ap (map digit_char) (places-unique base s.places t.places two s.below t.below s.shortest t.shortest (s.value ∙ sym t.value))
    ∙ sym t.written)

map-digit_char-injective : (base : ℕ) (places others : List ℕ) → base ≤ 36 → AllBelowBase base places → AllBelowBase base others
    → map digit_char places ≡ map digit_char others → places ≡ others
map-digit_char-injective base [] [] small all all' same = refl
map-digit_char-injective base [] (e ∷ es) small all all' same = cc
map-digit_char-injective base (d ∷ ds) [] small all all' same = cc
map-digit_char-injective base (d ∷ ds) (e ∷ es) small all all' same =
    let glyphs : digit_char d ≡ digit_char e = cc in
    let rest : map digit_char ds ≡ map digit_char es = cc in
    let first : d ≡ e =
    sym (digit_value-digit_char d (omega arith)) ∙ (ap digit_value glyphs ∙ digit_value-digit_char e (omega arith)) in
    let others = map-digit_char-injective base ds es small all.1 all'.1 rest in
    cc

pub Spells-number : (base m n : ℕ) (text : List ℕ) → base ≤ 36 → Spells base text m → Spells base text n → m ≡ n
Spells-number base m n text small s t =
    let same : s.places ≡ t.places = map-digit_char-injective base s.places t.places small s.below t.below (sym s.written ∙ t.written) in
    sym s.value ∙ (ap (number_from_digits base) same ∙ t.value)
