-- Percent-encoding by the set of all ASCII bytes that aren't plain is the escape of a name.
use Rattle.std.proofs.Common.{◌≡◌, ℕ, ◌<◌, ◌/◌, ◌%◌, Bool, true, false, not, cond, List, [], ◌∷◌, ◌++◌, ap, ap₂, refl, ◌∙◌, arith}
use Rattle.std.specs.List.{AllByRecursion}
use Rattle.std.specs.Fmt.{digit_glyph}
use Rattle.percent_encoding.specs.declared.ascii_set.AsciiSet.{AsciiSet}
use Rattle.percent_encoding.specs.AsciiSet.{should_percent_encode}
use Rattle.percent_encoding.specs.Percent.{percent_encode, percent_encode_byte, encode_byte}
use Rattle.bas_names.specs.Escape.{is_plain, escaped_byte, escaped}

cond-not : {A : Type 0} (b : Bool) (x y : A) → cond (not b) x y ≡ cond b y x
cond-not true x y = refl
cond-not false x y = refl

module _ (set : AsciiSet) (agree : (b : ℕ) → b < 256 → should_percent_encode set b ≡ not (is_plain b)) where
  encode_byte-is : (b : ℕ) → b < 256 → encode_byte set b ≡ escaped_byte b
  unfolding percent_encode_byte
  encode_byte-is b small =
      let high : b / 16 % 16 ≡ b / 16 = omega arith in
      rw (agree b small)
      (cond-not (is_plain b) (percent_encode_byte b) (b ∷ [])
      ∙ ap (λ digit. cond (is_plain b) (b ∷ []) (37 ∷ digit_glyph true digit ∷ digit_glyph true (b % 16) ∷ [])) high)

  pub encoded-is : (bs : List ℕ) → AllByRecursion (λ b. b < 256) bs → percent_encode set bs ≡ escaped bs
  unfolding percent_encode escaped
  encoded-is [] small = refl
  encoded-is (b ∷ bs) small = ap₂ (λ front back. front ++ back) (encode_byte-is b small.0) (encoded-is bs small.1)
