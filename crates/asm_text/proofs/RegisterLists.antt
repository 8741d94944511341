-- The first register from a number on that a text names.
use Rattle.std.proofs.Common.{◌≡◌, ℕ, ◌+◌, ◌-◌, ◌<◌, suc, Bool, true, false, List, Option, Some, None, refl, arith, ◌∙◌, ap, find}
use Rattle.std.specs.List.{range_with_len}
use Rattle.asm_text.specs.Registers.{names_register, register_of}

find_first : (p : ℕ → Bool) (a k : ℕ) → p a ≡ true → find p (range_with_len a (suc k)) ≡ Some a
find_first p a k h = rw h refl

find_later : (p : ℕ → Bool) (a k : ℕ) → p a ≡ false → find p (range_with_len a (suc k)) ≡ find p (range_with_len (a + 1) k)
find_later p a k h = rw h refl

unfoldable pub register_from : List ℕ → ℕ → Option ℕ
register_from text n = find (names_register text) (range_with_len n (32 - n))

pub register_of-from : (text : List ℕ) → register_of text ≡ register_from text 0
unfolding register_of register_from
register_of-from text = refl

pub register_from-named : (text : List ℕ) (n : ℕ) → n < 32 → names_register text n ≡ true → register_from text n ≡ Some n
unfolding register_from
register_from-named text n below named =
    let e : 32 - n ≡ suc (31 - n) = omega arith in
    ap (λ k. find (names_register text) (range_with_len n k)) e ∙ find_first (names_register text) n (31 - n) named

pub register_from-unnamed : (text : List ℕ) (n : ℕ) → n < 32 → names_register text n ≡ false → register_from text n ≡ register_from text (n + 1)
unfolding register_from
register_from-unnamed text n below unnamed =
    let e : 32 - n ≡ suc (31 - n) = omega arith in
    let f : 31 - n ≡ 32 - (n + 1) = omega arith in
    ap (λ k. find (names_register text) (range_with_len n k)) e ∙ (find_later (names_register text) n (31 - n) unnamed
    ∙ ap (λ k. find (names_register text) (range_with_len (n + 1) k)) f)

pub register_from-end : (text : List ℕ) → register_from text 32 ≡ None
unfolding register_from
register_from-end text = refl
