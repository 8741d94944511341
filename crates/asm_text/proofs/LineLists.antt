-- The first line of a text.
use Rattle.std.proofs.Common.{◌≡◌, ◌<◌, ◌+◌, ◌==◌, Bool, ℕ, List, [], ◌∷◌, length, take, drop, sym, ap, ◌∙◌, subst}
use Rattle.std.specs.List.{position_or_len}
use Rattle.std.proofs.lemmas.List.Splits.{slice_split_first, slice_split_none}
use Rattle.std.proofs.lemmas.List.Sums.{fails_before_first}
use Rattle.asm_text.specs.Text.{lines}

pub lines-first : (text : List ℕ) (n : ℕ) → n ≡ position_or_len (λ c. c == 10) text → n < length text
    → lines text ≡ take n text ∷ lines (drop (n + 1) text)
lines-first text n at below =
    let p : ℕ → Bool = λ c. c == 10 in
    slice_split_first p text 0 (subst (λ k. k < length text) at below)
    ∙ ap (λ k. take k text ∷ lines (drop (k + 1) text)) (sym at)

pub lines-whole : (text : List ℕ) → length text ≡ position_or_len (λ c. c == 10) text → lines text ≡ text ∷ []
lines-whole text end =
    let p : ℕ → Bool = λ c. c == 10 in
    slice_split_none p text (λ k d below. fails_before_first p text k d (subst (λ n. k < n) end below))
