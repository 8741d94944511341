-- The words of two instructions, of which either may be refused.
use Rattle.std.proofs.Common.{◌≡◌, ℕ, true, false, [], ◌∷◌, Option, Some, None, Result, Ok, Err, refl, ap, ◌∙◌}
use Rattle.std.specs.Option.{ok_or}
use Rattle.std.specs.List.{list_all}
use Rattle.rv_core.specs.declared.instr.Instr.{Instr}
use Rattle.rv_core.specs.Encoding.{encoded}
use Rattle.rv_asm.specs.declared.AsmCause.{AsmCause}
use Rattle.rv_asm.specs.declared.AsmCause.TheVariants as causes
use Rattle.rv_asm.specs.declared.encoding.Words.{Words}
use Rattle.rv_asm.specs.declared.encoding.Words.TheVariants.{Two}
use Rattle.rv_asm.specs.Encoding.{fits_word, word_of}
use Rattle.rv_asm.specs.Words.{HasWords}

word-some : (i : Instr) (o : Option ℕ) (w : ℕ) → encoded i ≡ o → Ok w ≡ ok_or o causes.Range
    → (fits_word i ≡ true) × (w ≡ word_of i)
word-some i (Some v) w known e = let same : w ≡ v = cc in rw known (refl, same)
word-some i None w known e = cc

word-none : (i : Instr) (o : Option ℕ) (cause : AsmCause) → encoded i ≡ o → Err cause ≡ ok_or o causes.Range
    → (fits_word i ≡ false) × (cause ≡ causes.Range)
word-none i (Some v) cause known e = cc
word-none i None cause known e = let same : cause ≡ causes.Range = cc in rw known (refl, same)

-- Both words.
pub HasWords-two : (i j : Instr) (w v : ℕ) → Ok w ≡ ok_or (encoded i) causes.Range → Ok v ≡ ok_or (encoded j) causes.Range
    → HasWords (Ok (Two w v)) false (list_all fits_word (i ∷ j ∷ [])) (i ∷ j ∷ [])
HasWords-two i j w v first second =
    let a = word-some i (encoded i) w refl first in
    let b = word-some j (encoded j) v refl second in
    let all : list_all fits_word (i ∷ j ∷ []) ≡ true = rw (a.0, b.0) refl in
    (refl, all, ap (λ x. x ∷ v ∷ []) a.1 ∙ ap (λ x. word_of i ∷ x ∷ []) b.1)

pub HasWords-second : (i j : Instr) (r : Result Words AsmCause) (w : ℕ) (cause : AsmCause) → r ≡ Err cause
    → Ok w ≡ ok_or (encoded i) causes.Range → Err cause ≡ ok_or (encoded j) causes.Range
    → HasWords r false (list_all fits_word (i ∷ j ∷ [])) (i ∷ j ∷ [])
HasWords-second i j r w cause is first refused =
    let a = word-some i (encoded i) w refl first in
    let b = word-none j (encoded j) cause refl refused in rw (is, a.0, b.0, b.1) refl
