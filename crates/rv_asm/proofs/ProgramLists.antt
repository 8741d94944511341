-- The labels and the bytes of the lines of a text, one line after another.
use denote.Ref.{Bor}
use Rattle.asm_text.proofs.TextLists.{bytes_left}
use Rattle.std.proofs.Common.{◌≡◌, ◌≢◌, MatchOption, ◌<◌, ◌≤◌, ℕ, ◌+◌, List, [], ◌∷◌, ◌++◌, Option, Some, None, Result, Ok, Err, refl, sym, ap, ◌∙◌, append_assoc, suc, length, subst, arith, IsOk}
use Rattle.std.specs.List.{flat_map, AllByRecursion}
use Rattle.std.proofs.lemmas.List.{append-nil}
use Rattle.rv_asm.specs.declared.AsmCause.{AsmCause}
use Rattle.rv_asm.specs.declared.AsmError.{AsmError}
use Rattle.rv_asm.specs.declared.AsmError.TheVariants as errors
use Rattle.rv_asm.specs.declared.refusal.LineError.{LineError}
use Rattle.rv_asm.specs.declared.refusal.LineError.TheVariants.{Refused, Memory}
use Rattle.rv_asm.specs.declared.labels.Definition.{Definition}
use Rattle.rv_asm.specs.Answers.{error_at}
use Rattle.rv_asm.specs.Words.{HasAppended, HasPlaced}
use Rattle.rv_asm.specs.Line.{read, line_end, line_bytes}
use Rattle.asm_text.specs.Text.{lines}
use Rattle.rv_asm.specs.File.{file_of}
use Rattle.rv_asm.specs.Program.{places_in, outcomes_in, outcomes, gathered, in_front, program_of, filed, assembled, bytes_or_none, IsFirstRefused, IsFileOf, Tells, Follows}

pub in_front-none : (r : Result (List ℕ) AsmError) → r ≡ in_front [] r
in_front-none (Ok bytes) = refl
in_front-none (Err error) = refl

in_front-twice : (front bytes : List ℕ) (r : Result (List ℕ) AsmError)
    → in_front front (in_front bytes r) ≡ in_front (front ++ bytes) r
in_front-twice front bytes (Ok more) = ap Ok (simp append_assoc)
in_front-twice front bytes (Err error) = refl

pub gathered-line : (find : List ℕ → Option Definition) (number at : ℕ) (line : List ℕ) (lines : List (List ℕ)) (front new bytes : List ℕ)
    → line_bytes find number at (read line) ≡ Ok bytes → new ≡ front ++ bytes
    → in_front front (gathered number (outcomes_in find number at (line ∷ lines)))
    ≡ in_front new (gathered (number + 1) (outcomes_in find (number + 1) (line_end at (read line)) lines))
unfolding places_in gathered
gathered-line find number at line lines front new bytes taken appended =
    let rest = outcomes_in find (number + 1) (line_end at (read line)) lines in
    ap (λ o. in_front front (gathered number (o ∷ rest))) taken
    ∙ (in_front-twice front bytes (gathered (number + 1) rest) ∙ ap (λ b. in_front b (gathered (number + 1) rest)) (sym appended))

pub gathered-refused : (find : List ℕ → Option Definition) (number at : ℕ) (line : List ℕ) (lines : List (List ℕ)) (front : List ℕ) (cause : AsmCause)
    → line_bytes find number at (read line) ≡ Err cause
    → in_front front (gathered number (outcomes_in find number at (line ∷ lines))) ≡ Err (errors.Line number cause)
unfolding places_in gathered
gathered-refused find number at line lines front cause refused =
    ap (λ o. in_front front (gathered number (o ∷ outcomes_in find (number + 1) (line_end at (read line)) lines))) refused

pub gathered-end : (find : List ℕ → Option Definition) (number at : ℕ) (front : List ℕ)
    → in_front front (gathered number (outcomes_in find number at [])) ≡ Ok front
unfolding places_in gathered
gathered-end find number at front = ap Ok (append-nil front)

-- What is gathered says of the lines from the one with that number on.
abbrev pub GathersFrom : ℕ → List (Result (List ℕ) AsmCause) → Result (List ℕ) AsmError → Type 0
GathersFrom number results (Ok bytes) = AllByRecursion IsOk results × (bytes ≡ flat_map bytes_or_none results)
GathersFrom number results (Err (errors.Line refused cause)) = IsFirstRefused number results refused cause
GathersFrom number results (Err errors.Memory) = Unit {0}

gathers-later : (number : ℕ) (bytes : List ℕ) (results : List (Result (List ℕ) AsmCause)) (r : Result (List ℕ) AsmError)
    → GathersFrom (number + 1) results r → GathersFrom number (Ok bytes ∷ results) (in_front bytes r)
gathers-later number bytes results (Ok more) h = ((refl, h.0), ap (λ b. bytes ++ b) h.1)
gathers-later number bytes results (Err (errors.Line refused cause)) h =
    let count : number + suc (length h.before) ≡ refused = omega (arith, h.count) in record {
      before = Ok bytes ∷ h.before;
      behind = h.behind;
      place = ap (λ os. Ok bytes ∷ os) h.place;
      count = count;
      accepted = (refl, h.accepted);
    }
gathers-later number bytes results (Err errors.Memory) h = tt

pub gathered-gathers : (number : ℕ) (results : List (Result (List ℕ) AsmCause)) → GathersFrom number results (gathered number results)
unfolding gathered
gathered-gathers number [] = (tt, refl)
gathered-gathers number (Ok bytes ∷ results) =
    gathers-later number bytes results (gathered (number + 1) results) (gathered-gathers (number + 1) results)
gathered-gathers number (Err cause ∷ results) =
    let count : number + 0 ≡ number = omega arith in record {
      before = [];
      behind = results;
      place = refl;
      count = count;
      accepted = tt;
    }

pub follows-file : (text bytes : List ℕ) → program_of text ≡ Ok bytes → IsFileOf (outcomes text) (file_of bytes)
unfolding program_of
follows-file text bytes done =
    let h : GathersFrom 1 (outcomes text) (Ok bytes) = subst (GathersFrom 1 (outcomes text)) done (gathered-gathers 1 (outcomes text)) in
    record { accepted = h.0; bytes = ap file_of h.1 }

pub follows-refusal : (text : List ℕ) (number : ℕ) (cause : AsmCause) → program_of text ≡ Err (errors.Line number cause)
    → IsFirstRefused 1 (outcomes text) number cause
unfolding program_of
follows-refusal text number cause done = subst (GathersFrom 1 (outcomes text)) done (gathered-gathers 1 (outcomes text))

pub assembled-filed : (text : List ℕ) (r : Result (List ℕ) AsmError) → program_of text ≡ r → assembled text ≡ filed r
unfolding assembled
assembled-filed text r done = ap filed done

-- What is answered in place of bytes.
pub HasPlaced-error : (wanted : Result (List ℕ) AsmCause) (next : ℕ) (old new : List ℕ) (error : LineError)
    → HasAppended wanted old new (Err error) → HasPlaced wanted next old new (Err error)
HasPlaced-error wanted next old new (Refused cause) h = h
HasPlaced-error wanted next old new Memory h = tt

pub gathered-error : (find : List ℕ → Option Definition) (number at : ℕ) (line : List ℕ) (lines : List (List ℕ)) (front new : List ℕ)
    (next : ℕ) (error : LineError) (e : AsmError) → e ≡ error_at number error
    → HasPlaced (line_bytes find number at (read line)) next front new (Err error) → (e ≢ errors.Memory)
    → in_front front (gathered number (outcomes_in find number at (line ∷ lines))) ≡ Err e
gathered-error find number at line lines front new next (Refused cause) e is placed told =
    gathered-refused find number at line lines front cause placed ∙ ap Err (sym is)
gathered-error find number at line lines front new next Memory e is placed told = absurd (told is)

-- Behind a line there are fewer bytes.
pub counted-more : (number all here : ℕ) (more : Option (Bor (List ℕ))) (P : Type 0) → number + suc here ≤ all + 2
    → MatchOption more P (λ rest. length rest.now < here) → number + 1 + bytes_left more ≤ all + 2
counted-more number all here None P counted shorter = omega arith
counted-more number all here (Some rest) P counted shorter = omega (arith, shorter)

-- A refused text.
pub Tells-error : (text : List ℕ) (error : AsmError) → ((error ≢ errors.Memory) → program_of text ≡ Err error)
    → Tells (Err error) (assembled text)
Tells-error text (errors.Line number cause) refused = assembled-filed text (Err (errors.Line number cause)) (refused (λ e. cc))
Tells-error text errors.Memory refused = tt

pub Follows-error : (text : List ℕ) (error : AsmError) → ((error ≢ errors.Memory) → program_of text ≡ Err error)
    → Follows (outcomes text) (Err error)
Follows-error text (errors.Line number cause) refused = follows-refusal text number cause (refused (λ e. cc))
Follows-error text errors.Memory refused = tt
