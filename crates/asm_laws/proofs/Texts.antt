-- The bytes of a whole text end at the limit at most.
use Rattle.std.proofs.Common.{◌≡◌, ℕ, ◌+◌, ◌≤◌, Bool, true, false, cond, List, [], ◌∷◌, ◌++◌, length, map, Option, Some, None, Result, Ok, Err, refl, sym, ap, ◌∙◌, arith}
use Rattle.std.proofs.lemmas.List.{length-append}
use Rattle.std.specs.Str.{bytes_eq}
use Rattle.asm_text.specs.Text.{lines}
use Rattle.rv_asm.specs.declared.AsmCause.{AsmCause}
use Rattle.rv_asm.specs.declared.AsmCause.TheVariants as causes
use Rattle.rv_asm.specs.declared.AsmError.{AsmError}
use Rattle.rv_asm.specs.declared.labels.Definition.{Definition}
use Rattle.rv_asm.specs.declared.line.Line.{Line}
use Rattle.rv_asm.specs.declared.statement.Statement.{Statement}
use Rattle.rv_asm.specs.Encoding.{base, limit}
use Rattle.rv_asm.specs.Labels.{otherwise, own_definition}
use Rattle.rv_asm.specs.Line.{read, line_end, line_bytes, is_twice}
use Rattle.rv_asm.specs.Program.{definition_in, places_in, outcome, gathered, in_front, definition_of, program_of, filed, assembled}
use Rattle.rv_asm.specs.File.{file_of}
use Rattle.rv_asm.proofs.Sizes.{line_end-bytes, line_end-within}

joined-within : (next : ℕ) (front bytes : List ℕ) (at : ℕ) (r : Result (List ℕ) AsmError) → next ≡ at + length front
    → ((more : List ℕ) → r ≡ Ok more → next + length more ≤ limit) → in_front front r ≡ Ok bytes → at + length bytes ≤ limit
joined-within next front bytes at (Ok more) is rest e =
    let same : Ok (front ++ more) ≡ Ok bytes = e in
    let whole : front ++ more ≡ bytes = cc in
    let size : length front + length more ≡ length bytes = sym (length-append front more) ∙ ap length whole in
    let behind = rest more refl in
    omega (arith, size, behind, is)
joined-within next front bytes at (Err error) is rest e = cc

step-within : (find : List ℕ → Option Definition) (first number at : ℕ) (line : Line) (rest : List (Result (List ℕ) AsmCause)) (bytes : List ℕ)
    (o : Result (List ℕ) AsmCause) → at ≤ limit → line_bytes find number at line ≡ o
    → ((more : List ℕ) → line_end at line ≤ limit → gathered (first + 1) rest ≡ Ok more → line_end at line + length more ≤ limit)
    → gathered first (o ∷ rest) ≡ Ok bytes → at + length bytes ≤ limit
unfolding gathered
step-within find first number at line rest bytes (Ok front) here is more e =
    let end = line_end-within find number at line front here is in
    joined-within (line_end at line) front bytes at (gathered (first + 1) rest) (line_end-bytes find number at line front is)
    (λ behind same. more behind end same) e
step-within find first number at line rest bytes (Err cause) here is more e = cc

gathered-within : (find : List ℕ → Option Definition) (texts : List (List ℕ)) (first number at : ℕ) (bytes : List ℕ) → at ≤ limit
    → gathered first (map (outcome find) (places_in number at texts)) ≡ Ok bytes → at + length bytes ≤ limit
unfolding gathered places_in
gathered-within find [] first number at bytes here e =
    let none : Ok [] ≡ Ok bytes = e in
    let same : [] ≡ bytes = cc in
    let size : 0 ≡ length bytes = ap length same in
    omega (arith, size)
gathered-within find (text ∷ texts) first number at bytes here e =
    step-within find first number at (read text) (map (outcome find) (places_in (number + 1) (line_end at (read text)) texts)) bytes
    (line_bytes find number at (read text)) here refl
    (λ more end same. gathered-within find texts (first + 1) (number + 1) (line_end at (read text)) more end same) e

-- The bytes of an accepted text end at the limit at most.
pub program_of-within : (text bytes : List ℕ) → program_of text ≡ Ok bytes → base + length bytes ≤ limit
unfolding program_of
program_of-within text bytes e = gathered-within (definition_of text) (lines text) 1 1 base bytes (omega arith) e

filed-parts : (r : Result (List ℕ) AsmError) (file : List ℕ) → filed r ≡ Ok file → (bytes : List ℕ) × (r ≡ Ok bytes) × (file ≡ file_of bytes)
filed-parts (Ok bytes) file e = (bytes, refl, let same : Ok (file_of bytes) ≡ Ok file = e in cc)
filed-parts (Err error) file e = cc

-- The file of an accepted text is that of its bytes.
pub assembled-parts : (text file : List ℕ) → assembled text ≡ Ok file → (bytes : List ℕ) × (program_of text ≡ Ok bytes) × (file ≡ file_of bytes)
unfolding assembled
assembled-parts text file e = filed-parts (program_of text) file e
