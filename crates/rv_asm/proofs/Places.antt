-- The labels of an accepted text lie at the limit at most.
use Rattle.std.proofs.Common.{◌≡◌, ℕ, ◌+◌, ◌≤◌, Bool, true, false, cond, List, [], ◌∷◌, map, Option, Some, None, Result, Ok, Err, refl, ap, arith}
use Rattle.std.specs.Str.{bytes_eq}
use Rattle.asm_text.specs.Text.{lines}
use Rattle.rv_asm.specs.declared.AsmCause.{AsmCause}
use Rattle.rv_asm.specs.declared.AsmError.{AsmError}
use Rattle.rv_asm.specs.declared.labels.Definition.{Definition}
use Rattle.rv_asm.specs.declared.line.Line.{Line}
use Rattle.rv_asm.specs.Encoding.{base, limit}
use Rattle.rv_asm.specs.Labels.{otherwise, own_definition}
use Rattle.rv_asm.specs.Line.{read, line_end, line_bytes}
use Rattle.rv_asm.specs.Program.{definition_in, places_in, outcome, gathered, in_front, definition_of, program_of}
use Rattle.rv_asm.proofs.Sizes.{line_end-within}

otherwise-within : (own later : Option Definition) (d : Definition) → ((x : Definition) → own ≡ Some x → x.address ≤ limit)
    → ((x : Definition) → later ≡ Some x → x.address ≤ limit) → otherwise own later ≡ Some d → d.address ≤ limit
otherwise-within (Some a) later d first second e = first d e
otherwise-within None later d first second e = second d e

named-within : (named : Bool) (number at : ℕ) (d : Definition) → at ≤ limit
    → cond named (Some (let own : Definition = record { line = number; address = at } in own)) None ≡ Some d → d.address ≤ limit
named-within true number at d here e =
    let own : Definition = record { line = number; address = at } in
    let same : own ≡ d = cc in
    let place : at ≡ d.address = ap (λ (x : Definition). x.address) same in
    omega (arith, place, here)
named-within false number at d here e = cc

own-within : (number at : ℕ) (label : Option (List ℕ)) (name : List ℕ) (d : Definition) → at ≤ limit → own_definition number at label name ≡ Some d → d.address ≤ limit
own-within number at (Some label) name d here e = named-within (bytes_eq label name) number at d here e
own-within number at None name d here e = cc

accepted-before : (front : List ℕ) (r : Result (List ℕ) AsmError) (bytes : List ℕ) → in_front front r ≡ Ok bytes → (more : List ℕ) × (r ≡ Ok more)
accepted-before front (Ok more) bytes e = (more, refl)
accepted-before front (Err error) bytes e = cc

labels-step : (find : List ℕ → Option Definition) (first number at : ℕ) (line : Line) (rest : List (Result (List ℕ) AsmCause)) (bytes : List ℕ)
    (o : Result (List ℕ) AsmCause) (later : Option Definition) (d : Definition) (name : List ℕ) → at ≤ limit → line_bytes find number at line ≡ o
    → ((more : List ℕ) (x : Definition) → line_end at line ≤ limit → gathered (first + 1) rest ≡ Ok more → later ≡ Some x → x.address ≤ limit)
    → gathered first (o ∷ rest) ≡ Ok bytes → otherwise (own_definition number at line.label name) later ≡ Some d → d.address ≤ limit
unfolding gathered
labels-step find first number at line rest bytes (Ok front) later d name here is more e found =
    let end = line_end-within find number at line front here is in
    let behind = accepted-before front (gathered (first + 1) rest) bytes e in
    otherwise-within (own_definition number at line.label name) later d (λ x own. own-within number at line.label name x here own)
    (λ x own. more behind.0 x end behind.1 own) found
labels-step find first number at line rest bytes (Err cause) later d name here is more e found = cc

labels-within : (find : List ℕ → Option Definition) (texts : List (List ℕ)) (first number at : ℕ) (bytes name : List ℕ) (d : Definition) → at ≤ limit
    → gathered first (map (outcome find) (places_in number at texts)) ≡ Ok bytes → definition_in number at texts name ≡ Some d → d.address ≤ limit
unfolding gathered places_in definition_in
labels-within find [] first number at bytes name d here e found = cc
labels-within find (text ∷ texts) first number at bytes name d here e found =
    labels-step find first number at (read text) (map (outcome find) (places_in (number + 1) (line_end at (read text)) texts)) bytes
    (line_bytes find number at (read text)) (definition_in (number + 1) (line_end at (read text)) texts name) d name here refl
    (λ more x end same own. labels-within find texts (first + 1) (number + 1) (line_end at (read text)) more name x end same own) e found

-- The labels of an accepted text lie at the limit at most.
pub definition_of-within : (text bytes name : List ℕ) (d : Definition) → program_of text ≡ Ok bytes → definition_of text name ≡ Some d → d.address ≤ limit
unfolding program_of
definition_of-within text bytes name d e found = labels-within (definition_of text) (lines text) 1 1 base bytes name d (omega arith) e found
