-- An address past 64 bits is behind the limit, so that no answer depends on how it is held: the line that ends there
-- is refused, and the lines before it are refused for the same causes or not at all.
use Rattle.std.proofs.Common.{◌≡◌, ℕ, ◌+◌, ◌-◌, ◌^◌, ◌≤◌, ◌<◌, ◌⊎◌, inl, inr, Bool, true, false, cond, ltb, not, ◌&&◌, List, [], ◌∷◌, Option, Some, None, Result, Ok, Err, refl, sym, ap, ap₂, ◌∙◌, arith, ℤ, pos, ◌-ℤ◌}
use Rattle.std.specs.Int.{w64}
use Rattle.std.specs.Int.RustNames.{FitsSigned}
use Rattle.std.specs.List.{list_all}
use Rattle.std.specs.Option.{option_map, option_map_or, is_none}
use Rattle.std.specs.Str.{bytes_eq}
use Rattle.std.proofs.Math.Path.{fun_ext}
use Rattle.std.proofs.lemmas.Bool.{cases_lt}
use Rattle.std.proofs.lemmas.Int.{ints}
use Rattle.asm_text.specs.Text.{lines}
use Rattle.rv_core.specs.declared.instr.Op.{Op}
use Rattle.rv_core.specs.declared.instr.Op.TheVariants as op
use Rattle.rv_core.specs.declared.listing.Layout.TheVariants.{U}
use Rattle.rv_core.specs.Encoding.{is_signed_by, is_immediate, encoded}
use Rattle.rv_asm.specs.declared.AsmCause.{AsmCause}
use Rattle.rv_asm.specs.declared.AsmCause.TheVariants as causes
use Rattle.rv_asm.specs.declared.AsmError.{AsmError}
use Rattle.rv_asm.specs.declared.AsmError.TheVariants as errors
use Rattle.rv_asm.specs.declared.labels.Definition.{Definition}
use Rattle.rv_asm.specs.declared.line.Line.{Line}
use Rattle.rv_asm.specs.declared.statement.Statement.{Statement}
use Rattle.rv_asm.specs.declared.statement.Statement.TheVariants.{Plain, Upper, Branch, Jump, LoadNumber, LoadAddress, Bytes, Numbers, Zeros, Align}
use Rattle.rv_asm.specs.Answers.{farthest, nearest_address, nearest_definition}
use Rattle.rv_asm.specs.Encoding.{base, limit, distance, instr, low_part, high_part, address_instructions, instructions_of, is_undefined, fits_word, fits_values, is_big, statement_bytes, bytes_of}
use Rattle.rv_asm.specs.Labels.{otherwise, own_definition}
use Rattle.rv_asm.specs.Line.{read, line_end, line_bytes, is_twice}
use Rattle.rv_asm.specs.Program.{definition_in, definition_of, places_in, outcomes_in, gathered, in_front, program_of}
use Rattle.rv_asm.proofs.LabelLists.{otherwise-none, otherwise-assoc}
use Rattle.rv_asm.proofs.Parts.{low-fits, high-ahead}
use Rattle.rv_asm.proofs.Places.{definition_of-within}
use Rattle.rv_asm.proofs.Ranges.{encoded-far}
use Rattle.rv_asm.proofs.Sizes.{line_end-within}

-- Definitions at the nearest addresses

pub nearest-line_end : (at : ℕ) (line : Line) → nearest_address (line_end (nearest_address at) line) ≡ nearest_address (line_end at line)
nearest-line_end at line = by (cases_lt at farthest)
  where
    by : (at < farthest) ⊎ (farthest ≤ at) → nearest_address (line_end (nearest_address at) line) ≡ nearest_address (line_end at line)
    by (inl near) = let same : nearest_address at ≡ at = omega arith in ap (λ a. nearest_address (line_end a line)) same
    by (inr far) = omega arith

nearest-otherwise : (o p : Option Definition)
    → option_map nearest_definition (otherwise o p) ≡ otherwise (option_map nearest_definition o) (option_map nearest_definition p)
nearest-otherwise None p = refl
nearest-otherwise (Some d) p = refl

nearest-if : (named : Bool) (number at : ℕ)
    → option_map nearest_definition (cond named (Some (let own : Definition = record { line = number; address = at } in own)) None)
    ≡ cond named (Some (let own : Definition = record { line = number; address = nearest_address at } in own)) None
nearest-if true number at = refl
nearest-if false number at = refl

nearest-own : (number at : ℕ) (label : Option (List ℕ)) (name : List ℕ)
    → option_map nearest_definition (own_definition number at label name) ≡ own_definition number (nearest_address at) label name
nearest-own number at (Some label) name = nearest-if (bytes_eq label name) number at
nearest-own number at None name = refl

-- A line adds its own definition of a label, unless there is an earlier one.
pub definition_in-line : (old new : Option Definition) (number at : ℕ) (line : List ℕ) (lines : List (List ℕ)) (name : List ℕ)
    → new ≡ otherwise old (own_definition number (nearest_address at) (read line).label name)
    → otherwise old (option_map nearest_definition (definition_in number at (line ∷ lines) name))
    ≡ otherwise new (option_map nearest_definition (definition_in (number + 1) (line_end at (read line)) lines name))
unfolding definition_in
definition_in-line old new number at line lines name added =
    let own = own_definition number at (read line).label name in
    let rest = definition_in (number + 1) (line_end at (read line)) lines name in
    ap (otherwise old) (nearest-otherwise own rest ∙ ap (λ o. otherwise o (option_map nearest_definition rest)) (nearest-own number at (read line).label name))
    ∙ (sym (otherwise-assoc old (own_definition number (nearest_address at) (read line).label name) (option_map nearest_definition rest))
    ∙ ap (λ o. otherwise o (option_map nearest_definition rest)) (sym added))

pub definition_in-end : (old : Option Definition) (number at : ℕ) (name : List ℕ)
    → otherwise old (option_map nearest_definition (definition_in number at [] name)) ≡ old
unfolding definition_in
definition_in-end old number at name = otherwise-none old

-- Distances ahead, which no jump and no branch holds

pub record IsAhead (z : ℤ) : Type 0 where
  pub size : ℕ
  pub far : 2 ^ 63 ≤ size
  pub is : z ≡ pos size

jump-ahead : (o : Op) (rd rs1 rs2 : ℕ) (z : ℤ) → IsAhead z → fits_word (instr o rd rs1 rs2 z) ≡ false
jump-ahead o rd rs1 rs2 z ahead =
    let unfit : ¬ FitsSigned w64 (pos ahead.size) = λ fits. omega (arith, ints, ahead.far, fits) in
    ap (λ y. fits_word (instr o rd rs1 rs2 y)) ahead.is ∙ rw (encoded-far (instr o rd rs1 rs2 (pos ahead.size)) unfit) refl

auipc-word : (rd : ℕ) (z : ℤ) (b : Bool) → ltb rd 32 ≡ b → is_immediate (U 0x17) z ≡ true → fits_word (instr op.Auipc rd 0 0 z) ≡ b
unfolding encoded
auipc-word rd z true e h = rw (e, h) refl
auipc-word rd z false e h = rw e refl

add-word : (rd : ℕ) (z : ℤ) (b : Bool) → ltb rd 32 ≡ b → is_signed_by (2 ^ 11) z ≡ true → fits_word (instr op.Addi rd rd 0 z) ≡ b
unfolding encoded
add-word rd z true e h = rw (e, h) refl
add-word rd z false e h = rw e refl

-- The instructions of `la` are held however far ahead the label is.
la-ahead : (rd : ℕ) (z : ℤ) → IsAhead z → list_all fits_word (address_instructions rd z) ≡ (ltb rd 32 && (ltb rd 32 && true))
la-ahead rd z ahead =
    ap (λ y. list_all fits_word (address_instructions rd y)) ahead.is
    ∙ ap₂ (λ a b. a && (b && true)) (auipc-word rd (high_part (pos ahead.size)) (ltb rd 32) refl (high-ahead 0x17 ahead.size))
    (add-word rd (low_part (pos ahead.size)) (ltb rd 32) refl (low-fits (pos ahead.size)))

-- Refusals

-- The cause for which something is refused.
abbrev cause_of : Result (List ℕ) AsmCause → Option AsmCause
cause_of (Ok bytes) = None
cause_of (Err cause) = Some cause

cause_in : (undefined fits big : Bool) (bytes more : List ℕ)
    → cause_of (cond undefined (Err causes.Label) (cond (not fits) (Err causes.Range) (cond big (Err causes.Big) (Ok bytes))))
    ≡ cause_of (cond undefined (Err causes.Label) (cond (not fits) (Err causes.Range) (cond big (Err causes.Big) (Ok more))))
cause_in true fits big bytes more = refl
cause_in false false big bytes more = refl
cause_in false true true bytes more = refl
cause_in false true false bytes more = refl

cause_of-twice : (first second : Bool) (r t : Result (List ℕ) AsmCause) → first ≡ second → cause_of r ≡ cause_of t
    → cause_of (cond first (Err causes.Twice) r) ≡ cause_of (cond second (Err causes.Twice) t)
cause_of-twice true true r t same alike = refl
cause_of-twice false false r t same alike = alike
cause_of-twice true false r t same alike = cc
cause_of-twice false true r t same alike = cc

-- The error of a text.
abbrev error_of : Result (List ℕ) AsmError → Option AsmError
error_of (Ok bytes) = None
error_of (Err error) = Some error

error_of-in_front : (front : List ℕ) (r : Result (List ℕ) AsmError) → error_of (in_front front r) ≡ error_of r
error_of-in_front front (Ok bytes) = refl
error_of-in_front front (Err error) = refl

step-error : (first : ℕ) (o p : Result (List ℕ) AsmCause) (os ps : List (Result (List ℕ) AsmCause)) → cause_of o ≡ cause_of p
    → ((bytes : List ℕ) → p ≡ Ok bytes → error_of (gathered (first + 1) os) ≡ error_of (gathered (first + 1) ps))
    → error_of (gathered first (o ∷ os)) ≡ error_of (gathered first (p ∷ ps))
unfolding gathered
step-error first (Ok bytes) (Ok more) os ps alike rest =
    error_of-in_front bytes (gathered (first + 1) os) ∙ (rest more refl ∙ sym (error_of-in_front more (gathered (first + 1) ps)))
step-error first (Err cause) (Err other) os ps alike rest =
    let same : cause ≡ other = cc in ap (λ c. Some (errors.Line first c)) same
step-error first (Ok bytes) (Err other) os ps alike rest = cc
step-error first (Err cause) (Ok more) os ps alike rest = cc

-- Two readings of the labels: as they are, and at the nearest addresses

module _ (find found : List ℕ → Option Definition) (held : (name : List ℕ) → found name ≡ option_map nearest_definition (find name)) where
  abbrev by_distance : Option Definition → ℕ → ℤ
  by_distance o at = option_map_or (λ d. pos d.address -ℤ pos at) o (pos 0)

  same_or_ahead : (o : Option Definition) (at : ℕ) → at ≤ limit
      → (by_distance (option_map nearest_definition o) at ≡ by_distance o at)
      ⊎ (IsAhead (by_distance (option_map nearest_definition o) at) × IsAhead (by_distance o at))
  same_or_ahead None at here = inl refl
  same_or_ahead (Some d) at here = by (cases_lt d.address farthest)
    where
      by : (d.address < farthest) ⊎ (farthest ≤ d.address)
          → (pos (nearest_address d.address) -ℤ pos at ≡ pos d.address -ℤ pos at)
          ⊎ (IsAhead (pos (nearest_address d.address) -ℤ pos at) × IsAhead (pos d.address -ℤ pos at))
      by (inl near) = let same : nearest_address d.address ≡ d.address = omega arith in inl (ap (λ a. pos a -ℤ pos at) same)
      by (inr far) =
          let first : pos (nearest_address d.address) -ℤ pos at ≡ pos (nearest_address d.address - at) = omega (arith, ints) in
          let second : pos d.address -ℤ pos at ≡ pos (d.address - at) = omega (arith, ints) in
          inr (record { size = nearest_address d.address - at; far = omega arith; is = first }, record { size = d.address - at; far = omega arith; is = second })

  -- A test of the distance of a label gives the same for both, if it does for all that are ahead.
  same_test : (test : ℤ → Bool) (b : Bool) → ((z : ℤ) → IsAhead z → test z ≡ b) → (at : ℕ) (label : List ℕ) → at ≤ limit
      → test (distance found at label) ≡ test (distance find at label)
  same_test test b far at label here = ap (λ o. test (by_distance o at)) (held label) ∙ by (same_or_ahead (find label) at here)
    where
      by : (by_distance (option_map nearest_definition (find label)) at ≡ by_distance (find label) at)
          ⊎ (IsAhead (by_distance (option_map nearest_definition (find label)) at) × IsAhead (by_distance (find label) at))
          → test (by_distance (option_map nearest_definition (find label)) at) ≡ test (by_distance (find label) at)
      by (inl same) = ap test same
      by (inr ahead) = far _ ahead.0 ∙ sym (far _ ahead.1)

  same_fits : (at : ℕ) (s : Statement) → at ≤ limit → fits_values found at s ≡ fits_values find at s
  unfolding instructions_of
  same_fits at (Plain o rd rs1 rs2 n) here = refl
  same_fits at (Upper o rd n) here = refl
  same_fits at (Branch o rs1 rs2 label) here =
      ap (λ b. true && (b && true)) (same_test (λ z. fits_word (instr o 0 rs1 rs2 z)) false (jump-ahead o 0 rs1 rs2) at label here)
  same_fits at (Jump rd label) here =
      ap (λ b. true && (b && true)) (same_test (λ z. fits_word (instr op.Jal rd 0 0 z)) false (jump-ahead op.Jal rd 0 0) at label here)
  same_fits at (LoadNumber rd n) here = refl
  same_fits at (LoadAddress rd label) here =
      ap (λ b. true && b) (same_test (λ z. list_all fits_word (address_instructions rd z)) _ (la-ahead rd) at label here)
  same_fits at (Bytes bytes) here = refl
  same_fits at (Numbers width ns) here = refl
  same_fits at (Zeros n) here = refl
  same_fits at (Align n) here = refl

  same_named : (label : List ℕ) → is_none (found label) ≡ is_none (find label)
  same_named label = ap is_none (held label) ∙ by (find label)
    where
      by : (o : Option Definition) → is_none (option_map nearest_definition o) ≡ is_none o
      by None = refl
      by (Some d) = refl

  same_undefined : (s : Statement) → is_undefined found s ≡ is_undefined find s
  same_undefined (Plain o rd rs1 rs2 n) = refl
  same_undefined (Upper o rd n) = refl
  same_undefined (Branch o rs1 rs2 label) = same_named label
  same_undefined (Jump rd label) = same_named label
  same_undefined (LoadNumber rd n) = refl
  same_undefined (LoadAddress rd label) = same_named label
  same_undefined (Bytes bytes) = refl
  same_undefined (Numbers width ns) = refl
  same_undefined (Zeros n) = refl
  same_undefined (Align n) = refl

  same_twice : (number : ℕ) (label : Option (List ℕ)) → is_twice found number label ≡ is_twice find number label
  same_twice number None = refl
  same_twice number (Some name) = ap (λ o. option_map_or (λ (d : Definition). ltb d.line number) o false) (held name) ∙ by (find name)
    where
      by : (o : Option Definition)
          → option_map_or (λ (d : Definition). ltb d.line number) (option_map nearest_definition o) false
          ≡ option_map_or (λ (d : Definition). ltb d.line number) o false
      by None = refl
      by (Some d) = refl

  cause_of-bytes_of : (at : ℕ) (s : Statement) → at ≤ limit → cause_of (bytes_of found at s) ≡ cause_of (bytes_of find at s)
  unfolding bytes_of
  cause_of-bytes_of at s here =
      ap₂ (λ u f. cause_of (cond u (Err causes.Label) (cond (not f) (Err causes.Range) (cond (is_big at s) (Err causes.Big) (Ok (statement_bytes found at s))))))
      (same_undefined s) (same_fits at s here)
      ∙ cause_in (is_undefined find s) (fits_values find at s) (is_big at s) (statement_bytes found at s) (statement_bytes find at s)

  said-cause : (number at : ℕ) (label : Option (List ℕ)) (said : Result (Option Statement) AsmCause) → at ≤ limit
      → cause_of (line_bytes found number at (record { label = label; statement = said }))
      ≡ cause_of (line_bytes find number at (record { label = label; statement = said }))
  unfolding line_bytes
  said-cause number at label (Ok (Some s)) here =
      cause_of-twice (is_twice found number label) (is_twice find number label) (bytes_of found at s) (bytes_of find at s)
      (same_twice number label) (cause_of-bytes_of at s here)
  said-cause number at label (Ok None) here =
      cause_of-twice (is_twice found number label) (is_twice find number label) (Ok []) (Ok []) (same_twice number label) refl
  said-cause number at label (Err cause) here = refl

  same_errors : (texts : List (List ℕ)) (first number at : ℕ) → at ≤ limit
      → error_of (gathered first (outcomes_in found number at texts)) ≡ error_of (gathered first (outcomes_in find number at texts))
  unfolding places_in gathered
  same_errors [] first number at here = refl
  same_errors (text ∷ texts) first number at here =
      step-error first (line_bytes found number at (read text)) (line_bytes find number at (read text))
      (outcomes_in found (number + 1) (line_end at (read text)) texts) (outcomes_in find (number + 1) (line_end at (read text)) texts)
      (said-cause number at (read text).label (read text).statement here)
      (λ bytes ok. same_errors texts (first + 1) (number + 1) (line_end at (read text)) (line_end-within find number at (read text) bytes here ok))

-- What comes of a text under its labels, at the nearest addresses.
pub program_of-labels : (text : List ℕ) (found : List ℕ → Option Definition)
    → ((name : List ℕ) → found name ≡ option_map nearest_definition (definition_of text name))
    → gathered 1 (outcomes_in found 1 base (lines text)) ≡ program_of text
unfolding program_of
program_of-labels text found held = by (program_of text) refl
  where
    same_definition : (bytes name : List ℕ) (o : Option Definition) → program_of text ≡ Ok bytes → definition_of text name ≡ o
        → option_map nearest_definition o ≡ o
    same_definition bytes name None ok is = refl
    same_definition bytes name (Some d) ok is =
        let near = definition_of-within text bytes name d ok is in
        let same : nearest_address d.address ≡ d.address = omega (arith, near) in
        λ i. Some (record { line = d.line; address = same i })

    refused : (r : Result (List ℕ) AsmError) (error : AsmError) → error_of r ≡ Some error → r ≡ Err error
    refused (Ok bytes) error e = cc
    refused (Err other) error e = cc

    by : (r : Result (List ℕ) AsmError) → program_of text ≡ r → gathered 1 (outcomes_in found 1 base (lines text)) ≡ r
    by (Ok bytes) ok =
        ap (λ f. gathered 1 (outcomes_in f 1 base (lines text)))
        (fun_ext (λ name. held name ∙ same_definition bytes name (definition_of text name) ok refl)) ∙ ok
    by (Err error) err =
        refused (gathered 1 (outcomes_in found 1 base (lines text))) error
        (same_errors (definition_of text) found held (lines text) 1 1 base (omega arith) ∙ ap error_of err)
