-- The cause of a refused line is the first that fits it.
use Rattle.std.proofs.Common.{◌≡◌, ℕ, ◌+◌, Bool, true, false, not, ◌&&◌, ◌||◌, ◌==◌, cond, List, [], ◌∷◌, ◌++◌, length, map, Option, Some, None, is_none, Result, Ok, Err, refl, sym, ap, ◌∙◌, subst, append_assoc}
use Rattle.std.specs.Option.{ok_or, option_map_or}
use Rattle.std.specs.List.{AllByRecursion}
use Rattle.std.specs.Str.{is_utf8}
use Rattle.rv_asm.specs.declared.AsmCause.{AsmCause}
use Rattle.rv_asm.specs.declared.AsmCause.TheVariants as causes
use Rattle.rv_asm.specs.declared.AsmError.{AsmError}
use Rattle.rv_asm.specs.declared.AsmError.TheVariants as errors
use Rattle.rv_asm.specs.declared.labels.Definition.{Definition}
use Rattle.rv_asm.specs.declared.statement.Word.{Word}
use Rattle.rv_asm.specs.declared.statement.Statement.{Statement}
use Rattle.rv_asm.specs.Operands.{are_operands, are_spelled}
use Rattle.rv_asm.specs.Statement.{is_directive, word_named, syntax_of, statement_of}
use Rattle.rv_asm.specs.Encoding.{is_undefined, fits_values, is_big, statement_bytes, bytes_of}
use Rattle.rv_asm.specs.Line.{◌>>=◌, uncommented, has_fault, is_twice, bytes_in, statement_in, read, line_bytes, line_end}
use Rattle.rv_asm.specs.Program.{Place, places_in, outcome, outcomes_in, definition_of, gathered, in_front, program_of}
use Rattle.rv_asm.specs.Causes.{fits, causes_listed, label, word, operands, named, IsFirstFitting, FitsNone, HasCause}
use Rattle.rv_asm.proofs.StatementLists.{given_if}

-- The first of the causes that fits, or bytes.
abbrev first_of : (AsmCause → Bool) → List AsmCause → List ℕ → Result (List ℕ) AsmCause
first_of fitting [] bytes = Ok bytes
first_of fitting (cause ∷ rest) bytes = cond (fitting cause) (Err cause) (first_of fitting rest bytes)

all-push : (P : AsmCause → Type 0) (xs : List AsmCause) (x : AsmCause) → AllByRecursion P xs → P x → AllByRecursion P (xs ++ x ∷ [])
all-push P [] x h here = (here, tt)
all-push P (y ∷ ys) x h here = (h.0, all-push P ys x h.1 here)

first-fitting : (fitting : AsmCause → Bool) (before rest : List AsmCause) (bytes : List ℕ) (cause : AsmCause)
    → causes_listed ≡ before ++ rest → AllByRecursion (λ c. fitting c ≡ false) before → first_of fitting rest bytes ≡ Err cause
    → IsFirstFitting fitting cause
first-fitting fitting before [] bytes cause place first e = cc
first-fitting fitting before (c ∷ rest) bytes cause place first e =
    let regrouped : (before ++ c ∷ []) ++ rest ≡ before ++ (c ∷ rest) = simp append_assoc in
    by (fitting c) refl e
    (λ unfit found. first-fitting fitting (before ++ c ∷ []) rest bytes cause (place ∙ sym regrouped)
    (all-push (λ x. fitting x ≡ false) before c first unfit) found)
  where
    by : (b : Bool) → fitting c ≡ b → cond b (Err c) (first_of fitting rest bytes) ≡ Err cause
        → (fitting c ≡ false → first_of fitting rest bytes ≡ Err cause → IsFirstFitting fitting cause) → IsFirstFitting fitting cause
    by true fit found later =
        let same : c ≡ cause = cc in
        let P : AsmCause → Type 0 = λ x. IsFirstFitting fitting x in
        subst P same (record { before = before; behind = rest; place = place; fits = fit; first = first })
    by false unfit found later = later unfit found

none-fitting : (fitting : AsmCause → Bool) (rest : List AsmCause) (bytes taken : List ℕ) → first_of fitting rest bytes ≡ Ok taken
    → AllByRecursion (λ c. fitting c ≡ false) rest
none-fitting fitting [] bytes taken e = tt
none-fitting fitting (c ∷ rest) bytes taken e = by (fitting c) refl e (none-fitting fitting rest bytes taken)
  where
    by : (b : Bool) → fitting c ≡ b → cond b (Err c) (first_of fitting rest bytes) ≡ Ok taken
        → (first_of fitting rest bytes ≡ Ok taken → AllByRecursion (λ x. fitting x ≡ false) rest)
        → AllByRecursion (λ x. fitting x ≡ false) (c ∷ rest)
    by true fit found later = cc
    by false unfit found later = (unfit, later found)

each-cause : (fitting : AsmCause → Bool) → AllByRecursion (λ c. fitting c ≡ false) causes_listed → FitsNone fitting
each-cause fitting h causes.Text = h.0
each-cause fitting h causes.Mnemonic = h.1.0
each-cause fitting h causes.Directive = h.1.1.0
each-cause fitting h causes.Operand = h.1.1.1.0
each-cause fitting h causes.Number = h.1.1.1.1.0
each-cause fitting h causes.Twice = h.1.1.1.1.1.0
each-cause fitting h causes.Label = h.1.1.1.1.1.1.0
each-cause fitting h causes.Range = h.1.1.1.1.1.1.1.0
each-cause fitting h causes.Big = h.1.1.1.1.1.1.1.1.0

-- The tests of a line, by what it holds.
abbrev nine : Bool → Bool → Bool → Bool → Bool → Bool → Bool → Bool → Bool → List ℕ → Result (List ℕ) AsmCause
nine text mnemonic directive operand number twice label range big bytes =
    cond text (Err causes.Text) (cond mnemonic (Err causes.Mnemonic) (cond directive (Err causes.Directive)
    (cond operand (Err causes.Operand) (cond number (Err causes.Number) (cond twice (Err causes.Twice)
    (cond label (Err causes.Label) (cond range (Err causes.Range) (cond big (Err causes.Big) (Ok bytes)))))))))

named-nine : (right spelled twice : Bool) (find : List ℕ → Option Definition) (at : ℕ) (s : Statement)
    → (given_if right spelled (Some s) >>= (λ said. cond twice (Err causes.Twice) (bytes_in find at said)))
    ≡ nine false false false (not right) (not spelled) twice (is_undefined find s) (not (fits_values find at s)) (is_big at s)
    (statement_bytes find at s)
unfolding bytes_of
named-nine false spelled twice find at s = refl
named-nine true false twice find at s = refl
named-nine true true twice find at s = refl

abbrev bytes_by : (Word → List ℕ) → Option Word → List ℕ
bytes_by bytes w = option_map_or bytes w []

line-nine : (text empty directive twice : Bool) (w : Option Word) (right spelled : Word → Bool) (s : Word → Statement)
    (find : List ℕ → Option Definition) (at : ℕ)
    → (cond text (Err causes.Text) (cond empty (Ok None) (ok_or w (cond directive causes.Directive causes.Mnemonic)
    >>= (λ n. given_if (right n) (spelled n) (Some (s n))))) >>= (λ said. cond twice (Err causes.Twice) (bytes_in find at said)))
    ≡ nine text ((not empty && is_none w) && not directive) ((not empty && is_none w) && directive)
    (option_map_or (λ n. not (right n)) (cond empty None w) false) (option_map_or (λ n. not (spelled n)) (cond empty None w) false)
    twice (option_map_or (λ n. is_undefined find (s n)) (cond empty None w) false)
    (option_map_or (λ n. not (fits_values find at (s n))) (cond empty None w) false)
    (option_map_or (λ n. is_big at (s n)) (cond empty None w) false)
    (bytes_by (λ n. statement_bytes find at (s n)) (cond empty None w))
line-nine true empty directive twice w right spelled s find at = refl
line-nine false true directive twice w right spelled s find at = refl
line-nine false false true twice None right spelled s find at = refl
line-nine false false false twice None right spelled s find at = refl
line-nine false false directive twice (Some n) right spelled s find at = named-nine (right n) (spelled n) twice find at (s n)

line_bytes-first : (find : List ℕ → Option Definition) (p : Place)
    → outcome find p ≡ first_of (fits find p) causes_listed (bytes_by (λ n. statement_bytes find p.address (statement_of n (operands p.line))) (named p.line))
unfolding line_bytes read statement_in
line_bytes-first find p =
    line-nine (not (is_utf8 p.line) || has_fault (uncommented p.line) (operands p.line)) (length (word p.line) == 0)
    (is_directive (word p.line)) (is_twice find p.number (label p.line)) (word_named (word p.line))
    (λ n. are_operands (syntax_of n) (operands p.line)) (λ n. are_spelled (syntax_of n) (operands p.line))
    (λ n. statement_of n (operands p.line)) find p.address

pub refused-first : (find : List ℕ → Option Definition) (p : Place) (cause : AsmCause) → outcome find p ≡ Err cause
    → IsFirstFitting (fits find p) cause
refused-first find p cause e =
    first-fitting (fits find p) [] causes_listed _ cause refl tt (sym (line_bytes-first find p) ∙ e)

pub accepted-none : (find : List ℕ → Option Definition) (p : Place) (bytes : List ℕ) → outcome find p ≡ Ok bytes → FitsNone (fits find p)
accepted-none find p bytes e =
    each-cause (fits find p) (none-fitting (fits find p) causes_listed _ bytes (sym (line_bytes-first find p) ∙ e))

-- Texts

-- The refused line among lines.
pub record IsRefusedAmong (find : List ℕ → Option Definition) (lines : List Place) (number : ℕ) (cause : AsmCause) : Type 0 where
  pub before : List Place
  pub line : Place
  pub behind : List Place
  pub there : lines ≡ before ++ line ∷ behind
  pub numbered : line.number ≡ number
  pub refused : outcome find line ≡ Err cause

in_front-error : (bytes : List ℕ) (r : Result (List ℕ) AsmError) (e : AsmError) → in_front bytes r ≡ Err e → r ≡ Err e
in_front-error bytes (Ok more) e h = cc
in_front-error bytes (Err f) e h = let same : f ≡ e = cc in ap Err same

in_front-done : (bytes : List ℕ) (r : Result (List ℕ) AsmError) (taken : List ℕ) → in_front bytes r ≡ Ok taken
    → (more : List ℕ) × (r ≡ Ok more)
in_front-done bytes (Ok more) taken h = (more, refl)
in_front-done bytes (Err e) taken h = cc

refused-later : (find : List ℕ → Option Definition) (here : Place) (lines : List Place) (n : ℕ) (cause : AsmCause)
    → IsRefusedAmong find lines n cause → IsRefusedAmong find (here ∷ lines) n cause
refused-later find here lines n cause later = record {
  before = here ∷ later.before;
  line = later.line;
  behind = later.behind;
  there = ap (λ ps. here ∷ ps) later.there;
  numbered = later.numbered;
  refused = later.refused;
}

refused-step : (find : List ℕ → Option Definition) (here : Place) (lines : List Place) (n : ℕ) (cause : AsmCause)
    (r : Result (List ℕ) AsmCause) → outcome find here ≡ r
    → gathered here.number (r ∷ map (outcome find) lines) ≡ Err (errors.Line n cause)
    → (gathered (here.number + 1) (map (outcome find) lines) ≡ Err (errors.Line n cause) → IsRefusedAmong find lines n cause)
    → IsRefusedAmong find (here ∷ lines) n cause
unfolding gathered
refused-step find here lines n cause (Ok bytes) is h later =
    refused-later find here lines n cause
    (later (in_front-error bytes (gathered (here.number + 1) (map (outcome find) lines)) (errors.Line n cause) h))
refused-step find here lines n cause (Err other) is h later =
    let same : here.number ≡ n = cc in
    let cause_same : other ≡ cause = cc in
    record {
      before = [];
      line = here;
      behind = lines;
      there = refl;
      numbered = same;
      refused = is ∙ ap Err cause_same;
    }

pub gathered-refused_among : (find : List ℕ → Option Definition) (number at : ℕ) (lines : List (List ℕ)) (n : ℕ) (cause : AsmCause)
    → gathered number (outcomes_in find number at lines) ≡ Err (errors.Line n cause)
    → IsRefusedAmong find (places_in number at lines) n cause
unfolding places_in gathered
gathered-refused_among find number at [] n cause e = cc
gathered-refused_among find number at (line ∷ lines) n cause e =
    refused-step find (record { number = number; address = at; line = line })
    (places_in (number + 1) (line_end at (read line)) lines) n cause
    (outcome find (record { number = number; address = at; line = line })) refl e
    (gathered-refused_among find (number + 1) (line_end at (read line)) lines n cause)

accepted-step : (find : List ℕ → Option Definition) (here : Place) (lines : List Place) (taken : List ℕ)
    (r : Result (List ℕ) AsmCause) → outcome find here ≡ r → gathered here.number (r ∷ map (outcome find) lines) ≡ Ok taken
    → ((more : List ℕ) → gathered (here.number + 1) (map (outcome find) lines) ≡ Ok more
    → AllByRecursion (λ p. FitsNone (fits find p)) lines)
    → AllByRecursion (λ p. FitsNone (fits find p)) (here ∷ lines)
unfolding gathered
accepted-step find here lines taken (Ok bytes) is h later =
    let rest = in_front-done bytes (gathered (here.number + 1) (map (outcome find) lines)) taken h in
    (accepted-none find here bytes is, later rest.0 rest.1)
accepted-step find here lines taken (Err other) is h later = cc

pub gathered-accepted : (find : List ℕ → Option Definition) (number at : ℕ) (lines : List (List ℕ)) (taken : List ℕ)
    → gathered number (outcomes_in find number at lines) ≡ Ok taken
    → AllByRecursion (λ p. FitsNone (fits find p)) (places_in number at lines)
unfolding places_in gathered
gathered-accepted find number at [] taken e = tt
gathered-accepted find number at (line ∷ lines) taken e =
    accepted-step find (record { number = number; address = at; line = line })
    (places_in (number + 1) (line_end at (read line)) lines) taken
    (outcome find (record { number = number; address = at; line = line })) refl e
    (gathered-accepted find (number + 1) (line_end at (read line)) lines)

pub HasCause-file : (text bytes file : List ℕ) → program_of text ≡ Ok bytes → HasCause text (Ok file)
unfolding program_of
HasCause-file text bytes file done = gathered-accepted (definition_of text) 1 _ _ bytes done

pub HasCause-error : (text : List ℕ) (error : AsmError) → ((error ≡ errors.Memory → ⊥) → program_of text ≡ Err error)
    → HasCause text (Err error)
unfolding program_of
HasCause-error text (errors.Line number cause) refused =
    let among = gathered-refused_among (definition_of text) 1 _ _ number cause (refused (λ e. cc)) in
    record {
      before = among.before;
      line = among.line;
      behind = among.behind;
      there = among.there;
      numbered = among.numbered;
      first = refused-first (definition_of text) among.line cause among.refused;
    }
HasCause-error text errors.Memory refused = tt
