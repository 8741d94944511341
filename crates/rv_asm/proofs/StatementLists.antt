-- The statement that operands give, or the cause for which they are refused.
use Rattle.std.proofs.Common.{◌≡◌, Bool, true, false, not, cond, ℕ, ◌==◌, List, [], length, ◌∷◌, map, ℤ, Option, Some, None, ◌⊎◌, inl, inr, Result, Ok, Err, refl, sym, ap, ◌∙◌}
use Rattle.std.specs.Option.{ok_or}
use Rattle.std.specs.Int.{w128}
use mir.Val.{to_z, of_z}
use Rattle.asm_text.specs.Numbers.{nearest}
use Rattle.rv_core.specs.declared.instr.Op.{Op}
use Rattle.rv_asm.specs.declared.AsmCause.{AsmCause}
use Rattle.rv_asm.specs.declared.AsmCause.TheVariants as causes
use Rattle.rv_asm.specs.declared.mnemonics.Shape.{Shape}
use Rattle.rv_asm.specs.declared.mnemonics.Shape.TheVariants as shapes
use Rattle.rv_asm.specs.declared.mnemonics.Pseudo.{Pseudo}
use Rattle.rv_asm.specs.declared.mnemonics.Pseudo.TheVariants as pseudos
use Rattle.rv_asm.specs.declared.operands.Kind.{Kind}
use Rattle.rv_asm.specs.declared.operands.Fields.{Fields}
use Rattle.rv_asm.specs.declared.refusal.LineError.{LineError}
use Rattle.rv_asm.specs.declared.refusal.LineError.TheVariants.{Refused, Memory}
use Rattle.rv_asm.specs.declared.statement.Width.{Width}
use Rattle.rv_asm.specs.declared.statement.Word.{Word}
use Rattle.rv_asm.specs.declared.statement.Word.TheVariants as words
use Rattle.rv_asm.specs.declared.statement.Statement.TheVariants.{Plain, Numbers}
use Rattle.rv_asm.specs.declared.statement.Statement.{Statement}
use Rattle.rv_asm.specs.Operands.{Syntax, Each, fields_of, value_of, are_operands, are_spelled, unless_refused}
use Rattle.rv_asm.specs.Operands as operands
use Rattle.rv_asm.specs.Answers.{Answers, nearest_statement, nearest_said, nearest_value}
use Rattle.rv_asm.specs.Line.{◌>>=◌, statement_in}
use Rattle.rv_asm.specs.Statement.{word_named, unknown, syntax_of, kinds_by, pseudo_kinds, instruction_by, pseudo_by, statement_of}
use Rattle.rv_asm.specs.Mnemonics.{shape_of}
use Rattle.rv_asm.proofs.Ranges.{held-nearest}

-- What is given where the operands are right and numbers are spelled.
abbrev pub given_if : {A : Type 0} → Bool → Bool → A → Result A AsmCause
given_if right spelled a = cond (not right) (Err causes.Operand) (cond (not spelled) (Err causes.Number) (Ok a))

given_if-err : {A B : Type 0} (right spelled : Bool) (a : A) (b : B) (cause : AsmCause)
    → Err cause ≡ given_if right spelled a → Err cause ≡ given_if right spelled b
given_if-err false spelled a b cause e = let same : cause ≡ causes.Operand = cc in ap Err same
given_if-err true false a b cause e = let same : cause ≡ causes.Number = cc in ap Err same
given_if-err true true a b cause e = cc

given_if-ok : {A B : Type 0} (right spelled : Bool) (a given : A) (b : B) → Ok given ≡ given_if right spelled a
    → (given ≡ a) × (Ok b ≡ given_if right spelled b)
given_if-ok false spelled a given b e = cc
given_if-ok true false a given b e = cc
given_if-ok true true a given b e = let same : given ≡ a = cc in (same, refl)

-- What is refused is refused whatever it would give.
pub refused-same : {A B : Type 0} (syntax : Syntax) (texts : List (List ℕ)) (a : A) (b : B) (cause : AsmCause)
    → Err cause ≡ unless_refused syntax texts a → Err cause ≡ unless_refused syntax texts b
refused-same syntax texts a b cause e = given_if-err (are_operands syntax texts) (are_spelled syntax texts) a b cause e

pub given-same : {A B : Type 0} (syntax : Syntax) (texts : List (List ℕ)) (a given : A) (b : B)
    → Ok given ≡ unless_refused syntax texts a → (given ≡ a) × (Ok b ≡ unless_refused syntax texts b)
given-same syntax texts a given b e = given_if-ok (are_operands syntax texts) (are_spelled syntax texts) a given b e

-- Fields and the value of their number, as it is held.
abbrev pub read_by : List Kind → List (List ℕ) → Fields × ℤ
read_by kinds texts = (fields_of kinds texts, nearest_value (fields_of kinds texts).number)

-- The number that is read is held as it is.
pub number-held : (kinds : List Kind) (texts : List (List ℕ)) (read : Fields × ℤ)
    → Ok read ≡ unless_refused (Each kinds) texts (read_by kinds texts) → to_z w128 (of_z w128 read.1) ≡ read.1
number-held kinds texts read e =
    let known = given-same {B = List ℕ} (Each kinds) texts (read_by kinds texts) read [] e in
    held-nearest (value_of (fields_of kinds texts).number) read.1 (ap (λ (r : Fields × ℤ). r.1) known.0)

nearest_statement-instruction_by : (shape : Shape) (o : Op) (f : Fields) (n : ℤ)
    → nearest_statement (instruction_by shape o f n) ≡ instruction_by shape o f (nearest n)
nearest_statement-instruction_by shapes.Registers o f n = refl
nearest_statement-instruction_by shapes.Immediate o f n = refl
nearest_statement-instruction_by shapes.Upper o f n = refl
nearest_statement-instruction_by shapes.Load o f n = refl
nearest_statement-instruction_by shapes.Store o f n = refl
nearest_statement-instruction_by shapes.Branch o f n = refl
nearest_statement-instruction_by shapes.Jump o f n = refl
nearest_statement-instruction_by shapes.Alone o f n = refl

nearest_statement-pseudo_by : (p : Pseudo) (f : Fields) (n : ℤ)
    → nearest_statement (pseudo_by p f n) ≡ pseudo_by p f (nearest n)
nearest_statement-pseudo_by pseudos.Li f n = refl
nearest_statement-pseudo_by pseudos.La f n = refl
nearest_statement-pseudo_by pseudos.Mv f n = refl
nearest_statement-pseudo_by pseudos.J f n = refl
nearest_statement-pseudo_by pseudos.Call f n = refl
nearest_statement-pseudo_by pseudos.Ret f n = refl
nearest_statement-pseudo_by pseudos.Nop f n = refl

abbrev wanted_instruction : Op → List (List ℕ) → Result Statement AsmCause
wanted_instruction o texts =
    unless_refused (Each (kinds_by (shape_of o))) texts (nearest_statement (statement_of (words.Instruction o) texts))

-- The statement of an instruction whose operands are read.
pub instruction-read : (shape : Shape) (o : Op) (texts : List (List ℕ)) (read : Fields × ℤ) → shape ≡ shape_of o
    → Ok read ≡ unless_refused (Each (kinds_by shape)) texts (read_by (kinds_by shape) texts)
    → Ok (instruction_by shape o read.0 read.1) ≡ wanted_instruction o texts
instruction-read shape o texts read is e =
    let kinds = kinds_by shape in
    let f = fields_of kinds texts in
    let known = given-same (Each kinds) texts (read_by kinds texts) read (nearest_statement (instruction_by shape o f (value_of f.number))) e in
    ap (λ (r : Fields × ℤ). Ok (instruction_by shape o r.0 r.1)) known.0
    ∙ (ap Ok (sym (nearest_statement-instruction_by shape o f (value_of f.number)))
    ∙ (known.1
    ∙ ap (λ (s : Shape). unless_refused (Each (kinds_by s)) texts
    (nearest_statement (instruction_by s o (fields_of (kinds_by s) texts) (value_of (fields_of (kinds_by s) texts).number)))) is))

pub instruction-refused : (shape : Shape) (o : Op) (texts : List (List ℕ)) (cause : AsmCause) → shape ≡ shape_of o
    → Err cause ≡ unless_refused (Each (kinds_by shape)) texts (read_by (kinds_by shape) texts) → Err cause ≡ wanted_instruction o texts
instruction-refused shape o texts cause is e =
    refused-same (Each (kinds_by shape)) texts (read_by (kinds_by shape) texts) (nearest_statement (statement_of (words.Instruction o) texts)) cause e
    ∙ ap (λ (s : Shape). unless_refused (Each (kinds_by s)) texts (nearest_statement (statement_of (words.Instruction o) texts))) is

pub pseudo-read : (p : Pseudo) (texts : List (List ℕ)) (read : Fields × ℤ)
    → Ok read ≡ unless_refused (Each (pseudo_kinds p)) texts (read_by (pseudo_kinds p) texts)
    → Ok (pseudo_by p read.0 read.1) ≡ unless_refused (Each (pseudo_kinds p)) texts (nearest_statement (statement_of (words.Pseudo p) texts))
pseudo-read p texts read e =
    let kinds = pseudo_kinds p in
    let f = fields_of kinds texts in
    let known = given-same (Each kinds) texts (read_by kinds texts) read (nearest_statement (pseudo_by p f (value_of f.number))) e in
    ap (λ (r : Fields × ℤ). Ok (pseudo_by p r.0 r.1)) known.0
    ∙ (ap Ok (sym (nearest_statement-pseudo_by p f (value_of f.number))) ∙ known.1)

-- An instruction that names no label and no page.
pub plain-instruction_by : (shape : Shape) (o : Op) (f : Fields) (n : ℤ)
    → (shape ≡ shapes.Registers) ⊎ ((shape ≡ shapes.Immediate) ⊎ ((shape ≡ shapes.Load) ⊎ ((shape ≡ shapes.Store) ⊎ (shape ≡ shapes.Alone))))
    → Plain o f.rd f.rs1 f.rs2 n ≡ instruction_by shape o f n
plain-instruction_by shape o f n (inl e) = sym (ap (λ s. instruction_by s o f n) e)
plain-instruction_by shape o f n (inr (inl e)) = sym (ap (λ s. instruction_by s o f n) e)
plain-instruction_by shape o f n (inr (inr (inl e))) = sym (ap (λ s. instruction_by s o f n) e)
plain-instruction_by shape o f n (inr (inr (inr (inl e)))) = sym (ap (λ s. instruction_by s o f n) e)
plain-instruction_by shape o f n (inr (inr (inr (inr e)))) = sym (ap (λ s. instruction_by s o f n) e)

map-nearest_value : (texts : List (List ℕ)) → map nearest (map value_of texts) ≡ map nearest_value texts
map-nearest_value [] = refl
map-nearest_value (text ∷ texts) = ap (λ ns. nearest_value text ∷ ns) (map-nearest_value texts)

given_if-numbers : (right spelled : Bool) (width : Width) (wanted held ns : List ℤ) → wanted ≡ held → given_if right spelled held ≡ Ok ns
    → given_if right spelled (Numbers width wanted) ≡ Ok (Numbers width ns)
given_if-numbers false spelled width wanted held ns same e = cc
given_if-numbers true false width wanted held ns same e = cc
given_if-numbers true true width wanted held ns same e =
    let is : held ≡ ns = cc in ap (λ xs. Ok (Numbers width xs)) (same ∙ is)

pub numbers-read : (texts : List (List ℕ)) (width : Width) (ns : List ℤ)
    → unless_refused operands.Numbers texts (map nearest_value texts) ≡ Ok ns
    → unless_refused operands.Numbers texts (Numbers width (map nearest (map value_of texts))) ≡ Ok (Numbers width ns)
numbers-read texts width ns e =
    given_if-numbers (are_operands operands.Numbers texts) (are_spelled operands.Numbers texts) width _ _ ns (map-nearest_value texts) e

-- What a line says by its word.
given_if-said : (right spelled : Bool) (s a : Statement) → given_if right spelled (nearest_statement s) ≡ Ok a
    → nearest_said (given_if right spelled (Some s)) ≡ Ok (Some a)
given_if-said false spelled s a e = cc
given_if-said true false s a e = cc
given_if-said true true s a e = let is : nearest_statement s ≡ a = cc in ap (λ x. Ok (Some x)) is

given_if-unsaid : (right spelled : Bool) (s : Statement) (cause : AsmCause) → given_if right spelled (nearest_statement s) ≡ Err cause
    → nearest_said (given_if right spelled (Some s)) ≡ Err cause
given_if-unsaid false spelled s cause e = let is : causes.Operand ≡ cause = cc in ap Err is
given_if-unsaid true false s cause e = let is : causes.Number ≡ cause = cc in ap Err is
given_if-unsaid true true s cause e = cc

statement_in-named : (word : List ℕ) (texts : List (List ℕ)) (named : Word) → (length word == 0) ≡ false
    → Ok named ≡ ok_or (word_named word) (unknown word)
    → statement_in word texts ≡ unless_refused (syntax_of named) texts (Some (statement_of named texts))
unfolding statement_in
statement_in-named word texts named some is =
    ap (λ b. cond b (Ok None) (ok_or (word_named word) (unknown word)
    >>= (λ n. unless_refused (syntax_of n) texts (Some (statement_of n texts))))) some
    ∙ ap (λ r. r >>= (λ n. unless_refused (syntax_of n) texts (Some (statement_of n texts)))) (sym is)

pub statement_in-said : (word : List ℕ) (texts : List (List ℕ)) (named : Word) (a : Statement) → (length word == 0) ≡ false
    → Ok named ≡ ok_or (word_named word) (unknown word)
    → unless_refused (syntax_of named) texts (nearest_statement (statement_of named texts)) ≡ Ok a
    → nearest_said (statement_in word texts) ≡ Ok (Some a)
statement_in-said word texts named a some is e =
    ap nearest_said (statement_in-named word texts named some is)
    ∙ given_if-said (are_operands (syntax_of named) texts) (are_spelled (syntax_of named) texts) (statement_of named texts) a e

pub statement_in-refused : (word : List ℕ) (texts : List (List ℕ)) (named : Word) (error : LineError) → (length word == 0) ≡ false
    → Ok named ≡ ok_or (word_named word) (unknown word)
    → Answers (Err error) (unless_refused (syntax_of named) texts (nearest_statement (statement_of named texts)))
    → Answers {A = Option Statement} (Err error) (nearest_said (statement_in word texts))
statement_in-refused word texts named (Refused cause) some is e =
    ap nearest_said (statement_in-named word texts named some is)
    ∙ given_if-unsaid (are_operands (syntax_of named) texts) (are_spelled (syntax_of named) texts) (statement_of named texts) cause e
statement_in-refused word texts named Memory some is e = tt
