use Rattle.std.proofs.Common.{◌≡◌, ◌∙◌, sym, ap, subst, Ok, Err, List, ℤ, rules}
use Rattle.rv_asm.specs.declared.operands.Kind.{Kind}
use Rattle.rv_asm.specs.declared.operands.Fields.{Fields}
use Rattle.rv_asm.specs.declared.statement.Statement.TheVariants as statements
use Rattle.rv_asm.specs.Operands.{Each, unless_refused}
use Rattle.rv_asm.specs.declared.statement.Word.TheVariants as words
use Rattle.rv_asm.specs.Answers.{nearest_statement}
use Rattle.rv_asm.specs.Statement.{pseudo_kinds, pseudo_by, statement_of}
use Rattle.rv_asm.proofs.StatementLists.{read_by, number-held, pseudo-read, refused-same}
use Rattle.rv_asm.proofs.statement.pseudo.Goals as goal

pub returns-in_err-fields : goal.returns-in_err-fields
returns-in_err-fields c =
    let texts = c.args.operands.now in
    let kinds = pseudo_kinds c.args.pseudo in
    let gave : c.from_residual.result ≡ Err c.in_err-fields.field-0.0 = search rules in
    gave
    ∙ refused-same (Each kinds) texts (read_by kinds texts) (nearest_statement (statement_of (words.Pseudo c.args.pseudo) texts))
    c.in_err-fields.field-0.0
    (subst (λ (ks : List Kind). Err c.in_err-fields.field-0.0 ≡ unless_refused (Each ks) texts (read_by ks texts)) c.pseudo_kinds.ensures
    c.in_err-fields.ensures)

pub returns-in-Li : goal.returns-in-Li
returns-in-Li c =
    let texts = c.args.operands.now in
    let read : Fields × ℤ = (c.in_ok-fields.fields, c.in_ok-fields.n) in
    let known : Ok read ≡ unless_refused (Each (pseudo_kinds c.args.pseudo)) texts (read_by (pseudo_kinds c.args.pseudo) texts) =
    subst (λ (ks : List Kind). Ok read ≡ unless_refused (Each ks) texts (read_by ks texts)) c.pseudo_kinds.ensures c.in_ok-fields.ensures in
    ap (λ z. Ok (statements.LoadNumber read.0.rd z)) (number-held (pseudo_kinds c.args.pseudo) texts read known)
    ∙ ap (λ p. Ok (pseudo_by p read.0 read.1)) (sym c.in-Li.is)
    ∙ pseudo-read c.args.pseudo texts read known

pub returns-in-La : goal.returns-in-La
returns-in-La c =
    let texts = c.args.operands.now in
    let read : Fields × ℤ = (c.in_ok-fields.fields, c.in_ok-fields.n) in
    let known : Ok read ≡ unless_refused (Each (pseudo_kinds c.args.pseudo)) texts (read_by (pseudo_kinds c.args.pseudo) texts) =
    subst (λ (ks : List Kind). Ok read ≡ unless_refused (Each ks) texts (read_by ks texts)) c.pseudo_kinds.ensures c.in_ok-fields.ensures in
    ap (λ p. Ok (pseudo_by p read.0 read.1)) (sym c.in-La.is)
    ∙ pseudo-read c.args.pseudo texts read known

pub returns-in-J : goal.returns-in-J
returns-in-J c =
    let texts = c.args.operands.now in
    let read : Fields × ℤ = (c.in_ok-fields.fields, c.in_ok-fields.n) in
    let known : Ok read ≡ unless_refused (Each (pseudo_kinds c.args.pseudo)) texts (read_by (pseudo_kinds c.args.pseudo) texts) =
    subst (λ (ks : List Kind). Ok read ≡ unless_refused (Each ks) texts (read_by ks texts)) c.pseudo_kinds.ensures c.in_ok-fields.ensures in
    ap (λ p. Ok (pseudo_by p read.0 read.1)) (sym c.in-J.is)
    ∙ pseudo-read c.args.pseudo texts read known

pub returns-in-Call : goal.returns-in-Call
returns-in-Call c =
    let texts = c.args.operands.now in
    let read : Fields × ℤ = (c.in_ok-fields.fields, c.in_ok-fields.n) in
    let known : Ok read ≡ unless_refused (Each (pseudo_kinds c.args.pseudo)) texts (read_by (pseudo_kinds c.args.pseudo) texts) =
    subst (λ (ks : List Kind). Ok read ≡ unless_refused (Each ks) texts (read_by ks texts)) c.pseudo_kinds.ensures c.in_ok-fields.ensures in
    ap (λ p. Ok (pseudo_by p read.0 read.1)) (sym c.in-Call.is)
    ∙ pseudo-read c.args.pseudo texts read known
