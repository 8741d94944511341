use Rattle.std.proofs.Common.{◌≡◌, ◌∙◌, Err, Result, Option, sym, subst, rules}
use Rattle.rv_asm.specs.declared.AsmCause.{AsmCause}
use Rattle.rv_asm.specs.declared.refusal.LineError.{LineError}
use Rattle.rv_asm.specs.declared.statement.Statement.{Statement}
use Rattle.rv_asm.specs.Answers.{Answers, nearest_said}
use Rattle.rv_asm.specs.Line.{statement_in}
use Rattle.rv_asm.proofs.StatementLists.{statement_in-said, statement_in-refused}
use Rattle.rv_asm.proofs.line.statement_in.Goals as goal

pub returns-in_err-statement_of : goal.returns-in_err-statement_of
returns-in_err-statement_of c =
    let word = c.args.word.now in
    let texts = c.args.operands.now in
    let gave : c.from_residual-in_err-statement_of.result ≡ Err c.in_err-statement_of.field-0.0 = search rules in
    let wanted : Result (Option Statement) AsmCause = nearest_said (statement_in word texts) in
    let P : Result (Option Statement) LineError → Type 0 = λ r. Answers r wanted in
    subst P (sym gave)
    (statement_in-refused word texts c.in_ok-named.named c.in_err-statement_of.field-0.0
    (sym c.is_empty.ensures ∙ c.if-is_empty.false) c.in_ok-named.ensures c.in_err-statement_of.ensures)

pub returns : goal.returns
returns c =
    statement_in-said c.args.word.now c.args.operands.now c.in_ok-named.named c.in_ok-statement_of.field-0
    (sym c.is_empty.ensures ∙ c.if-is_empty.false) c.in_ok-named.ensures c.in_ok-statement_of.ensures
