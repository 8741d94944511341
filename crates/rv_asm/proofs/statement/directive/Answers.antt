use Rattle.std.proofs.Common.{◌∙◌, ap}
use Rattle.rv_asm.specs.declared.statement.Width.TheVariants as widths
use Rattle.rv_asm.specs.Operands.{unless_refused}
use Rattle.rv_asm.specs.Answers.{nearest_statement}
use Rattle.rv_asm.specs.Statement.{directive_syntax, directive_by}
use Rattle.rv_asm.proofs.StatementLists.{numbers-read}
use Rattle.rv_asm.proofs.statement.directive.Goals as goal

pub returns-in_ok-numbers-in-Byte : goal.returns-in_ok-numbers-in-Byte
returns-in_ok-numbers-in-Byte c =
    let texts = c.args.operands.now in
    ap (λ d. unless_refused (directive_syntax d) texts (nearest_statement (directive_by d texts))) c.in-Byte.is
    ∙ numbers-read texts widths.Byte c.in_ok-numbers-in-Byte.field-0 c.in_ok-numbers-in-Byte.ensures

pub returns-in_ok-numbers-in-Word : goal.returns-in_ok-numbers-in-Word
returns-in_ok-numbers-in-Word c =
    let texts = c.args.operands.now in
    ap (λ d. unless_refused (directive_syntax d) texts (nearest_statement (directive_by d texts))) c.in-Word.is
    ∙ numbers-read texts widths.Word c.in_ok-numbers-in-Word.field-0 c.in_ok-numbers-in-Word.ensures

pub returns-in_ok-numbers-in-Dword : goal.returns-in_ok-numbers-in-Dword
returns-in_ok-numbers-in-Dword c =
    let texts = c.args.operands.now in
    ap (λ d. unless_refused (directive_syntax d) texts (nearest_statement (directive_by d texts))) c.in-Dword.is
    ∙ numbers-read texts widths.Dword c.in_ok-numbers-in-Dword.field-0 c.in_ok-numbers-in-Dword.ensures
