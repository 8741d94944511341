use Rattle.std.proofs.Common.{◌≡◌, ◌∙◌, sym, ap, subst, Ok, Err, List, ℤ, rules}
use Rattle.rv_asm.specs.declared.operands.Kind.{Kind}
use Rattle.rv_asm.specs.declared.operands.Fields.{Fields}
use Rattle.rv_asm.specs.declared.statement.Statement.TheVariants as statements
use Rattle.rv_asm.specs.Operands.{Each, unless_refused}
use Rattle.rv_asm.specs.Statement.{kinds_by, instruction_by}
use Rattle.rv_asm.proofs.StatementLists.{read_by, number-held, instruction-read, instruction-refused, plain-instruction_by}
use Rattle.rv_asm.proofs.statement.instruction.Goals as goal

pub returns-in_err-fields : goal.returns-in_err-fields
returns-in_err-fields c =
    let texts = c.args.operands.now in
    let gave : c.from_residual.result ≡ Err c.in_err-fields.field-0.0 = search rules in
    gave
    ∙ instruction-refused c.shape_of-shape.result c.args.op texts c.in_err-fields.field-0.0 c.shape_of-shape.ensures
    (subst (λ (ks : List Kind). Err c.in_err-fields.field-0.0 ≡ unless_refused (Each ks) texts (read_by ks texts)) c.kinds_by.ensures
    c.in_err-fields.ensures)

pub returns-in-Upper : goal.returns-in-Upper
returns-in-Upper c =
    let texts = c.args.operands.now in
    let read : Fields × ℤ = (c.in_ok-fields.fields, c.in_ok-fields.n) in
    let known : Ok read ≡ unless_refused (Each (kinds_by c.shape_of-shape.result)) texts (read_by (kinds_by c.shape_of-shape.result) texts) =
    subst (λ (ks : List Kind). Ok read ≡ unless_refused (Each ks) texts (read_by ks texts)) c.kinds_by.ensures c.in_ok-fields.ensures in
    ap (λ z. Ok (statements.Upper c.args.op read.0.rd z)) (number-held (kinds_by c.shape_of-shape.result) texts read known)
    ∙ ap (λ s. Ok (instruction_by s c.args.op read.0 read.1)) (sym c.in-Upper.is)
    ∙ instruction-read c.shape_of-shape.result c.args.op texts read c.shape_of-shape.ensures known

pub returns-in-Branch : goal.returns-in-Branch
returns-in-Branch c =
    let texts = c.args.operands.now in
    let read : Fields × ℤ = (c.in_ok-fields.fields, c.in_ok-fields.n) in
    let known : Ok read ≡ unless_refused (Each (kinds_by c.shape_of-shape.result)) texts (read_by (kinds_by c.shape_of-shape.result) texts) =
    subst (λ (ks : List Kind). Ok read ≡ unless_refused (Each ks) texts (read_by ks texts)) c.kinds_by.ensures c.in_ok-fields.ensures in
    ap (λ s. Ok (instruction_by s c.args.op read.0 read.1)) (sym c.in-Branch.is)
    ∙ instruction-read c.shape_of-shape.result c.args.op texts read c.shape_of-shape.ensures known

pub returns-in-Jump : goal.returns-in-Jump
returns-in-Jump c =
    let texts = c.args.operands.now in
    let read : Fields × ℤ = (c.in_ok-fields.fields, c.in_ok-fields.n) in
    let known : Ok read ≡ unless_refused (Each (kinds_by c.shape_of-shape.result)) texts (read_by (kinds_by c.shape_of-shape.result) texts) =
    subst (λ (ks : List Kind). Ok read ≡ unless_refused (Each ks) texts (read_by ks texts)) c.kinds_by.ensures c.in_ok-fields.ensures in
    ap (λ s. Ok (instruction_by s c.args.op read.0 read.1)) (sym c.in-Jump.is)
    ∙ instruction-read c.shape_of-shape.result c.args.op texts read c.shape_of-shape.ensures known

pub returns-in-Registers : goal.returns-in-Registers
returns-in-Registers c =
    let texts = c.args.operands.now in
    let read : Fields × ℤ = (c.in_ok-fields.fields, c.in_ok-fields.n) in
    let known : Ok read ≡ unless_refused (Each (kinds_by c.shape_of-shape.result)) texts (read_by (kinds_by c.shape_of-shape.result) texts) =
    subst (λ (ks : List Kind). Ok read ≡ unless_refused (Each ks) texts (read_by ks texts)) c.kinds_by.ensures c.in_ok-fields.ensures in
    ap (λ z. Ok (statements.Plain c.args.op read.0.rd read.0.rs1 read.0.rs2 z)) (number-held (kinds_by c.shape_of-shape.result) texts read known)
    ∙ ap Ok (plain-instruction_by c.shape_of-shape.result c.args.op read.0 read.1 c.in-Registers.is)
    ∙ instruction-read c.shape_of-shape.result c.args.op texts read c.shape_of-shape.ensures known
