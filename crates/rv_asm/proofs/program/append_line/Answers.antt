use Rattle.std.proofs.Common.{◌≡◌, ◌∙◌, ap, sym, subst, Err, rules}
use Rattle.rv_asm.specs.Labels.{defined}
use Rattle.rv_asm.specs.Words.{HasAppended, HasPlaced}
use Rattle.rv_asm.specs.Answers.{nearest_address}
use Rattle.rv_asm.specs.Line.{read, line_end, line_bytes}
use Rattle.rv_asm.proofs.Nearest.{line_end-nearest, line_bytes-nearest}
use Rattle.rv_asm.proofs.ProgramLists.{HasPlaced-error}
use Rattle.rv_asm.proofs.program.append_line.Goals as goal

pub returns-in_err-append : goal.returns-in_err-append
returns-in_err-append c =
    let find = defined c.args.labels.now in
    let line = read c.args.line.now in
    let next = nearest_address (line_end c.args.address line) in
    let front = c.args.bytes.now.items in
    let new = c.append.new.out.items in
    let same : line_bytes find c.args.number c.args.address c.in_ok-said.said ≡ line_bytes find c.args.number c.args.address line =
    ap (line_bytes find c.args.number c.args.address) c.in_ok-said.ensures ∙ line_bytes-nearest find c.args.number c.args.address line in
    let gave : c.from_residual-in_err-append.result ≡ Err c.in_err-append.field-0.0 = search rules in
    subst (HasPlaced (line_bytes find c.args.number c.args.address line) next front new) (sym gave)
    (HasPlaced-error _ next front new c.in_err-append.field-0.0
    (subst (λ w. HasAppended w front new (Err c.in_err-append.field-0.0)) same c.in_err-append.ensures))

pub returns : goal.returns
returns c =
    let find = defined c.args.labels.now in
    let line = read c.args.line.now in
    let same : line_bytes find c.args.number c.args.address c.in_ok-said.said ≡ line_bytes find c.args.number c.args.address line =
    ap (line_bytes find c.args.number c.args.address) c.in_ok-said.ensures ∙ line_bytes-nearest find c.args.number c.args.address line in (
      c.end.ensures ∙ (ap (λ line. nearest_address (line_end c.args.address line)) c.in_ok-said.ensures ∙ line_end-nearest c.args.address line),
      (c.in_ok-append.ensures.0, sym same ∙ c.in_ok-append.ensures.1, c.in_ok-append.ensures.2),
    )
