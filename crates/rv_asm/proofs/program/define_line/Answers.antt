use Rattle.std.proofs.Common.{◌∙◌, ap}
use Rattle.rv_asm.specs.Answers.{nearest_address}
use Rattle.rv_asm.specs.Line.{read, line_end}
use Rattle.rv_asm.proofs.Nearest.{line_end-nearest}
use Rattle.rv_asm.proofs.program.define_line.Goals as goal

pub returns-clause-address : goal.returns-clause-address
returns-clause-address c =
    c.end.ensures ∙ (ap (λ line. nearest_address (line_end c.args.address line)) c.in_ok-said.ensures ∙ line_end-nearest c.args.address (read c.args.line.now))
