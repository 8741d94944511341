use Rattle.std.proofs.Common.{◌∙◌, sym, ap}
use Rattle.rv_asm.specs.Labels.{defined, otherwise, own_definition}
use Rattle.rv_asm.proofs.LabelLists.{otherwise-none}
use Rattle.rv_asm.proofs.line.Line.define.Goals as goal

pub returns-in-None : goal.returns-in-None
returns-in-None c = λ name.
    let there = defined c.args.labels.now name in
    sym (ap (λ label. otherwise there (own_definition c.args.number c.args.at label name)) c.in-None.is ∙ otherwise-none there)
