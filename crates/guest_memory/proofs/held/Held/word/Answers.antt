use Rattle.std.proofs.Common.{ap, sym, ◌∙◌, Some, arith}
use Rattle.guest_memory.proofs.Labels.{fetched-code}
use Rattle.guest_memory.proofs.held.Held.word.Goals as goal

pub returns-then-offset-self : goal.returns-then-offset-self
returns-then-offset-self c =
    fetched-code c.args.pages.now c.args.at c.args.self.place c.args.self.start c.args.self.room _ c.requires.order
    (c.requires.held (omega arith)) (omega arith) c.if-offset-self.true
    ∙ ap Some (sym c.number_in.ensures.value)
