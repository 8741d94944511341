use Rattle.std.proofs.Common.{sym, ap, ◌∙◌, Some}
use Rattle.rv_core.proofs.Names.{decoded-nop}
use Rattle.rv_core.proofs.memo.Memo.new.Goals as goal

pub invariant_of-nop : goal.invariant_of-nop
invariant_of-nop c = record { spells = decoded-nop ∙ ap Some (sym c.new.ensures) }
