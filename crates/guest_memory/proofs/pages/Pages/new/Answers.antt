use Rattle.std.proofs.Common.{sym, subst}
use Rattle.guest_memory.specs.Pages.{AreInOrder}
use Rattle.guest_memory.proofs.pages.Pages.new.Goals as goal

pub invariant_of-result : goal.invariant_of-result
invariant_of-result c = (subst AreInOrder (sym c.new.ensures.items) tt, c.nothing.ensures _)
