use Rattle.std.proofs.Common.{subst}
use Rattle.guest_space.specs.Space.{IsSpace}
use Rattle.guest_memory.proofs.Order.{IsSpace-space_of}
use Rattle.guest_memory.proofs.pages.Pages.pages_are_sound.Goals as goal

pub returns : goal.returns
returns c = subst IsSpace c.self.view_is (IsSpace-space_of 0 c.self.inside.pages.items c.self.invariant.0)
