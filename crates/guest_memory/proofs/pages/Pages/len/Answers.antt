use Rattle.std.proofs.Common.{ap, sym, ◌∙◌, subst}
use Rattle.std.specs.FinMap as map
use Rattle.guest_space.specs.Space.{IsSpace}
use Rattle.guest_memory.proofs.Order.{len-space_of, IsSpace-space_of}
use Rattle.guest_memory.proofs.pages.Pages.len.Goals as goal

pub returns-clause-count : goal.returns-clause-count
returns-clause-count c =
    c.len.ensures ∙ c.self.inside.pages.ok.0 ∙ sym (len-space_of 0 c.self.inside.pages.items c.self.invariant.0) ∙ ap map.len c.self.view_is

pub returns-clause-sound : goal.returns-clause-sound
returns-clause-sound c = subst IsSpace c.self.view_is (IsSpace-space_of 0 c.self.inside.pages.items c.self.invariant.0)
