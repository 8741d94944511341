use Rattle.std.proofs.Common.{sym, ◌∙◌}
use Rattle.std.proofs.lemmas.Bool.{eqb-true, eq-eqb}
use Rattle.guest_memory.proofs.Order.{empty_space_of}
use Rattle.guest_memory.proofs.pages.Pages.is_empty.Goals as goal

pub returns : goal.returns
returns c =
    let both = empty_space_of 0 c.self.inside.pages.items c.self.invariant.0 in
    let long = c.self.inside.pages.ok.0 in (
      λ h. sym c.self.view_is ∙ both.0 (sym long ∙ eqb-true _ 0 (sym c.is_empty.ensures ∙ h)),
      λ e. c.is_empty.ensures ∙ eq-eqb _ 0 (long ∙ both.1 (c.self.view_is ∙ e)),
    )
