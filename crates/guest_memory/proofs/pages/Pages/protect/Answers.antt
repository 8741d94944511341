use Rattle.std.proofs.Common.{sym, ◌∙◌, subst}
use Rattle.std.proofs.lemmas.List.{with_items_is}
use Rattle.guest_memory.specs.Pages.{AreInOrder}
use Rattle.guest_memory.proofs.pages.Pages.protect.Goals as goal

pub invariant_of-self : goal.invariant_of-self
invariant_of-self c = (
  subst AreInOrder (sym (with_items_is c.self.inside.pages c.protect_run.new.pages (c.protect_run.auto.pages ∙ c.deref_mut.ensures.len))) c.protect_run.ensures.order,
  c.nothing-self-inside.ensures _,
)
