use Rattle.guest_memory.proofs.pages.Pages.free.Goals as goal

pub invariant_of-self : goal.invariant_of-self
invariant_of-self c = (c.remove_run.ensures.order, c.nothing-self-inside.ensures _)
