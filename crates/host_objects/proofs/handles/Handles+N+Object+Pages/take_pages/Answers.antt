use Rattle.host_objects.proofs.TakenSteps.{ties_taken}
use Rattle.host_objects.proofs.handles.Handles+N+Object+Pages.take_pages.Goals as goal

pub invariant_of-self : goal.invariant_of-self
invariant_of-self g c = ties_taken _ _ _ c.args.process c.take_pages.result c.self.invariant c.take_pages.ensures.taken c.take_pages.ensures.left
