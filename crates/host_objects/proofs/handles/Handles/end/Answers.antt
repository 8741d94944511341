use Rattle.host_objects.proofs.Tied.{ties_end}
use Rattle.host_objects.proofs.handles.Handles.end.Goals as goal

pub invariant_of-self : goal.invariant_of-self
invariant_of-self g c = ties_end _ _ _ _ _ c.self.invariant c.back.ensures c.remove.ensures
