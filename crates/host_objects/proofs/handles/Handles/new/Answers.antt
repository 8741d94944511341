use Rattle.host_objects.proofs.Tied.{ties_new}
use Rattle.host_objects.proofs.handles.Handles.new.Goals as goal

pub invariant_of-result : goal.invariant_of-result
invariant_of-result g c = ties_new _ _ c.new.ensures
