use Rattle.host_objects.proofs.Tied.{ties_add}
use Rattle.host_objects.proofs.handles.Handles.add.Goals as goal

pub invariant_of-self-in-Ok : goal.invariant_of-self-in-Ok
invariant_of-self-in-Ok g c = ties_add _ _ _ _ _ c.args.value c.self.invariant c.in_ok-number.ensures.given c.in-Ok.ensures.ok
