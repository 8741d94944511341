use Rattle.std.specs.declared.option.Option.TheVariants.{None}
use Rattle.abi_calls.specs.declared.object.Object.TheVariants.{Process}
use Rattle.host_objects.proofs.Running.{runs_there}
use Rattle.host_objects.proofs.Tied.{ties_set}
use Rattle.host_objects.proofs.handles.Handles+N+Object+Pages.run.Goals as goal

pub invariant_of-self : goal.invariant_of-self
invariant_of-self g c = ties_set _ _ _ c.args.process (Process c.run.ensures.space None) c.self.invariant (runs_there _ c.run.ensures.memory c.run.ensures.runs) c.run.ensures.now
