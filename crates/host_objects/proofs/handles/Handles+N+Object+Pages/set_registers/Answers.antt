use Rattle.std.proofs.Common.{ap, ◌∙◌}
use Rattle.std.specs.FinMap as map
use Rattle.std.specs.Ordering.{nat_cmp}
use Rattle.abi_calls.specs.Objects.{is_some_thread}
use Rattle.abi_calls.specs.declared.object.Object.TheVariants.{Thread}
use Rattle.host_objects.proofs.Running.{thread_there}
use Rattle.host_objects.proofs.Tied.{ties_set}
use Rattle.host_objects.proofs.handles.Handles+N+Object+Pages.set_registers.Goals as goal

pub invariant_of-self : goal.invariant_of-self
invariant_of-self g c =
    let changed = c.set_registers.ensures in
    ties_set _ _ _ c.args.thread (Thread changed.process c.args.registers.now) c.self.invariant (thread_there _ (ap (λ m. is_some_thread (map.get {R = nat_cmp} m c.args.thread)) c.self.view_is ∙ c.requires)) changed.now
