use Rattle.host_objects.specs.Objects.{objects_of}
use Rattle.host_monitor.proofs.OpenHandles.{CountsUsers-same, SameHandles-world_turn}
use Rattle.host_monitor.proofs.monitor.MonitorHost.turn.Goals as goal

pub invariant_of-self : goal.invariant_of-self
invariant_of-self g c = record {
  counted = CountsUsers-same c.args.self.now.counted (SameHandles-world_turn (objects_of c.args.self.now.objects) (objects_of c.turn.new.self) c.turn.result c.args.self.now.objects.sound c.turn.ensures);
}
