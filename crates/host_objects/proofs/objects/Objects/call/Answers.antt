use Rattle.host_objects.specs.System.{system_objects}
use Rattle.host_objects.proofs.Rows.{call_sound}
use Rattle.host_objects.proofs.objects.Objects.call.Goals as goal

pub invariant_of-self : goal.invariant_of-self
invariant_of-self g c = record { sound = call_sound (system_objects c.args.self.now.system) (system_objects c.call.new.self) c.args.call.now c.call.result c.args.self.now.sound c.call.ensures.bytes c.requires c.call.ensures.row c.call.ensures.same }
