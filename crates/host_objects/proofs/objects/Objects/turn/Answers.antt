use Rattle.host_objects.specs.System.{system_objects}
use Rattle.abi_calls.proofs.Sounds.{IsSound-world_turn}
use Rattle.host_objects.proofs.objects.Objects.turn.Goals as goal

pub invariant_of-self : goal.invariant_of-self
invariant_of-self g c = record { sound = IsSound-world_turn (system_objects c.args.self.now.system) (system_objects c.turn.new.self) c.turn.result c.args.self.now.sound c.requires c.turn.ensures }
