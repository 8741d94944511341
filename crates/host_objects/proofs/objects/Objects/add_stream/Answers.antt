use Rattle.host_objects.specs.System.{system_objects}
use Rattle.host_objects.proofs.Rows.{fresh_if_added, stream_sound}
use Rattle.host_objects.proofs.objects.Objects.add_stream.Goals as goal

pub invariant_of-self : goal.invariant_of-self
invariant_of-self g c = record { sound = stream_sound (system_objects c.args.self.now.system) c.add.new.self c.args.name _ c.args.self.now.sound c.requires c.add.ensures.added c.add.ensures.same }

pub returns-clause-fresh : goal.returns-clause-fresh
returns-clause-fresh g c = fresh_if_added (system_objects c.args.self.now.system) c.add.new.self _ _ c.args.self.now.sound c.add.ensures.added
