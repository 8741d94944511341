use Rattle.host_objects.specs.System.{system_objects}
use Rattle.host_objects.proofs.TakenSteps.{took}
use Rattle.host_objects.proofs.system.System.take_memory.Goals as goal

pub returns : goal.returns
returns g c = took (system_objects c.args.self.now) _ c.args.process c.take_pages.result c.take_pages.ensures.taken c.take_pages.ensures.left
