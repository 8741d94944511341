use Rattle.std.proofs.Common.{rules}
use Rattle.host_objects.specs.System.{system_objects}
use Rattle.host_objects.proofs.EndedThreads.{process_stays}
use Rattle.host_objects.proofs.system.System.process_exit.Goals as goal

pub set-requires : goal.set-requires
set-requires g c = process_stays (system_objects c.args.self.now) _ c.args.process (search rules) c.end_threads.ensures
