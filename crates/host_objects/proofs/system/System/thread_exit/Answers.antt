use Rattle.std.proofs.Common.{rules, refl}
use Rattle.host_objects.specs.System.{system_objects}
use Rattle.host_objects.proofs.Rows.{thread_ended_row}
use Rattle.host_objects.proofs.system.System.thread_exit.Goals as goal

pub returns : goal.returns
returns g c = thread_ended_row (system_objects c.args.self.now) _ c.args.thread c.args.self.now.schedule.lists (search rules) refl refl (search rules)
