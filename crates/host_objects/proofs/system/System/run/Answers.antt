use Rattle.std.proofs.Common.{ap}
use Rattle.abi_calls.specs.Objects.{is_some_thread}
use Rattle.host_objects.specs.System.{system_objects}
use Rattle.host_objects.proofs.Running.{home_runs, thread_stays}
use Rattle.host_objects.proofs.TurnSteps.{ran_slice}
use Rattle.host_objects.proofs.system.System.run.Goals as goal

pub run-ended-requires : goal.run-ended-requires
run-ended-requires g c = home_runs (system_objects c.args.self.now) c.args.thread c.args.process c.args.context.now c.requires.home c.requires.is

pub set_registers-requires : goal.set_registers-requires
set_registers-requires g c = ap is_some_thread (thread_stays _ _ c.args.thread c.args.process c.args.context.now c.run-ended.ensures.space c.run-ended.ensures.memory c.requires.is c.run-ended.ensures.runs c.run-ended.ensures.now)

pub returns : goal.returns
returns g c = ran_slice (system_objects c.args.self.now) _ c.args.thread c.args.process c.args.context.now c.run-ended.result c.run-ended.new.self c.run-ended.new.context c.requires.is c.run-ended.ensures c.set_registers.ensures
