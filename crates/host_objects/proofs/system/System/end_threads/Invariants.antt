use Rattle.std.proofs.Common.{◌≡◌}
use Rattle.std.specs.FinMap.{len}
use Rattle.abi_calls.specs.Processes.{without_threads}
use Rattle.host_objects.specs.System.{system_objects}
use Rattle.host_objects.proofs.system.System.end_threads.Given as goal

-- what is left to end makes what all that is to end makes
abbrev pub invariant-loop-thread : goal.invariant-loop-thread
invariant-loop-thread g l = without_threads (system_objects l.self) l.process ≡ without_threads (system_objects l.fn.self) l.process

abbrev pub decreases-loop-thread : goal.decreases-loop-thread
decreases-loop-thread g l = len l.self.handles
