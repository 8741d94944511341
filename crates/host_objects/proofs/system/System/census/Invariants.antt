use Rattle.abi_calls.specs.Objects.{is_process, is_thread}
use Rattle.abi_calls.specs.Processes.{is_running}
use Rattle.host_objects.proofs.Counts.{CountsOn}
use Rattle.host_objects.proofs.system.System.census.Given as goal

-- what was counted and what is left make all
abbrev pub invariant-loop-object : goal.invariant-loop-object
invariant-loop-object g l = record {
  processes : CountsOn is_process l.processes l.object-iterator l.fn.self.handles;
  running : CountsOn is_running l.running l.object-iterator l.fn.self.handles;
  threads : CountsOn is_thread l.threads l.object-iterator l.fn.self.handles;
}
