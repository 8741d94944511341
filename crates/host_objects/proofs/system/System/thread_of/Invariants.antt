use Rattle.host_objects.proofs.EndedThreads.{IsLeft}
use Rattle.host_objects.proofs.system.System.thread_of.Given as goal

-- each thread of the process is still to come
abbrev pub invariant-loop-number : goal.invariant-loop-number
invariant-loop-number g l = IsLeft l.self.handles l.process l.number-iterator
