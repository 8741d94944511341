use Rattle.std.proofs.Common.{◌-◌, length}
use Rattle.host_monitor.proofs.Pieces.{TakesUpTo, Stands}
use Rattle.host_monitor.proofs.console.Console.take_all.Given as goal

abbrev pub invariant-loop-buffer : goal.invariant-loop-buffer
invariant-loop-buffer g l =
    Stands (TakesUpTo (g.I.Source.left l.initial.self) l.count l.bytes (g.I.Source.left l.self)) (g.I.Source.fault_count l.initial.self) (g.I.Source.fault_count l.self)

abbrev pub decreases-loop-buffer : goal.decreases-loop-buffer
decreases-loop-buffer g l = l.count - length l.bytes
