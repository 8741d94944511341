use Rattle.std.proofs.Common.{length}
use Rattle.host_monitor.proofs.Pieces.{GivesUpTo, Stands}
use Rattle.host_monitor.proofs.output.give_all.Given as goal

abbrev pub invariant-loop-rest : goal.invariant-loop-rest
invariant-loop-rest g l =
    Stands (GivesUpTo (g.S.Sink.given l.initial.sink) l.bytes l.rest (g.S.Sink.given l.sink)) (g.S.Sink.fault_count l.initial.sink) (g.S.Sink.fault_count l.sink)

abbrev pub decreases-loop-rest : goal.decreases-loop-rest
decreases-loop-rest g l = length l.rest
