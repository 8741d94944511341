use Rattle.std.proofs.Common.{length}
use Rattle.bas_outcomes.proofs.Giving.{GivesUpTo}
use Rattle.bas_outcomes.proofs.note.give_all.Given as goal

abbrev pub invariant-loop-rest : goal.invariant-loop-rest
invariant-loop-rest g l =
    GivesUpTo (g.N.Sink.given l.initial.sink) l.text l.rest (g.N.Sink.given l.sink) (g.N.Sink.fault_count l.initial.sink) (g.N.Sink.fault_count l.sink)

abbrev pub decreases-loop-rest : goal.decreases-loop-rest
decreases-loop-rest g l = length l.rest
