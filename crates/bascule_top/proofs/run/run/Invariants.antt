use Rattle.std.proofs.Common.{◌≤◌}
use Rattle.turn_engine.specs.Moment.{moment}
use Rattle.bascule_top.specs.Runs.{GoneOn}
use Rattle.bascule_top.proofs.run.run.Given as goal

abbrev pub invariant-loop-turn : goal.invariant-loop-turn
invariant-loop-turn g l = record {
  gone : GoneOn l.turn (moment l.fn.machine.os (g.H.Host.objects l.fn.host) (g.H.Host.told l.fn.host) (g.H.Host.journal l.fn.host) (g.H.Host.answered_count l.fn.host)) (moment l.machine.os (g.H.Host.objects l.host) (g.H.Host.told l.host) (g.H.Host.journal l.host) (g.H.Host.answered_count l.host));
  later : g.H.Host.fault_count l.fn.host ≤ g.H.Host.fault_count l.host;
}
