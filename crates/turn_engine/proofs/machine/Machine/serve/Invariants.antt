use Rattle.std.proofs.Common.{◌≤◌}
use Rattle.libos_calls.specs.Left.{calls_left}
use Rattle.turn_engine.specs.Moment.{moment}
use Rattle.turn_engine.specs.Serves.{Serves}
use Rattle.turn_engine.specs.Halts.{StartsQuietly}
use Rattle.turn_engine.specs.History.{History}
use Rattle.turn_engine.proofs.machine.Machine.serve.Given as goal

abbrev pub invariant-loop : goal.invariant-loop
invariant-loop g l = record {
  serves : Serves (moment l.fn.self.os (g.H.Host.objects l.fn.host) (g.H.Host.told l.fn.host) (g.H.Host.journal l.fn.host) (g.H.Host.answered_count l.fn.host)) (moment l.self.os (g.H.Host.objects l.host) (g.H.Host.told l.host) (g.H.Host.journal l.host) (g.H.Host.answered_count l.host));
  quiet : StartsQuietly (moment l.fn.self.os (g.H.Host.objects l.fn.host) (g.H.Host.told l.fn.host) (g.H.Host.journal l.fn.host) (g.H.Host.answered_count l.fn.host)) (moment l.self.os (g.H.Host.objects l.host) (g.H.Host.told l.host) (g.H.Host.journal l.host) (g.H.Host.answered_count l.host));
  history : History 0 (moment l.fn.self.os (g.H.Host.objects l.fn.host) (g.H.Host.told l.fn.host) (g.H.Host.journal l.fn.host) (g.H.Host.answered_count l.fn.host)) (moment l.self.os (g.H.Host.objects l.host) (g.H.Host.told l.host) (g.H.Host.journal l.host) (g.H.Host.answered_count l.host));
  later : g.H.Host.fault_count l.fn.host ≤ g.H.Host.fault_count l.host;
}

abbrev pub decreases-loop : goal.decreases-loop
decreases-loop g l = calls_left l.self.os
