use Rattle.std.proofs.Common.{◌≤◌, arith}
use Rattle.turn_engine.specs.Moment.{moment}
use Rattle.turn_engine.proofs.Carrying.{Serves-same, Serves-then, StartsQuietly-same, StartsQuietly-then, unchanged-then}
use Rattle.turn_engine.proofs.Halting.{Halts-served}
use Rattle.turn_engine.proofs.Histories.{history_none, history_then, broken_then}
use Rattle.turn_engine.proofs.Progress.{on_err}
use Rattle.turn_engine.proofs.machine.Machine.serve.Goals as goal

pub loop-init : goal.loop-init
loop-init g c = record {
  serves = Serves-same (moment c.args.self.now.os (g.H.Host.objects c.args.host.now) (g.H.Host.told c.args.host.now) (g.H.Host.journal c.args.host.now) (g.H.Host.answered_count c.args.host.now)) c.requires.fits;
  quiet = StartsQuietly-same (moment c.args.self.now.os (g.H.Host.objects c.args.host.now) (g.H.Host.told c.args.host.now) (g.H.Host.journal c.args.host.now) (g.H.Host.answered_count c.args.host.now));
  history = history_none (moment c.args.self.now.os (g.H.Host.objects c.args.host.now) (g.H.Host.told c.args.host.now) (g.H.Host.journal c.args.host.now) (g.H.Host.answered_count c.args.host.now));
  later = omega arith;
}

pub loop-preserved : goal.loop-preserved
loop-preserved g c =
    let risen : g.H.Host.fault_count c.loop.host ≤ g.H.Host.fault_count c.step.new.host = c.in_ok-step.ensures.cause.later in
    let later : g.H.Host.fault_count c.args.host.now ≤ g.H.Host.fault_count c.loop.host = c.loop.invariant.later in
    record {
      serves = Serves-then (moment c.args.self.now.os (g.H.Host.objects c.args.host.now) (g.H.Host.told c.args.host.now) (g.H.Host.journal c.args.host.now) (g.H.Host.answered_count c.args.host.now)) (moment c.loop.self.os (g.H.Host.objects c.loop.host) (g.H.Host.told c.loop.host) (g.H.Host.journal c.loop.host) (g.H.Host.answered_count c.loop.host)) (moment c.step.new.self.os (g.H.Host.objects c.step.new.host) (g.H.Host.told c.step.new.host) (g.H.Host.journal c.step.new.host) (g.H.Host.answered_count c.step.new.host)) c.loop.invariant.serves c.in_ok-step.ensures.serves;
      quiet = StartsQuietly-then (moment c.args.self.now.os (g.H.Host.objects c.args.host.now) (g.H.Host.told c.args.host.now) (g.H.Host.journal c.args.host.now) (g.H.Host.answered_count c.args.host.now)) (moment c.loop.self.os (g.H.Host.objects c.loop.host) (g.H.Host.told c.loop.host) (g.H.Host.journal c.loop.host) (g.H.Host.answered_count c.loop.host)) (moment c.step.new.self.os (g.H.Host.objects c.step.new.host) (g.H.Host.told c.step.new.host) (g.H.Host.journal c.step.new.host) (g.H.Host.answered_count c.step.new.host)) c.loop.invariant.quiet c.in_ok-step.ensures.quiet;
      history = history_then 0 0 (moment c.args.self.now.os (g.H.Host.objects c.args.host.now) (g.H.Host.told c.args.host.now) (g.H.Host.journal c.args.host.now) (g.H.Host.answered_count c.args.host.now)) (moment c.loop.self.os (g.H.Host.objects c.loop.host) (g.H.Host.told c.loop.host) (g.H.Host.journal c.loop.host) (g.H.Host.answered_count c.loop.host)) (moment c.step.new.self.os (g.H.Host.objects c.step.new.host) (g.H.Host.told c.step.new.host) (g.H.Host.journal c.step.new.host) (g.H.Host.answered_count c.step.new.host)) c.loop.invariant.history c.in_ok-step.ensures.history;
      later = omega arith;
    }

pub returns-in_err-step-clause-halts : goal.returns-in_err-step-clause-halts
returns-in_err-step-clause-halts g c = on_err _ _ (Halts-served (moment c.args.self.now.os (g.H.Host.objects c.args.host.now) (g.H.Host.told c.args.host.now) (g.H.Host.journal c.args.host.now) (g.H.Host.answered_count c.args.host.now)) (moment c.loop.self.os (g.H.Host.objects c.loop.host) (g.H.Host.told c.loop.host) (g.H.Host.journal c.loop.host) (g.H.Host.answered_count c.loop.host)) (g.H.Host.told c.step.new.host) c.loop.invariant.serves c.in_err-step.ensures.halts)

pub returns-in_err-step-clause-broken : goal.returns-in_err-step-clause-broken
returns-in_err-step-clause-broken g c =
    on_err _ _ (broken_then 0 0 (moment c.args.self.now.os (g.H.Host.objects c.args.host.now) (g.H.Host.told c.args.host.now) (g.H.Host.journal c.args.host.now) (g.H.Host.answered_count c.args.host.now)) (moment c.loop.self.os (g.H.Host.objects c.loop.host) (g.H.Host.told c.loop.host) (g.H.Host.journal c.loop.host) (g.H.Host.answered_count c.loop.host)) (g.H.Host.told c.step.new.host) (g.H.Host.journal c.step.new.host) (g.H.Host.answered_count c.step.new.host)
    c.loop.invariant.history c.in_err-step.ensures.broken)

pub returns-clause-serves : goal.returns-clause-serves
returns-clause-serves g c = Serves-then (moment c.args.self.now.os (g.H.Host.objects c.args.host.now) (g.H.Host.told c.args.host.now) (g.H.Host.journal c.args.host.now) (g.H.Host.answered_count c.args.host.now)) (moment c.loop.self.os (g.H.Host.objects c.loop.host) (g.H.Host.told c.loop.host) (g.H.Host.journal c.loop.host) (g.H.Host.answered_count c.loop.host)) (moment c.step.new.self.os (g.H.Host.objects c.step.new.host) (g.H.Host.told c.step.new.host) (g.H.Host.journal c.step.new.host) (g.H.Host.answered_count c.step.new.host)) c.loop.invariant.serves c.in_ok-step.ensures.serves

pub returns-clause-quiet : goal.returns-clause-quiet
returns-clause-quiet g c = StartsQuietly-then (moment c.args.self.now.os (g.H.Host.objects c.args.host.now) (g.H.Host.told c.args.host.now) (g.H.Host.journal c.args.host.now) (g.H.Host.answered_count c.args.host.now)) (moment c.loop.self.os (g.H.Host.objects c.loop.host) (g.H.Host.told c.loop.host) (g.H.Host.journal c.loop.host) (g.H.Host.answered_count c.loop.host)) (moment c.step.new.self.os (g.H.Host.objects c.step.new.host) (g.H.Host.told c.step.new.host) (g.H.Host.journal c.step.new.host) (g.H.Host.answered_count c.step.new.host)) c.loop.invariant.quiet c.in_ok-step.ensures.quiet

pub returns-clause-history : goal.returns-clause-history
returns-clause-history g c = history_then 0 0 (moment c.args.self.now.os (g.H.Host.objects c.args.host.now) (g.H.Host.told c.args.host.now) (g.H.Host.journal c.args.host.now) (g.H.Host.answered_count c.args.host.now)) (moment c.loop.self.os (g.H.Host.objects c.loop.host) (g.H.Host.told c.loop.host) (g.H.Host.journal c.loop.host) (g.H.Host.answered_count c.loop.host)) (moment c.step.new.self.os (g.H.Host.objects c.step.new.host) (g.H.Host.told c.step.new.host) (g.H.Host.journal c.step.new.host) (g.H.Host.answered_count c.step.new.host)) c.loop.invariant.history c.in_ok-step.ensures.history

pub returns-in_err-step-clause-unchanged : goal.returns-in_err-step-clause-unchanged
returns-in_err-step-clause-unchanged g c =
    on_err _ _ (unchanged-then (moment c.args.self.now.os (g.H.Host.objects c.args.host.now) (g.H.Host.told c.args.host.now) (g.H.Host.journal c.args.host.now) (g.H.Host.answered_count c.args.host.now)) (moment c.loop.self.os (g.H.Host.objects c.loop.host) (g.H.Host.told c.loop.host) (g.H.Host.journal c.loop.host) (g.H.Host.answered_count c.loop.host)) (g.H.Host.told c.step.new.host) c.loop.invariant.quiet c.in_err-step.ensures.unchanged)
