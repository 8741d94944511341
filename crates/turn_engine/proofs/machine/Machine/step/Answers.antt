use Rattle.libos_calls.proofs.Keeps.{kept_of}
use Rattle.turn_engine.specs.Moment.{moment}
use Rattle.turn_engine.proofs.Carrying.{Serves-same, StartsQuietly-same, unchanged-same}
use Rattle.turn_engine.proofs.Halting.{Halts-same}
use Rattle.turn_engine.proofs.Histories.{history_none, broken_here}
use Rattle.turn_engine.proofs.Progress.{on_err}
use Rattle.turn_engine.proofs.machine.Machine.step.Goals as goal

pub pending-requires : goal.pending-requires
pending-requires g c = kept_of c.args.self.now.os (g.H.Host.objects c.args.host.now) c.requires.fits

pub returns-in_err-call-clause-halts : goal.returns-in_err-call-clause-halts
returns-in_err-call-clause-halts g c = on_err _ _ (Halts-same (moment c.args.self.now.os (g.H.Host.objects c.args.host.now) (g.H.Host.told c.args.host.now) (g.H.Host.journal c.args.host.now) (g.H.Host.answered_count c.args.host.now)))

pub returns-in-None-clause-serves : goal.returns-in-None-clause-serves
returns-in-None-clause-serves g c = Serves-same (moment c.args.self.now.os (g.H.Host.objects c.args.host.now) (g.H.Host.told c.args.host.now) (g.H.Host.journal c.args.host.now) (g.H.Host.answered_count c.args.host.now)) c.requires.fits

pub returns-in-None-clause-quiet : goal.returns-in-None-clause-quiet
returns-in-None-clause-quiet g c = StartsQuietly-same (moment c.args.self.now.os (g.H.Host.objects c.args.host.now) (g.H.Host.told c.args.host.now) (g.H.Host.journal c.args.host.now) (g.H.Host.answered_count c.args.host.now))

pub returns-in_err-call-clause-broken : goal.returns-in_err-call-clause-broken
returns-in_err-call-clause-broken g c = on_err _ _ (broken_here 0 (moment c.args.self.now.os (g.H.Host.objects c.args.host.now) (g.H.Host.told c.args.host.now) (g.H.Host.journal c.args.host.now) (g.H.Host.answered_count c.args.host.now)) (moment c.args.self.now.os (g.H.Host.objects c.args.host.now) (g.H.Host.told c.args.host.now) (g.H.Host.journal c.args.host.now) (g.H.Host.answered_count c.args.host.now)) (history_none (moment c.args.self.now.os (g.H.Host.objects c.args.host.now) (g.H.Host.told c.args.host.now) (g.H.Host.journal c.args.host.now) (g.H.Host.answered_count c.args.host.now))))

pub returns-in-None-clause-history : goal.returns-in-None-clause-history
returns-in-None-clause-history g c = history_none (moment c.args.self.now.os (g.H.Host.objects c.args.host.now) (g.H.Host.told c.args.host.now) (g.H.Host.journal c.args.host.now) (g.H.Host.answered_count c.args.host.now))

pub returns-in_err-call-clause-unchanged : goal.returns-in_err-call-clause-unchanged
returns-in_err-call-clause-unchanged g c = on_err _ _ (unchanged-same c.args.self.now.os (g.H.Host.told c.args.host.now))

pub returns-in_err-answer-in-Some-clause-unchanged : goal.returns-in_err-answer-in-Some-clause-unchanged
returns-in_err-answer-in-Some-clause-unchanged g c = on_err _ _ c.in_err-answer-in-Some.ensures.unchanged
