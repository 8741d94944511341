use Rattle.std.proofs.Common.{refl}
use Rattle.libos_calls.proofs.Keeps.{kept_of}
use Rattle.libos_state.specs.Answered as libos
use Rattle.turn_engine.specs.Moment.{moment}
use Rattle.turn_engine.specs.History.{Calls}
use Rattle.turn_engine.proofs.Carrying.{Serves-answered, StartsQuietly-answered}
use Rattle.turn_engine.proofs.Halting.{Halts-failed, Halts-answered, start-failed, start-answered}
use Rattle.turn_engine.proofs.Histories.{history_one, broken_here, broken_call}
use Rattle.turn_engine.proofs.Progress.{calls_left_pending, on_err}
use Rattle.turn_engine.proofs.machine.Machine.answer.Goals as goal

pub answered-requires : goal.answered-requires
answered-requires g c = kept_of c.args.self.now.os (g.H.Host.objects c.args.host.now) c.requires.fits

pub returns-in_err-reply-clause-halts : goal.returns-in_err-reply-clause-halts
returns-in_err-reply-clause-halts g c =
    on_err _ _ (Halts-failed (moment c.args.self.now.os (g.H.Host.objects c.args.host.now) (g.H.Host.told c.args.host.now) (g.H.Host.journal c.args.host.now) (g.H.Host.answered_count c.args.host.now))
    c.args.call.now (g.H.Host.told c.call.new.self) c.requires.asks c.requires.fits (g.met.H.Host.sound c.args.host.now) c.in_err-reply.ensures.left)

pub returns-in_err-answered-clause-halts : goal.returns-in_err-answered-clause-halts
returns-in_err-answered-clause-halts g c =
    on_err _ _ (Halts-answered (moment c.args.self.now.os (g.H.Host.objects c.args.host.now) (g.H.Host.told c.args.host.now) (g.H.Host.journal c.args.host.now) (g.H.Host.answered_count c.args.host.now))
    (moment (libos.answered c.args.self.now.os c.in_ok-reply.reply) (g.H.Host.objects c.call.new.self) (g.H.Host.told c.call.new.self) (g.H.Host.journal c.call.new.self) (g.H.Host.answered_count c.call.new.self))
    c.args.call.now c.in_ok-reply.reply refl c.requires.asks c.requires.fits (g.met.H.Host.sound c.args.host.now) c.in_ok-reply.ensures.row)

pub returns-clause-serves : goal.returns-clause-serves
returns-clause-serves g c =
    Serves-answered (moment c.args.self.now.os (g.H.Host.objects c.args.host.now) (g.H.Host.told c.args.host.now) (g.H.Host.journal c.args.host.now) (g.H.Host.answered_count c.args.host.now))
    (moment c.answered.new.os (g.H.Host.objects c.call.new.self) (g.H.Host.told c.call.new.self) (g.H.Host.journal c.call.new.self) (g.H.Host.answered_count c.call.new.self))
    c.args.call.now c.in_ok-reply.reply c.in_ok-answered.ensures.kept c.requires.asks c.requires.fits (g.met.H.Host.sound c.args.host.now) c.in_ok-reply.ensures.row

pub returns-clause-quiet : goal.returns-clause-quiet
returns-clause-quiet g c =
    StartsQuietly-answered (moment c.args.self.now.os (g.H.Host.objects c.args.host.now) (g.H.Host.told c.args.host.now) (g.H.Host.journal c.args.host.now) (g.H.Host.answered_count c.args.host.now))
    (moment c.answered.new.os (g.H.Host.objects c.call.new.self) (g.H.Host.told c.call.new.self) (g.H.Host.journal c.call.new.self) (g.H.Host.answered_count c.call.new.self))
    c.args.call.now c.in_ok-reply.reply c.in_ok-answered.ensures.kept c.in_ok-answered.ensures.value c.requires.asks c.requires.fits (g.met.H.Host.sound c.args.host.now) c.in_ok-reply.ensures.row

pub returns-clause-nearer : goal.returns-clause-nearer
returns-clause-nearer g c = c.in_ok-answered.ensures.nearer (calls_left_pending c.args.self.now.os c.args.call.now c.requires.asks)

pub returns-in_err-reply-clause-broken : goal.returns-in_err-reply-clause-broken
returns-in_err-reply-clause-broken g c =
    on_err _ _ (broken_call (moment c.args.self.now.os (g.H.Host.objects c.args.host.now) (g.H.Host.told c.args.host.now) (g.H.Host.journal c.args.host.now) (g.H.Host.answered_count c.args.host.now)) c.args.call.now (g.H.Host.told c.call.new.self) (g.H.Host.journal c.call.new.self) (g.H.Host.answered_count c.call.new.self)
    c.requires.asks c.in_err-reply.ensures.left c.in_err-reply.ensures.same_journal c.in_err-reply.ensures.same_answered)

pub returns-in_err-answered-clause-broken : goal.returns-in_err-answered-clause-broken
returns-in_err-answered-clause-broken g c =
    let last = (moment (libos.answered c.args.self.now.os c.in_ok-reply.reply) (g.H.Host.objects c.call.new.self) (g.H.Host.told c.call.new.self) (g.H.Host.journal c.call.new.self) (g.H.Host.answered_count c.call.new.self)) in
    on_err _ _ (broken_here 0 (moment c.args.self.now.os (g.H.Host.objects c.args.host.now) (g.H.Host.told c.args.host.now) (g.H.Host.journal c.args.host.now) (g.H.Host.answered_count c.args.host.now)) last
    (history_one (Calls c.args.call.now c.in_ok-reply.reply) (moment c.args.self.now.os (g.H.Host.objects c.args.host.now) (g.H.Host.told c.args.host.now) (g.H.Host.journal c.args.host.now) (g.H.Host.answered_count c.args.host.now)) last
    (record { asked = c.requires.asks; row = c.in_ok-reply.ensures.row; next = refl; kept = c.in_ok-reply.ensures.journal; counted = c.in_ok-reply.ensures.answered })))

pub returns-clause-history : goal.returns-clause-history
returns-clause-history g c =
    history_one (Calls c.args.call.now c.in_ok-reply.reply) (moment c.args.self.now.os (g.H.Host.objects c.args.host.now) (g.H.Host.told c.args.host.now) (g.H.Host.journal c.args.host.now) (g.H.Host.answered_count c.args.host.now))
    (moment c.answered.new.os (g.H.Host.objects c.call.new.self) (g.H.Host.told c.call.new.self) (g.H.Host.journal c.call.new.self) (g.H.Host.answered_count c.call.new.self))
    (record { asked = c.requires.asks; row = c.in_ok-reply.ensures.row; next = c.in_ok-answered.ensures.value; kept = c.in_ok-reply.ensures.journal; counted = c.in_ok-reply.ensures.answered })

pub returns-in_err-reply-clause-unchanged : goal.returns-in_err-reply-clause-unchanged
returns-in_err-reply-clause-unchanged g c =
    on_err _ _ (start-failed (moment c.args.self.now.os (g.H.Host.objects c.args.host.now) (g.H.Host.told c.args.host.now) (g.H.Host.journal c.args.host.now) (g.H.Host.answered_count c.args.host.now)) c.args.call.now (g.H.Host.told c.call.new.self) c.requires.asks c.requires.fits (g.met.H.Host.sound c.args.host.now) c.in_err-reply.ensures.left)

pub returns-in_err-answered-clause-unchanged : goal.returns-in_err-answered-clause-unchanged
returns-in_err-answered-clause-unchanged g c =
    on_err _ _ (start-answered (moment c.args.self.now.os (g.H.Host.objects c.args.host.now) (g.H.Host.told c.args.host.now) (g.H.Host.journal c.args.host.now) (g.H.Host.answered_count c.args.host.now)) c.args.call.now c.in_ok-reply.reply (g.H.Host.objects c.call.new.self) (g.H.Host.told c.call.new.self)
    c.requires.asks c.requires.fits (g.met.H.Host.sound c.args.host.now) c.in_ok-reply.ensures.row)
