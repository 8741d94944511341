use Rattle.std.proofs.Common.{refl, ◌∙◌, ap}
use Rattle.abi_calls.specs.declared.threads.Turned.TheVariants.{Ran, Idle, Exception}
use Rattle.libos_state.specs.declared.state.LibOs.{LibOs}
use Rattle.libos_state.specs.Entered.{entered}
use Rattle.turn_engine.specs.Moment.{moment}
use Rattle.turn_engine.specs.History.{Turns}
use Rattle.turn_engine.proofs.Histories.{history_one, history_then, broken_here, broken_then}
use Rattle.turn_engine.proofs.Progress.{on_err}
use Rattle.turn_engine.proofs.Turning.{no_files, MakesTurn-ran, MakesTurn-idle, StaysStuck-stuck, MakesTurn-served, HaltsTurn-served, HaltsTurn-same, Fits-entered, entered-boot, history_stuck}
use Rattle.turn_engine.proofs.machine.Machine.turn.Goals as goal

pub returns-in-Ran-clause-turn : goal.returns-in-Ran-clause-turn
returns-in-Ran-clause-turn g c =
    MakesTurn-ran (moment c.args.self.now.os (g.H.Host.objects c.args.host.now) (g.H.Host.told c.args.host.now) (g.H.Host.journal c.args.host.now) (g.H.Host.answered_count c.args.host.now)) (g.H.Host.objects c.turn.new.self) (g.H.Host.told c.turn.new.self) (g.H.Host.journal c.turn.new.self) (g.H.Host.answered_count c.turn.new.self)
    c.requires.up (g.met.H.Host.sound c.args.host.now) c.in-Ran.ensures.told c.in-Ran.ensures.turned

pub returns-in-Idle-clause-turn : goal.returns-in-Idle-clause-turn
returns-in-Idle-clause-turn g c =
    MakesTurn-idle (moment c.args.self.now.os (g.H.Host.objects c.args.host.now) (g.H.Host.told c.args.host.now) (g.H.Host.journal c.args.host.now) (g.H.Host.answered_count c.args.host.now)) (g.H.Host.objects c.turn.new.self) (g.H.Host.told c.turn.new.self) (g.H.Host.journal c.turn.new.self) (g.H.Host.answered_count c.turn.new.self)
    c.requires.up (g.met.H.Host.sound c.args.host.now) c.in-Idle.ensures.told c.in-Idle.ensures.turned

pub returns-in-Stuck-clause-turn : goal.returns-in-Stuck-clause-turn
returns-in-Stuck-clause-turn g c =
    StaysStuck-stuck (moment c.args.self.now.os (g.H.Host.objects c.args.host.now) (g.H.Host.told c.args.host.now) (g.H.Host.journal c.args.host.now) (g.H.Host.answered_count c.args.host.now)) (g.H.Host.objects c.turn.new.self) (g.H.Host.told c.turn.new.self) (g.H.Host.journal c.turn.new.self) (g.H.Host.answered_count c.turn.new.self)
    c.requires.up (g.met.H.Host.sound c.args.host.now) c.in-Stuck.ensures.told c.in-Stuck.ensures.journal c.in-Stuck.ensures.answered c.in-Stuck.ensures.turned

pub serve-requires : goal.serve-requires
serve-requires g c = record {
  fits = Fits-entered (moment c.args.self.now.os (g.H.Host.objects c.args.host.now) (g.H.Host.told c.args.host.now) (g.H.Host.journal c.args.host.now) (g.H.Host.answered_count c.args.host.now)) (moment c.enter.new.os (g.H.Host.objects c.turn.new.self) (g.H.Host.told c.turn.new.self) (g.H.Host.journal c.turn.new.self) (g.H.Host.answered_count c.turn.new.self)) c.in-Exception.upcall c.requires.up (g.met.H.Host.sound c.args.host.now) c.in-Exception.ensures.turned c.in-Exception.ensures.told
      c.in_ok-enter-in-Exception.ensures.turn no_files;
}

pub returns-in_ok-serve-in-Exception-clause-turn : goal.returns-in_ok-serve-in-Exception-clause-turn
returns-in_ok-serve-in-Exception-clause-turn g c =
    MakesTurn-served (moment c.args.self.now.os (g.H.Host.objects c.args.host.now) (g.H.Host.told c.args.host.now) (g.H.Host.journal c.args.host.now) (g.H.Host.answered_count c.args.host.now)) (moment c.enter.new.os (g.H.Host.objects c.turn.new.self) (g.H.Host.told c.turn.new.self) (g.H.Host.journal c.turn.new.self) (g.H.Host.answered_count c.turn.new.self)) c.in-Exception.upcall c.requires.up (g.met.H.Host.sound c.args.host.now) c.in-Exception.ensures.turned c.in-Exception.ensures.told
    c.in_ok-enter-in-Exception.ensures.turn (moment c.serve.new.self.os (g.H.Host.objects c.serve.new.host) (g.H.Host.told c.serve.new.host) (g.H.Host.journal c.serve.new.host) (g.H.Host.answered_count c.serve.new.host)) c.in_ok-serve-in-Exception.ensures.serves c.in_ok-serve-in-Exception.ensures.settled
    (ap (λ (os : LibOs). os.boot) c.in_ok-enter-in-Exception.ensures.value ∙ entered-boot c.args.self.now.os c.in-Exception.upcall ∙ c.requires.up.up)

pub returns-in_err-enter-in-Exception-clause-halts : goal.returns-in_err-enter-in-Exception-clause-halts
returns-in_err-enter-in-Exception-clause-halts g c = on_err _ _ (HaltsTurn-same (moment c.args.self.now.os (g.H.Host.objects c.args.host.now) (g.H.Host.told c.args.host.now) (g.H.Host.journal c.args.host.now) (g.H.Host.answered_count c.args.host.now)) (g.H.Host.told c.turn.new.self) c.in-Exception.ensures.told)

pub returns-in_err-serve-in-Exception-clause-halts : goal.returns-in_err-serve-in-Exception-clause-halts
returns-in_err-serve-in-Exception-clause-halts g c =
    on_err _ _ (HaltsTurn-served (moment c.args.self.now.os (g.H.Host.objects c.args.host.now) (g.H.Host.told c.args.host.now) (g.H.Host.journal c.args.host.now) (g.H.Host.answered_count c.args.host.now)) (moment c.enter.new.os (g.H.Host.objects c.turn.new.self) (g.H.Host.told c.turn.new.self) (g.H.Host.journal c.turn.new.self) (g.H.Host.answered_count c.turn.new.self)) c.in-Exception.upcall c.requires.up (g.met.H.Host.sound c.args.host.now) c.in-Exception.ensures.turned c.in-Exception.ensures.told
    c.in_ok-enter-in-Exception.ensures.turn (g.H.Host.told c.serve.new.host) c.in_err-serve-in-Exception.ensures.halts)

pub returns-in-Ran-clause-history : goal.returns-in-Ran-clause-history
returns-in-Ran-clause-history g c = history_one (Turns Ran) (moment c.args.self.now.os (g.H.Host.objects c.args.host.now) (g.H.Host.told c.args.host.now) (g.H.Host.journal c.args.host.now) (g.H.Host.answered_count c.args.host.now)) (moment c.args.self.now.os (g.H.Host.objects c.turn.new.self) (g.H.Host.told c.turn.new.self) (g.H.Host.journal c.turn.new.self) (g.H.Host.answered_count c.turn.new.self)) (record { goes = λ e. cc; settled = c.requires.up.settled; alive = c.requires.alive; turn = c.in-Ran.ensures.turned; next = refl; told = c.in-Ran.ensures.told; kept = c.in-Ran.ensures.journal; counted = c.in-Ran.ensures.answered })

pub returns-in-Idle-clause-history : goal.returns-in-Idle-clause-history
returns-in-Idle-clause-history g c = history_one (Turns Idle) (moment c.args.self.now.os (g.H.Host.objects c.args.host.now) (g.H.Host.told c.args.host.now) (g.H.Host.journal c.args.host.now) (g.H.Host.answered_count c.args.host.now)) (moment c.args.self.now.os (g.H.Host.objects c.turn.new.self) (g.H.Host.told c.turn.new.self) (g.H.Host.journal c.turn.new.self) (g.H.Host.answered_count c.turn.new.self)) (record { goes = λ e. cc; settled = c.requires.up.settled; alive = c.requires.alive; turn = c.in-Idle.ensures.turned; next = refl; told = c.in-Idle.ensures.told; kept = c.in-Idle.ensures.journal; counted = c.in-Idle.ensures.answered })

pub returns-in-Stuck-clause-history : goal.returns-in-Stuck-clause-history
returns-in-Stuck-clause-history g c =
    history_stuck (moment c.args.self.now.os (g.H.Host.objects c.args.host.now) (g.H.Host.told c.args.host.now) (g.H.Host.journal c.args.host.now) (g.H.Host.answered_count c.args.host.now)) (g.H.Host.objects c.turn.new.self) (g.H.Host.told c.turn.new.self) (g.H.Host.journal c.turn.new.self) (g.H.Host.answered_count c.turn.new.self)
    c.requires.up (g.met.H.Host.sound c.args.host.now) c.in-Stuck.ensures.told c.in-Stuck.ensures.journal c.in-Stuck.ensures.answered c.in-Stuck.ensures.turned

pub returns-in_ok-serve-in-Exception-clause-history : goal.returns-in_ok-serve-in-Exception-clause-history
returns-in_ok-serve-in-Exception-clause-history g c =
    history_then 1 0 (moment c.args.self.now.os (g.H.Host.objects c.args.host.now) (g.H.Host.told c.args.host.now) (g.H.Host.journal c.args.host.now) (g.H.Host.answered_count c.args.host.now)) (moment c.enter.new.os (g.H.Host.objects c.turn.new.self) (g.H.Host.told c.turn.new.self) (g.H.Host.journal c.turn.new.self) (g.H.Host.answered_count c.turn.new.self)) (moment c.serve.new.self.os (g.H.Host.objects c.serve.new.host) (g.H.Host.told c.serve.new.host) (g.H.Host.journal c.serve.new.host) (g.H.Host.answered_count c.serve.new.host))
    (history_one (Turns (Exception c.in-Exception.upcall)) (moment c.args.self.now.os (g.H.Host.objects c.args.host.now) (g.H.Host.told c.args.host.now) (g.H.Host.journal c.args.host.now) (g.H.Host.answered_count c.args.host.now)) (moment c.enter.new.os (g.H.Host.objects c.turn.new.self) (g.H.Host.told c.turn.new.self) (g.H.Host.journal c.turn.new.self) (g.H.Host.answered_count c.turn.new.self)) (record { goes = λ e. cc; settled = c.requires.up.settled; alive = c.requires.alive; turn = c.in-Exception.ensures.turned; next = c.in_ok-enter-in-Exception.ensures.value; told = c.in-Exception.ensures.told; kept = c.in-Exception.ensures.journal; counted = c.in-Exception.ensures.answered }))
    c.in_ok-serve-in-Exception.ensures.history

pub returns-in_err-enter-in-Exception-clause-broken : goal.returns-in_err-enter-in-Exception-clause-broken
returns-in_err-enter-in-Exception-clause-broken g c =
    on_err _ _ (broken_here 1 (moment c.args.self.now.os (g.H.Host.objects c.args.host.now) (g.H.Host.told c.args.host.now) (g.H.Host.journal c.args.host.now) (g.H.Host.answered_count c.args.host.now)) (moment (entered c.args.self.now.os c.in-Exception.upcall) (g.H.Host.objects c.turn.new.self) (g.H.Host.told c.turn.new.self) (g.H.Host.journal c.turn.new.self) (g.H.Host.answered_count c.turn.new.self)) (history_one (Turns (Exception c.in-Exception.upcall)) (moment c.args.self.now.os (g.H.Host.objects c.args.host.now) (g.H.Host.told c.args.host.now) (g.H.Host.journal c.args.host.now) (g.H.Host.answered_count c.args.host.now)) (moment (entered c.args.self.now.os c.in-Exception.upcall) (g.H.Host.objects c.turn.new.self) (g.H.Host.told c.turn.new.self) (g.H.Host.journal c.turn.new.self) (g.H.Host.answered_count c.turn.new.self)) (record { goes = λ e. cc; settled = c.requires.up.settled; alive = c.requires.alive; turn = c.in-Exception.ensures.turned; next = refl; told = c.in-Exception.ensures.told; kept = c.in-Exception.ensures.journal; counted = c.in-Exception.ensures.answered })))

pub returns-in_err-serve-in-Exception-clause-broken : goal.returns-in_err-serve-in-Exception-clause-broken
returns-in_err-serve-in-Exception-clause-broken g c =
    on_err _ _ (broken_then 1 0 (moment c.args.self.now.os (g.H.Host.objects c.args.host.now) (g.H.Host.told c.args.host.now) (g.H.Host.journal c.args.host.now) (g.H.Host.answered_count c.args.host.now)) (moment c.enter.new.os (g.H.Host.objects c.turn.new.self) (g.H.Host.told c.turn.new.self) (g.H.Host.journal c.turn.new.self) (g.H.Host.answered_count c.turn.new.self)) (g.H.Host.told c.serve.new.host) (g.H.Host.journal c.serve.new.host) (g.H.Host.answered_count c.serve.new.host)
    (history_one (Turns (Exception c.in-Exception.upcall)) (moment c.args.self.now.os (g.H.Host.objects c.args.host.now) (g.H.Host.told c.args.host.now) (g.H.Host.journal c.args.host.now) (g.H.Host.answered_count c.args.host.now)) (moment c.enter.new.os (g.H.Host.objects c.turn.new.self) (g.H.Host.told c.turn.new.self) (g.H.Host.journal c.turn.new.self) (g.H.Host.answered_count c.turn.new.self)) (record { goes = λ e. cc; settled = c.requires.up.settled; alive = c.requires.alive; turn = c.in-Exception.ensures.turned; next = c.in_ok-enter-in-Exception.ensures.value; told = c.in-Exception.ensures.told; kept = c.in-Exception.ensures.journal; counted = c.in-Exception.ensures.answered }))
    c.in_err-serve-in-Exception.ensures.broken)
