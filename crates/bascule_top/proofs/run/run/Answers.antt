use Rattle.std.proofs.Common.{rules, ◌≡◌, ◌≢◌, ◌∙◌, sym, ◌<◌, ◌≤◌, arith, subst, None}
use Rattle.bascule_top.specs.Commands.{TURNS}
use Rattle.libos_state.specs.Records.{exit_code}
use Rattle.turn_engine.specs.declared.machine.TurnEnd.TheVariants as turned
use Rattle.turn_engine.specs.Moment.{moment}
use Rattle.turn_engine.proofs.Progress.{on_err}
use Rattle.bascule_top.specs.Runs.{GoneOn}
use Rattle.bascule_top.proofs.Going.{GoneOn-none, GoneOn-goes, EndsRun-exited, EndsRun-bound, EndsRun-stays, BreaksRun-turn}
use Rattle.bascule_top.proofs.run.run.Goals.{in-Ran, in-Idle, in-Served}
use Rattle.bascule_top.proofs.run.run.Goals as goal

pub loop-turn-init : goal.loop-turn-init
loop-turn-init g c = record {
  gone = GoneOn-none (moment c.args.machine.now.os (g.H.Host.objects c.args.host.now) (g.H.Host.told c.args.host.now) (g.H.Host.journal c.args.host.now) (g.H.Host.answered_count c.args.host.now)) c.requires.up c.requires.unturned;
  later = omega arith;
}

pub loop-turn-preserved : goal.loop-turn-preserved
loop-turn-preserved g c =
    let alive : exit_code c.loop-turn.machine.os ≡ None = search rules in
    let risen : g.H.Host.fault_count c.loop-turn.host ≤ g.H.Host.fault_count c.turn.new.host = c.in_ok-turn.ensures.cause.later in
    let later : g.H.Host.fault_count c.args.host.now ≤ g.H.Host.fault_count c.loop-turn.host = c.loop-turn.invariant.later in
    let goes : c.in_ok-turn.field-0 ≢ turned.Stuck = elim c.match-branch-2.branch [
      | in-Ran w ↦ λ e. absurd (let f : turned.Ran ≡ turned.Stuck = sym w.in-Ran.is ∙ e in cc)
      | in-Idle w ↦ λ e. absurd (let f : turned.Idle ≡ turned.Stuck = sym w.in-Idle.is ∙ e in cc)
      | in-Served w ↦ λ e. absurd (let f : turned.Served ≡ turned.Stuck = sym w.in-Served.is ∙ e in cc)
    ] in
    record {
      gone = GoneOn-goes c.loop-turn.turn c.in_ok-turn.field-0 (moment c.args.machine.now.os (g.H.Host.objects c.args.host.now) (g.H.Host.told c.args.host.now) (g.H.Host.journal c.args.host.now) (g.H.Host.answered_count c.args.host.now)) (moment c.loop-turn.machine.os (g.H.Host.objects c.loop-turn.host) (g.H.Host.told c.loop-turn.host) (g.H.Host.journal c.loop-turn.host) (g.H.Host.answered_count c.loop-turn.host)) (moment c.turn.new.self.os (g.H.Host.objects c.turn.new.host) (g.H.Host.told c.turn.new.host) (g.H.Host.journal c.turn.new.host) (g.H.Host.answered_count c.turn.new.host)) goes c.loop-turn.invariant.gone alive c.in_ok-turn.ensures.turn c.in_ok-turn.ensures.history;
      later = omega arith;
    }

pub returns-in-Some-clause-ends : goal.returns-in-Some-clause-ends
returns-in-Some-clause-ends g c =
    let below : c.loop-turn.turn < TURNS = c.loop-turn-test.true in
    EndsRun-exited c.loop-turn.turn TURNS c.in-Some.code (moment c.args.machine.now.os (g.H.Host.objects c.args.host.now) (g.H.Host.told c.args.host.now) (g.H.Host.journal c.args.host.now) (g.H.Host.answered_count c.args.host.now)) (moment c.loop-turn.machine.os (g.H.Host.objects c.loop-turn.host) (g.H.Host.told c.loop-turn.host) (g.H.Host.journal c.loop-turn.host) (g.H.Host.answered_count c.loop-turn.host)) (omega arith) c.loop-turn.invariant.gone (search rules)

pub returns-in-Stuck-clause-ends : goal.returns-in-Stuck-clause-ends
returns-in-Stuck-clause-ends g c =
    let alive : exit_code c.loop-turn.machine.os ≡ None = search rules in
    EndsRun-stays c.loop-turn.turn TURNS c.in_ok-turn.field-0 (moment c.args.machine.now.os (g.H.Host.objects c.args.host.now) (g.H.Host.told c.args.host.now) (g.H.Host.journal c.args.host.now) (g.H.Host.answered_count c.args.host.now)) (moment c.loop-turn.machine.os (g.H.Host.objects c.loop-turn.host) (g.H.Host.told c.loop-turn.host) (g.H.Host.journal c.loop-turn.host) (g.H.Host.answered_count c.loop-turn.host)) (moment c.turn.new.self.os (g.H.Host.objects c.turn.new.host) (g.H.Host.told c.turn.new.host) (g.H.Host.journal c.turn.new.host) (g.H.Host.answered_count c.turn.new.host)) c.in-Stuck.is c.loop-turn-test.true c.loop-turn.invariant.gone alive c.in_ok-turn.ensures.turn c.in_ok-turn.ensures.ends

pub returns-in_err-turn-clause-breaks : goal.returns-in_err-turn-clause-breaks
returns-in_err-turn-clause-breaks g c =
    let below : c.loop-turn.turn < TURNS = c.loop-turn-test.true in
    on_err _ _ (BreaksRun-turn c.loop-turn.turn TURNS (moment c.args.machine.now.os (g.H.Host.objects c.args.host.now) (g.H.Host.told c.args.host.now) (g.H.Host.journal c.args.host.now) (g.H.Host.answered_count c.args.host.now)) (moment c.loop-turn.machine.os (g.H.Host.objects c.loop-turn.host) (g.H.Host.told c.loop-turn.host) (g.H.Host.journal c.loop-turn.host) (g.H.Host.answered_count c.loop-turn.host)) (g.H.Host.told c.turn.new.host) (g.H.Host.journal c.turn.new.host) (g.H.Host.answered_count c.turn.new.host)
    below c.loop-turn.invariant.gone c.in_err-turn.ensures.halts c.in_err-turn.ensures.broken)

pub returns-in-Some-exit_code-clause-ends : goal.returns-in-Some-exit_code-clause-ends
returns-in-Some-exit_code-clause-ends g c =
    let within : c.loop-turn.turn ≤ TURNS = search rules in
    EndsRun-exited c.loop-turn.turn TURNS c.in-Some-exit_code.code (moment c.args.machine.now.os (g.H.Host.objects c.args.host.now) (g.H.Host.told c.args.host.now) (g.H.Host.journal c.args.host.now) (g.H.Host.answered_count c.args.host.now)) (moment c.loop-turn.machine.os (g.H.Host.objects c.loop-turn.host) (g.H.Host.told c.loop-turn.host) (g.H.Host.journal c.loop-turn.host) (g.H.Host.answered_count c.loop-turn.host)) within c.loop-turn.invariant.gone (search rules)

pub returns-in-None-clause-ends : goal.returns-in-None-clause-ends
returns-in-None-clause-ends g c =
    let within : c.loop-turn.turn ≤ TURNS = search rules in
    let all = c.loop-turn-test.false in
    EndsRun-bound TURNS (moment c.args.machine.now.os (g.H.Host.objects c.args.host.now) (g.H.Host.told c.args.host.now) (g.H.Host.journal c.args.host.now) (g.H.Host.answered_count c.args.host.now)) (moment c.loop-turn.machine.os (g.H.Host.objects c.loop-turn.host) (g.H.Host.told c.loop-turn.host) (g.H.Host.journal c.loop-turn.host) (g.H.Host.answered_count c.loop-turn.host)) (subst (λ k. GoneOn k (moment c.args.machine.now.os (g.H.Host.objects c.args.host.now) (g.H.Host.told c.args.host.now) (g.H.Host.journal c.args.host.now) (g.H.Host.answered_count c.args.host.now)) (moment c.loop-turn.machine.os (g.H.Host.objects c.loop-turn.host) (g.H.Host.told c.loop-turn.host) (g.H.Host.journal c.loop-turn.host) (g.H.Host.answered_count c.loop-turn.host))) (let e : c.loop-turn.turn ≡ TURNS = omega arith in e) c.loop-turn.invariant.gone) (search rules)
