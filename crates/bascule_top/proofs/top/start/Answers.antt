use Rattle.std.proofs.Common.{rules, ◌≡◌}
use Rattle.libos_state.specs.declared.state.Boot.TheVariants as boots
use Rattle.turn_engine.specs.Moment.{moment}
use Rattle.turn_engine.proofs.Progress.{on_err}
use Rattle.bascule_top.specs.declared.run.RunEnd.TheVariants as run
use Rattle.bascule_top.specs.Outcomes.{opening}
use Rattle.bascule_top.specs.Words.{launch_of}
use Rattle.bascule_top.proofs.Saying.{Says-no_program, Says-bad_program, Says-run, Came-run, IsGivenUp-begun, IsGivenUp-run}
use Rattle.bascule_top.proofs.top.start.Goals as goal

pub returns-in_err-no_program-in-NoProgram-clause-given_up : goal.returns-in_err-no_program-in-NoProgram-clause-given_up
returns-in_err-no_program-in-NoProgram-clause-given_up g c =
    on_err _ _ (IsGivenUp-begun (launch_of c.args.name.now c.args.args.now) (moment (opening (launch_of c.args.name.now c.args.args.now)) (g.H.Host.objects c.args.host.now) (g.H.Host.told c.args.host.now) (g.H.Host.journal c.args.host.now) (g.H.Host.answered_count c.args.host.now))
    (moment c.in_ok-machine.machine.os (g.H.Host.objects c.begin.new.host) (g.H.Host.told c.begin.new.host) (g.H.Host.journal c.begin.new.host) (g.H.Host.answered_count c.begin.new.host)) c.in_ok-machine.ensures.begun)

pub returns-in-NoProgram-clause-says : goal.returns-in-NoProgram-clause-says
returns-in-NoProgram-clause-says g c =
    Says-no_program (launch_of c.args.name.now c.args.args.now) (moment (opening (launch_of c.args.name.now c.args.args.now)) (g.H.Host.objects c.args.host.now) (g.H.Host.told c.args.host.now) (g.H.Host.journal c.args.host.now) (g.H.Host.answered_count c.args.host.now))
    (moment c.in_ok-machine.machine.os (g.H.Host.objects c.begin.new.host) (g.H.Host.told c.begin.new.host) (g.H.Host.journal c.begin.new.host) (g.H.Host.answered_count c.begin.new.host)) c.in_ok-machine.ensures.begun
    c.in_ok-no_program-in-NoProgram.field-0 (search rules) (search rules)

pub returns-in-BadProgram-clause-says : goal.returns-in-BadProgram-clause-says
returns-in-BadProgram-clause-says g c =
    Says-bad_program (launch_of c.args.name.now c.args.args.now) (moment (opening (launch_of c.args.name.now c.args.args.now)) (g.H.Host.objects c.args.host.now) (g.H.Host.told c.args.host.now) (g.H.Host.journal c.args.host.now) (g.H.Host.answered_count c.args.host.now))
    (moment c.in_ok-machine.machine.os (g.H.Host.objects c.begin.new.host) (g.H.Host.told c.begin.new.host) (g.H.Host.journal c.begin.new.host) (g.H.Host.answered_count c.begin.new.host)) c.in_ok-machine.ensures.begun
    c.in-BadProgram.cause (search rules)

pub returns-in_err-code-in-Up-clause-given_up : goal.returns-in_err-code-in-Up-clause-given_up
returns-in_err-code-in-Up-clause-given_up g c =
    let up : c.in_ok-machine.machine.os.boot ≡ boots.Up = search rules in
    on_err _ _ (IsGivenUp-run (launch_of c.args.name.now c.args.args.now) (moment (opening (launch_of c.args.name.now c.args.args.now)) (g.H.Host.objects c.args.host.now) (g.H.Host.told c.args.host.now) (g.H.Host.journal c.args.host.now) (g.H.Host.answered_count c.args.host.now))
    (moment c.in_ok-machine.machine.os (g.H.Host.objects c.begin.new.host) (g.H.Host.told c.begin.new.host) (g.H.Host.journal c.begin.new.host) (g.H.Host.answered_count c.begin.new.host)) c.in_ok-machine.ensures.begun
    (g.H.Host.told c.run.new.host) (g.H.Host.journal c.run.new.host) (g.H.Host.answered_count c.run.new.host) up c.in_err-code-in-Up.ensures.breaks)

pub returns-in-Exited-clause-says : goal.returns-in-Exited-clause-says
returns-in-Exited-clause-says g c =
    let up : c.in_ok-machine.machine.os.boot ≡ boots.Up = search rules in
    Says-run (launch_of c.args.name.now c.args.args.now) (moment (opening (launch_of c.args.name.now c.args.args.now)) (g.H.Host.objects c.args.host.now) (g.H.Host.told c.args.host.now) (g.H.Host.journal c.args.host.now) (g.H.Host.answered_count c.args.host.now))
    (moment c.in_ok-machine.machine.os (g.H.Host.objects c.begin.new.host) (g.H.Host.told c.begin.new.host) (g.H.Host.journal c.begin.new.host) (g.H.Host.answered_count c.begin.new.host)) c.in_ok-machine.ensures.begun
    c.in_ok-code-in-Up.field-0 (run.Exited c.in-Exited.code) (moment c.run.new.machine.os (g.H.Host.objects c.run.new.host) (g.H.Host.told c.run.new.host) (g.H.Host.journal c.run.new.host) (g.H.Host.answered_count c.run.new.host)) c.in-Exited.is up c.in_ok-code-in-Up.ensures.ends

pub returns-in-Exited-clause-history : goal.returns-in-Exited-clause-history
returns-in-Exited-clause-history g c =
    Came-run (launch_of c.args.name.now c.args.args.now) (moment (opening (launch_of c.args.name.now c.args.args.now)) (g.H.Host.objects c.args.host.now) (g.H.Host.told c.args.host.now) (g.H.Host.journal c.args.host.now) (g.H.Host.answered_count c.args.host.now))
    (moment c.in_ok-machine.machine.os (g.H.Host.objects c.begin.new.host) (g.H.Host.told c.begin.new.host) (g.H.Host.journal c.begin.new.host) (g.H.Host.answered_count c.begin.new.host)) c.in_ok-machine.ensures.begun
    c.in_ok-code-in-Up.field-0 (run.Exited c.in-Exited.code) (moment c.run.new.machine.os (g.H.Host.objects c.run.new.host) (g.H.Host.told c.run.new.host) (g.H.Host.journal c.run.new.host) (g.H.Host.answered_count c.run.new.host)) c.in-Exited.is c.in_ok-code-in-Up.ensures.ends

pub returns-in-Bound-clause-says : goal.returns-in-Bound-clause-says
returns-in-Bound-clause-says g c =
    let up : c.in_ok-machine.machine.os.boot ≡ boots.Up = search rules in
    Says-run (launch_of c.args.name.now c.args.args.now) (moment (opening (launch_of c.args.name.now c.args.args.now)) (g.H.Host.objects c.args.host.now) (g.H.Host.told c.args.host.now) (g.H.Host.journal c.args.host.now) (g.H.Host.answered_count c.args.host.now))
    (moment c.in_ok-machine.machine.os (g.H.Host.objects c.begin.new.host) (g.H.Host.told c.begin.new.host) (g.H.Host.journal c.begin.new.host) (g.H.Host.answered_count c.begin.new.host)) c.in_ok-machine.ensures.begun
    c.in_ok-code-in-Up.field-0 run.Bound (moment c.run.new.machine.os (g.H.Host.objects c.run.new.host) (g.H.Host.told c.run.new.host) (g.H.Host.journal c.run.new.host) (g.H.Host.answered_count c.run.new.host)) c.in-Bound.is up c.in_ok-code-in-Up.ensures.ends

pub returns-in-Bound-clause-history : goal.returns-in-Bound-clause-history
returns-in-Bound-clause-history g c =
    Came-run (launch_of c.args.name.now c.args.args.now) (moment (opening (launch_of c.args.name.now c.args.args.now)) (g.H.Host.objects c.args.host.now) (g.H.Host.told c.args.host.now) (g.H.Host.journal c.args.host.now) (g.H.Host.answered_count c.args.host.now))
    (moment c.in_ok-machine.machine.os (g.H.Host.objects c.begin.new.host) (g.H.Host.told c.begin.new.host) (g.H.Host.journal c.begin.new.host) (g.H.Host.answered_count c.begin.new.host)) c.in_ok-machine.ensures.begun
    c.in_ok-code-in-Up.field-0 run.Bound (moment c.run.new.machine.os (g.H.Host.objects c.run.new.host) (g.H.Host.told c.run.new.host) (g.H.Host.journal c.run.new.host) (g.H.Host.answered_count c.run.new.host)) c.in-Bound.is c.in_ok-code-in-Up.ensures.ends

pub returns-clause-says : goal.returns-clause-says
returns-clause-says g c =
    let up : c.in_ok-machine.machine.os.boot ≡ boots.Up = search rules in
    Says-run (launch_of c.args.name.now c.args.args.now) (moment (opening (launch_of c.args.name.now c.args.args.now)) (g.H.Host.objects c.args.host.now) (g.H.Host.told c.args.host.now) (g.H.Host.journal c.args.host.now) (g.H.Host.answered_count c.args.host.now))
    (moment c.in_ok-machine.machine.os (g.H.Host.objects c.begin.new.host) (g.H.Host.told c.begin.new.host) (g.H.Host.journal c.begin.new.host) (g.H.Host.answered_count c.begin.new.host)) c.in_ok-machine.ensures.begun
    c.in_ok-code-in-Up.field-0 (run.Stuck c.in-Stuck.turns) (moment c.run.new.machine.os (g.H.Host.objects c.run.new.host) (g.H.Host.told c.run.new.host) (g.H.Host.journal c.run.new.host) (g.H.Host.answered_count c.run.new.host)) c.in-Stuck.is up c.in_ok-code-in-Up.ensures.ends

pub returns-clause-history : goal.returns-clause-history
returns-clause-history g c =
    Came-run (launch_of c.args.name.now c.args.args.now) (moment (opening (launch_of c.args.name.now c.args.args.now)) (g.H.Host.objects c.args.host.now) (g.H.Host.told c.args.host.now) (g.H.Host.journal c.args.host.now) (g.H.Host.answered_count c.args.host.now))
    (moment c.in_ok-machine.machine.os (g.H.Host.objects c.begin.new.host) (g.H.Host.told c.begin.new.host) (g.H.Host.journal c.begin.new.host) (g.H.Host.answered_count c.begin.new.host)) c.in_ok-machine.ensures.begun
    c.in_ok-code-in-Up.field-0 (run.Stuck c.in-Stuck.turns) (moment c.run.new.machine.os (g.H.Host.objects c.run.new.host) (g.H.Host.told c.run.new.host) (g.H.Host.journal c.run.new.host) (g.H.Host.answered_count c.run.new.host)) c.in-Stuck.is c.in_ok-code-in-Up.ensures.ends
