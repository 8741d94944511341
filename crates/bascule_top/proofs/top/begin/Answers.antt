use Rattle.std.proofs.Common.{rules, ◌≡◌}
use Rattle.turn_engine.specs.Moment.{moment}
use Rattle.turn_engine.proofs.Progress.{on_err}
use Rattle.bascule_top.specs.Outcomes.{opening}
use Rattle.bascule_top.specs.Words.{launch_of}
use Rattle.bascule_top.proofs.Saying.{Fits-opening, Begun-served, IsGivenUp-boot, IsGivenUp-first}
use Rattle.bascule_top.proofs.top.begin.Goals as goal

pub boot-requires-2 : goal.boot-requires-2
boot-requires-2 g c = record {
  fits = Fits-opening (launch_of c.args.name.now c.args.args.now) c.in_ok-os.os (g.H.Host.objects c.args.host.now) (g.H.Host.answered_count c.args.host.now) c.requires.named c.requires.fresh (g.met.H.Host.sound c.args.host.now) (search rules);
}

pub returns-in_err-texts-clause-given_up : goal.returns-in_err-texts-clause-given_up
returns-in_err-texts-clause-given_up g c = on_err _ _ (IsGivenUp-first (launch_of c.args.name.now c.args.args.now) (moment (opening (launch_of c.args.name.now c.args.args.now)) (g.H.Host.objects c.args.host.now) (g.H.Host.told c.args.host.now) (g.H.Host.journal c.args.host.now) (g.H.Host.answered_count c.args.host.now)))

pub returns-in_err-os-clause-given_up : goal.returns-in_err-os-clause-given_up
returns-in_err-os-clause-given_up g c = on_err _ _ (IsGivenUp-first (launch_of c.args.name.now c.args.args.now) (moment (opening (launch_of c.args.name.now c.args.args.now)) (g.H.Host.objects c.args.host.now) (g.H.Host.told c.args.host.now) (g.H.Host.journal c.args.host.now) (g.H.Host.answered_count c.args.host.now)))

pub returns-in_err-boot-clause-given_up : goal.returns-in_err-boot-clause-given_up
returns-in_err-boot-clause-given_up g c =
    let is : c.in_ok-os.os ≡ opening (launch_of c.args.name.now c.args.args.now) = search rules in
    on_err _ _ (IsGivenUp-boot (launch_of c.args.name.now c.args.args.now) c.in_ok-os.os (g.H.Host.objects c.args.host.now) (g.H.Host.told c.args.host.now) (g.H.Host.journal c.args.host.now) (g.H.Host.answered_count c.args.host.now)
    (g.H.Host.told c.boot-2.new.host) (g.H.Host.journal c.boot-2.new.host) (g.H.Host.answered_count c.boot-2.new.host) is c.in_err-boot.ensures.unchanged c.in_err-boot.ensures.broken)

pub returns-clause-begun : goal.returns-clause-begun
returns-clause-begun g c =
    let is : c.in_ok-os.os ≡ opening (launch_of c.args.name.now c.args.args.now) = search rules in
    Begun-served (launch_of c.args.name.now c.args.args.now) c.in_ok-os.os (g.H.Host.objects c.args.host.now) (g.H.Host.told c.args.host.now) (g.H.Host.journal c.args.host.now) (g.H.Host.answered_count c.args.host.now)
    (g.H.Host.answered_count c.args.host.now) (moment c.boot-2.new.self.os (g.H.Host.objects c.boot-2.new.host) (g.H.Host.told c.boot-2.new.host) (g.H.Host.journal c.boot-2.new.host) (g.H.Host.answered_count c.boot-2.new.host)) is c.requires.fresh
    c.in_ok-boot.ensures.serves c.in_ok-boot.ensures.quiet c.in_ok-boot.ensures.history c.in_ok-boot.ensures.settled
