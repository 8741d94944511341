use Rattle.std.proofs.Common.{rules}
use Rattle.abi_calls.specs.Fresh.{IsFreshWorld}
use Rattle.bascule_top.proofs.Refusing.{not_refused}
use Rattle.bascule_top.proofs.top.carry_out.Goals as goal

pub returns-else-not-fresh-2-clause-used : goal.returns-else-not-fresh-2-clause-used
returns-else-not-fresh-2-clause-used g c =
    let fresh : IsFreshWorld (g.H.Host.objects c.args.host.now) (g.H.Host.answered_count c.args.host.now) = search rules in
    not_refused _ _ _ c.put.ensures.own fresh

pub returns-else-not-fresh-3-clause-used : goal.returns-else-not-fresh-3-clause-used
returns-else-not-fresh-3-clause-used g c =
    let fresh : IsFreshWorld (g.H.Host.objects c.args.host.now) (g.H.Host.answered_count c.args.host.now) = search rules in
    not_refused _ _ _ c.get.ensures.own fresh
