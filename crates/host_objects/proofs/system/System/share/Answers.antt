use Rattle.std.proofs.Common.{rules, refl}
use Rattle.host_objects.proofs.Rows.{share_added}
use Rattle.host_objects.proofs.system.System.share.Goals as goal

pub returns-clause-row : goal.returns-clause-row
returns-clause-row g c = share_added _ _ c.add.new.self c.args.stream c.in_ok-number.number _ c.requires (search rules) c.in_ok-number.ensures.added refl
