use Rattle.std.proofs.Common.{◌∙◌, ap}
use Rattle.std.specs.FinMap as map
use Rattle.std.specs.Ordering.{nat_cmp}
use Rattle.host_objects.proofs.Entries.{entries_removed}
use Rattle.host_objects.proofs.table.Table.remove.Goals as goal

pub returns : goal.returns
returns g c = entries_removed c.self.inside.entries.entries c.remove.new.self.entries c.args.number c.remove.ensures.updates.0 ∙ ap (λ m. map.remove {R = nat_cmp} m c.args.number) c.self.view_is
