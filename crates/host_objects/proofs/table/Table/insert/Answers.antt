use Rattle.std.proofs.Common.{◌∙◌, ap}
use Rattle.std.specs.FinMap as map
use Rattle.std.specs.Ordering.{nat_cmp}
use Rattle.host_objects.proofs.Entries.{entries_inserted}
use Rattle.host_objects.proofs.table.Table.insert.Goals as goal

pub returns-in-Ok-clause-ok : goal.returns-in-Ok-clause-ok
returns-in-Ok-clause-ok g c = entries_inserted c.self.inside.entries.entries c.insert.new.self.entries c.args.number c.args.value c.in-Ok.ensures.updates.0 ∙ ap (λ m. map.insert {R = nat_cmp} m c.args.number c.args.value) c.self.view_is
