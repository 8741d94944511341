use Rattle.std.proofs.Common.{◌∙◌, sym, ap}
use Rattle.std.specs.FinMap as map
use Rattle.std.specs.Ordering.{nat_cmp}
use Rattle.host_objects.proofs.Entries.{get_entries}
use Rattle.host_objects.proofs.table.Table.get.Goals as goal

pub returns : goal.returns
returns g c = c.get.ensures.value ∙ sym (get_entries c.self.inside.entries.entries c.args.number) ∙ ap (λ m. map.get {R = nat_cmp} m c.args.number) c.self.view_is
