use Rattle.std.proofs.Common.{◌∙◌, sym, ap}
use Rattle.std.specs.FinMap as map
use Rattle.std.specs.Ordering.{nat_cmp}
use Rattle.std.specs.Prelude.{is_some}
use Rattle.host_objects.proofs.Entries.{get_entries, is_member_number}
use Rattle.host_objects.proofs.table.Table.numbers.Goals as goal

pub returns-clause-has : goal.returns-clause-has
returns-clause-has g c = λ q. ap (λ m. is_some (map.get {R = nat_cmp} m q)) (sym c.self.view_is) ∙ ap is_some (get_entries c.self.inside.entries.entries q) ∙ c.keys.ensures.has q ∙ is_member_number c.keys.result q
