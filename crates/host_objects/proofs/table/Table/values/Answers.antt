use Rattle.std.proofs.Common.{◌∙◌, sym, ap}
use Rattle.std.specs.Prelude.{map as list_map}
use Rattle.std.specs.FinMap as map
use Rattle.std.specs.Ordering.{nat_cmp}
use Rattle.host_objects.proofs.Entries.{entries_of}
use Rattle.host_objects.proofs.table.Table.values.Goals as goal

pub returns-clause-rest : goal.returns-clause-rest
returns-clause-rest g c = c.values.ensures.rest ∙ ap (list_map (λ e. e.1)) (sym (entries_of c.self.inside.entries.entries c.values.ensures.ordered)) ∙ ap (λ m. map.values {R = nat_cmp} m) c.self.view_is
