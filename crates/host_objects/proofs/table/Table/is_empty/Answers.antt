use Rattle.std.proofs.Common.{◌∙◌, sym}
use Rattle.host_objects.proofs.Entries.{no_entries, length-no_entries}
use Rattle.host_objects.proofs.table.Table.is_empty.Goals as goal

pub returns : goal.returns
returns g c = (λ none. sym c.self.view_is ∙ no_entries c.self.inside.entries.entries (c.is_empty.ensures.0 none), λ none. c.is_empty.ensures.1 (length-no_entries c.self.inside.entries.entries (c.self.view_is ∙ none)))
