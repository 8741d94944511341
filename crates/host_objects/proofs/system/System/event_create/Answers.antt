use Rattle.std.proofs.Common.{refl}
use Rattle.host_objects.proofs.Rows.{event_row}
use Rattle.host_objects.proofs.system.System.event_create.Goals as goal

pub returns-clause-row : goal.returns-clause-row
returns-clause-row g c = event_row _ _ c.add.new.self c.in_ok-number.number c.requires c.in_ok-number.ensures.added refl
