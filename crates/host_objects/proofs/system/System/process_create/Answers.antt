use Rattle.std.proofs.Common.{rules, refl}
use Rattle.host_objects.proofs.Rows.{process_row}
use Rattle.host_objects.proofs.system.System.process_create.Goals as goal

pub returns-clause-row : goal.returns-clause-row
returns-clause-row g c = process_row _ _ c.add.new.self c.new-memory.result c.in_ok-number.number c.requires (search rules) c.new-memory.ensures c.in_ok-number.ensures.added refl
