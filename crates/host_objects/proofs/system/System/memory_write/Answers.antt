use Rattle.std.proofs.Common.{sym, rules}
use Rattle.guest_memory.specs.Refusals.{fault_of_error}
use Rattle.host_objects.specs.System.{system_objects}
use Rattle.host_objects.proofs.MemoryRows.{took_there, write_done, write_refused}
use Rattle.host_objects.proofs.system.System.memory_write.Goals as goal

pub put_memory-requires : goal.put_memory-requires
put_memory-requires g c = took_there _ _ _ _ c.in-Some.ensures

pub returns-in-Ok-clause-row : goal.returns-in-Ok-clause-row
returns-in-Ok-clause-row g c = write_done _ (system_objects c.take_memory.new.self) _ c.args.process c.args.address c.args.bytes.now c.in-Some.memory c.write-outcome.new.self c.in-Some.ensures c.put_memory.ensures (search rules) c.in-Ok.ensures.ok (sym c.in-Ok.ensures.fault)

pub returns-in-Err-clause-row : goal.returns-in-Err-clause-row
returns-in-Err-clause-row g c = write_refused _ (system_objects c.take_memory.new.self) _ c.args.process c.args.address c.args.bytes.now c.in-Some.memory c.write-outcome.new.self (fault_of_error c.in-Err.error) c.inaccessible.result c.inaccessible.ensures c.in-Some.ensures c.put_memory.ensures (search rules) c.in-Err.ensures.err (sym c.in-Err.ensures.fault)
