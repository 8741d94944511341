use Rattle.std.proofs.Common.{sym}
use Rattle.host_objects.specs.System.{system_objects}
use Rattle.host_objects.proofs.MemoryRows.{took_there, free_done, free_refused}
use Rattle.host_objects.proofs.system.System.memory_free.Goals as goal

pub put_memory-requires : goal.put_memory-requires
put_memory-requires g c = took_there _ _ _ _ c.in-Some.ensures

pub returns-in-Ok : goal.returns-in-Ok
returns-in-Ok g c = free_done _ (system_objects c.take_memory.new.self) _ c.args.process c.args.page c.args.count c.in-Some.memory c.free-outcome.new.self c.in-Some.ensures c.put_memory.ensures c.in-Ok.ensures.ok (sym c.in-Ok.ensures.cause)

pub returns-in-Err : goal.returns-in-Err
returns-in-Err g c = free_refused _ (system_objects c.take_memory.new.self) _ c.args.process c.args.page c.args.count c.in-Some.memory c.free-outcome.new.self c.in-Err.field-0 c.in-Some.ensures c.put_memory.ensures c.in-Err.ensures.err c.len.ensures.sound (sym c.in-Err.ensures.cause)
