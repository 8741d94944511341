use Rattle.host_objects.specs.System.{system_objects}
use Rattle.host_objects.proofs.MemoryRows.{took_there, put_same, allocate_done, allocate_refused, on_err}
use Rattle.host_objects.proofs.system.System.memory_allocate.Goals as goal

pub put_memory-requires : goal.put_memory-requires
put_memory-requires g c = took_there _ _ _ _ c.in-Some.ensures

pub returns-in-Ok-clause-row : goal.returns-in-Ok-clause-row
returns-in-Ok-clause-row g c = allocate_done _ (system_objects c.take_memory.new.self) _ c.args.process c.args.page c.args.count c.args.rights c.in-Some.memory c.allocate-outcome.new.self c.in-Some.ensures c.put_memory.ensures c.in-Ok.ensures.ok c.in-Ok.ensures.granted

pub returns-in-Err-clause-row : goal.returns-in-Err-clause-row
returns-in-Err-clause-row g c = allocate_refused _ (system_objects c.take_memory.new.self) _ c.args.process c.args.page c.args.count c.args.rights c.in-Some.memory c.allocate-outcome.new.self c.in-Err.error c.unallocated.result c.unallocated.ensures c.in-Some.ensures c.put_memory.ensures c.in-Err.ensures.err c.in-Err.ensures.cause

pub returns-in-Err-clause-same : goal.returns-in-Err-clause-same
returns-in-Err-clause-same g c = on_err c.unallocated.result (put_same (system_objects c.args.self.now) (system_objects c.take_memory.new.self) (system_objects c.put_memory.new.self) c.args.process c.in-Some.memory c.allocate-outcome.new.self c.in-Some.ensures c.put_memory.ensures c.in-Err.ensures.err)
