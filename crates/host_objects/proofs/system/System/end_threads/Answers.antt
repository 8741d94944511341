use Rattle.std.proofs.Common.{refl, sym, ◌∙◌, rules}
use Rattle.host_objects.specs.System.{system_objects}
use Rattle.host_objects.proofs.EndedThreads.{len-remove_thread, ended_next, without_threads-none}
use Rattle.host_objects.proofs.system.System.end_threads.Goals as goal

pub loop-thread-smaller : goal.loop-thread-smaller
loop-thread-smaller g c = rw c.end.ensures (len-remove_thread c.loop-thread.self.handles c.args.process c.in-Some.thread c.in-Some.ensures.found)

pub loop-thread-preserved : goal.loop-thread-preserved
loop-thread-preserved g c = ended_next (system_objects c.loop-thread.self) (system_objects (record c.loop-thread.self { handles = c.end.new.self; schedule = c.leave.new.self })) c.args.process c.in-Some.thread c.loop-thread.self.schedule.lists c.in-Some.ensures.found refl refl (search rules) ∙ c.loop-thread.invariant

pub returns : goal.returns
returns g c = sym (without_threads-none (system_objects c.loop-thread.self) c.args.process c.in_default.ensures.none refl) ∙ c.loop-thread.invariant
