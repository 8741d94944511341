use Rattle.std.proofs.Common.{arith}
use Rattle.guest_memory.proofs.Labels.{labels-with_bytes}
use Rattle.guest_memory.proofs.Writes.{AreInOrder-byte, memory_of-byte}
use Rattle.guest_memory.proofs.word.put_byte.Goals as goal

pub returns-in-Some-clause-order : goal.returns-in-Some-clause-order
returns-in-Some-clause-order c = AreInOrder-byte c.args.pages.now _ c.in-Some.place _ c.args.byte _ c.requires c.in-Some.ensures (omega arith)

pub returns-in-Some-clause-after : goal.returns-in-Some-clause-after
returns-in-Some-clause-after c = memory_of-byte c.args.pages.now c.args.at c.in-Some.place c.args.byte _ c.requires c.in-Some.ensures

pub returns-in-Some-clause-labels : goal.returns-in-Some-clause-labels
returns-in-Some-clause-labels c = labels-with_bytes c.args.pages.now c.in-Some.place _ _
