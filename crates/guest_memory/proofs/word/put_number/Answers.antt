use Rattle.std.proofs.Common.{arith}
use Rattle.guest_memory.proofs.Labels.{labels-with_bytes}
use Rattle.guest_memory.proofs.Writes.{AreInOrder-number, memory_of-stored}
use Rattle.guest_memory.proofs.word.put_number.Goals as goal

pub returns-then-page-eq-WRITE-clause-order : goal.returns-then-page-eq-WRITE-clause-order
returns-then-page-eq-WRITE-clause-order c =
    AreInOrder-number c.args.pages.now _ c.in-Some.place _ c.args.size c.args.value _ c.put_in.new.bytes c.requires.order c.in-Some.ensures c.put_in.ensures

pub returns-then-page-eq-WRITE-clause-after : goal.returns-then-page-eq-WRITE-clause-after
returns-then-page-eq-WRITE-clause-after c =
    memory_of-stored c.args.pages.now c.args.at c.in-Some.place c.args.size c.args.value _ c.put_in.new.bytes c.requires.order c.in-Some.ensures
    (omega arith) (omega arith) c.if-page-eq-WRITE.true c.put_in.ensures

pub returns-then-page-eq-WRITE-clause-labels : goal.returns-then-page-eq-WRITE-clause-labels
returns-then-page-eq-WRITE-clause-labels c = labels-with_bytes c.args.pages.now c.in-Some.place _ c.put_in.new.bytes
