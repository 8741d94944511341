use Rattle.std.proofs.Common.{ap, ◌∙◌, ◌-◌, ◌+◌, ◌/◌, ◌%◌, ◌^◌}
use Rattle.rv_core.specs.Memory.{written}
use Rattle.guest_space.specs.Space.{memory_of}
use Rattle.guest_memory.specs.Pages.{space_of}
use Rattle.guest_memory.proofs.Writes.{written-more}
use Rattle.guest_memory.proofs.word.put_across.Goals as goal

pub loop-k-preserved : goal.loop-k-preserved
loop-k-preserved c = record {
  order = c.put_byte.ensures.order;
  labels = c.put_byte.ensures.labels ∙ c.loop-k.invariant.labels;
  left = ap (λ m. written m ((c.loop-k.at + 1) % 2 ^ 64) (c.args.size - (c.loop-k._k + 1)) (c.loop-k.value / 256)) c.put_byte.ensures.after
      ∙ written-more (memory_of (space_of c.loop-k.pages)) c.loop-k.at c.loop-k._k c.args.size c.loop-k.value c.loop-k-test.true
      ∙ c.loop-k.invariant.left;
}
