use Rattle.std.proofs.Common.{◌≡◌, ◌-◌, map}
use Rattle.rv_core.specs.Memory.{written}
use Rattle.guest_space.specs.Space.{memory_of}
use Rattle.guest_memory.specs.Pages.{AreInOrder, label_of, space_of}
use Rattle.guest_memory.proofs.word.put_across.Given as goal

-- what is left to write leads to the same memory
abbrev pub invariant-loop-k : goal.invariant-loop-k
invariant-loop-k l = record {
  order : AreInOrder l.pages;
  labels : map label_of l.pages ≡ map label_of l.fn.pages;
  left : written (memory_of (space_of l.pages)) l.at (l.size - l._k) l.value ≡ written (memory_of (space_of l.fn.pages)) l.fn.at l.fn.size l.fn.value;
}
