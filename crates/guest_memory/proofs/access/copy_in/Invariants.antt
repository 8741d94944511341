use Rattle.std.proofs.Common.{◌≡◌, ◌-◌, ◌≤◌, length, take}
use Rattle.guest_space.specs.Space.{memory_of}
use Rattle.guest_space.specs.Access.{with_bytes}
use Rattle.guest_memory.specs.Pages.{AreInOrder, space_of}
use Rattle.guest_memory.proofs.access.copy_in.Given as goal

-- the bytes that are done are written
abbrev pub invariant-loop-done : goal.invariant-loop-done
invariant-loop-done l = record {
  within : l.done ≤ length l.bytes;
  order : AreInOrder l.pages;
  written : memory_of (space_of l.pages) ≡ with_bytes (memory_of (space_of l.fn.pages)) l.at (take l.done l.bytes);
}

abbrev pub decreases-loop-done : goal.decreases-loop-done
decreases-loop-done l = length l.bytes - l.done
