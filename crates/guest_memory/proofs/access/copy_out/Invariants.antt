use Rattle.std.proofs.Common.{◌≡◌, ◌-◌, ◌≤◌, length, take}
use Rattle.guest_space.specs.Space.{bytes_from, memory_of}
use Rattle.guest_memory.specs.Pages.{space_of}
use Rattle.guest_memory.proofs.access.copy_out.Given as goal

-- the bytes that are done are those of the memory
abbrev pub invariant-loop-done : goal.invariant-loop-done
invariant-loop-done l = record {
  within : l.done ≤ length l.buf;
  copied : take l.done l.buf ≡ bytes_from (memory_of (space_of l.pages)) l.at l.done;
}

abbrev pub decreases-loop-done : goal.decreases-loop-done
decreases-loop-done l = length l.buf - l.done
