use Rattle.std.proofs.Common.{◌≡◌, ◌+◌, ◌*◌, ◌^◌, ◌<◌, ◌≤◌}
use Rattle.guest_space.specs.Space.{memory_of}
use Rattle.guest_memory.specs.Pages.{space_of}
use Rattle.guest_memory.specs.Refusals.{access_refusal}
use Rattle.guest_memory.proofs.access.refused_access.Given as goal

-- the bytes that are left are refused as the whole access is
abbrev pub invariant-loop-left : goal.invariant-loop-left
invariant-loop-left l = record {
  within : l.offset < 4096;
  small : l.number ≤ 2 ^ 52;
  same : access_refusal (memory_of (space_of l.pages)) l.right (l.number * 4096 + l.offset) l.left ≡ access_refusal (memory_of (space_of l.pages)) l.right l.at l.count;
}

abbrev pub decreases-loop-left : goal.decreases-loop-left
decreases-loop-left l = l.left
