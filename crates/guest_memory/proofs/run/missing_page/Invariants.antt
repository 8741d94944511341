use Rattle.std.proofs.Common.{◌≡◌, ◌+◌, ◌-◌}
use Rattle.guest_space.specs.Run.{first_missing}
use Rattle.guest_memory.specs.Pages.{space_of}
use Rattle.guest_memory.proofs.run.missing_page.Given as goal

-- the pages that are left have the first that isn't there
abbrev pub invariant-loop-number : goal.invariant-loop-number
invariant-loop-number l = first_missing (space_of l.pages) l.number (l.page + l.count - l.number) ≡ first_missing (space_of l.pages) l.page l.count
