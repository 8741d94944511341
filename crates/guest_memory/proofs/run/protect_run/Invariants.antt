use Rattle.std.proofs.Common.{◌≡◌, ◌-◌}
use Rattle.guest_space.specs.Space.{protected}
use Rattle.guest_memory.specs.Pages.{AreInOrder, space_of}
use Rattle.guest_memory.proofs.run.protect_run.Given as goal

-- the pages before this one have their rights
abbrev pub invariant-loop-number : goal.invariant-loop-number
invariant-loop-number l = record {
  order : AreInOrder l.pages;
  after : space_of l.pages ≡ protected (space_of l.fn.pages) l.page (l.number - l.page) l.rights;
}
