use Rattle.std.proofs.Common.{◌≡◌, ◌^◌, ◌≤◌, ◌++◌, map, drop}
use Rattle.guest_space.specs.Regions.{extent_end, joined, merged}
use Rattle.elf_loader.specs.Steps.{extent_of_page}
use Rattle.elf_loader.proofs.runs.runs.Given as goal

abbrev pub invariant-loop-page : goal.invariant-loop-page
invariant-loop-page l = record {
  small : extent_end l.run ≤ 2 ^ 53;
  runs : merged (map extent_of_page l.pages) ≡ l.runs ++ joined l.run (merged (map extent_of_page (drop l.page-index l.higher)));
}
