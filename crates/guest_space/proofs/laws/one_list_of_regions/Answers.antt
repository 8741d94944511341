use Rattle.std.proofs.Common.{sym, subst}
use Rattle.guest_space.specs.Regions.{AreRegions}
use Rattle.guest_space.proofs.RegionChanges.{AreRegions-regions, All-regions, regions-unique}
use Rattle.guest_space.proofs.laws.one_list_of_regions.Goals as goal

pub returns-clause-only : goal.returns-clause-only
returns-clause-only c = λ s extents. (regions-unique s extents, λ e. subst (AreRegions s) (sym e) (AreRegions-regions s))

pub returns-clause-of_process : goal.returns-clause-of_process
returns-clause-of_process c = All-regions
