use Rattle.guest_space.proofs.RegionBytes.{space_from-regions, regions-space_from}
use Rattle.guest_space.proofs.laws.space_of_regions.Goals as goal

pub returns-clause-again : goal.returns-clause-again
returns-clause-again c = space_from-regions

pub returns-clause-back : goal.returns-clause-back
returns-clause-back c = regions-space_from
