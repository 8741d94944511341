use Rattle.guest_space.proofs.RegionChanges.{regions-with_run, regions-without_run, regions-protected, regions-with_memory}
use Rattle.guest_space.proofs.laws.regions_after_changes.Goals as goal

pub returns-clause-added : goal.returns-clause-added
returns-clause-added c = λ s e. regions-with_run s e.page e.count e.rights

pub returns-clause-removed : goal.returns-clause-removed
returns-clause-removed c = regions-without_run

pub returns-clause-protected : goal.returns-clause-protected
returns-clause-protected c = λ s e. regions-protected s e.page e.count e.rights

pub returns-clause-written : goal.returns-clause-written
returns-clause-written c = regions-with_memory
