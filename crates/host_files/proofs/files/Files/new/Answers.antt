use Rattle.host_files.proofs.Kept.{there_unused}
use Rattle.host_files.proofs.files.Files.new.Goals as goal

pub invariant_of-result : goal.invariant_of-result
invariant_of-result g c = there_unused _ c.new.ensures
