-- The test of a free run decides it.
use Rattle.mono_model.proofs.Mapping.{is_free-decides}
use Rattle.mono_model.proofs.laws.free_runs_have_no_pages.Goals as goal

pub returns : goal.returns
returns c = is_free-decides
