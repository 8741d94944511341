-- The first free one of the runs is the lowest.
use Rattle.mono_model.proofs.Mapping.{lowest_free-told}
use Rattle.mono_model.proofs.laws.lowest_free_run_is_lowest.Goals as goal

pub returns : goal.returns
returns c = λ s from count. lowest_free-told s count from
