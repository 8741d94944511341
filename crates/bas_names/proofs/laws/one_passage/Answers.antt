use Rattle.bas_names.proofs.RuleLists.{Passes-iff}
use Rattle.bas_names.proofs.laws.one_passage.Goals as goal

pub returns : goal.returns
returns c = Passes-iff
