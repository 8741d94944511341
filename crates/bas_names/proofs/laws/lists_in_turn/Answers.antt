use Rattle.bas_names.proofs.RuleLists.{sub-append}
use Rattle.bas_names.proofs.laws.lists_in_turn.Goals as goal

pub returns : goal.returns
returns c = sub-append
