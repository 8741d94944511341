use Rattle.rv_asm.proofs.Places.{definition_of-within}
use Rattle.asm_laws.proofs.laws.labels_lie_within.Goals as goal

pub returns : goal.returns
returns c = definition_of-within
