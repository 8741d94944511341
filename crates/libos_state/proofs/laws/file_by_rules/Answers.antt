use Rattle.mono_model.proofs.Ruled.{file_under-sub}
use Rattle.libos_state.proofs.laws.file_by_rules.Goals as goal

pub returns : goal.returns
returns c = λ lists files name. file_under-sub lists files name
