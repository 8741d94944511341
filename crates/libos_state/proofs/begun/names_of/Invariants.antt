use Rattle.std.proofs.Common.{◌≡◌, ◌∷◌, ◌++◌, drop}
use Rattle.libos_state.proofs.begun.names_of.Given as goal

abbrev pub invariant-loop-arg : goal.invariant-loop-arg
invariant-loop-arg l = l.names ++ drop l.arg-index l.args ≡ l.program ∷ l.program ∷ l.args
