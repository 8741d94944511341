use Rattle.std.proofs.Common.{◌≡◌, ◌++◌, [], ◌∷◌, drop}
use Rattle.std.specs.List.{flat_map}
use Rattle.libos_program.proofs.argument_block.push_texts.Given as goal

abbrev pub invariant-loop-arg : goal.invariant-loop-arg
invariant-loop-arg l =
    l.block ++ flat_map (λ arg. arg ++ 0 ∷ []) (drop l.arg-index l.args) ≡ l.initial.block ++ flat_map (λ arg. arg ++ 0 ∷ []) l.args
