use Rattle.std.proofs.Common.{◌≡◌, ◌+◌, ◌^◌, ◌<◌, ◌++◌, length, drop}
use Rattle.std.specs.List.{sum_by}
use Rattle.mono_model.specs.Starting.{pointers}
use Rattle.libos_program.proofs.argument_block.push_pointers.Given as goal

abbrev pub invariant-loop-arg : goal.invariant-loop-arg
invariant-loop-arg l =
    (l.at + sum_by (λ arg. length arg + 1) (drop l.arg-index l.args) < 2 ^ 64) ×
    (l.block ++ pointers l.at (drop l.arg-index l.args) ≡ l.initial.block ++ pointers l.first l.args)
