use Rattle.std.proofs.Common.{◌≡◌, ◌+◌, ◌*◌, length, take}
use Rattle.std.specs.List.{sum_by}
use Rattle.libos_program.proofs.argument_block.size_of_block.Given as goal

abbrev pub invariant-loop-arg : goal.invariant-loop-arg
invariant-loop-arg l = l.size ≡ 8 * (length l.args + 3) + sum_by (λ arg. length arg + 1) (take l.arg-index l.args)
