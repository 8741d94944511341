use Rattle.std.proofs.Common.{◌≡◌, drop}
use Rattle.rv_asm.proofs.OperandLists.{in_front, values_of}
use Rattle.rv_asm.proofs.operands.values.Given as goal

abbrev pub invariant-loop-text : goal.invariant-loop-text
invariant-loop-text l = values_of l.texts ≡ in_front l.values (values_of (drop l.text-index l.texts))
