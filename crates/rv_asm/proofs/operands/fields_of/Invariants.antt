use Rattle.std.proofs.Common.{◌≡◌, drop}
use Rattle.rv_asm.specs.Operands.{no_fields}
use Rattle.rv_asm.proofs.OperandLists.{given}
use Rattle.rv_asm.proofs.operands.fields_of.Given as goal

abbrev pub invariant-loop-i : goal.invariant-loop-i
invariant-loop-i l = given l.kinds l.operands no_fields ≡ given (drop l.i l.kinds) (drop l.i l.operands) l.fields
