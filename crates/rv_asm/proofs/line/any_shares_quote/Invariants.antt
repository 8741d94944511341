use Rattle.std.proofs.Common.{◌≡◌, take, false}
use Rattle.std.specs.List.{list_any}
use Rattle.rv_asm.specs.Line.{shares_quote}
use Rattle.rv_asm.proofs.line.any_shares_quote.Given as goal

abbrev pub invariant-loop-operand : goal.invariant-loop-operand
invariant-loop-operand l = list_any shares_quote (take l.operand-index l.operands) ≡ false
