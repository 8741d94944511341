use Rattle.std.proofs.Common.{◌≡◌, ◌++◌, take}
use Rattle.std.specs.List.{flat_map}
use Rattle.rv_asm.specs.Encoding.{number_bytes}
use Rattle.rv_asm.proofs.encoding.append_numbers.Given as goal

abbrev pub invariant-loop-number : goal.invariant-loop-number
invariant-loop-number l = l.out.items ≡ l.fn.out.items ++ flat_map (number_bytes l.width) (take l.number-index l.numbers)
