use Rattle.std.proofs.Common.{◌≡◌}
use Rattle.asm_text.specs.Registers.{register_of}
use Rattle.asm_text.proofs.RegisterLists.{register_from}
use Rattle.asm_text.proofs.registers.register_of.Given as goal

abbrev pub invariant-loop-n : goal.invariant-loop-n
invariant-loop-n l = register_of l.text ≡ register_from l.text l.n
