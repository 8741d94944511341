use Rattle.std.proofs.Common.{◌≡◌, ◌+◌, drop}
use Rattle.asm_text.specs.Text.{length_before}
use Rattle.asm_text.specs.declared.text.Quoting.TheVariants.{Outside}
use Rattle.asm_text.proofs.text.length_before.Given as goal

abbrev pub invariant-loop-i : goal.invariant-loop-i
invariant-loop-i l = length_before l.marks Outside l.text ≡ l.i + length_before l.marks l.quoting (drop l.i l.text)
