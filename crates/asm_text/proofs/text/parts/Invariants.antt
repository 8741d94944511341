use Rattle.std.proofs.Common.{◌≡◌, ◌++◌, map}
use Rattle.asm_text.specs.Text.{parts, trim}
use Rattle.asm_text.specs.declared.text.Quoting.TheVariants.{Outside}
use Rattle.asm_text.proofs.TextLists.{parts_left, bytes_left}
use Rattle.asm_text.proofs.text.parts.Given as goal

abbrev pub invariant-loop-rest : goal.invariant-loop-rest
invariant-loop-rest l = map trim (parts Outside l.fn.text) ≡ l.parts.items ++ map trim (parts_left l.rest)

abbrev pub decreases-loop-rest : goal.decreases-loop-rest
decreases-loop-rest l = bytes_left l.rest
