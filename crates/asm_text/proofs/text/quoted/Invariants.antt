use Rattle.std.proofs.Common.{◌≡◌, length}
use Rattle.asm_text.specs.Text.{quoted, unquoted}
use Rattle.asm_text.proofs.TextLists.{joined}
use Rattle.asm_text.proofs.text.quoted.Given as goal

abbrev pub invariant-loop-first : goal.invariant-loop-first
invariant-loop-first l = quoted l.fn.operand ≡ joined l.bytes (unquoted l.text)

abbrev pub decreases-loop-first : goal.decreases-loop-first
decreases-loop-first l = length l.text
