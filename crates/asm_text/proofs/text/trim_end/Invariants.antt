use Rattle.std.proofs.Common.{◌≡◌, length}
use Rattle.asm_text.specs.Text.{trim_end}
use Rattle.asm_text.proofs.text.trim_end.Given as goal

abbrev pub invariant-loop-last : goal.invariant-loop-last
invariant-loop-last l = trim_end l.fn.text ≡ trim_end l.text

abbrev pub decreases-loop-last : goal.decreases-loop-last
decreases-loop-last l = length l.text
