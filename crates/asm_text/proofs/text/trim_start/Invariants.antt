use Rattle.std.proofs.Common.{◌≡◌, length}
use Rattle.asm_text.specs.Text.{trim_start}
use Rattle.asm_text.proofs.text.trim_start.Given as goal

abbrev pub invariant-loop-first : goal.invariant-loop-first
invariant-loop-first l = trim_start l.fn.text ≡ trim_start l.text

abbrev pub decreases-loop-first : goal.decreases-loop-first
decreases-loop-first l = length l.text
