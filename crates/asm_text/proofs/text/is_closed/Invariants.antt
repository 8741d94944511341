use Rattle.std.proofs.Common.{◌≡◌, take, fold}
use Rattle.asm_text.specs.Text.{quoting_behind}
use Rattle.asm_text.specs.declared.text.Quoting.TheVariants.{Outside}
use Rattle.asm_text.proofs.text.is_closed.Given as goal

abbrev pub invariant-loop-byte : goal.invariant-loop-byte
invariant-loop-byte l = l.quoting ≡ fold quoting_behind Outside (take l.byte-index l.text)
