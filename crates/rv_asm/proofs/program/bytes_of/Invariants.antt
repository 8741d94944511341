use Rattle.std.proofs.Common.{◌≡◌, ◌≤◌, ◌+◌, length}
use Rattle.asm_text.specs.Text.{lines, lines_left}
use Rattle.rv_asm.specs.Labels.{defined}
use Rattle.rv_asm.specs.Encoding.{base, limit}
use Rattle.rv_asm.specs.Program.{outcomes_in, gathered, in_front}
use Rattle.asm_text.proofs.TextLists.{bytes_left}
use Rattle.rv_asm.proofs.program.bytes_of.Given as goal

abbrev pub invariant-loop-rest : goal.invariant-loop-rest
invariant-loop-rest l = record {
  bytes : gathered 1 (outcomes_in (defined l.labels) 1 base (lines l.fn.text))
      ≡ in_front l.bytes.items (gathered l.number (outcomes_in (defined l.labels) l.number l.address (lines_left l.rest)));
  within : l.address ≤ limit;
  counted : l.number + bytes_left l.rest ≤ length l.fn.text + 2;
}

abbrev pub decreases-loop-rest : goal.decreases-loop-rest
decreases-loop-rest l = bytes_left l.rest
