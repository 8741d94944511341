use Rattle.std.proofs.Common.{◌≡◌, ◌≤◌, ◌+◌, ℕ, List, length}
use Rattle.std.specs.Option.{option_map}
use Rattle.asm_text.specs.Text.{lines, lines_left}
use Rattle.rv_asm.specs.Labels.{defined, otherwise}
use Rattle.rv_asm.specs.Answers.{nearest_address, nearest_definition}
use Rattle.rv_asm.specs.Encoding.{base}
use Rattle.rv_asm.specs.Program.{definition_in}
use Rattle.asm_text.proofs.TextLists.{bytes_left}
use Rattle.rv_asm.proofs.program.define_labels.Given as goal

abbrev pub invariant-loop-rest : goal.invariant-loop-rest
invariant-loop-rest l = record {
  labels : (at : ℕ) × (l.address ≡ nearest_address at)
      × ((name : List ℕ) → option_map nearest_definition (definition_in 1 base (lines l.fn.text) name)
      ≡ otherwise (defined l.labels name) (option_map nearest_definition (definition_in l.number at (lines_left l.rest) name)));
  counted : l.number + bytes_left l.rest ≤ length l.fn.text + 2;
}

abbrev pub decreases-loop-rest : goal.decreases-loop-rest
decreases-loop-rest l = bytes_left l.rest
