use Rattle.std.proofs.Common.{◌≡◌, ◌≤◌, ◌+◌, ◌∙◌, sym, ap, length, subst, arith}
use Rattle.asm_text.specs.Text.{lines_left}
use Rattle.rv_asm.specs.Labels.{defined}
use Rattle.rv_asm.specs.Encoding.{limit}
use Rattle.rv_asm.specs.Answers.{nearest_address}
use Rattle.rv_asm.specs.Words.{HasPlaced}
use Rattle.rv_asm.specs.Line.{read, line_end, line_bytes}
use Rattle.rv_asm.specs.Program.{outcomes_in, gathered, in_front}
use Rattle.asm_text.proofs.TextLists.{bytes_left}
use Rattle.rv_asm.proofs.Sizes.{line_end-within}
use Rattle.rv_asm.proofs.ProgramLists.{gathered-line, gathered-error, gathered-end, counted-more}
use Rattle.rv_asm.proofs.program.bytes_of.Goals as goal

pub returns-in-Err : goal.returns-in-Err
returns-in-Err c = λ told.
    let find = defined c.args.labels.now in
    let number = c.loop-rest.number in
    let at = c.loop-rest.address in
    let front = c.loop-rest.bytes.items in
    let new = c.append_line.new.bytes.items in
    let line = c.first_line.result.0.now in
    let more = lines_left c.first_line.result.1 in
    let placed = subst (HasPlaced (line_bytes find number at (read line)) (nearest_address (line_end at (read line))) front new) c.in-Err.is c.append_line.ensures in
    c.loop-rest.invariant.bytes
    ∙ (ap (λ rest. in_front front (gathered number (outcomes_in find number at (lines_left rest)))) c.in-Some.is
    ∙ (ap (λ ls. in_front front (gathered number (outcomes_in find number at ls))) c.first_line.ensures.lines
    ∙ gathered-error find number at line more front new (nearest_address (line_end at (read line))) c.in-Err.error c.at.result c.at.ensures placed told))

pub loop-rest-preserved : goal.loop-rest-preserved
loop-rest-preserved c =
    let find = defined c.args.labels.now in
    let number = c.loop-rest.number in
    let at = c.loop-rest.address in
    let front = c.loop-rest.bytes.items in
    let new = c.append_line.new.bytes.items in
    let line = c.first_line.result.0.now in
    let rest = c.first_line.result.1 in
    let placed = subst (HasPlaced (line_bytes find number at (read line)) (nearest_address (line_end at (read line))) front new) c.in-Ok.is c.append_line.ensures in
    let end : line_end at (read line) ≤ limit = line_end-within find number at (read line) placed.1.0 c.loop-rest.invariant.within placed.1.1 in
    let next : c.in-Ok.next ≡ line_end at (read line) = omega (arith, placed.0, end) in
    record {
      bytes =
          c.loop-rest.invariant.bytes
          ∙ (ap (λ r. in_front front (gathered number (outcomes_in find number at (lines_left r)))) c.in-Some.is
          ∙ (ap (λ ls. in_front front (gathered number (outcomes_in find number at ls))) c.first_line.ensures.lines
          ∙ (gathered-line find number at line (lines_left rest) front new placed.1.0 placed.1.1 placed.1.2
          ∙ ap (λ a. in_front new (gathered (number + 1) (outcomes_in find (number + 1) a (lines_left rest)))) (sym next))));
      within = omega (arith, next, end);
      counted = counted-more number (length c.args.text.now) (length c.in-Some.text.now) rest _
          (subst (λ r. number + bytes_left r ≤ length c.args.text.now + 2) c.in-Some.is c.loop-rest.invariant.counted)
          c.first_line.ensures.shorter;
    }

pub returns : goal.returns
returns c =
    let find = defined c.args.labels.now in
    let front = c.loop-rest.bytes.items in
    c.loop-rest.invariant.bytes
    ∙ (ap (λ r. in_front front (gathered c.loop-rest.number (outcomes_in find c.loop-rest.number c.loop-rest.address (lines_left r)))) c.in_default.is
    ∙ gathered-end find c.loop-rest.number c.loop-rest.address front)
