use Rattle.std.proofs.Common.{◌≤◌, ◌+◌, ◌∙◌, refl, sym, ap, arith, length, subst}
use Rattle.std.specs.Option.{option_map}
use Rattle.asm_text.specs.Text.{lines, lines_left}
use Rattle.rv_asm.specs.Labels.{defined, otherwise, own_definition}
use Rattle.rv_asm.specs.Answers.{nearest_address, nearest_definition}
use Rattle.rv_asm.specs.Encoding.{base}
use Rattle.rv_asm.specs.Line.{read, line_end}
use Rattle.rv_asm.specs.Program.{definition_in}
use Rattle.asm_text.proofs.TextLists.{bytes_left}
use Rattle.rv_asm.proofs.ProgramLists.{counted-more}
use Rattle.rv_asm.proofs.Addresses.{nearest-line_end, definition_in-line, definition_in-end}
use Rattle.rv_asm.proofs.program.define_labels.Goals as goal

pub loop-rest-init : goal.loop-rest-init
loop-rest-init c = record {
  labels = (
    base,
    refl,
    λ name. sym (ap (λ o. otherwise o (option_map nearest_definition (definition_in 1 base (lines c.args.text.now) name))) (c.new-labels.ensures name)),
  );
  counted = omega arith;
}

pub loop-rest-preserved : goal.loop-rest-preserved
loop-rest-preserved c =
    let number = c.loop-rest.number in
    let here = c.loop-rest.invariant.labels in
    let at = here.0 in
    let line = c.first_line.result.0.now in
    let more = c.first_line.result.1 in
    record {
      labels = (
        line_end at (read line),
        c.in_ok-address.ensures.address
            ∙ (ap (λ a. nearest_address (line_end a (read line))) here.1 ∙ nearest-line_end at (read line)),
        λ name.
            let old = defined c.loop-rest.labels name in
            let new = defined c.define_line.new.labels name in
            here.2 name
            ∙ (ap (λ rest. otherwise old (option_map nearest_definition (definition_in number at (lines_left rest) name))) c.in-Some.is
            ∙ (ap (λ ls. otherwise old (option_map nearest_definition (definition_in number at ls name))) c.first_line.ensures.lines
            ∙ definition_in-line old new number at line (lines_left more) name
            (c.in_ok-address.ensures.labels name ∙ ap (λ a. otherwise old (own_definition number a (read line).label name)) here.1))),
      );
      counted = counted-more number (length c.args.text.now) (length c.in-Some.text.now) more _
          (subst (λ rest. number + bytes_left rest ≤ length c.args.text.now + 2) c.in-Some.is c.loop-rest.invariant.counted)
          c.first_line.ensures.shorter;
    }

pub returns : goal.returns
returns c = λ name.
    let here = c.loop-rest.invariant.labels in
    let old = defined c.loop-rest.labels name in
    sym (here.2 name
    ∙ (ap (λ rest. otherwise old (option_map nearest_definition (definition_in c.loop-rest.number here.0 (lines_left rest) name))) c.in_default.is
    ∙ definition_in-end old c.loop-rest.number here.0 name))
