use Rattle.std.proofs.Common.{◌<◌, ◌+◌, ◌∙◌, ◌∷◌, sym, ap, length, take, arith}
use Rattle.asm_text.specs.Text.{lines}
use Rattle.asm_text.proofs.LineLists.{lines-first, lines-whole}
use Rattle.asm_text.proofs.TextLists.{take-drop_end}
use Rattle.asm_text.proofs.text.first_line.Goals as goal

pub returns-then-end-text-clause-lines : goal.returns-then-end-text-clause-lines
returns-then-end-text-clause-lines c =
    lines-whole c.args.text.now (sym c.if-end-text.true ∙ c.line_feed-end.ensures.value)

pub returns-clause-lines : goal.returns-clause-lines
returns-clause-lines c =
    let text = c.args.text.now in
    let n = c.line_feed-end.result in
    let below : n < length text = omega (arith, c.line_feed-end.ensures.bound, c.if-end-text.false) in
    lines-first text n c.line_feed-end.ensures.value below
    ∙ ap (λ rest. take n text ∷ lines rest) (sym (take-drop_end (n + 1) text))
