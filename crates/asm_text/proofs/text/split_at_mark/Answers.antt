use Rattle.std.proofs.Common.{◌<◌, ◌∙◌, sym, length, arith}
use Rattle.asm_text.proofs.TextLists.{before-none, behind-none, before-some, behind-some}
use Rattle.asm_text.proofs.text.split_at_mark.Goals as goal

pub returns-then-place-text-clause-front : goal.returns-then-place-text-clause-front
returns-then-place-text-clause-front c =
    before-none c.args.marks.now c.args.text.now (sym c.length_before-place.ensures.value ∙ c.if-place-text.true)

pub returns-then-place-text-clause-rest : goal.returns-then-place-text-clause-rest
returns-then-place-text-clause-rest c =
    behind-none c.args.marks.now c.args.text.now (sym c.length_before-place.ensures.value ∙ c.if-place-text.true)

pub returns-clause-front : goal.returns-clause-front
returns-clause-front c =
    before-some c.args.marks.now c.args.text.now c.length_before-place.result c.length_before-place.ensures.value

pub returns-clause-rest : goal.returns-clause-rest
returns-clause-rest c =
    let text = c.args.text.now in
    let below : c.length_before-place.result < length text = omega (arith, c.length_before-place.ensures.bound, c.if-place-text.false) in
    behind-some c.args.marks.now text c.length_before-place.result c.length_before-place.ensures.value below
