use Rattle.std.proofs.Common.{sym, ◌∙◌, ap}
use Rattle.asm_text.specs.Text.{trim_end}
use Rattle.asm_text.proofs.TextLists.{trim_end-blank, trim_end-other}
use Rattle.asm_text.proofs.text.trim_end.Goals as goal

pub loop-last-preserved : goal.loop-last-preserved
loop-last-preserved c =
    c.loop-last.invariant
    ∙ (ap trim_end c.in-Some.ensures.cases.0
    ∙ trim_end-blank c.in-Some.rest.now c.in-Some.last.now (sym c.is_blank.ensures ∙ c.if-not-is_blank.false))

pub returns-then-not-is_blank : goal.returns-then-not-is_blank
returns-then-not-is_blank c =
    sym (c.loop-last.invariant
    ∙ (ap trim_end c.in-Some.ensures.cases.0
    ∙ (trim_end-other c.in-Some.rest.now c.in-Some.last.now (sym c.is_blank.ensures ∙ c.if-not-is_blank.true)
    ∙ sym c.in-Some.ensures.cases.0)))
