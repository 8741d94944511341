use Rattle.std.proofs.Common.{sym, ◌∙◌, ap}
use Rattle.std.specs.Bool.{then_some}
use Rattle.asm_text.specs.Text.{unquoted}
use Rattle.asm_text.proofs.TextLists.{joined, joined-none, joined-next, joined-end, joined-refused, joined-open, quoted-begins}
use Rattle.asm_text.proofs.text.quoted.Goals as goal

pub loop-first-init : goal.loop-first-init
loop-first-init c =
    let text = c.in-Some-eq34-default.text.now in
    quoted-begins c.args.operand.now text c.in-Some-eq34-default.field-0-0.now c.in-Some-eq34-default.ensures.cases.0
    c.in-Some-eq34-default.field-0-0-test
    ∙ sym (ap (λ b. joined b (unquoted text)) c.new-bytes.ensures ∙ joined-none (unquoted text))

pub returns-then-first-eq34 : goal.returns-then-first-eq34
returns-then-first-eq34 c =
    let bytes = c.loop-first.bytes in
    c.then_some.ensures
    ∙ (ap (λ b. then_some b bytes) c.is_empty.ensures
    ∙ sym (c.loop-first.invariant
    ∙ joined-end bytes c.loop-first.text.now c.in-Some.rest.now c.in-Some.first.now c.in-Some.ensures.cases.0
    c.if-first-eq34.true))

pub returns-in_default-unescape : goal.returns-in_default-unescape
returns-in_default-unescape c =
    sym (c.loop-first.invariant
    ∙ joined-refused c.loop-first.bytes (unquoted c.loop-first.text.now)
    (ap unquoted c.in-Some.ensures.cases.0 ∙ c.in_default-unescape.ensures.byte))

pub loop-first-preserved : goal.loop-first-preserved
loop-first-preserved c =
    c.loop-first.invariant
    ∙ joined-next c.loop-first.bytes c.push.new.self c.loop-first.text.now c.in-Some-unescape.behind.now c.in-Some-unescape.byte
    (ap unquoted c.in-Some.ensures.cases.0 ∙ c.in-Some-unescape.ensures.byte) c.in_ok-push.ensures.ok

pub returns : goal.returns
returns c =
    sym (c.loop-first.invariant
    ∙ joined-open c.loop-first.bytes c.loop-first.text.now c.in_default-split_first.ensures.cases)
