use Rattle.std.proofs.Common.{◌≡◌, ◌<◌, ◌≤◌, ◌∙◌, refl, sym, ap, length, arith, rules, Err}
use Rattle.rv_asm.proofs.OperandLists.{given, given-fields_of, given-more, given-refused, given-end, refused-lengths}
use Rattle.rv_asm.proofs.operands.fields_of.Goals as goal

pub returns-then-kinds-operands : goal.returns-then-kinds-operands
returns-then-kinds-operands c = refused-lengths c.args.kinds.now c.args.operands.now c.if-kinds-operands.true

pub loop-i-init : goal.loop-i-init
loop-i-init c = ap (given c.args.kinds.now c.args.operands.now) (sym c.new-fields.ensures)

pub returns-in_err-add : goal.returns-in_err-add
returns-in_err-add c =
    let kinds = c.args.kinds.now in
    let operands = c.args.operands.now in
    let i = c.loop-i.i in
    let left : i < length kinds = omega arith in
    let right : i < length operands = omega arith in
    let gave : c.from_residual.result ≡ Err c.in_err-add.field-0.0 = search rules in
    gave
    ∙ sym (sym (given-fields_of kinds operands)
    ∙ (c.loop-i.invariant
    ∙ given-refused kinds operands i _ _ _ c.index-operands-i.result c.loop-i.fields c.in_err-add.field-0.0 left right refl
    c.index-operands-i.is c.in_err-add.ensures.kind))

pub loop-i-preserved : goal.loop-i-preserved
loop-i-preserved c =
    let kinds = c.args.kinds.now in
    let operands = c.args.operands.now in
    let i = c.loop-i.i in
    let left : i < length kinds = omega arith in
    let right : i < length operands = omega arith in
    c.loop-i.invariant
    ∙ given-more kinds operands i _ _ _ c.index-operands-i.result c.loop-i.fields c.add.new.self c.in_ok-add.field-0 left right refl
    c.index-operands-i.is c.in_ok-add.ensures.kind c.in_ok-add.ensures.field

pub returns : goal.returns
returns c =
    let kinds = c.args.kinds.now in
    let operands = c.args.operands.now in
    let right : length operands ≤ c.loop-i.i = omega arith in
    sym (sym (given-fields_of kinds operands)
    ∙ (c.loop-i.invariant ∙ given-end kinds operands c.loop-i.i c.loop-i.fields c.loop-i-test.false right))
