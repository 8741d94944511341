use Rattle.std.proofs.Common.{◌≡◌, ◌<◌, ◌≤◌, ◌++◌, ◌∷◌, [], ◌∙◌, sym, ap, length, arith, rules}
use Rattle.std.proofs.lemmas.Int.{ints, to_z-of_z}
use Rattle.std.specs.Option.{ok_or}
use Rattle.rv_asm.specs.declared.AsmCause.TheVariants as causes
use Rattle.rv_asm.proofs.OperandLists.{values_of, in_front, in_front-none, in_front-end, in_front-more, in_front-refused}
use Rattle.rv_asm.proofs.Refusals.{Answers-refused}
use Rattle.rv_asm.proofs.operands.values.Goals as goal

pub loop-text-init : goal.loop-text-init
loop-text-init c =
    let all = values_of c.args.texts.now in
    in_front-none all ∙ ap (λ front. in_front front all) (sym c.new-values.ensures)

pub returns-in_err-ok_or : goal.returns-in_err-ok_or
returns-in_err-ok_or c =
    let texts = c.args.texts.now in
    let i = c.loop-text.text-index in
    let below : i < length texts = omega arith in
    Answers-refused _ c.in_err-ok_or.field-0.0 _ c.from_residual.ensures.1
    (c.loop-text.invariant
    ∙ in_front-refused c.loop-text.values texts i c.text-item.result c.as_slice.result.now c.in_err-ok_or.field-0.0 below
    (c.as_slice.ensures ∙ c.text-item.is)
    (c.in_err-ok_or.ensures.value ∙ ap (λ o. ok_or o causes.Number) c.number_of.ensures.value))

pub loop-text-preserved : goal.loop-text-preserved
loop-text-preserved c =
    let texts = c.args.texts.now in
    let i = c.loop-text.text-index in
    let n = c.in_ok-ok_or.field-0 in
    let below : i < length texts = omega arith in
    let pushed : c.push.new.self ≡ c.loop-text.values ++ n ∷ [] = search (rules, ints, to_z-of_z) in
    c.loop-text.invariant
    ∙ in_front-more c.loop-text.values c.push.new.self texts i c.text-item.result c.as_slice.result.now n below
    (c.as_slice.ensures ∙ c.text-item.is)
    (c.in_ok-ok_or.ensures.value ∙ ap (λ o. ok_or o causes.Number) c.number_of.ensures.value) pushed

pub returns : goal.returns
returns c =
    let texts = c.args.texts.now in
    let past : length texts ≤ c.loop-text.text-index = omega arith in
    c.loop-text.invariant ∙ in_front-end c.loop-text.values texts c.loop-text.text-index past
