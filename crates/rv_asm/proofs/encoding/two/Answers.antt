use Rattle.std.proofs.Common.{◌≡◌, ◌∙◌, ap, Err, rules, ℤ}
use Rattle.std.specs.Option.{ok_or}
use Rattle.std.specs.Int.{w128}
use mir.Val.{to_z, of_z}
use Rattle.std.proofs.lemmas.Int.{to_z-of_z}
use Rattle.rv_core.specs.Encoding.{encoded}
use Rattle.rv_asm.specs.declared.AsmCause.TheVariants as causes
use Rattle.rv_asm.specs.Encoding.{instr, high_part, low_part}
use Rattle.rv_asm.proofs.Ranges.{held-part}
use Rattle.rv_asm.proofs.WordLists.{HasWords-two, HasWords-second}
use Rattle.rv_asm.proofs.encoding.two.Goals as goal

pub returns-in_err-lower : goal.returns-in_err-lower
returns-in_err-lower c =
    let rd = c.args.rd in
    let d = c.args.number in
    let same : to_z w128 (of_z w128 d) ≡ d = to_z-of_z w128 d c.ranges.number in
    let high : to_z w128 (of_z w128 c.high_part.result) ≡ high_part d =
    held-part c.high_part.result c.high_part.ensures.lower c.high_part.ensures.upper ∙ (c.high_part.ensures.value ∙ ap high_part same) in
    let low : to_z w128 (of_z w128 c.low_part.result) ≡ low_part d =
    held-part c.low_part.result c.low_part.ensures.lower c.low_part.ensures.upper ∙ (c.low_part.ensures.value ∙ ap low_part same) in
    let gave : c.from_residual-in_err-lower.result ≡ Err c.in_err-lower.field-0.0 = search rules in
    HasWords-second (instr c.args.upper rd 0 0 (high_part d)) (instr c.args.lower rd rd 0 (low_part d))
    _ c.in_ok-upper.upper c.in_err-lower.field-0.0 gave
    (c.in_ok-upper.ensures ∙ ap (λ (z : ℤ). ok_or (encoded (instr c.args.upper rd 0 0 z)) causes.Range) high)
    (c.in_err-lower.ensures ∙ ap (λ (z : ℤ). ok_or (encoded (instr c.args.lower rd rd 0 z)) causes.Range) low)

pub returns : goal.returns
returns c =
    let rd = c.args.rd in
    let d = c.args.number in
    let same : to_z w128 (of_z w128 d) ≡ d = to_z-of_z w128 d c.ranges.number in
    let high : to_z w128 (of_z w128 c.high_part.result) ≡ high_part d =
    held-part c.high_part.result c.high_part.ensures.lower c.high_part.ensures.upper ∙ (c.high_part.ensures.value ∙ ap high_part same) in
    let low : to_z w128 (of_z w128 c.low_part.result) ≡ low_part d =
    held-part c.low_part.result c.low_part.ensures.lower c.low_part.ensures.upper ∙ (c.low_part.ensures.value ∙ ap low_part same) in
    HasWords-two (instr c.args.upper rd 0 0 (high_part d)) (instr c.args.lower rd rd 0 (low_part d))
    c.in_ok-upper.upper c.in_ok-lower.lower
    (c.in_ok-upper.ensures ∙ ap (λ (z : ℤ). ok_or (encoded (instr c.args.upper rd 0 0 z)) causes.Range) high)
    (c.in_ok-lower.ensures ∙ ap (λ (z : ℤ). ok_or (encoded (instr c.args.lower rd rd 0 z)) causes.Range) low)
