use Rattle.std.proofs.Common.{◌<◌, sym, ◌∙◌, arith}
use Rattle.asm_text.proofs.NumberLists.{counted-magnitude}
use Rattle.asm_text.proofs.numbers.magnitude.Goals as goal

pub returns-clause-value : goal.returns-clause-value
returns-clause-value c =
    let positive : 0 < c.args.base = omega arith in
    counted-magnitude c.args.base c.loop-byte.number c.loop-byte.byte-index c.args.digits.now
    (sym c.is_empty.ensures ∙ c.if-is_empty.false) positive (omega arith) c.loop-byte.invariant.value
