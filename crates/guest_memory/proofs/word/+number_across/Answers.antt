use Rattle.std.proofs.Common.{arith}
use Rattle.guest_memory.proofs.Numbers.{low_and_high_fit, low_and_high_fit_64}
use Rattle.guest_memory.proofs.word.+number_across.Goals as goal

pub overflow_mul-result : goal.overflow_mul-result
overflow_mul-result t c =
    omega (arith, low_and_high_fit_64 c.in-Some.low c.in-Some-number_across.high c.args.size (omega arith) c.requires.size (omega arith) c.in-Some-number_across.ensures.small)

pub overflow_add-result : goal.overflow_add-result
overflow_add-result t c =
    omega (arith, low_and_high_fit_64 c.from.result c.in-Some-number_across.high c.args.size (omega arith) c.requires.size (omega arith) c.in-Some-number_across.ensures.small)

pub returns-in-Some-number_across-clause-small : goal.returns-in-Some-number_across-clause-small
returns-in-Some-number_across-clause-small t c =
    low_and_high_fit c.from.result c.in-Some-number_across.high c.args.size (omega arith) (omega arith) c.in-Some-number_across.ensures.small
