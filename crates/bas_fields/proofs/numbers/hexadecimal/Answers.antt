use Rattle.std.proofs.Common.{arith}
use Rattle.bas_fields.proofs.Spellings.{Spells-hexadecimal}
use Rattle.bas_fields.proofs.numbers.hexadecimal.Goals as goal

pub returns-clause-spelled : goal.returns-clause-spelled
returns-clause-spelled c =
    rw (c.into_bytes.ensures.value, rw c.in_radix.ensures at c.in_ok-format.ensures.ok) (Spells-hexadecimal c.args.n (omega arith))
