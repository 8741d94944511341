use Rattle.std.proofs.Common.{arith}
use Rattle.bas_fields.proofs.Spellings.{Spells-decimal}
use Rattle.bas_fields.proofs.numbers.decimal.Goals as goal

pub returns-clause-spelled : goal.returns-clause-spelled
returns-clause-spelled c =
    rw (c.into_bytes.ensures.value, c.in_ok-to_string.ensures.ok) (Spells-decimal c.args.n (omega arith))
