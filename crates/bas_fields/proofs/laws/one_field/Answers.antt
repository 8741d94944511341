use Rattle.bas_fields.proofs.NumberBytes.{number_and_rest}
use Rattle.bas_fields.proofs.laws.one_field.Goals as goal

pub returns : goal.returns
returns c = number_and_rest
