use Rattle.std.proofs.Common.{arith}
use Rattle.std.proofs.lemmas.Int.{ints, to_z-of_z}
use Rattle.rv_asm.specs.Encoding.{high_part}
use Rattle.rv_asm.proofs.encoding.high_part.Goals as goal

pub returns-clause-value : goal.returns-clause-value
unfolding high_part
returns-clause-value c = search (arith, ints, to_z-of_z, c.residue.ensures.value)
