use Rattle.rv_asm.proofs.Sizes.{line_end-bytes}
use Rattle.rv_asm.proofs.laws.addresses_are_places.Goals as goal

pub returns : goal.returns
returns c = line_end-bytes
