use Rattle.asm_laws.proofs.Addresses.{la_done}
use Rattle.asm_laws.proofs.laws.la_leaves_its_address.Goals as goal

pub returns : goal.returns
returns c = la_done
