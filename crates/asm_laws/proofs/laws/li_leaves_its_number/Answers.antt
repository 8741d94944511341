use Rattle.asm_laws.proofs.Accepted.{li_accepted}
use Rattle.asm_laws.proofs.Numbers.{li_done}
use Rattle.asm_laws.proofs.laws.li_leaves_its_number.Goals as goal

pub returns-clause-leaves : goal.returns-clause-leaves
returns-clause-leaves c = li_done

pub returns-clause-accepted : goal.returns-clause-accepted
returns-clause-accepted c = li_accepted
