use Rattle.asm_laws.proofs.Addresses.{jump_done}
use Rattle.asm_laws.proofs.laws.jumps_come_to_labels.Goals as goal

pub returns-clause-jal : goal.returns-clause-jal
returns-clause-jal c = jump_done

pub returns-clause-call : goal.returns-clause-call
returns-clause-call c = λ find cx m operands n d bytes. jump_done find cx m 1 operands.label d bytes
