use Rattle.asm_laws.proofs.Reached.{jump_accepted, branch_accepted, la_accepted}
use Rattle.asm_laws.proofs.laws.labels_within_reach.Goals as goal

pub returns-clause-jal : goal.returns-clause-jal
returns-clause-jal c = λ find at rd label d low found. jump_accepted find at label d found rd low

pub returns-clause-branch : goal.returns-clause-branch
returns-clause-branch c = λ find at rs1 rs2 o opcode f3 label d is first second found. branch_accepted find at label d found o opcode f3 rs1 rs2 is first second

pub returns-clause-la : goal.returns-clause-la
returns-clause-la c = λ find at rd label d low found near. la_accepted find at label d found rd low near
