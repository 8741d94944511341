use Rattle.rv_core.proofs.Names.{NamesRegisters-decoded}
use Rattle.rv_core.proofs.memo.decode_at.Goals as goal

pub returns-then-slot-word-clause-registers : goal.returns-then-slot-word-clause-registers
returns-then-slot-word-clause-registers c = NamesRegisters-decoded c.in-Some.slot.now.word c.in-Some.slot.now.instr c.in-Some.slot.now.spells
