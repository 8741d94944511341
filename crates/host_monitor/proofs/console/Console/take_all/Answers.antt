use Rattle.std.proofs.Common.{arith}
use Rattle.host_monitor.proofs.Pieces.{takes_more, takes_part, takes_rest}
use Rattle.host_monitor.proofs.console.Console.take_all.Goals as goal

-- The buffer had room, so the input has ended.
pub returns-then-taken-eq0-clause-asked : goal.returns-then-taken-eq0-clause-asked
returns-then-taken-eq0-clause-asked g c =
    takes_rest c.loop-buffer.invariant.work c.in_ok-taken.ensures.taken c.if-taken-eq0.true (omega arith)

-- The piece was taken, though there was no memory for it.
pub returns-in_err-extend_from_slice-clause-part : goal.returns-in_err-extend_from_slice-clause-part
returns-in_err-extend_from_slice-clause-part g c =
    takes_part (takes_more c.loop-buffer.invariant.work c.in_ok-taken.ensures.taken c.take.auto.buffer (omega arith))
