use Rattle.host_monitor.proofs.Pieces.{gives_part_still}
use Rattle.host_monitor.proofs.output.give_all.Goals as goal

-- The give that failed added nothing.
pub returns-in_err-given-clause-part : goal.returns-in_err-given-clause-part
returns-in_err-given-clause-part g c = gives_part_still c.loop-rest.invariant.work c.in_err-given.ensures.same
