use Rattle.host_monitor.proofs.Counting.{CountsUsers-untouched}
use Rattle.host_monitor.proofs.monitor.Monitor.new.Goals as goal

-- Nothing is open, and no file has a user.
pub invariant_of-result : goal.invariant_of-result
invariant_of-result g c = record { counted = CountsUsers-untouched c.new-2.ensures c.new-4.ensures.unused }
