use Rattle.host_monitor.specs.Answers.IsAnswered.{By}
use Rattle.host_monitor.proofs.monitor.MonitorHost.call.Goals as goal

pub returns-clause-row : goal.returns-clause-row
returns-clause-row g c = elim c.in_ok-reply.ensures.row [ By answers ↦ answers ]
