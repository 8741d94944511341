use Rattle.std.proofs.Common.{length, ◌-◌}
use Rattle.file_commands.proofs.Reading.{Reads}
use Rattle.file_commands.proofs.get.read_all.Given as goal

abbrev pub invariant-loop-bytes : goal.invariant-loop-bytes
invariant-loop-bytes g l = Reads l.file.name l.file.stream (g.H.Host.told l.fn.host) l.bytes.items (g.H.Host.objects l.host) (g.H.Host.told l.host) (g.H.Host.fault_count l.fn.host) (g.H.Host.fault_count l.host)

abbrev pub decreases-loop-bytes : goal.decreases-loop-bytes
decreases-loop-bytes g l = l.length - length l.bytes.items
