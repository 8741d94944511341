use Rattle.std.proofs.Common.{length}
use Rattle.file_commands.proofs.Writing.{Writes}
use Rattle.file_commands.proofs.put.write_file.Given as goal

abbrev pub invariant-loop-rest : goal.invariant-loop-rest
invariant-loop-rest g l =
    Writes l.file.name l.name l.bytes l.file.stream (g.H.Host.told l.fn.host) l.offset l.rest (g.H.Host.objects l.host) (g.H.Host.told l.host) (g.H.Host.fault_count l.fn.host) (g.H.Host.fault_count l.host)

abbrev pub decreases-loop-rest : goal.decreases-loop-rest
decreases-loop-rest g l = length l.rest
