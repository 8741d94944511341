-- What a failure of the outside is to a host.
use Rattle.bas_edge.specs.declared.errors.EdgeError.{EdgeError}
use Rattle.bas_edge.specs.declared.errors.EdgeError.TheVariants as edge
use Rattle.abi_calls.specs.declared.host.HostError.{HostError}
use Rattle.abi_calls.specs.declared.host.HostError.TheVariants as host

abbrev pub host_error : EdgeError → HostError
host_error edge.Failed = host.Failed
host_error edge.Memory = host.Memory

abbrev pub no_memory : HostError
no_memory = host.Memory
