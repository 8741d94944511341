-- What the errors of a copy stand for.
use Rattle.abi_calls.specs.declared.host.HostError.{HostError}
use Rattle.abi_calls.specs.declared.host.HostError.TheVariants as host
use Rattle.bas_edge.specs.declared.errors.EdgeError.{EdgeError}
use Rattle.bas_edge.specs.declared.errors.EdgeError.TheVariants as edge
use Rattle.file_commands.specs.declared.copies.CopyError.{CopyError}
use Rattle.file_commands.specs.declared.copies.CopyError.TheVariants.{Host, Shelf, Memory}

abbrev pub no_memory : CopyError
no_memory = Memory

-- The error of a copy where a call of the host gave none, or one of the user's files.
abbrev pub host_error : HostError → CopyError
host_error host.Failed = Host
host_error host.Memory = Memory

abbrev pub shelf_error : EdgeError → CopyError
shelf_error edge.Failed = Shelf
shelf_error edge.Memory = Memory
