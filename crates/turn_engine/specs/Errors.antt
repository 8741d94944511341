-- A host's error as the machine's.
use Rattle.abi_calls.specs.declared.host.HostError.{HostError}
use Rattle.abi_calls.specs.declared.host.HostError.TheVariants as host
use Rattle.turn_engine.specs.declared.machine.EngineError.{EngineError}
use Rattle.turn_engine.specs.declared.machine.EngineError.TheVariants.{Failed, Memory}

abbrev pub of_host : HostError → EngineError
of_host host.Failed = Failed
of_host host.Memory = Memory
