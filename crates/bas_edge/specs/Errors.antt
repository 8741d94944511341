-- The errors with one value.
use Rattle.bas_edge.specs.declared.errors.Failed.{Failed}
use Rattle.bas_edge.specs.declared.errors.Memory.{Memory}

-- The one value of `Failed`.
abbrev pub failed : Failed
failed = record {}

-- The one value of `Memory`.
abbrev pub memory : Memory
memory = record {}
