-- The objects of a host as a world sees them, and those that nothing was done to.
use Rattle.std.specs.Prelude.{[]}
use Rattle.std.specs.FinMap.{empty}
use Rattle.turn_sched.specs.Lists.{no_threads}
use Rattle.abi_calls.specs.Objects.{Objects}
use Rattle.host_objects.specs.declared.numbers.Numbers.{Ghosts}
use Rattle.host_objects.specs.declared.objects.Objects as kept
use Rattle.host_objects.specs.System.{system_objects}

abbrev pub objects_of : {N : Type 0} {g : Ghosts N} → kept.Objects N g → Objects
objects_of o = system_objects o.system

-- Nothing, at the start of everything, with the least settings that a call accepts.
abbrev pub untouched : Objects
untouched = record {
  live = empty;
  pipes = empty;
  lists = no_threads;
  positions = record { turns = 0; pick = 0; random = 0 };
  settings = record { start = 0; step = 0; salt = 0; slice = 1; picks = []; randoms = [] };
}
