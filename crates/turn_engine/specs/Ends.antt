-- How a turn of the machine ends, by how the world's ends: a trap is served.
use Rattle.std.specs.Prelude.{ℕ}
use Rattle.abi_calls.specs.declared.threads.Turned.{Turned}
use Rattle.abi_calls.specs.declared.threads.Turned.TheVariants as world
use Rattle.turn_engine.specs.declared.machine.TurnEnd.{TurnEnd}
use Rattle.turn_engine.specs.declared.machine.TurnEnd.TheVariants.{Ran, Idle, Stuck, Served}

abbrev pub end_of : Turned → TurnEnd
end_of world.Ran = Ran
end_of world.Idle = Idle
end_of world.Stuck = Stuck
end_of (world.Exception upcall) = Served

-- How many turns were made: none where the machine is stuck.
abbrev pub turns_of : TurnEnd → ℕ
turns_of Stuck = 0
turns_of _ = 1
