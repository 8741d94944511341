-- What a host says of itself at one moment.
use Rattle.std.specs.Prelude.{ℕ, List}
use Rattle.std.specs.declared.option.Option.{Option}
use Rattle.abi_calls.specs.declared.host.Crossing.{Crossing}
use Rattle.abi_calls.specs.declared.host.Host.{Ghosts}
use Rattle.abi_calls.specs.Objects.{Objects}
use Rattle.abi_calls.specs.World.{Told}
use Rattle.libos_state.specs.declared.state.LibOs.{LibOs}
use Rattle.turn_engine.specs.Moment.{Moment, moment}

-- Its objects, the contents as far as they are told, the journal where it keeps one, and how many
-- calls it answered.
pub record HostState : Type 0 where
  pub objects : Objects
  pub told : Told
  pub journal : Option (List Crossing)
  pub answered : ℕ

abbrev pub state_of : {Self : Type 0} → Ghosts Self → Self → HostState
state_of says host = record {
  objects = says.objects host;
  told = says.told host;
  journal = says.journal host;
  answered = says.answered_count host;
}

-- The library OS over a host in this state.
abbrev pub over : LibOs → HostState → Moment
over os s = moment os s.objects s.told s.journal s.answered
