-- How a start came to its outcome, one turn and one answered call after another.
use Rattle.std.specs.Prelude.{◌≡◌, ◌≤◌, ℕ, List}
use Rattle.std.specs.declared.option.Option.{Option}
use Rattle.std.specs.declared.option.Option.TheVariants.{None, Some}
use Rattle.abi_calls.specs.declared.host.Crossing.{Crossing}
use Rattle.abi_calls.specs.Objects.{Objects}
use Rattle.abi_calls.specs.World.{Told}
use Rattle.libos_state.specs.declared.state.Boot.TheVariants as boots
use Rattle.libos_state.specs.declared.state.LibOs.{LibOs}
use Rattle.libos_state.specs.Records.{exit_code}
use Rattle.turn_engine.specs.Moment.{Moment, moment}
use Rattle.turn_engine.specs.History.{History}
use Rattle.bas_outcomes.specs.declared.outcome.Outcome.{Outcome}
use Rattle.bas_outcomes.specs.declared.outcome.Outcome.TheVariants.{Exited, Bound, Stuck, NoProgram, BadProgram, AlreadyUsed, HostFault, OutOfMemory}
use Rattle.bascule_top.specs.Commands.{Launch, Command, Start, TURNS}
use Rattle.bascule_top.specs.Outcomes.{GivesUp, opening}
use Rattle.bascule_top.specs.States.{HostState, over}

-- How the library OS stands at the end of a start with this outcome, and how many turns it made.
abbrev pub EndsAs : Outcome → LibOs → ℕ → Type 0
EndsAs (Exited code) os turns = (exit_code os ≡ Some code) × (turns ≤ TURNS)
EndsAs (Bound bound) os turns = (exit_code os ≡ None) × (turns ≡ bound)
EndsAs (Stuck after) os turns = (exit_code os ≡ None) × (turns ≡ after)
EndsAs (NoProgram name) os turns = (os.boot ≡ boots.NoProgram) × (turns ≡ 0)
EndsAs (BadProgram cause) os turns = (os.boot ≡ boots.BadProgram cause) × (turns ≡ 0)
EndsAs _ os turns = ⊥

-- The start came to its outcome: from the library OS that opens the program each turn
-- and each call was the next one, and at the end nothing is in progress.
pub record Came (outcome : Outcome) (a : Moment) (o' : Objects) (told' : Told)
    (journal' : Option (List Crossing)) (answered' : ℕ) : Type 0 where
  pub os : LibOs
  pub turns : ℕ
  pub history : History turns a (moment os o' told' journal' answered')
  pub settled : os.cont ≡ None
  pub ends : EndsAs outcome os turns

-- The start came to its outcome between these states of the host.
abbrev pub ComesTo : Outcome → Launch → HostState → HostState → Type 0
ComesTo outcome launch s s' =
    Came outcome (over (opening launch) s) s'.objects s'.told s'.journal s'.answered

-- A start's history: up to its outcome, or to where it was given up. On a host that was used before
-- there is none.
abbrev pub IsHistory : Outcome → Launch → HostState → HostState → Type 0
IsHistory AlreadyUsed launch s s' = s' ≡ s
IsHistory HostFault launch s s' = GivesUp launch s s'
IsHistory OutOfMemory launch s s' = GivesUp launch s s'
IsHistory outcome launch s s' = ComesTo outcome launch s s'

-- The history of a command: of a start, as no other command makes a run.
abbrev pub Historic : Outcome → Option Command → HostState → HostState → Type 0
Historic outcome (Some (Start launch)) s s' = IsHistory outcome launch s s'
Historic outcome _ s s' = Unit {0}
