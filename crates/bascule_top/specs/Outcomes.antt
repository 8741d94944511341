-- What each outcome of a start says.
use Rattle.std.specs.Prelude.{◌≡◌, ℕ, zero, suc, ◌≤◌, List, []}
use Rattle.std.specs.declared.option.Option.{Option}
use Rattle.std.specs.declared.option.Option.TheVariants.{None, Some}
use Rattle.abi_calls.specs.declared.host.Crossing.{Crossing}
use Rattle.abi_calls.specs.declared.threads.Turned.TheVariants as world
use Rattle.abi_calls.specs.Objects.{Objects}
use Rattle.abi_calls.specs.World.{Told}
use Rattle.abi_calls.specs.Turn.{world_turn}
use Rattle.mono_model.specs.Machine.{Mono}
use Rattle.mono_model.specs.Readable.{Readable}
use Rattle.mono_model.specs.Turns.{Ending, Exited, Bound, Stuck, run_of}
use Rattle.mono_model.specs.Turns as mono
use Rattle.mono_model.specs.Starting.{Started, Runs, boot}
use Rattle.mono_model.specs.Starting as starting
use Rattle.libos_state.specs.declared.state.LibOs.{LibOs}
use Rattle.libos_state.specs.Entered.{booting}
use Rattle.libos_state.specs.Records.{base, exit_code}
use Rattle.libos_state.specs.Fits.{FitsNone}
use Rattle.turn_engine.specs.Inside.{WhereReadable, IsWritten}
use Rattle.turn_engine.specs.Moment.{Moment}
use Rattle.turn_engine.specs.Serves.{IsUp}
use Rattle.turn_engine.specs.History.{Broken}
use Rattle.bas_outcomes.specs.declared.outcome.Outcome.{Outcome}
use Rattle.bas_outcomes.specs.declared.outcome.Outcome.TheVariants as outcome
use Rattle.bas_outcomes.specs.declared.outcome.Outcome.TheVariants.{BadWords, HostFault, OutOfMemory}
use Rattle.bascule_top.specs.Commands.{Launch, Command, Start, TURNS, start_settings, start_job}
use Rattle.bascule_top.specs.Runs.{IsGivenUpAfter}
use Rattle.bascule_top.specs.States.{HostState, over}

-- ---- what the machine says

-- The outcome of a run: with its code, or after how many turns it ended.
abbrev pub outcome_by : mono.End → ℕ → Outcome
outcome_by (Exited code) turns = outcome.Exited code
outcome_by Bound turns = outcome.Bound turns
outcome_by Stuck turns = outcome.Stuck turns

abbrev pub outcome_of : Ending → Outcome
outcome_of ending = outcome_by ending.end ending.last.positions.turns

-- The outcome that is expected of what a start begins with.
abbrev pub expected : Launch → Started → Outcome
expected launch (Runs m) = outcome_of (run_of TURNS m)
expected launch starting.NoProgram = outcome.NoProgram launch.name
expected launch (starting.BadProgram cause) = outcome.BadProgram cause

-- What the start of the program begins with.
abbrev pub start_of : Launch → Readable → Started
start_of launch x = boot start_settings x (start_job launch)

-- Objects, files and input agree with the machine where some records, which fit the objects, name
-- that machine in them.
pub record Agrees (o : Objects) (y : Readable) (m : Mono) : Type 0 where
  pub records : LibOs
  pub fit : IsUp records o
  pub same : base records (record { rules = []; objects = o; contents = y }) ≡ m

-- All is as at the end of a run: what stood there comes first, and then what the run wrote.
pub record IsEndOf (ending : Ending) (o' : Objects) (told told' : Told) (y : Readable)
    : Type 0 where
  pub agrees : Agrees o' y ending.last
  pub written : IsWritten told told' ending.written

-- Without a run nothing that is told has changed.
abbrev pub IsAfter : Started → Objects → Told → Told → Readable → Type 0
IsAfter (Runs m) o' told told' y = IsEndOf (run_of TURNS m) o' told told' y
IsAfter _ o' told told' y = told' ≡ told

-- From the files and the input at the beginning comes the outcome, and what stands after.
pub record StartSays (outcome : Outcome) (launch : Launch) (o' : Objects) (told told' : Told)
    (x y : Readable) : Type 0 where
  pub outcome_is : outcome ≡ expected launch (start_of launch x)
  pub after : IsAfter (start_of launch x) o' told told' y

-- ---- what the objects say, which are always told

-- The run has begun, and process 1 has this code.
pub record HasRun (o' : Objects) (code : Option ℕ) : Type 0 where
  pub records : LibOs
  pub fit : IsUp records o'
  pub exit : exit_code records ≡ code

-- The ends of the console are open, and there is nothing else; no turn was made.
pub record HasConsole (o' : Objects) : Type 0 where
  pub records : LibOs
  pub fit : FitsNone records o'
  pub unturned : o'.positions.turns ≡ 0

abbrev pub LeavesObjects : Outcome → Objects → Type 0
LeavesObjects (outcome.Exited code) o' = HasRun o' (Some code)
LeavesObjects (outcome.Bound turns) o' =
    HasRun o' None × (turns ≡ TURNS) × (o'.positions.turns ≡ TURNS)
LeavesObjects (outcome.Stuck turns) o' =
    HasRun o' None × (turns ≡ o'.positions.turns) × ((world_turn o').0 ≡ world.Stuck)
LeavesObjects (outcome.NoProgram name) o' = HasConsole o'
LeavesObjects (outcome.BadProgram cause) o' = HasConsole o'
LeavesObjects _ o' = ⊥

-- ---- a start that is given up

-- At a start nothing is written; a run is given up in its last turn.
abbrev pub IsStopped : Started → ℕ → Told → Told → Readable → Type 0
IsStopped begun zero told told' y = told' ≡ told
IsStopped (Runs m) (suc before) told told' y = IsGivenUpAfter before m told told' y
IsStopped _ (suc before) told told' y = ⊥

-- For want of memory or as the outside failed a start was given up after these turns and calls; the
-- last turn was made, but not served to its end.
pub record IsGivenUp (launch : Launch) (a : Moment) (told' : Told)
    (journal' : Option (List Crossing)) (answered' : ℕ) : Type 0 where
  pub turns : ℕ
  pub within : turns ≤ TURNS
  pub broken : Broken turns a told' journal' answered'
  pub means : WhereReadable a.told told' (λ x y. IsStopped (start_of launch x) turns a.told told' y)

-- ---- the headline

-- The outcome of a start is the expected one, and objects and contents are those of the run's last
-- state.
pub record Says (outcome : Outcome) (launch : Launch) (told : Told) (o' : Objects) (told' : Told)
    : Type 0 where
  pub objects : LeavesObjects outcome o'
  pub contents : WhereReadable told told' (StartSays outcome launch o' told told')

-- The library OS that opens the program.
abbrev pub opening : Launch → LibOs
opening launch = booting launch.name launch.args start_settings

-- A start is given up between these states of the host.
abbrev pub GivesUp : Launch → HostState → HostState → Type 0
GivesUp launch s s' = IsGivenUp launch (over (opening launch) s) s'.told s'.journal s'.answered

-- What a start says of the host, before and after. A host that was used before stays as it was.
abbrev pub StartEnds : Outcome → Launch → HostState → HostState → Type 0
StartEnds outcome.AlreadyUsed launch s s' = s' ≡ s
StartEnds HostFault launch s s' = GivesUp launch s s'
StartEnds OutOfMemory launch s s' = GivesUp launch s s'
StartEnds outcome launch s s' = Says outcome launch s.told s'.objects s'.told

-- Words that are no command are refused; no other command makes a run.
abbrev pub Headline : Outcome → Option Command → HostState → HostState → Type 0
Headline outcome None s s' = outcome ≡ BadWords
Headline outcome (Some (Start launch)) s s' = StartEnds outcome launch s s'
Headline outcome (Some _) s s' = Unit {0}
