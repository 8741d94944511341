-- What a run of the machine over a host is.
use Rattle.std.specs.Prelude.{◌≡◌, ◌⊎◌, ℕ, zero, suc, ◌+◌, ◌%◌, ◌^◌, ◌≤◌, List}
use Rattle.std.specs.declared.option.Option.{Option}
use Rattle.std.specs.declared.option.Option.TheVariants.{None, Some}
use Rattle.abi_calls.specs.declared.host.Crossing.{Crossing}
use Rattle.abi_calls.specs.declared.threads.Turned.TheVariants as world
use Rattle.abi_calls.specs.World.{Told}
use Rattle.abi_calls.specs.Turn.{world_turn}
use Rattle.mono_model.specs.Machine.{Mono}
use Rattle.mono_model.specs.Readable.{Readable}
use Rattle.mono_model.specs.Written.{Written, and_then}
use Rattle.mono_model.specs.Calls.{Served, silently}
use Rattle.mono_model.specs.Turns.{End, Exited, Bound, Stuck, turn_of, run_of, behind}
use Rattle.libos_state.specs.Records.{exit_code}
use Rattle.libos_state.specs.Laws.{IsRest}
use Rattle.turn_engine.specs.Inside.{WhereReadable, IsWritten}
use Rattle.turn_engine.specs.Moment.{Moment, machine_at}
use Rattle.turn_engine.specs.Serves.{IsUp}
use Rattle.turn_engine.specs.History.{History, Broken}
use Rattle.bascule_top.specs.declared.run.RunEnd.{RunEnd}
use Rattle.bascule_top.specs.declared.run.RunEnd.TheVariants as run

abbrev pub after_turn : Served → Served → Served
after_turn first next = (next.0, and_then first.1 next.1)

-- The machine after so many turns, and all that they wrote.
abbrev pub turns_made : ℕ → Mono → Served
turns_made zero m = silently m
turns_made (suc k) m = after_turn (turns_made k m) (turn_of (turns_made k m).0)

-- The machine's end of a run.
abbrev pub end_of : RunEnd → End
end_of (run.Exited code) = Exited code
end_of run.Bound = Bound
end_of (run.Stuck turns) = Stuck

-- So many turns of the machine lead from x at one moment to y at the other, and what is left of a
-- run goes on there.
pub record MadeTurns (made : ℕ) (a b : Moment) (x y : Readable) : Type 0 where
  pub written : IsWritten a.told b.told (turns_made made (machine_at a x)).1
  pub same : machine_at b y ≡ (turns_made made (machine_at a x)).0
  pub run : (left : ℕ) → run_of (made + left) (machine_at a x)
      ≡ behind (turns_made made (machine_at a x)).1 (run_of left (machine_at b y))

-- From one moment to a later one of a run so many turns were made.
pub record GoneOn (made : ℕ) (a b : Moment) : Type 0 where
  pub up : IsUp b.os b.objects
  pub turns : b.objects.positions.turns ≡ (a.objects.positions.turns + made) % 2 ^ 64
  pub means : WhereReadable a.told b.told (MadeTurns made a b)
  pub history : History made a b

-- A run that ended so, from x at one moment to y at the other.
pub record EndsIn (n : ℕ) (end : End) (a b : Moment) (x y : Readable) : Type 0 where
  pub ends : (run_of n (machine_at a x)).end ≡ end
  pub last : (run_of n (machine_at a x)).last ≡ machine_at b y
  pub written : IsWritten a.told b.told (run_of n (machine_at a x)).written

-- Process 1 has exited with this code; or it hasn't, and all turns were made, or there is no next
-- one.
abbrev pub StopsAt : RunEnd → ℕ → ℕ → Moment → Type 0
StopsAt (run.Exited code) n made b = exit_code b.os ≡ Some code
StopsAt run.Bound n made b = (exit_code b.os ≡ None) × (made ≡ n)
StopsAt (run.Stuck turns) n made b =
    (exit_code b.os ≡ None) × (made ≡ turns) × ((world_turn b.objects).0 ≡ world.Stuck)

-- A run of at most n turns has ended so.
pub record EndsRun (n : ℕ) (end : RunEnd) (a b : Moment) : Type 0 where
  pub up : IsUp b.os b.objects
  pub made : ℕ
  pub within : made ≤ n
  pub stops : StopsAt end n made b
  pub turns : b.objects.positions.turns ≡ (a.objects.positions.turns + made) % 2 ^ 64
  pub means : WhereReadable a.told b.told (EndsIn n (end_of end) a b)
  pub history : History made a b

-- In the turn behind so many a run is given up: what these turns wrote is written, and a first part
-- of what the next one writes; some of the input that they leave was taken, and the files are
-- those before or after that turn.
pub record IsGivenUpAfter (k : ℕ) (m : Mono) (told told' : Told) (y : Readable) : Type 0 where
  pub partly : Written
  pub rest : Written
  pub next : (turn_of (turns_made k m).0).1 ≡ and_then partly rest
  pub written : IsWritten told told' (and_then (turns_made k m).1 partly)
  pub input : IsRest y.input (turns_made k m).0.input
  pub files : (y.files ≡ (turns_made k m).0.files)
      ⊎ (y.files ≡ (turn_of (turns_made k m).0).0.files)

-- A run of at most n turns is given up in one of them, which is the last of the history's.
pub record BreaksRun (n : ℕ) (a : Moment) (told' : Told) (journal' : Option (List Crossing))
    (answered' : ℕ) : Type 0 where
  pub before : ℕ
  pub within : suc before ≤ n
  pub broken : Broken (suc before) a told' journal' answered'
  pub means : WhereReadable a.told told'
      (λ x y. IsGivenUpAfter before (machine_at a x) a.told told' y)
