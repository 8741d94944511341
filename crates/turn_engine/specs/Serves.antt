-- What serving does: the library OS and the host stand for the same as before, behind what was
-- written.
use Rattle.std.specs.Prelude.{◌≡◌, ◌⊎◌, true, false}
use Rattle.std.specs.declared.option.Option.TheVariants.{None}
use Rattle.turn_sched.specs.Clock.{next_position}
use Rattle.abi_calls.specs.Objects.{Objects}
use Rattle.mono_model.specs.Readable.{Readable}
use Rattle.mono_model.specs.Written.{Written, and_then}
use Rattle.mono_model.specs.Turns.{is_stuck, turn_of}
use Rattle.libos_state.specs.declared.state.Boot.TheVariants.{Up}
use Rattle.libos_state.specs.declared.state.LibOs.{LibOs}
use Rattle.libos_state.specs.Fits.{Fits, FitsUp}
use Rattle.libos_state.specs.Laws.{IsRest, files_in}
use Rattle.turn_engine.specs.declared.machine.TurnEnd.{TurnEnd}
use Rattle.turn_engine.specs.declared.machine.TurnEnd.TheVariants.{Stuck}
use Rattle.turn_engine.specs.Inside.{WhereReadable, IsWritten}
use Rattle.turn_engine.specs.Moment.{Moment, meaning_at, machine_at}

-- From x at one moment to y at a later one of a service: what was written comes first of all that
-- the service writes, some of the input was taken, and the files are those before or those that
-- the service leads to.
pub record Carries (a b : Moment) (x y : Readable) : Type 0 where
  pub written : Written
  pub told : IsWritten a.told b.told written
  pub input : IsRest y.input x.input
  pub files : (y.files ≡ x.files) ⊎ (y.files ≡ files_in (meaning_at a x).0 x.files)
  pub same : meaning_at a x ≡ ((meaning_at b y).0, and_then written (meaning_at b y).1)

-- From one moment to a later one of a service: the library OS fits, no turn was made, and, where
-- files and input are told, both stand for the same.
pub record Serves (a b : Moment) : Type 0 where
  pub fits : Fits b.os b.objects
  pub up : a.os.boot ≡ Up → b.os.boot ≡ Up
  pub turns : b.objects.positions.turns ≡ a.objects.positions.turns
  pub means : WhereReadable a.told b.told (Carries a b)

-- The run has begun, and nothing is in progress.
pub record IsUp (os : LibOs) (o : Objects) : Type 0 where
  pub up : os.boot ≡ Up
  pub settled : os.cont ≡ None
  pub fits : FitsUp os o

-- The machine at a moment made its turn.
pub record IsTurnOf (a b : Moment) (x y : Readable) : Type 0 where
  pub goes : is_stuck (machine_at a x) ≡ false
  pub told : IsWritten a.told b.told (turn_of (machine_at a x)).1
  pub same : machine_at b y ≡ (turn_of (machine_at a x)).0

-- One turn was made.
pub record MakesTurn (a b : Moment) : Type 0 where
  pub up : IsUp b.os b.objects
  pub turns : b.objects.positions.turns ≡ next_position a.objects.positions.turns
  pub means : WhereReadable a.told b.told (IsTurnOf a b)

-- Nothing can happen any more, and nothing did.
pub record StaysStuck (a b : Moment) : Type 0 where
  pub same : b ≡ a
  pub means : WhereReadable a.told b.told (λ x y. is_stuck (machine_at a x) ≡ true)

abbrev pub TurnsTo : TurnEnd → Moment → Moment → Type 0
TurnsTo Stuck a b = StaysStuck a b
TurnsTo _ a b = MakesTurn a b
