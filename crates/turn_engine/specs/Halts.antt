-- What stands where a service, a turn or a run is given up: for want of memory, or as the outside
-- failed.
use Rattle.std.specs.Prelude.{◌≡◌, ◌⊎◌, ◌≢◌}
use Rattle.std.specs.declared.option.Option.TheVariants.{None}
use Rattle.abi_calls.specs.World.{Told}
use Rattle.mono_model.specs.Readable.{Readable}
use Rattle.mono_model.specs.Turns.{turn_of}
use Rattle.libos_state.specs.declared.state.Boot.TheVariants.{Going}
use Rattle.libos_state.specs.declared.state.LibOs.{LibOs}
use Rattle.libos_state.specs.Laws.{IsRest, files_in}
use Rattle.libos_state.specs.Meaning.{Meaning, leads_to}
use Rattle.turn_engine.specs.Inside.{WhereReadable, IsPartly}
use Rattle.turn_engine.specs.Moment.{Moment, meaning_at, machine_at}

-- From x it came to y on the way to this: some first part was written of what it writes, some of
-- the input was taken, and the files are those before or those that it leads to.
pub record IsGivenUp (told told' : Told) (meant : Meaning) (x y : Readable) : Type 0 where
  pub partly : IsPartly told told' meant.1
  pub input : IsRest y.input x.input
  pub files : (y.files ≡ x.files) ⊎ (y.files ≡ files_in meant.0 x.files)

-- A service is given up on the way to what the moment stood for.
pub record Halts (a : Moment) (told' : Told) : Type 0 where
  pub halts : WhereReadable a.told told' (λ x y. IsGivenUp a.told told' (meaning_at a x) x y)

-- A turn is given up on the way to what the machine's turn leads to.
pub record HaltsTurn (a : Moment) (told' : Told) : Type 0 where
  pub halts : WhereReadable a.told told'
      (λ x y. IsGivenUp a.told told' (leads_to (turn_of (machine_at a x))) x y)

-- What is in progress, if anything is, is a start.
abbrev pub ServesNoTrap : LibOs → Type 0
ServesNoTrap os = os.cont ≢ None → os.boot ≡ Going

-- From one moment to a later one of a start nothing changes of what is told.
pub record StartsQuietly (a b : Moment) : Type 0 where
  pub quiet : ServesNoTrap a.os → b.told ≡ a.told
  pub starts : ServesNoTrap a.os → ServesNoTrap b.os
