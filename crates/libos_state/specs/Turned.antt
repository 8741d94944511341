-- What a turn of the world leaves of a library OS with nothing in progress, beside the machine's
-- turn.
use Rattle.std.specs.Prelude.{◌≡◌, true, false, [], is_some}
use Rattle.std.specs.declared.option.Option.TheVariants.{None, Some}
use Rattle.abi_calls.specs.declared.threads.Turned.{Turned}
use Rattle.abi_calls.specs.declared.threads.Turned.TheVariants.{Ran, Idle, Stuck, Exception}
use Rattle.abi_calls.specs.declared.threads.Upcall.{Upcall}
use Rattle.abi_calls.specs.Objects.{Objects, object_at, is_thread_of}
use Rattle.mono_model.specs.Calls.{silently}
use Rattle.mono_model.specs.SystemCalls.{served}
use Rattle.mono_model.specs.Turns.{is_stuck, turn_of}
use Rattle.libos_state.specs.declared.state.LibOs.{LibOs}
use Rattle.libos_state.specs.Records.{Visible, with_visible, base, process_named}
use Rattle.libos_state.specs.Meaning.{caller_of}
use Rattle.libos_state.specs.Fits.{FitsRecords, FitsObjects, FitsUp, is_recorded}

-- A trap that isn't served yet: its thread is current, has a record and belongs to its process.
pub record FitsTrapped (os : LibOs) (o : Objects) (u : Upcall) : Type 0 where
  pub records : FitsRecords os
  pub first : is_some (process_named 1 os.processes) ≡ true
  pub objects : FitsObjects os o [] None
  pub current : o.lists.current ≡ Some u.thread
  pub home : is_thread_of u.process (object_at o u.thread) ≡ true
  pub recorded : is_recorded os u ≡ true

-- By how the turn ends: the machine makes the same turn, or both are stuck and nothing changes.
abbrev pub TurnsTo : LibOs → Visible → Turned → Objects → Type 0
TurnsTo os w Ran o =
    FitsUp os o × (is_stuck (base os w) ≡ false)
    × (turn_of (base os w) ≡ silently (base os (with_visible w o)))
TurnsTo os w Idle o =
    FitsUp os o × (is_stuck (base os w) ≡ false)
    × (turn_of (base os w) ≡ silently (base os (with_visible w o)))
TurnsTo os w Stuck o = (is_stuck (base os w) ≡ true) × (o ≡ w.objects)
TurnsTo os w (Exception u) o =
    FitsTrapped os o u × (is_stuck (base os w) ≡ false)
    × (turn_of (base os w)
    ≡ served (base os (with_visible w o)) (caller_of os u) (u.cause, u.value))
