-- The same objects under other numbers.
use Rattle.std.specs.Prelude.{◌≡◌, ℕ, ◌==◌, Bool, false, map}
use Rattle.std.specs.Option.{option_map}
use Rattle.std.specs.FinMap.{entries, from_entries}
use Rattle.std.specs.declared.option.Option.{Option}
use Rattle.std.specs.declared.option.Option.TheVariants.{None, Some}
use Rattle.turn_sched.specs.Lists.{renamed_lists}
use Rattle.abi_calls.specs.declared.object.Object.TheVariants.{Process, Thread, Event, Stream, ReadEnd, WriteEnd}
use Rattle.abi_calls.specs.declared.threads.Turned.{Turned}
use Rattle.abi_calls.specs.declared.threads.Turned.TheVariants.{Ran, Idle, Stuck, Exception}
use Rattle.abi_calls.specs.declared.threads.Upcall.{Upcall}
use Rattle.abi_calls.specs.Objects.{Object, Live, Objects}

-- Another number for each, one to one; 0 stays 0.
pub record Renaming : Type 0 where
  pub to : ℕ → ℕ
  pub back : ℕ → Option ℕ
  pub there : (n : ℕ) → back (to n) ≡ Some n
  pub again : (n u : ℕ) → back u ≡ Some n → to n ≡ u
  pub zero : to 0 ≡ 0

-- An object whose process has another number. Pipes keep theirs.
abbrev pub renamed_object : (ℕ → ℕ) → Object → Object
renamed_object name (Process memory code) = Process memory code
renamed_object name (Thread process context) = Thread (name process) context
renamed_object name (Event set) = Event set
renamed_object name (Stream stream) = Stream stream
renamed_object name (ReadEnd pipe) = ReadEnd pipe
renamed_object name (WriteEnd pipe) = WriteEnd pipe

abbrev pub renamed_entry : (ℕ → ℕ) → ℕ × Object → ℕ × Object
renamed_entry name e = (name e.0, renamed_object name e.1)

unfoldable pub renamed_live : (ℕ → ℕ) → Live → Live
renamed_live name live = from_entries (map (renamed_entry name) (entries live))

abbrev pub renamed_objects : (ℕ → ℕ) → Objects → Objects
renamed_objects name o = record o {
  live = renamed_live name o.live;
  lists = renamed_lists name o.lists;
}

abbrev pub renamed_turned : (ℕ → ℕ) → Turned → Turned
renamed_turned name (Exception u) =
    Exception (record u { process = name u.process; thread = name u.thread })
renamed_turned name turned = turned

-- What a turn answers and leaves.
abbrev pub renamed_turn : (ℕ → ℕ) → Turned × Objects → Turned × Objects
renamed_turn name x = (renamed_turned name x.0, renamed_objects name x.1)
