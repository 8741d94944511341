-- What holds of the objects of every world.
use Rattle.std.specs.Prelude.{◌≡◌, ℕ, ◌≤◌, ◌<◌, ◌^◌, All, ◌==◌, Bool, true, false, ◌||◌, ◌&&◌, if◌then◌else◌, nat_le, length, is_some}
use Rattle.std.specs.List.{list_all}
use Rattle.std.specs.Ordering.{nat_cmp}
use Rattle.std.specs.FinMap.{empty, get, len}
use Rattle.std.specs.declared.option.Option.{Option}
use Rattle.std.specs.declared.option.Option.TheVariants.{None, Some}
use Rattle.guest_space.specs.Space.{IsSpace}
use Rattle.bas_names.specs.declared.StreamName.{StreamName}
use Rattle.bas_names.specs.declared.StreamName.TheVariants.{File}
use Rattle.turn_sched.specs.Lists.{Waiting, standings}
use Rattle.abi_calls.specs.declared.limits.TheConstants.{MOST_PAGES, MOST_PROCESSES, MOST_THREADS, MOST_WAITS}
use Rattle.abi_calls.specs.declared.call.Call.{Call}
use Rattle.abi_calls.specs.declared.call.Call.TheVariants.{MemoryWrite}
use Rattle.abi_calls.specs.declared.object.Object.TheVariants.{Process, Thread, Event, Stream, ReadEnd, WriteEnd}
use Rattle.abi_calls.specs.Objects.{Object, Objects, object_at, running, is_process, is_thread, is_some_thread, number_of}
use Rattle.abi_calls.specs.Streams.{is_name}
use Rattle.abi_calls.specs.Processes.{is_acceptable}

-- An object that a thread may wait for: an end of a pipe, a process, exited ones too, or an event.
abbrev pub can_be_awaited : Option Object → Bool
can_be_awaited (Some (Process memory code)) = true
can_be_awaited (Some (Event set)) = true
can_be_awaited (Some (ReadEnd pipe)) = true
can_be_awaited (Some (WriteEnd pipe)) = true
can_be_awaited _ = false

-- A thread waits for 16 numbers at most, each 0 or of an object that can be waited for.
abbrev pub is_sound_wait : Objects → Waiting → Bool
is_sound_wait o w =
    list_all (λ h. h == 0 || can_be_awaited (object_at o h)) w.handles
    && nat_le (length w.handles) MOST_WAITS

-- A file's name has 1 to 80 bytes.
abbrev pub is_sound_name : StreamName → Bool
is_sound_name (File name) = is_name name
is_sound_name _ = true

-- A running process has at most 1,024 pages, an exited one has none. A thread's process runs, and
-- an end's pipe is there.
abbrev pub IsSoundObject : Objects → Object → Type 0
IsSoundObject o (Process s None) = IsSpace s × (len s ≤ MOST_PAGES)
IsSoundObject o (Process s (Some code)) = s ≡ empty
IsSoundObject o (Thread p context) = is_some (running (object_at o p)) ≡ true
IsSoundObject o (Event set) = Unit {0}
IsSoundObject o (Stream name) = is_sound_name name ≡ true
IsSoundObject o (ReadEnd pipe) = is_some (get {R = nat_cmp} o.pipes pipe) ≡ true
IsSoundObject o (WriteEnd pipe) = is_some (get {R = nat_cmp} o.pipes pipe) ≡ true

pub record IsSound (o : Objects) : Type 0 where
  -- a live thread stands in one list, once, or is current, and nothing else stands anywhere
  pub standing : (t : ℕ) → standings o.lists t ≡ (if is_some_thread (object_at o t) then 1 else 0)
  pub waits : list_all (is_sound_wait o) o.lists.waiting ≡ true
  pub objects : (h : ℕ) (x : Object) → object_at o h ≡ Some x → IsSoundObject o x
  pub positive : object_at o 0 ≡ None
  pub processes : number_of is_process o.live ≤ MOST_PROCESSES
  pub threads : number_of is_thread o.live ≤ MOST_THREADS
  pub settings : is_acceptable o.settings ≡ true

-- The bytes of a call are bytes, as they are of every value of its type.
abbrev pub HasBytes : Call → Type 0
HasBytes (MemoryWrite process address bytes) = All (λ byte. byte < 2 ^ 8) bytes
HasBytes _ = Unit {0}
