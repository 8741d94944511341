-- The objects of a world: what each handle names, the pipes, the lists of threads, the positions
-- and the settings.
use Rattle.std.specs.Prelude.{◌≡◌, ℕ, ◌≤◌, ◌==◌, Bool, true, false, ◌||◌, not, List, [], count_by, unwrap_or}
use Rattle.std.specs.List.{list_any}
use Rattle.std.specs.Ordering.{nat_cmp}
use Rattle.std.specs.FinMap.{FinMap, get, insert, values, retain_keys}
use Rattle.std.specs.declared.option.Option.{Option}
use Rattle.std.specs.declared.option.Option.TheVariants.{None, Some}
use Rattle.guest_space.specs.Space.{Space}
use Rattle.turn_sched.specs.Lists.{Waiting, Lists, without_numbers, mentions_number}
use Rattle.abi_calls.specs.declared.object.Object as objects
use Rattle.abi_calls.specs.declared.object.Object.TheVariants.{Process, Thread, ReadEnd, WriteEnd}
use Rattle.turn_sched.specs.declared.settings.Positions.{Positions}
use Rattle.turn_sched.specs.declared.settings.Settings.{Settings}

-- What a handle names; the memory of a process is its pages.
abbrev pub Object : Type 0
Object = objects.Object Space

-- The objects by number.
abbrev pub Live : Type 0
Live = FinMap nat_cmp Object

-- The bytes that each pipe holds, by the number of the pipe.
abbrev pub Pipes : Type 0
Pipes = FinMap nat_cmp (List ℕ)

-- All that a host tells always.
pub record Objects : Type 0 where
  pub live : Live
  pub pipes : Pipes
  pub lists : Lists Waiting
  pub positions : Positions
  pub settings : Settings

-- The object that a number names, if it names one.
abbrev pub object_at : Objects → ℕ → Option Object
object_at o h = get {R = nat_cmp} o.live h

-- The memory of a process that hasn't exited.
abbrev pub running : Option Object → Option Space
running (Some (Process memory None)) = Some memory
running _ = None

abbrev pub is_process : Object → Bool
is_process (Process memory code) = true
is_process _ = false

abbrev pub is_thread : Object → Bool
is_thread (Thread process context) = true
is_thread _ = false

-- The number names a thread.
abbrev pub is_some_thread : Option Object → Bool
is_some_thread (Some (Thread process context)) = true
is_some_thread _ = false

-- A thread of a process.
abbrev pub is_thread_of : ℕ → Option Object → Bool
is_thread_of p (Some (Thread process context)) = process == p
is_thread_of p _ = false

-- The end of a pipe that is read, and the one that is written.
abbrev pub is_read_end : ℕ → Object → Bool
is_read_end pipe (ReadEnd number) = number == pipe
is_read_end pipe _ = false

abbrev pub is_write_end : ℕ → Object → Bool
is_write_end pipe (WriteEnd number) = number == pipe
is_write_end pipe _ = false

-- Some live object passes a test.
abbrev pub some_object : (Object → Bool) → Live → Bool
some_object test live = list_any test (values live)

-- How many live objects pass a test.
abbrev pub number_of : (Object → Bool) → Live → ℕ
number_of test live = count_by test (values live)

-- The bytes that a pipe holds.
abbrev pub pipe_bytes : Objects → ℕ → List ℕ
pipe_bytes o pipe = unwrap_or (get {R = nat_cmp} o.pipes pipe) []

-- A list mentions a number.
abbrev pub mentions : Objects → ℕ → Bool
mentions o h = mentions_number o.lists h

-- A number for a new object: at least 1, of no live object, and in no list.
pub record IsFresh (o : Objects) (h : ℕ) : Type 0 where
  pub positive : 1 ≤ h
  pub free : object_at o h ≡ None
  pub unlisted : mentions o h ≡ false

-- The objects with one more, or with another in its place.
abbrev pub with_object : Objects → ℕ → Object → Objects
with_object o h x = record o { live = insert o.live h x }

abbrev pub with_lists : Objects → Lists Waiting → Objects
with_lists o l = record o { lists = l }

-- A pipe without ends is gone.
abbrev pub has_end : Live → ℕ → Bool
has_end live pipe = some_object (is_read_end pipe) live || some_object (is_write_end pipe) live

abbrev pub without_lone_pipes : Objects → Objects
without_lone_pipes o = record o { pipes = retain_keys o.pipes (has_end o.live) }

-- The handles that pass a test end, and leave every list.
abbrev pub without_handles : Objects → (ℕ → Bool) → Objects
without_handles o ends = without_lone_pipes (record o {
  live = retain_keys o.live (λ k. not (ends k));
  lists = without_numbers ends o.lists;
})
