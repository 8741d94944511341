-- What fits by itself: the library OS, and a service in progress; each with a test beside it, which
-- looks at no world. What joins them to the objects of a world stands apart.
use Rattle.std.specs.Prelude.{◌≡◌, ℕ, ◌+◌, ◌==◌, Bool, true, false, not, ◌&&◌, ◌||◌, List, [], ◌∷◌, ◌++◌, map, length, is_some, nat_le, nat_lt}
use Rattle.std.specs.List.{list_all}
use Rattle.std.specs.Option.{option_map}
use Rattle.std.specs.Str.{bytes_eq}
use Rattle.std.specs.declared.option.Option.{Option}
use Rattle.std.specs.declared.option.Option.TheVariants.{None, Some}
use Rattle.rv_core.specs.declared.context.Context.{Context}
use Rattle.abi_calls.specs.Objects.{Objects, object_at, is_thread_of}
use Rattle.abi_calls.specs.Processes.{is_acceptable}
use Rattle.mono_model.specs.Machine.{register}
use Rattle.mono_model.specs.Calls.{moved}
use Rattle.mono_model.specs.Mapping.{MOST_PAGES, FIRST_MAPPED}
use Rattle.mono_model.specs.Starting.{STACK_PAGE}
use Rattle.elf_loader.specs.Refusal.{refusal}
use Rattle.libos_state.specs.declared.cont.Cont.{Cont}
use Rattle.libos_state.specs.declared.cont.Event.{Event}
use Rattle.libos_state.specs.declared.cont.Event.TheVariants as event
use Rattle.libos_state.specs.declared.cont.Stage.{Stage}
use Rattle.libos_state.specs.declared.cont.Stage.TheVariants.{CloseStream, CloseHandles, ExitProcess, StoreBytes, AppendLength, WriteStream, AllocatePages, FreePages, ProtectPages, Configure, OpenConsole, ReadProgram, CreateProcess, AllocateRun, WriteRun, ProtectRun, AllocateStack, WriteBlock, CreateThread, CreateEvent, StartThread}
use Rattle.libos_state.specs.declared.state.Boot.{Boot}
use Rattle.libos_state.specs.declared.state.Boot.TheVariants as boot
use Rattle.libos_state.specs.declared.state.LibOs.{LibOs}
use Rattle.libos_state.specs.Records.{process_named, process_with, thread_named}
use Rattle.libos_state.specs.Pending.{upcall_in, number, is_brk, program_name, arguments, runs_in, run_in}
use Rattle.libos_state.specs.Named.{named_as, consoles, kinds_at, kept_names}
use Rattle.libos_state.specs.Fits.{FitsRecords, FitsObjects, KeepsLists, AreNames, FitsKept, FitsMade, are_distinct, is_none, is_given, is_fit_process, is_fit_parent, is_alive, is_described, is_fit_access, is_fit_append, LAST_ID, is_of_start, comes_to, keeps_next, keeps_names, keeps_bytes, numbers_at, is_ended_with, closes_new, most_stored, writes_at, counted, ending_at}

-- ---- the library OS

-- The test of `FitsRecords`.
abbrev pub fits_records : LibOs → Bool
fits_records os =
    are_distinct (map (λ n. n.pid) os.processes)
    && (are_distinct (map (λ n. n.tid) os.threads)
    && (are_distinct (map (λ d. d.id) os.descriptions)
    && (list_all (λ n. is_given os n.pid) os.processes
    && (list_all (λ n. is_given os n.tid) os.threads
    && (list_all (is_fit_process os) os.processes
    && (list_all (λ n. is_alive (process_named n.pid os.processes)) os.threads
    && (list_all (λ d. is_described os d.id) os.descriptions
    && (list_all (λ d. is_fit_access d.kind d.access) os.descriptions
    && (list_all (λ d. is_fit_append d.kind d.append) os.descriptions
    && (list_all (is_fit_parent os) os.processes
    && (list_all (λ q. is_some (thread_named q.tid os.threads)) os.queue
    && (are_distinct (map (λ q. q.tid) os.queue)
    && nat_le os.next_id LAST_ID))))))))))))

-- The handles of the records: those of processes, threads, their events, and open descriptions.
abbrev pub handles_recorded : LibOs → List ℕ
handles_recorded os =
    map (λ n. n.handle) os.processes ++
    (map (λ n. n.handle) os.threads ++
    (map (λ n. n.event) os.threads ++
    map (λ d. d.handle) os.descriptions))

-- No handle stands twice in the records.
abbrev pub has_handles_once : LibOs → Bool
has_handles_once os = are_distinct (handles_recorded os)

-- Process 1 has a record.
abbrev pub has_first : LibOs → Bool
has_first os = is_some (process_named 1 os.processes)

-- There is no record yet, and no id was given.
pub record HasNoRecords (os : LibOs) : Type 0 where
  pub processes : os.processes ≡ []
  pub threads : os.threads ≡ []
  pub descriptions : os.descriptions ≡ []
  pub queue : os.queue ≡ []
  pub next_id : os.next_id ≡ 1

abbrev pub has_no_records : LibOs → Bool
has_no_records os =
    is_none os.processes
    && (is_none os.threads
    && (is_none os.descriptions
    && (is_none os.queue
    && os.next_id == 1)))

-- A run that has begun has its first process; until then, and where there is no program, there is
-- no record.
abbrev pub FitsProgress : LibOs → Boot → Type 0
FitsProgress os boot.Up = has_first os ≡ true
FitsProgress os _ = HasNoRecords os

abbrev pub fits_progress : LibOs → Boot → Bool
fits_progress os boot.Up = has_first os
fits_progress os _ = has_no_records os

-- A start is served exactly while it is going on, and a trap only once the run has begun.
abbrev pub serves_in : Boot → Option Event → Bool
serves_in boot.Going (Some (event.Boot program args)) = true
serves_in boot.Up (Some (event.Up u)) = true
serves_in boot.Up None = true
serves_in boot.NoProgram None = true
serves_in (boot.BadProgram cause) None = true
serves_in _ _ = false

-- The library OS fits by itself.
pub record FitsAlone (os : LibOs) : Type 0 where
  pub records : FitsRecords os
  pub handles : has_handles_once os ≡ true
  pub progress : FitsProgress os os.boot
  pub serves : serves_in os.boot (option_map (λ c. c.event) os.cont) ≡ true

-- The test of it.
abbrev pub fits_alone : LibOs → Bool
fits_alone os =
    fits_records os
    && (has_handles_once os
    && (fits_progress os os.boot && serves_in os.boot (option_map (λ c. c.event) os.cont)))

-- ---- a service in progress

-- The event comes to this stage.
abbrev pub event_comes_to : LibOs → Event → Stage → Bool
event_comes_to os (event.Up u) stage = comes_to os u stage
event_comes_to os (event.Boot program args) stage = is_of_start stage

-- A service fits the library OS, by itself.
pub record FitsService (os : LibOs) (c : Cont) (stage : Stage) : Type 0 where
  pub comes : event_comes_to os c.event stage ≡ true
  pub lists : KeepsLists c stage
  pub names : AreNames c (keeps_names stage)
  pub kept : FitsKept os c stage

abbrev pub is_same_context : Context → Context → Bool
is_same_context a b = a.pc == b.pc && bytes_eq a.x b.x

abbrev pub has_handles : Stage → List ℕ → Bool
has_handles CloseHandles hs = nat_le 1 (length hs)
has_handles OpenConsole hs = nat_lt (length hs) (length consoles)
has_handles stage hs = length hs == length (kinds_at stage)

-- The test of `KeepsLists`.
abbrev pub keeps_lists : Cont → Stage → Bool
keeps_lists c stage =
    (keeps_next stage || is_same_context c.next (upcall_in c.event).context)
    && ((keeps_names stage || is_none c.names)
    && ((keeps_bytes stage || is_none c.bytes)
    && (has_handles stage c.handles
    && (is_none c.later
    && length c.numbers == numbers_at stage))))

-- The test of `FitsNames`.
abbrev pub fits_names : Cont → Bool
fits_names c =
    nat_le 1 (length c.names)
    && (nat_le 1 (length (program_name c))
    && (nat_le (length (program_name c)) 80
    && (nat_le (length (arguments c)) 16
    && list_all (λ arg. nat_le (length arg) 80) (arguments c))))

abbrev pub are_names : Cont → Bool → Bool
are_names c true = fits_names c
are_names c false = true

-- The tests of what is kept beside: an exit code, a size, an offset.
abbrev pub keeps_code : LibOs → Cont → List ℕ → Bool
keeps_code os c (code ∷ []) =
    nat_lt code 256
    && is_ended_with (process_with (upcall_in c.event).process os.processes) code
keeps_code os c _ = false

abbrev pub keeps_size : Cont → List ℕ → Bool
keeps_size c (size ∷ []) = nat_le (length c.bytes) size
keeps_size c _ = false

-- The test of `KeepsPages`.
abbrev pub keeps_pages : Cont → Bool
keeps_pages c =
    nat_le 1 (number c 1)
    && (nat_le (number c 1) MOST_PAGES
    && (nat_le FIRST_MAPPED (number c 0) && nat_le (number c 0 + number c 1) STACK_PAGE))

-- The test of `KeepsMade`.
abbrev pub keeps_made : Cont → Bool → Bool
keeps_made c true = nat_le 1 (number c 1)
keeps_made c false = keeps_pages c

-- The tests of what is kept of a program: that the loader takes it, the number of one of its runs,
-- and how far that run is written.
abbrev pub keeps_program : Cont → Bool
keeps_program c = not (is_some (refusal c.bytes))

abbrev pub keeps_run : Cont → Bool
keeps_run c = keeps_program c && nat_lt (number c 0) (length (runs_in c))

abbrev pub keeps_place : Cont → Bool
keeps_place c = keeps_run c && nat_lt (number c 1) (length (run_in c).bytes)

-- The test of `FitsKept`.
abbrev pub fits_kept : LibOs → Cont → Stage → Bool
fits_kept os c CloseStream = closes_new os c
fits_kept os c CloseHandles = keeps_code os c c.numbers
fits_kept os c ExitProcess = keeps_code os c c.numbers
fits_kept os c StoreBytes = nat_le (length c.bytes) (most_stored (upcall_in c.event))
fits_kept os c AppendLength =
    length c.bytes == moved (register (upcall_in c.event).context 12)
fits_kept os c WriteStream =
    writes_at os c && length c.bytes == moved (register (upcall_in c.event).context 12)
fits_kept os c AllocatePages = keeps_made c (is_brk c)
fits_kept os c FreePages = nat_le 1 (number c 1)
fits_kept os c ProtectPages = nat_le 1 (number c 1)
fits_kept os c Configure = is_acceptable os.settings
fits_kept os c ReadProgram = keeps_size c c.numbers
fits_kept os c CreateProcess = keeps_program c
fits_kept os c AllocateRun = keeps_run c
fits_kept os c WriteRun = keeps_place c
fits_kept os c ProtectRun = keeps_run c
fits_kept os c AllocateStack = keeps_program c
fits_kept os c WriteBlock = keeps_program c
fits_kept os c CreateThread = keeps_program c
fits_kept os c CreateEvent = keeps_program c
fits_kept os c StartThread = keeps_program c
fits_kept os c _ = true

-- The test of `FitsService`.
abbrev pub fits_service : LibOs → Cont → Stage → Bool
fits_service os c stage =
    event_comes_to os c.event stage
    && (keeps_lists c stage && (are_names c (keeps_names stage) && fits_kept os c stage))

abbrev pub FitsServices : LibOs → Option Cont → Type 0
FitsServices os None = Unit {0}
FitsServices os (Some c) = FitsService os c c.stage

-- ---- the objects of a world

-- The thread of a trap is current, and of its process; at a start no thread is current.
abbrev pub IsAtEvent : Objects → Event → Type 0
IsAtEvent o (event.Up u) =
    (o.lists.current ≡ Some u.thread) × (is_thread_of u.process (object_at o u.thread) ≡ true)
IsAtEvent o (event.Boot program args) = o.lists.current ≡ None

-- After a start without a program the ends of the console are open.
pub record HasConsoles (os : LibOs) (o : Objects) : Type 0 where
  pub handles : List ℕ
  pub all : length handles ≡ length consoles
  pub objects : FitsObjects os o (named_as handles consoles) None

abbrev pub FitsSettledObjects : LibOs → Objects → Boot → Type 0
FitsSettledObjects os o boot.Up = FitsObjects os o [] None
FitsSettledObjects os o _ = HasConsoles os o

-- The objects of a world fit the records and the service in progress.
abbrev pub FitsWorld : LibOs → Objects → Option Cont → Type 0
FitsWorld os o None = FitsSettledObjects os o os.boot × (o.lists.current ≡ None)
FitsWorld os o (Some c) =
    FitsObjects (counted os c c.stage) o (kept_names os c c.stage) (ending_at c c.stage)
    × IsAtEvent o c.event × FitsMade o c c.stage
