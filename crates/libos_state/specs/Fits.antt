-- When the library OS fits the objects of a world: its records by themselves, the service in
-- progress by itself, and the objects, each of which is named once.
use Rattle.std.specs.Prelude.{◌≡◌, ℕ, ◌+◌, ◌≤◌, ◌<◌, ◌==◌, Bool, true, false, not, ◌&&◌, ◌||◌, if◌then◌else◌, List, [], ◌∷◌, ◌++◌, map, length, take, is_some, bit_and, nat_le, nat_lt, ◌^◌}
use Rattle.std.specs.List.{list_all, list_any}
use Rattle.std.specs.declared.option.Option.{Option}
use Rattle.std.specs.declared.option.Option.TheVariants.{None, Some}
use Rattle.guest_space.specs.declared.Extent.{Extent}
use Rattle.guest_space.specs.Space.{Space, page_rights}
use Rattle.guest_space.specs.Regions.{extent_rights}
use Rattle.turn_sched.specs.Lists.{contains, is_at}
use Rattle.abi_calls.specs.declared.object.Object.TheVariants as object
use Rattle.abi_calls.specs.declared.object.Object.TheVariants.{Process, Thread}
use Rattle.abi_calls.specs.declared.threads.Upcall.{Upcall}
use Rattle.abi_calls.specs.Objects.{Object, Objects, object_at, running, is_thread_of}
use Rattle.abi_calls.specs.Processes.{is_acceptable}
use Rattle.mono_model.specs.Machine.{register}
use Rattle.mono_model.specs.Calls.{WRITE, BRK, MUNMAP, MMAP, MPROTECT, moved, munmap_known, mmap_known, mprotect_known, is_exit, EXIT, DUP3, CLOSE}
use Rattle.mono_model.specs.FileCalls.{FTRUNCATE, LSEEK, READ, FSTAT}
use Rattle.mono_model.specs.Mapping.{MOST_PAGES, FIRST_MAPPED}
use Rattle.mono_model.specs.declared.breaks.BreakMove.{BreakMove}
use Rattle.mono_model.specs.declared.breaks.BreakMove.TheVariants.{Grows, Shrinks}
use Rattle.elf_loader.specs.Image.{extent_of}
use Rattle.elf_loader.specs.Refusal.{refusal}
use Rattle.mono_model.specs.Starting.{STACK_PAGE, STACK_PAGES}
use Rattle.libos_state.specs.declared.cont.Cont.{Cont}
use Rattle.libos_state.specs.declared.cont.Event.{Event}
use Rattle.libos_state.specs.declared.cont.Event.TheVariants as event
use Rattle.libos_state.specs.declared.cont.Stage.{Stage}
use Rattle.libos_state.specs.declared.cont.Stage.TheVariants.{SetContext, Resume, CloseEvent, ExitThread, CloseHandles, ExitProcess, ReadBuffer, WriteStream, ReadStream, StoreBytes, AppendLength, FileLength, SetFileLength, AllocatePages, FreePages, ProtectPages, Configure, OpenConsole, OpenProgram, ProgramLength, ReadProgram, CreateProcess, AllocateRun, WriteRun, ProtectRun, AllocateStack, WriteBlock, CreateThread, CreateEvent, StartThread, CloseStream}
use Rattle.libos_state.specs.declared.notes.Description.{Description}
use Rattle.libos_state.specs.declared.notes.Kind.{Kind}
use Rattle.libos_state.specs.declared.notes.Kind.TheVariants.{ConIn, ConOut, ConErr, File}
use Rattle.libos_state.specs.declared.notes.ProcessNote.{ProcessNote}
use Rattle.libos_state.specs.declared.notes.ThreadNote.{ThreadNote}
use Rattle.libos_state.specs.declared.state.Boot.{Boot}
use Rattle.libos_state.specs.declared.state.Boot.TheVariants as boot
use Rattle.libos_state.specs.declared.state.LibOs.{LibOs}
use Rattle.libos_state.specs.Records.{process_named, process_with, thread_named, thread_with, description_named, description_behind, is_file}
use Rattle.libos_state.specs.Breaks.{break_goes}
use Rattle.libos_state.specs.Pending.{upcall_in, handle, number, is_brk, program_name, arguments, file_or_child, runs_in, run_in}
use Rattle.libos_state.specs.Descriptors.{without_stream}
use Rattle.libos_state.specs.Named.{Named, is_of, recorded, named_as, consoles, kinds_at, kept_names, times_named}

-- ---- the records by themselves

abbrev pub are_distinct : List ℕ → Bool
are_distinct [] = true
are_distinct (x ∷ xs) = not (contains xs x) && are_distinct xs

abbrev pub is_none : {A : Type 0} → List A → Bool
is_none [] = true
is_none (x ∷ xs) = false

-- The descriptors of a process have different numbers, and name open descriptions; one that has
-- exited has none.
abbrev pub is_fit_process : LibOs → ProcessNote → Bool
is_fit_process os n =
    are_distinct (map (λ d. d.number) n.descriptors)
    && (list_all (λ d. is_some (description_named d.description os.descriptions)) n.descriptors
    && (not (is_some n.code) || is_none n.descriptors))

-- A parent is another process, which has a record and came before.
abbrev pub is_fit_parent : LibOs → ProcessNote → Bool
is_fit_parent os n =
    n.parent == 0
    || (nat_lt n.parent n.pid && is_some (process_named n.parent os.processes))

abbrev pub is_alive : Option ProcessNote → Bool
is_alive None = false
is_alive (Some n) = not (is_some n.code)

-- Console input is open to be read, its output and errors to be written, a file for either or both.
abbrev pub is_fit_access : Kind → ℕ → Bool
is_fit_access ConIn access = access == 1
is_fit_access ConOut access = access == 2
is_fit_access ConErr access = access == 2
is_fit_access File access = nat_le 1 access && nat_le access 3

-- What is written to the console goes to no file's end.
abbrev pub is_fit_append : Kind → Bool → Bool
is_fit_append ConIn append = not append
is_fit_append ConOut append = not append
is_fit_append ConErr append = not append
is_fit_append File append = true

-- A process has the description open.
abbrev pub is_described : LibOs → ℕ → Bool
is_described os id =
    list_any (λ n. list_any (λ d. d.description == id) n.descriptors) os.processes

-- An id that was given.
abbrev pub is_given : LibOs → ℕ → Bool
is_given os id = nat_le 1 id && nat_lt id os.next_id

-- The greatest next id: those that are given are below it.
abbrev pub LAST_ID : ℕ
LAST_ID = 2 ^ 31

-- Ids name one record each; a thread's process hasn't exited; every description has a descriptor;
-- threads of the queue have a record, and stand there once.
pub record FitsRecords (os : LibOs) : Type 0 where
  pub pids : are_distinct (map (λ n. n.pid) os.processes) ≡ true
  pub tids : are_distinct (map (λ n. n.tid) os.threads) ≡ true
  pub ids : are_distinct (map (λ d. d.id) os.descriptions) ≡ true
  pub given_pids : list_all (λ n. is_given os n.pid) os.processes ≡ true
  pub given_tids : list_all (λ n. is_given os n.tid) os.threads ≡ true
  pub processes : list_all (is_fit_process os) os.processes ≡ true
  pub threads : list_all (λ n. is_alive (process_named n.pid os.processes)) os.threads ≡ true
  pub described : list_all (λ d. is_described os d.id) os.descriptions ≡ true
  pub access : list_all (λ d. is_fit_access d.kind d.access) os.descriptions ≡ true
  pub append : list_all (λ d. is_fit_append d.kind d.append) os.descriptions ≡ true
  pub parents : list_all (is_fit_parent os) os.processes ≡ true
  pub queued : list_all (λ q. is_some (thread_named q.tid os.threads)) os.queue ≡ true
  pub waits_once : are_distinct (map (λ q. q.tid) os.queue) ≡ true
  pub few_ids : os.next_id ≤ LAST_ID

-- ---- the records and what they name

-- A live number is to be named, unless it is a thread that ends with its process.
abbrev pub is_ending : Option ℕ → Option Object → Bool
is_ending None x = false
is_ending (Some p) x = is_thread_of p x

abbrev pub is_to_name : Option ℕ → Option Object → Bool
is_to_name ending x = is_some x && not (is_ending ending x)

-- A process's object runs, or has exited with the code of the record.
abbrev pub is_code : Option ℕ → Option Object → Bool
is_code None x = is_some (running x)
is_code (Some code) (Some (Process memory (Some exited))) = exited == code
is_code _ _ = false

-- The object of a process that ends runs still, whatever its record says.
abbrev pub has_code : Option ℕ → ProcessNote → Option Object → Bool
has_code ending n x = if is_at n.handle ending then is_some (running x) else is_code n.code x

abbrev pub handle_in : Option ProcessNote → ℕ
handle_in None = 0
handle_in (Some n) = n.handle

-- A thread's object is of the object of its process.
abbrev pub is_home : LibOs → Objects → ThreadNote → Bool
is_home os o n = is_thread_of (handle_in (process_named n.pid os.processes)) (object_at o n.handle)

-- The records and these further names name each live number once, by its kind; `ending` is the
-- process that ends, if one does.
pub record FitsObjects (os : LibOs) (o : Objects) (kept : List Named) (ending : Option ℕ)
    : Type 0 where
  pub once : (q : ℕ)
      → times_named q (recorded os ++ kept) ≡ (if is_to_name ending (object_at o q) then 1 else 0)
  pub kinds : list_all (λ n. is_of n.1 (object_at o n.0)) (recorded os ++ kept) ≡ true
  pub homes : list_all (is_home os o) os.threads ≡ true
  pub codes : list_all (λ n. has_code ending n (object_at o n.handle)) os.processes ≡ true

-- ---- what a service serves

-- Stages of a start; the others serve a trap.
abbrev pub is_of_start : Stage → Bool
is_of_start SetContext = false
is_of_start Resume = false
is_of_start CloseStream = false
is_of_start CloseEvent = false
is_of_start ExitThread = false
is_of_start CloseHandles = false
is_of_start ExitProcess = false
is_of_start ReadStream = false
is_of_start StoreBytes = false
is_of_start ReadBuffer = false
is_of_start AppendLength = false
is_of_start WriteStream = false
is_of_start FileLength = false
is_of_start SetFileLength = false
is_of_start AllocatePages = false
is_of_start FreePages = false
is_of_start ProtectPages = false
is_of_start _ = true

-- The trap is the system call of this number.
abbrev pub is_call : Upcall → ℕ → Bool
is_call u number = u.cause == 8 && register u.context 17 == number

abbrev pub is_writable : Option Description → Bool
is_writable None = false
is_writable (Some d) = bit_and d.access 2 == 2

abbrev pub is_readable : Option Description → Bool
is_readable None = false
is_readable (Some d) = bit_and d.access 1 == 1

-- What a descriptor names is there, is a file, or a file that each write goes to the end of.
abbrev pub is_open_file : Option Description → Bool
is_open_file None = false
is_open_file (Some d) = is_file d.kind

abbrev pub is_appended : Option Description → Bool
is_appended None = false
is_appended (Some d) = d.append

-- The trap is a call that ends its thread or the process.
abbrev pub is_exit_call : Upcall → Bool
is_exit_call u = u.cause == 8 && is_exit (register u.context 17)

-- A write of some bytes to a descriptor that is open for writing.
abbrev pub writes : LibOs → Upcall → Bool
writes os u =
    is_call u WRITE && (not (register u.context 12 == 0)
    && is_writable (description_behind os u.process (register u.context 10)))

-- A read of some bytes from a descriptor that is open for reading.
abbrev pub reads : LibOs → Upcall → Bool
reads os u =
    is_call u READ && (not (register u.context 12 == 0)
    && is_readable (description_behind os u.process (register u.context 10)))

-- A write to the end of a file.
abbrev pub appends : LibOs → Upcall → Bool
appends os u =
    writes os u && is_appended (description_behind os u.process (register u.context 10))

-- A call whose bytes are stored: a read, or fstat of an open descriptor.
abbrev pub stores : LibOs → Upcall → Bool
stores os u =
    reads os u
    || (is_call u FSTAT && is_some (description_behind os u.process (register u.context 10)))

-- A call that asks for a file's length: lseek from its end, or fstat.
abbrev pub measures : LibOs → Upcall → Bool
measures os u =
    (is_call u FSTAT || (is_call u LSEEK && register u.context 12 == 2))
    && is_open_file (description_behind os u.process (register u.context 10))

-- ftruncate of a file that is open for writing, to a length that is a position.
abbrev pub resizes : LibOs → Upcall → Bool
resizes os u =
    let described = description_behind os u.process (register u.context 10) in
    is_call u FTRUNCATE && (is_open_file described
    && (is_writable described && nat_lt (register u.context 11) (2 ^ 63)))

abbrev pub is_recorded : LibOs → Upcall → Bool
is_recorded os u = is_some (thread_with u.thread os.threads)

-- A system call that the thread goes on behind.
abbrev pub returns : LibOs → Upcall → Bool
returns os u = u.cause == 8 && (not (is_exit_call u) && is_recorded os u)

-- A call whose result its arguments alone don't decide, of a thread that has a record.
abbrev pub is_undecided : LibOs → Upcall → ℕ → Option ℕ → Bool
is_undecided os u number known = is_call u number && (not (is_some known) && is_recorded os u)

-- The break goes over pages that are to be made, or over pages that are to go.
abbrev pub is_growth : BreakMove → Bool
is_growth (Grows page count) = true
is_growth _ = false

abbrev pub is_shrinking : BreakMove → Bool
is_shrinking (Shrinks page count) = true
is_shrinking _ = false

-- A brk that moves the break so, of a thread that has a record.
abbrev pub moves_break : LibOs → Upcall → (BreakMove → Bool) → Bool
moves_break os u so = is_call u BRK && (so (break_goes os u) && is_recorded os u)

-- A call that closes a descriptor, of a thread that has a record.
abbrev pub closes_one : LibOs → Upcall → Bool
closes_one os u = (is_call u CLOSE || is_call u DUP3) && is_recorded os u

-- The trap comes to this stage. Its thread has a record, but where it ends.
abbrev pub comes_to : LibOs → Upcall → Stage → Bool
comes_to os u SetContext = returns os u
comes_to os u Resume = returns os u
comes_to os u CloseStream = closes_one os u
comes_to os u CloseEvent = is_call u EXIT
comes_to os u ExitThread = is_call u EXIT
comes_to os u CloseHandles = not (u.cause == 8) || is_exit_call u
comes_to os u ExitProcess = not (u.cause == 8) || is_exit_call u
comes_to os u ReadStream = reads os u && is_recorded os u
comes_to os u StoreBytes = stores os u && is_recorded os u
comes_to os u ReadBuffer = writes os u && is_recorded os u
comes_to os u AppendLength = appends os u && is_recorded os u
comes_to os u WriteStream = writes os u && is_recorded os u
comes_to os u FileLength = measures os u && is_recorded os u
comes_to os u SetFileLength = resizes os u && is_recorded os u
comes_to os u AllocatePages =
    is_undecided os u MMAP (mmap_known u.context) || moves_break os u is_growth
comes_to os u FreePages =
    is_undecided os u MUNMAP (munmap_known u.context) || moves_break os u is_shrinking
comes_to os u ProtectPages = is_undecided os u MPROTECT (mprotect_known u.context)
comes_to os u _ = false

-- A trap of a thread of a process is served; the thread is current.
pub record FitsTrap (os : LibOs) (o : Objects) (u : Upcall) (stage : Stage) : Type 0 where
  pub up : os.boot ≡ boot.Up
  pub first : is_some (process_named 1 os.processes) ≡ true
  pub current : o.lists.current ≡ Some u.thread
  pub home : is_thread_of u.process (object_at o u.thread) ≡ true
  pub comes : comes_to os u stage ≡ true

-- A start is going on: there is no record yet, and no thread is current.
pub record FitsStart (os : LibOs) (o : Objects) (stage : Stage) : Type 0 where
  pub going : os.boot ≡ boot.Going
  pub next_id : os.next_id ≡ 1
  pub processes : os.processes ≡ []
  pub threads : os.threads ≡ []
  pub descriptions : os.descriptions ≡ []
  pub queue : os.queue ≡ []
  pub current : o.lists.current ≡ None
  pub starts : is_of_start stage ≡ true

abbrev pub FitsEvent : LibOs → Objects → Event → Stage → Type 0
FitsEvent os o (event.Up u) stage = FitsTrap os o u stage
FitsEvent os o (event.Boot program args) stage = FitsStart os o stage

-- ---- what a service keeps

abbrev pub keeps_next : Stage → Bool
keeps_next SetContext = true
keeps_next Resume = true
keeps_next CloseStream = true
keeps_next _ = false

abbrev pub keeps_names : Stage → Bool
keeps_names stage = is_of_start stage

abbrev pub keeps_bytes : Stage → Bool
keeps_bytes SetContext = false
keeps_bytes Resume = false
keeps_bytes CloseStream = false
keeps_bytes CloseEvent = false
keeps_bytes ExitThread = false
keeps_bytes CloseHandles = false
keeps_bytes ExitProcess = false
keeps_bytes ReadStream = false
keeps_bytes ReadBuffer = false
keeps_bytes FileLength = false
keeps_bytes SetFileLength = false
keeps_bytes AllocatePages = false
keeps_bytes FreePages = false
keeps_bytes ProtectPages = false
keeps_bytes Configure = false
keeps_bytes OpenConsole = false
keeps_bytes OpenProgram = false
keeps_bytes ProgramLength = false
keeps_bytes _ = true

abbrev pub numbers_at : Stage → ℕ
numbers_at CloseHandles = 1
numbers_at ExitProcess = 1
numbers_at StoreBytes = 2
numbers_at WriteStream = 1
numbers_at AllocatePages = 2
numbers_at FreePages = 2
numbers_at ProtectPages = 2
numbers_at ReadProgram = 1
numbers_at AllocateRun = 1
numbers_at WriteRun = 2
numbers_at ProtectRun = 1
numbers_at _ = 0

-- So many handles are kept: one at least to be closed, and of the console's less than all while it
-- is opened.
abbrev pub HasHandles : Stage → List ℕ → Type 0
HasHandles CloseHandles hs = 1 ≤ length hs
HasHandles OpenConsole hs = length hs < length consoles
HasHandles stage hs = length hs ≡ length (kinds_at stage)

-- A service keeps the lists of its stage alone.
pub record KeepsLists (c : Cont) (stage : Stage) : Type 0 where
  pub next : keeps_next stage ≡ false → c.next ≡ (upcall_in c.event).context
  pub names : keeps_names stage ≡ false → c.names ≡ []
  pub bytes : keeps_bytes stage ≡ false → c.bytes ≡ []
  pub handles : HasHandles stage c.handles
  pub later : c.later ≡ []
  pub numbers : length c.numbers ≡ numbers_at stage

-- A name has 1 to 80 bytes, and there are at most 16 arguments of at most 80 bytes each.
pub record FitsNames (c : Cont) : Type 0 where
  pub some : 1 ≤ length c.names
  pub named : 1 ≤ length (program_name c)
  pub short : length (program_name c) ≤ 80
  pub few : length (arguments c) ≤ 16
  pub args : list_all (λ arg. nat_le (length arg) 80) (arguments c) ≡ true

abbrev pub AreNames : Cont → Bool → Type 0
AreNames c true = FitsNames c
AreNames c false = Unit {0}

-- The exit code is a byte, and that of the process's record.
abbrev pub is_ended_with : Option ProcessNote → ℕ → Bool
is_ended_with None code = true
is_ended_with (Some n) code = is_at code n.code

pub record KeepsCode (os : LibOs) (c : Cont) : Type 0 where
  pub code : ℕ
  pub kept : c.numbers ≡ code ∷ []
  pub byte : code < 256
  pub ended : is_ended_with (process_with (upcall_in c.event).process os.processes) code ≡ true

-- Where so many pages are looked for: above the first that mmap gives, and below the stack.
pub record KeepsPages (c : Cont) : Type 0 where
  pub some : 1 ≤ number c 1
  pub few : number c 1 ≤ MOST_PAGES
  pub above : FIRST_MAPPED ≤ number c 0
  pub below : number c 0 + number c 1 ≤ STACK_PAGE

-- Which pages are to be made: mmap looks for them, and brk needs some.
abbrev pub KeepsMade : Cont → Bool → Type 0
KeepsMade c true = 1 ≤ number c 1
KeepsMade c false = KeepsPages c

-- So many bytes of the program's file were read, of so many.
pub record KeepsSize (c : Cont) : Type 0 where
  pub size : ℕ
  pub kept : c.numbers ≡ size ∷ []
  pub read : length c.bytes ≤ size

-- The bytes are a program that the loader takes.
abbrev pub KeepsProgram : Cont → Type 0
KeepsProgram c = refusal c.bytes ≡ None

-- The number is that of one of the program's runs.
pub record KeepsRun (c : Cont) : Type 0 where
  pub program : KeepsProgram c
  pub among : number c 0 < length (runs_in c)

-- So many of the run's bytes are written, and not all.
pub record KeepsPlace (c : Cont) : Type 0 where
  pub run : KeepsRun c
  pub more : number c 1 < length (run_in c).bytes

-- The stream that dup3 closes is that of the new descriptor.
abbrev pub is_handle_of : Option Description → ℕ → Bool
is_handle_of None h = false
is_handle_of (Some d) h = d.handle == h

abbrev pub closes_new : LibOs → Cont → Bool
closes_new os c =
    let u = upcall_in c.event in
    not (is_call u DUP3)
    || is_handle_of (description_behind os u.process (register u.context 11)) (handle c 0)

-- How many bytes a call stores at most: those of a status, or those that a read asks for.
abbrev pub most_stored : Upcall → ℕ
most_stored u = if is_call u FSTAT then 128 else moved (register u.context 12)

-- What isn't written to a file has no offset.
abbrev pub writes_at : LibOs → Cont → Bool
writes_at os c =
    let u = upcall_in c.event in
    is_open_file (description_behind os u.process (register u.context 10)) || number c 0 == 0

-- What a service keeps fits its event.
abbrev pub FitsKept : LibOs → Cont → Stage → Type 0
FitsKept os c CloseStream = closes_new os c ≡ true
FitsKept os c CloseHandles = KeepsCode os c
FitsKept os c ExitProcess = KeepsCode os c
FitsKept os c StoreBytes = length c.bytes ≤ most_stored (upcall_in c.event)
FitsKept os c AppendLength = length c.bytes ≡ moved (register (upcall_in c.event).context 12)
FitsKept os c WriteStream =
    (writes_at os c ≡ true)
    × (length c.bytes ≡ moved (register (upcall_in c.event).context 12))
FitsKept os c AllocatePages = KeepsMade c (is_brk c)
FitsKept os c FreePages = 1 ≤ number c 1
FitsKept os c ProtectPages = 1 ≤ number c 1
FitsKept os c Configure = is_acceptable os.settings ≡ true
FitsKept os c ReadProgram = KeepsSize c
FitsKept os c CreateProcess = KeepsProgram c
FitsKept os c AllocateRun = KeepsRun c
FitsKept os c WriteRun = KeepsPlace c
FitsKept os c ProtectRun = KeepsRun c
FitsKept os c AllocateStack = KeepsProgram c
FitsKept os c WriteBlock = KeepsProgram c
FitsKept os c CreateThread = KeepsProgram c
FitsKept os c CreateEvent = KeepsProgram c
FitsKept os c StartThread = KeepsProgram c
FitsKept os c _ = Unit {0}

-- ---- the objects that a start has made

-- Where the runs of the program lie, and those before the one that is loaded.
abbrev pub extents_in : Cont → List Extent
extents_in c = map extent_of (runs_in c)

abbrev pub extents_before : Cont → List Extent
extents_before c = take (number c 0) (extents_in c)

-- A process has the pages of these extents with their rights, and no others.
abbrev pub HasPages : Space → List Extent → Type 0
HasPages s extents = (q : ℕ) → page_rights s q ≡ extent_rights extents q

-- An extent of pages that can be read and written: those of a run before it gets its rights, and
-- those of the stack.
abbrev pub writable : Extent → Extent
writable extent = record extent { rights = 3 }

abbrev pub STACK : Extent
STACK = record { page = STACK_PAGE; count = STACK_PAGES; rights = 3 }

-- The process that is made runs, and of its memory this holds.
pub record HasChild (o : Objects) (c : Cont) (P : Space → Type 0) : Type 0 where
  pub memory : Space
  pub child : object_at o (file_or_child c) ≡ Some (Process memory None)
  pub holds : P memory

-- Its thread is suspended.
pub record HasThread (o : Objects) (c : Cont) : Type 0 where
  pub home : is_thread_of (file_or_child c) (object_at o (handle c 4)) ≡ true
  pub suspended : contains o.lists.suspended (handle c 4) ≡ true

-- The thread's event isn't set.
abbrev pub HasEvent : Objects → Cont → Type 0
HasEvent o c = object_at o (handle c 5) ≡ Some (object.Event false)

abbrev pub FitsMade : Objects → Cont → Stage → Type 0
FitsMade o c Configure = o.positions.turns ≡ 0
FitsMade o c AllocateRun = HasChild o c (λ s. HasPages s (extents_before c))
FitsMade o c WriteRun =
    HasChild o c (λ s. HasPages s (writable (extent_of (run_in c)) ∷ extents_before c))
FitsMade o c ProtectRun =
    HasChild o c (λ s. HasPages s (writable (extent_of (run_in c)) ∷ extents_before c))
FitsMade o c AllocateStack = HasChild o c (λ s. HasPages s (extents_in c))
FitsMade o c WriteBlock = HasChild o c (λ s. HasPages s (STACK ∷ extents_in c))
FitsMade o c CreateThread = HasChild o c (λ s. Unit {0})
FitsMade o c CreateEvent = HasChild o c (λ s. Unit {0}) × HasThread o c
FitsMade o c StartThread = HasChild o c (λ s. Unit {0}) × HasThread o c × HasEvent o c
FitsMade o c _ = Unit {0}

-- ---- the whole

-- The process that ends at a stage.
abbrev pub ending_at : Cont → Stage → Option ℕ
ending_at c CloseHandles = Some (upcall_in c.event).process
ending_at c ExitProcess = Some (upcall_in c.event).process
ending_at c _ = None

-- The records that count at a stage: those but for a description whose stream is closed, with its
-- descriptors.
abbrev pub counted : LibOs → Cont → Stage → LibOs
counted os c CloseStream = without_stream os (handle c 0)
counted os c _ = os

-- A service is in progress, at this stage.
pub record FitsStage (os : LibOs) (o : Objects) (c : Cont) (stage : Stage) : Type 0 where
  pub records : FitsRecords os
  pub objects : FitsObjects (counted os c stage) o (kept_names os c stage) (ending_at c stage)
  pub event : FitsEvent os o c.event stage
  pub lists : KeepsLists c stage
  pub names : AreNames c (keeps_names stage)
  pub kept : FitsKept os c stage
  pub made : FitsMade o c stage

-- The run has begun, and nothing is in progress.
pub record FitsUp (os : LibOs) (o : Objects) : Type 0 where
  pub records : FitsRecords os
  pub first : is_some (process_named 1 os.processes) ≡ true
  pub objects : FitsObjects os o [] None
  pub current : o.lists.current ≡ None

-- The start ended without a program: the ends of the console are open, and nothing else is there.
pub record FitsNone (os : LibOs) (o : Objects) : Type 0 where
  pub processes : os.processes ≡ []
  pub threads : os.threads ≡ []
  pub descriptions : os.descriptions ≡ []
  pub queue : os.queue ≡ []
  pub next_id : os.next_id ≡ 1
  pub handles : List ℕ
  pub all : length handles ≡ length consoles
  pub objects : FitsObjects os o (named_as handles consoles) None
  pub current : o.lists.current ≡ None

abbrev pub FitsBoot : LibOs → Objects → Boot → Type 0
FitsBoot os o boot.Up = FitsUp os o
FitsBoot os o boot.NoProgram = FitsNone os o
FitsBoot os o (boot.BadProgram cause) = FitsNone os o
FitsBoot os o boot.Going = ⊥

abbrev pub FitsCont : LibOs → Objects → Option Cont → Type 0
FitsCont os o None = FitsBoot os o os.boot
FitsCont os o (Some c) = FitsStage os o c c.stage

abbrev pub Fits : LibOs → Objects → Type 0
Fits os o = FitsCont os o os.cont
