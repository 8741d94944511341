-- The call that a service makes next: one for each stage.
use Rattle.std.specs.Prelude.{ℕ, ◌+◌, ◌-◌, ◌*◌, ◌%◌, ◌==◌, Bool, false, if◌then◌else◌, List, [], length, take, drop, min, slice_index, slice_index_or, slice_get, unwrap_or}
use Rattle.std.specs.declared.option.Option.{Option}
use Rattle.std.specs.declared.option.Option.TheVariants.{None, Some}
use Rattle.abi_calls.specs.declared.call.Call.{Call}
use Rattle.abi_calls.specs.declared.call.Call.TheVariants.{MemoryAllocate, MemoryFree, MemoryProtect, MemoryRead, MemoryWrite, ThreadCreate, ThreadResume, ThreadExit, ThreadContext, EventCreate, StreamOpen, StreamRead, StreamWrite, StreamLength, StreamSetLength, Close, ProcessCreate, ProcessExit, Configure}
use Rattle.bas_names.specs.declared.StreamName.{StreamName}
use Rattle.bas_names.specs.declared.StreamName.TheVariants.{File, ConIn, ConOut, ConErr}
use Rattle.turn_sched.specs.declared.settings.Positions.{Positions}
use Rattle.abi_calls.specs.declared.threads.Upcall.{Upcall}
use Rattle.mono_model.specs.Machine.{register}
use Rattle.mono_model.specs.Calls.{BRK, moved}
use Rattle.elf_loader.specs.declared.Program.{Program}
use Rattle.elf_loader.specs.declared.Run.{Run}
use Rattle.elf_loader.specs.Image.{page_count, program_of}
use Rattle.libos_program.specs.Runs.{no_run}
use Rattle.mono_model.specs.Starting.{argument_block, stack_pointer, start_context, STACK_PAGE, STACK_PAGES}
use Rattle.libos_state.specs.declared.cont.Cont.{Cont}
use Rattle.libos_state.specs.declared.cont.Event.{Event}
use Rattle.libos_state.specs.declared.cont.Event.TheVariants.{Boot, Up}
use Rattle.libos_state.specs.declared.cont.Stage.{Stage}
use Rattle.libos_state.specs.declared.cont.Stage.TheVariants.{SetContext, Resume, CloseEvent, ExitThread, CloseHandles, ExitProcess, ReadBuffer, WriteStream, ReadStream, StoreBytes, AppendLength, FileLength, SetFileLength, AllocatePages, FreePages, ProtectPages, OpenConsole, OpenProgram, ProgramLength, ReadProgram, CloseProgram, CreateProcess, AllocateRun, WriteRun, ProtectRun, AllocateStack, WriteBlock, CreateThread, CreateEvent, StartThread, CloseStream}
use Rattle.libos_state.specs.declared.cont.Stage.TheVariants as stage
use Rattle.libos_state.specs.declared.notes.Description.{Description}
use Rattle.libos_state.specs.declared.state.LibOs.{LibOs}
use Rattle.libos_state.specs.Records.{description_behind, no_context}

-- The trap that a service serves.
abbrev pub no_upcall : Upcall
no_upcall = record { process = 0; thread = 0; cause = 0; value = 0; context = no_context }

abbrev pub upcall_in : Event → Upcall
upcall_in (Up u) = u
upcall_in (Boot program args) = no_upcall

-- The n-th handle and the n-th number that a service keeps, counted from 0.
abbrev pub handle : Cont → ℕ → ℕ
handle c n = slice_index c.handles n

abbrev pub number : Cont → ℕ → ℕ
number c n = slice_index c.numbers n

-- The name of the program, and its arguments.
abbrev pub program_name : Cont → List ℕ
program_name c = unwrap_or (slice_get c.names 0) []

abbrev pub arguments : Cont → List (List ℕ)
arguments c = drop 1 c.names

-- The first file handle, or the process that is made, stands behind the three of the console.
abbrev pub file_or_child : Cont → ℕ
file_or_child c = handle c 3

-- Argument n of the system call that a service serves: its register a0 and so on.
abbrev pub argument : Cont → ℕ → ℕ
argument c n = register (upcall_in c.event).context (10 + n)

-- The system call that a service serves is brk.
abbrev pub is_brk : Cont → Bool
is_brk c = argument c 7 == BRK

-- The rights of the pages that are made: those of brk can be read and written.
abbrev pub rights_made : Cont → ℕ
rights_made c = if is_brk c then 3 else argument c 2

abbrev pub handle_of : Option Description → ℕ
handle_of None = 0
handle_of (Some d) = d.handle

-- The stream of the descriptor in a0.
abbrev pub wanted_stream : LibOs → Cont → ℕ
wanted_stream os c = handle_of (description_behind os (upcall_in c.event).process (argument c 0))

-- Its position.
abbrev pub position_of : Option Description → ℕ
position_of None = 0
position_of (Some d) = d.position

abbrev pub wanted_position : LibOs → Cont → ℕ
wanted_position os c =
    position_of (description_behind os (upcall_in c.event).process (argument c 0))

abbrev pub console_name : ℕ → StreamName
console_name opened = if opened == 0 then ConIn else (if opened == 1 then ConOut else ConErr)

-- How many bytes one call moves at most.
abbrev pub PIECE : ℕ
PIECE = 65536

abbrev pub no_positions : Positions
no_positions = record { turns = 0; pick = 0; random = 0 }

-- The program that the bytes are, its runs of pages, and the one that is loaded: the first number
-- is the run's, counted from 0.
abbrev pub program_in : Cont → Program
program_in c = program_of c.bytes

abbrev pub runs_in : Cont → List Run
runs_in c = (program_in c).runs

abbrev pub run_in : Cont → Run
run_in c = slice_index_or (runs_in c) (number c 0) no_run

-- The run's bytes that are written next; the second number says how many are written already.
abbrev pub run_piece : Cont → List ℕ
run_piece c = take PIECE (drop (number c 1) (run_in c).bytes)

abbrev pub asked : LibOs → Cont → Stage → Call
asked os c SetContext = ThreadContext (upcall_in c.event).thread c.next
asked os c Resume = ThreadResume (upcall_in c.event).thread
asked os c CloseStream = Close (handle c 0)
asked os c CloseEvent = Close (handle c 0)
asked os c ExitThread = ThreadExit (upcall_in c.event).thread
asked os c CloseHandles = Close (handle c 0)
asked os c ExitProcess = ProcessExit (upcall_in c.event).process (number c 0 % 256)
asked os c ReadBuffer = MemoryRead (upcall_in c.event).process (argument c 1) (moved (argument c 2))
asked os c ReadStream =
    StreamRead (wanted_stream os c) (wanted_position os c) (moved (argument c 2))
asked os c StoreBytes = MemoryWrite (upcall_in c.event).process (number c 0) c.bytes
asked os c AppendLength = StreamLength (wanted_stream os c)
asked os c WriteStream = StreamWrite (wanted_stream os c) (number c 0) c.bytes
asked os c FileLength = StreamLength (wanted_stream os c)
asked os c SetFileLength = StreamSetLength (wanted_stream os c) (argument c 1)
asked os c AllocatePages =
    MemoryAllocate (upcall_in c.event).process (number c 0) (number c 1) (rights_made c)
asked os c FreePages = MemoryFree (upcall_in c.event).process (number c 0) (number c 1)
asked os c ProtectPages =
    MemoryProtect (upcall_in c.event).process (number c 0) (number c 1) (argument c 2)
asked os c stage.Configure = Configure os.settings no_positions
asked os c OpenConsole = StreamOpen (console_name (length c.handles)) false false
asked os c OpenProgram = StreamOpen (File (program_name c)) false false
asked os c ProgramLength = StreamLength (file_or_child c)
asked os c ReadProgram =
    StreamRead (file_or_child c) (length c.bytes) (min PIECE (number c 0 - length c.bytes))
asked os c CloseProgram = Close (file_or_child c)
asked os c CreateProcess = ProcessCreate
asked os c AllocateRun = MemoryAllocate (file_or_child c) (run_in c).page (page_count (run_in c)) 3
asked os c WriteRun =
    MemoryWrite (file_or_child c) ((run_in c).page * 4096 + number c 1) (run_piece c)
asked os c ProtectRun =
    MemoryProtect (file_or_child c) (run_in c).page (page_count (run_in c)) (run_in c).rights
asked os c AllocateStack = MemoryAllocate (file_or_child c) STACK_PAGE STACK_PAGES 3
asked os c WriteBlock =
    MemoryWrite (file_or_child c) (stack_pointer (arguments c)) (argument_block (arguments c))
asked os c CreateThread =
    ThreadCreate (file_or_child c) (start_context (program_in c) (arguments c))
asked os c CreateEvent = EventCreate
asked os c StartThread = ThreadResume (handle c 4)

abbrev pub asked_by : LibOs → Option Cont → Option Call
asked_by os None = None
asked_by os (Some c) = Some (asked os c c.stage)

-- The call of the service in progress; none where nothing is in progress.
abbrev pub pending : LibOs → Option Call
pending os = asked_by os os.cont
