-- What the library OS and a world stand for: the monolithic machine at the end of the current turn,
-- or what the start that is going on leads to.
use Rattle.std.specs.Prelude.{ℕ, ◌+◌, ◌-◌, ◌*◌, if◌then◌else◌, List, ◌++◌, length, take, drop}
use Rattle.std.specs.declared.option.Option.{Option}
use Rattle.std.specs.declared.option.Option.TheVariants.{None, Some}
use Rattle.rv_core.specs.declared.context.Context.{Context}
use Rattle.guest_space.specs.Space.{Space}
use Rattle.bas_edge.specs.Files.{file_bytes}
use Rattle.bas_names.specs.declared.StreamName.{StreamName}
use Rattle.bas_names.specs.declared.StreamName.TheVariants as stream
use Rattle.abi_calls.specs.Objects.{object_at}
use Rattle.abi_calls.specs.declared.threads.Upcall.{Upcall}
use Rattle.mono_model.specs.Machine.{Mono, resumed, made_ready}
use Rattle.mono_model.specs.Written.{Written, nothing}
use Rattle.mono_model.specs.Calls.{Caller, Trap, Served, silently, write_at, bytes_of, grow_break, shrink_break, map_from, free_pages, protect_pages}
use Rattle.mono_model.specs.FileCalls.{stored}
use Rattle.mono_model.specs.SystemCalls.{served}
use Rattle.mono_model.specs.Starting.{Job, Started, Runs, NoProgram, BadProgram, blank_under, started, started_with, begun, start_context, loaded, filled_from, with_rights_of, stacked, with_block}
use Rattle.libos_state.specs.declared.cont.Cont.{Cont}
use Rattle.libos_state.specs.declared.cont.Stage.{Stage}
use Rattle.libos_state.specs.declared.cont.Stage.TheVariants.{SetContext, Resume, CloseEvent, ExitThread, CloseHandles, ExitProcess, ReadBuffer, WriteStream, ReadStream, StoreBytes, AppendLength, FileLength, SetFileLength, AllocatePages, FreePages, ProtectPages, Configure, OpenConsole, OpenProgram, ProgramLength, ReadProgram, CloseProgram, CreateProcess, AllocateRun, WriteRun, ProtectRun, AllocateStack, WriteBlock, CreateThread, CreateEvent, StartThread, CloseStream}
use Rattle.libos_state.specs.declared.notes.Description.{Description}
use Rattle.libos_state.specs.declared.state.Boot.{Boot}
use Rattle.libos_state.specs.declared.state.Boot.TheVariants as boot
use Rattle.libos_state.specs.declared.state.LibOs.{LibOs}
use Rattle.libos_state.specs.Records.{Visible, base, thread_with, description_seen, file_seen, description_behind, memory_of_object, context_of, tid_of, pid_with}
use Rattle.libos_state.specs.Pending.{upcall_in, handle, number, program_name, arguments, argument, is_brk, file_or_child, no_positions, program_in, runs_in, run_in}
use Rattle.libos_state.specs.Answered.{with_change, closing_change}

-- The thread and the process of a trap, by their ids.
abbrev pub caller_of : LibOs → Upcall → Caller
caller_of os u = record {
  thread = tid_of (thread_with u.thread os.threads);
  process = pid_with os u.process;
  context = u.context;
}

-- Those that a service serves.
abbrev pub caller_in : LibOs → Cont → Caller
caller_in os c = caller_of os (upcall_in c.event)

abbrev pub stream_described : Visible → Option Description → StreamName
stream_described w None = stream.ConIn
stream_described w (Some d) = (description_seen w.objects.live d).stream

-- The stream of the descriptor in a0.
abbrev pub stream_in : LibOs → Visible → Cont → StreamName
stream_in os w c =
    stream_described w (description_behind os (upcall_in c.event).process (argument c 0))

-- The machine before the start, with what the host has of it.
abbrev pub unstarted : Visible → Mono
unstarted w = blank_under w.rules w.objects.settings w.objects.positions w.contents

abbrev pub job_in : Cont → Job
job_in c = record { name = program_name c; args = arguments c }

-- The bytes of the open file of the program.
abbrev pub program_file : Visible → Cont → List ℕ
program_file w c =
    file_bytes w.contents.files (file_seen (object_at w.objects (file_or_child c)))

-- The memory of the process that is made.
abbrev pub child_memory : Visible → Cont → Space
child_memory w c = memory_of_object (object_at w.objects (file_or_child c))

-- The registers of the thread that is made.
abbrev pub child_context : Visible → Cont → Context
child_context w c = context_of (object_at w.objects (handle c 4))

-- The run of the program begins with this memory, and with these registers.
abbrev pub begins : Visible → Cont → Space → Context → Started
begins w c memory context = Runs (begun (unstarted w) memory (program_in c).end context)

abbrev pub begins_with : Visible → Cont → Space → Started
begins_with w c memory = begins w c memory (start_context (program_in c) (arguments c))

-- The run whose bytes are written gets its rights, and those behind it are loaded.
abbrev pub with_runs_behind : Cont → Space → Space
with_runs_behind c s = loaded (with_rights_of s (run_in c)) (drop (number c 0 + 1) (runs_in c))

-- What a service leads to, and what it writes before.
abbrev pub Meaning : Type 0
Meaning = Started × Written

-- The machine after serving, with what that writes.
abbrev pub leads_to : Served → Meaning
leads_to served = (Runs served.0, served.1)

-- Nothing more is written.
abbrev pub settles : Started → Meaning
settles started = (started, nothing)

-- The cause of the trap that a service serves, and its value.
abbrev pub trap_in : Cont → Trap
trap_in c = ((upcall_in c.event).cause, (upcall_in c.event).value)

abbrev pub meant_at : LibOs → Visible → Cont → Stage → Meaning
meant_at os w c SetContext =
    settles (Runs (resumed (base os w) (caller_in os c).thread (caller_in os c).process c.next))
meant_at os w c Resume = settles (Runs (made_ready (base os w) (caller_in os c).thread))
meant_at os w c CloseStream =
    let closed = base (with_change os (closing_change c)) w in
    settles (Runs (resumed closed (caller_in os c).thread (caller_in os c).process c.next))
meant_at os w c CloseEvent = settles (Runs (base os w))
meant_at os w c ExitThread = settles (Runs (base os w))
meant_at os w c CloseHandles = settles (Runs (base os w))
meant_at os w c ExitProcess = settles (Runs (base os w))
meant_at os w c ReadStream = leads_to (served (base os w) (caller_in os c) (trap_in c))
meant_at os w c StoreBytes =
    settles (Runs (stored (base os w) (caller_in os c) (number c 0) c.bytes (number c 1)))
meant_at os w c ReadBuffer = leads_to (served (base os w) (caller_in os c) (trap_in c))
meant_at os w c AppendLength =
    let offset = length (bytes_of (base os w) (stream_in os w c)) in
    leads_to (write_at (base os w) (caller_in os c) offset c.bytes (stream_in os w c))
meant_at os w c WriteStream =
    leads_to (write_at (base os w) (caller_in os c) (number c 0) c.bytes (stream_in os w c))
meant_at os w c FileLength = leads_to (served (base os w) (caller_in os c) (trap_in c))
meant_at os w c SetFileLength = leads_to (served (base os w) (caller_in os c) (trap_in c))
meant_at os w c AllocatePages =
    leads_to (silently (if is_brk c
    then grow_break (base os w) (caller_in os c) (number c 0) (number c 1)
    else map_from (base os w) (caller_in os c) (number c 0) (number c 1)))
meant_at os w c FreePages =
    leads_to (silently (if is_brk c
    then shrink_break (base os w) (caller_in os c) (number c 0) (number c 1)
    else free_pages (base os w) (caller_in os c) (number c 0) (number c 1)))
meant_at os w c ProtectPages =
    leads_to (silently (protect_pages (base os w) (caller_in os c) (number c 0) (number c 1)))
meant_at os w c Configure =
    settles (started (blank_under w.rules os.settings no_positions w.contents) (job_in c))
meant_at os w c OpenConsole = settles (started (unstarted w) (job_in c))
meant_at os w c OpenProgram = settles (started (unstarted w) (job_in c))
meant_at os w c ProgramLength =
    settles (started_with (unstarted w) (arguments c) (program_file w c))
meant_at os w c ReadProgram =
    let rest = take (number c 0 - length c.bytes) (drop (length c.bytes) (program_file w c)) in
    settles (started_with (unstarted w) (arguments c) (c.bytes ++ rest))
meant_at os w c CloseProgram = settles (started_with (unstarted w) (arguments c) c.bytes)
meant_at os w c CreateProcess = settles (started_with (unstarted w) (arguments c) c.bytes)
meant_at os w c AllocateRun =
    let whole = loaded (child_memory w c) (drop (number c 0) (runs_in c)) in
    settles (begins_with w c (stacked whole (arguments c)))
meant_at os w c WriteRun =
    let at = (run_in c).page * 4096 + number c 1 in
    let filled = filled_from (child_memory w c) at (drop (number c 1) (run_in c).bytes) in
    settles (begins_with w c (stacked (with_runs_behind c filled) (arguments c)))
meant_at os w c ProtectRun =
    settles (begins_with w c (stacked (with_runs_behind c (child_memory w c)) (arguments c)))
meant_at os w c AllocateStack =
    settles (begins_with w c (stacked (child_memory w c) (arguments c)))
meant_at os w c WriteBlock =
    settles (begins_with w c (with_block (child_memory w c) (arguments c)))
meant_at os w c CreateThread = settles (begins_with w c (child_memory w c))
meant_at os w c CreateEvent = settles (begins w c (child_memory w c) (child_context w c))
meant_at os w c StartThread = settles (begins w c (child_memory w c) (child_context w c))

-- With nothing in progress; a start doesn't go on then.
abbrev pub meant_settled : LibOs → Visible → Boot → Started
meant_settled os w boot.Up = Runs (base os w)
meant_settled os w boot.NoProgram = NoProgram
meant_settled os w (boot.BadProgram cause) = BadProgram cause
meant_settled os w boot.Going = NoProgram

abbrev pub meant : LibOs → Visible → Option Cont → Meaning
meant os w None = settles (meant_settled os w os.boot)
meant os w (Some c) = meant_at os w c c.stage

abbrev pub meaning : LibOs → Visible → Meaning
meaning os w = meant os w os.cont
