-- How far a service is from its end: a number that falls with each reply, so that every service
-- ends.
use Rattle.std.specs.Prelude.{ℕ, Bool, false, ◌+◌, ◌-◌, ◌*◌, ◌^◌, ◌<◌, length}
use Rattle.std.specs.declared.option.Option.{Option}
use Rattle.std.specs.declared.option.Option.TheVariants.{None, Some}
use Rattle.abi_calls.specs.declared.reply.Reply.{Reply}
use Rattle.abi_calls.specs.declared.reply.Reply.TheVariants.{Length}
use Rattle.mono_model.specs.Starting.{STACK_PAGE}
use Rattle.libos_state.specs.declared.cont.Cont.{Cont}
use Rattle.libos_state.specs.declared.cont.Stage.{Stage}
use Rattle.libos_state.specs.declared.cont.Stage.TheVariants.{SetContext, Resume, CloseEvent, ExitThread, CloseHandles, ExitProcess, ReadStream, StoreBytes, ReadBuffer, AppendLength, WriteStream, FileLength, SetFileLength, AllocatePages, FreePages, ProtectPages, Configure, OpenConsole, OpenProgram, ProgramLength, ReadProgram, CloseProgram, CreateProcess, AllocateRun, WriteRun, ProtectRun, AllocateStack, WriteBlock, CreateThread, CreateEvent, StartThread, CloseStream}
use Rattle.libos_state.specs.declared.state.LibOs.{LibOs}
use Rattle.libos_state.specs.Pending.{number, runs_in, run_in}
use Rattle.libos_state.specs.Stages.{is_at_end}

abbrev pub is_ending : Option Cont → Bool
is_ending None = false
is_ending (Some c) = is_at_end c.stage

-- How many phases are behind this one. A start opens and reads the program, then loads its runs,
-- and then begins; every other service has one phase.
abbrev pub phases_behind : Stage → ℕ
phases_behind Configure = 2
phases_behind OpenConsole = 2
phases_behind OpenProgram = 2
phases_behind ProgramLength = 2
phases_behind ReadProgram = 2
phases_behind CloseProgram = 2
phases_behind CreateProcess = 2
phases_behind AllocateRun = 1
phases_behind WriteRun = 1
phases_behind ProtectRun = 1
phases_behind _ = 0

-- How many runs of the program are not loaded yet.
abbrev pub runs_left : Cont → ℕ
runs_left c = length (runs_in c) - number c 0

-- How many rounds of the phase are left: a phase whose stages come round for each run has as many
-- as there are runs.
abbrev pub rounds_left : Cont → Stage → ℕ
rounds_left c AllocateRun = runs_left c
rounds_left c WriteRun = runs_left c
rounds_left c ProtectRun = runs_left c
rounds_left c _ = 0

-- How many stages of the round are behind this one.
abbrev pub stages_behind : Stage → ℕ
stages_behind Resume = 0
stages_behind SetContext = 1
stages_behind CloseStream = 2
stages_behind StoreBytes = 2
stages_behind ReadStream = 3
stages_behind WriteStream = 2
stages_behind AppendLength = 3
stages_behind ReadBuffer = 4
stages_behind FileLength = 3
stages_behind SetFileLength = 2
stages_behind AllocatePages = 2
stages_behind FreePages = 2
stages_behind ProtectPages = 2
stages_behind ExitThread = 0
stages_behind CloseEvent = 1
stages_behind ExitProcess = 0
stages_behind CloseHandles = 1
stages_behind StartThread = 0
stages_behind CreateEvent = 1
stages_behind CreateThread = 2
stages_behind WriteBlock = 3
stages_behind AllocateStack = 4
stages_behind ProtectRun = 0
stages_behind WriteRun = 1
stages_behind AllocateRun = 2
stages_behind CreateProcess = 0
stages_behind CloseProgram = 1
stages_behind ReadProgram = 2
stages_behind ProgramLength = 3
stages_behind OpenProgram = 4
stages_behind OpenConsole = 5
stages_behind Configure = 6

-- What is left to do in this stage: the handles that are still to be closed or opened, the pages up
-- to the stack, at which pages are still looked for, and the bytes that are still to be read or
-- written.
abbrev pub left_in : Cont → Stage → ℕ
left_in c CloseHandles = length c.handles
left_in c AllocatePages = STACK_PAGE - number c 0
left_in c OpenConsole = 3 - length c.handles
left_in c ReadProgram = number c 0 - length c.bytes
left_in c WriteRun = length (run_in c).bytes - number c 1
left_in c _ = 0

-- A phase outweighs all its rounds, a round all its stages, and a stage all that is to be done in
-- one.
abbrev pub weighed : ℕ → ℕ → ℕ → ℕ → ℕ
weighed phases rounds stages rest = ((phases * 2 ^ 32 + rounds) * 2 ^ 4 + stages) * 2 ^ 66 + rest

abbrev pub left_at : Cont → Stage → ℕ
left_at c stage =
    weighed (phases_behind stage) (rounds_left c stage) (stages_behind stage) (left_in c stage)

-- A service in progress has a call to make at least.
abbrev pub left_of : Option Cont → ℕ
left_of None = 0
left_of (Some c) = left_at c c.stage + 1

-- 0 exactly where no service is in progress.
abbrev pub calls_left : LibOs → ℕ
calls_left os = left_of os.cont

-- A length that a host answers is a number of 64 bits.
abbrev pub IsLengthSmall : Reply → Type 0
IsLengthSmall (Length n) = n < 2 ^ 64
IsLengthSmall _ = Unit {0}
