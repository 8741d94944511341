-- The stages: which are the last, and the numbers that the format of images has for them.
use Rattle.std.specs.Prelude.{ℕ, Bool, true, false}
use Rattle.libos_state.specs.declared.cont.Stage.{Stage}
use Rattle.libos_state.specs.declared.cont.Stage.TheVariants.{SetContext, Resume, CloseEvent, ExitThread, CloseHandles, ExitProcess, ReadBuffer, WriteStream, ReadStream, StoreBytes, AppendLength, FileLength, SetFileLength, AllocatePages, FreePages, ProtectPages, Configure, OpenConsole, OpenProgram, ProgramLength, ReadProgram, CloseProgram, CreateProcess, AllocateRun, WriteRun, ProtectRun, AllocateStack, WriteBlock, CreateThread, CreateEvent, StartThread, CloseStream}

-- The thread gets its registers, or becomes ready: what each service of a system call that goes on
-- does last.
abbrev pub is_at_end : Stage → Bool
is_at_end SetContext = true
is_at_end Resume = true
is_at_end _ = false

abbrev pub number_of : Stage → ℕ
number_of SetContext = 1
number_of Resume = 2
number_of CloseStream = 5
number_of CloseEvent = 6
number_of ExitThread = 7
number_of CloseHandles = 8
number_of ExitProcess = 9
number_of ReadStream = 18
number_of StoreBytes = 19
number_of ReadBuffer = 20
number_of AppendLength = 21
number_of WriteStream = 22
number_of FileLength = 23
number_of SetFileLength = 24
number_of AllocatePages = 30
number_of FreePages = 31
number_of ProtectPages = 32
number_of Configure = 41
number_of OpenConsole = 42
number_of OpenProgram = 43
number_of ProgramLength = 44
number_of ReadProgram = 45
number_of CloseProgram = 46
number_of CreateProcess = 47
number_of AllocateRun = 48
number_of WriteRun = 49
number_of ProtectRun = 50
number_of AllocateStack = 51
number_of WriteBlock = 52
number_of CreateThread = 53
number_of CreateEvent = 54
number_of StartThread = 56
