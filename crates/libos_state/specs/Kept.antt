-- What the calls of a service rest on: the pages and the rights that a call asks for, the ends of
-- the console, the program with the run that is loaded and how far it is written, and the names.
use Rattle.std.specs.Prelude.{◌≡◌, ◌≤◌, ◌<◌, false, IfSome, length}
use Rattle.libos_state.specs.declared.cont.Cont.{Cont}
use Rattle.libos_state.specs.declared.cont.Stage.{Stage}
use Rattle.libos_state.specs.declared.cont.Stage.TheVariants.{AllocatePages, ProtectPages, OpenConsole, CreateProcess, AllocateRun, WriteRun, ProtectRun, WriteBlock, CreateThread, StartThread}
use Rattle.libos_state.specs.declared.state.LibOs.{LibOs}
use Rattle.libos_state.specs.Pending.{argument, is_brk}
use Rattle.libos_state.specs.Fits.{FitsNames, KeepsPages, KeepsProgram, KeepsRun, KeepsPlace}

-- The rights in a2 are some that there are.
abbrev pub HasRights : Cont → Type 0
HasRights c = argument c 2 ≤ 7

abbrev pub KeptAt : Cont → Stage → Type 0
KeptAt c AllocatePages = is_brk c ≡ false → KeepsPages c × HasRights c
KeptAt c ProtectPages = HasRights c
KeptAt c OpenConsole = length c.handles < 3
KeptAt c CreateProcess = KeepsProgram c
KeptAt c AllocateRun = KeepsRun c
KeptAt c WriteRun = KeepsPlace c
KeptAt c ProtectRun = KeepsRun c
KeptAt c WriteBlock = FitsNames c
KeptAt c CreateThread = KeepsProgram c × FitsNames c
KeptAt c StartThread = KeepsProgram c
KeptAt c _ = Unit {0}

-- The service in progress keeps what its next call needs.
abbrev pub IsKept : LibOs → Type 0
IsKept os = IfSome os.cont (λ c. KeptAt c c.stage)
