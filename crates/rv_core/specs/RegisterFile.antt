-- The registers of a thread as a run works on them.
use Rattle.std.specs.Prelude.{◌≡◌, drop, slice_index}
use Rattle.rv_core.specs.declared.context.Context.{Context}
use Rattle.rv_core.specs.declared.register_file.RegisterFile.{RegisterFile}

-- The registers in a file of 32: its first place is that of x0, which a thread's registers leave out.
abbrev pub registers_of : RegisterFile → Context
registers_of file = record { pc = file.pc; x = drop 1 file.x }

-- x0 holds 0.
abbrev pub HasZero : RegisterFile → Type 0
HasZero file = slice_index file.x 0 ≡ 0
