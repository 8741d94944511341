-- What is served here: the calls on a descriptor, and the stages of their services.
use Rattle.std.specs.Prelude.{ℕ, Bool, true, false, ◌==◌, ◌||◌}
use Rattle.mono_model.specs.Calls.{WRITE, CLOSE, DUP, DUP3}
use Rattle.mono_model.specs.FileCalls.{READ, LSEEK, FSTAT, FTRUNCATE}
use Rattle.libos_state.specs.declared.cont.Stage.{Stage}
use Rattle.libos_state.specs.declared.cont.Stage.TheVariants.{CloseStream, ReadStream, StoreBytes, ReadBuffer, AppendLength, WriteStream, FileLength, SetFileLength}

-- The call that has this number is one on a descriptor, which stands in a0.
abbrev pub is_descriptor_call : ℕ → Bool
is_descriptor_call number =
    number == WRITE || number == READ || number == LSEEK || number == FSTAT
    || number == FTRUNCATE || number == CLOSE || number == DUP || number == DUP3

-- The stage makes a call on the stream of a descriptor, or moves bytes between it and the memory.
abbrev pub is_stream_stage : Stage → Bool
is_stream_stage CloseStream = true
is_stream_stage ReadStream = true
is_stream_stage StoreBytes = true
is_stream_stage ReadBuffer = true
is_stream_stage AppendLength = true
is_stream_stage WriteStream = true
is_stream_stage FileLength = true
is_stream_stage SetFileLength = true
is_stream_stage _ = false
