-- What a host answers: one row for each call.
use Rattle.std.specs.Prelude.{◌≡◌, ℕ, ◌+◌, ◌-◌, ◌^◌, Bool, true, false, min, List, [], ◌∷◌, ◌++◌}
use Rattle.std.specs.Option.{option_map}
use Rattle.std.specs.declared.option.Option.{Option}
use Rattle.std.specs.declared.option.Option.TheVariants.{Some}
use Rattle.bas_names.specs.declared.StreamName.TheVariants.{File}
use Rattle.abi_calls.specs.declared.call.Call.{Call}
use Rattle.abi_calls.specs.declared.call.Call.TheVariants.{MemoryAllocate, MemoryFree, MemoryProtect, MemoryRead, MemoryWrite, ThreadCreate, ThreadResume, ThreadExit, ThreadContext, EventCreate, StreamOpen, StreamRead, StreamWrite, StreamLength, StreamSetLength, StreamDelete, StreamRename, Share, Close, ProcessCreate, ProcessExit, ProcessStatus, Configure, Positions}
use Rattle.abi_calls.specs.declared.object.Object.TheVariants.{Stream}
use Rattle.abi_calls.specs.declared.reply.Reply.{Reply}
use Rattle.abi_calls.specs.declared.reply.Reply.TheVariants.{Handle, BadHandle}
use Rattle.abi_calls.specs.declared.host.Crossing.{Crossing}
use Rattle.abi_calls.specs.Objects.{Object, Objects, object_at, running, IsFresh}
use Rattle.abi_calls.specs.World.{World, Contents, Told, Tells, StaysTold, Answer, world_of, on_objects}
use Rattle.abi_calls.specs.Memory.{memory_allocate_row, memory_free_row, memory_protect_row, memory_read_row, memory_write_row}
use Rattle.abi_calls.specs.Threads.{thread_create_row, thread_resume_row, thread_exit_row, thread_context_row, event_create_row}
use Rattle.abi_calls.specs.Streams.{stream_open_row, stream_read_row, stream_write_row, stream_length_row, stream_set_length_row, stream_delete_row, stream_rename_row, shared_object, share_row}
use Rattle.abi_calls.specs.Processes.{close_row, process_create_row, process_exit_row, process_status_row, configure_row, positions_row}

-- The number of a new object, read off the reply.
abbrev pub new_number : Reply → ℕ
new_number (Handle h) = h
new_number _ = 0

-- What a call answers from the objects alone; of what is no stream, calls on streams answer
-- BadHandle.
abbrev pub object_row : Objects → Call → Reply → Reply × Objects
object_row o (MemoryAllocate process page count rights) r =
    memory_allocate_row o process page count rights (running (object_at o process))
object_row o (MemoryFree process page count) r =
    memory_free_row o process page count (running (object_at o process))
object_row o (MemoryProtect process page count rights) r =
    memory_protect_row o process page count rights (running (object_at o process))
object_row o (MemoryRead process address count) r =
    memory_read_row o address count (running (object_at o process))
object_row o (MemoryWrite process address bytes) r =
    memory_write_row o process address bytes (running (object_at o process))
object_row o (ThreadCreate process context) r =
    thread_create_row o process context (running (object_at o process)) (new_number r)
object_row o (ThreadResume thread) r = thread_resume_row o thread (object_at o thread)
object_row o (ThreadExit thread) r = thread_exit_row o thread (object_at o thread)
object_row o (ThreadContext thread context) r =
    thread_context_row o thread context (object_at o thread)
object_row o EventCreate r = event_create_row o (new_number r)
object_row o (Share stream) r =
    share_row o (shared_object (object_at o stream)) (new_number r)
object_row o (Close handle) r = close_row o handle (object_at o handle)
object_row o ProcessCreate r = process_create_row o (new_number r)
object_row o (ProcessExit process code) r =
    process_exit_row o process code (running (object_at o process))
object_row o (ProcessStatus process) r = process_status_row o (object_at o process)
object_row o (Configure settings positions) r = configure_row o settings positions
object_row o Positions r = positions_row o
object_row o _ r = (BadHandle, o)

-- The answer to a call. The one thing that a host chooses, the number of a new object, is read off
-- its reply.
abbrev pub answer : World → Call → Reply → Answer
answer w (StreamOpen name create exclusive) r =
    stream_open_row w name create exclusive (new_number r)
answer w (StreamRead stream offset count) r =
    stream_read_row w offset count r (object_at w.objects stream)
answer w (StreamWrite stream offset bytes) r =
    stream_write_row w offset bytes r (object_at w.objects stream)
answer w (StreamLength stream) r = stream_length_row w (object_at w.objects stream)
answer w (StreamSetLength stream size) r =
    stream_set_length_row w size (object_at w.objects stream)
answer w (StreamDelete name) r = stream_delete_row w name
answer w (StreamRename from to) r = stream_rename_row w from to
answer w call r = on_objects w (object_row w.objects call r)

-- The calls that reach the contents of the outside: those on a stream that is a file or an end of
-- the console, and those on a file's name.
abbrev pub is_stream : Option Object → Bool
is_stream (Some (Stream name)) = true
is_stream _ = false

abbrev pub is_outside : Objects → Call → Bool
is_outside o (StreamOpen name create exclusive) = true
is_outside o (StreamRead stream offset count) = is_stream (object_at o stream)
is_outside o (StreamWrite stream offset bytes) = is_stream (object_at o stream)
is_outside o (StreamLength stream) = is_stream (object_at o stream)
is_outside o (StreamSetLength stream size) = is_stream (object_at o stream)
is_outside o (StreamDelete name) = true
is_outside o (StreamRename from to) = true
is_outside o _ = false

-- The calls that make something, or give bytes back, and so take memory of the host's own.
abbrev pub takes_memory : Call → Bool
takes_memory (MemoryFree process page count) = false
takes_memory (MemoryProtect process page count rights) = false
takes_memory (MemoryWrite process address bytes) = false
takes_memory (ThreadResume thread) = false
takes_memory (ThreadExit thread) = false
takes_memory (ThreadContext thread context) = false
takes_memory (Close handle) = false
takes_memory (ProcessExit process code) = false
takes_memory (ProcessStatus process) = false
takes_memory Positions = false
takes_memory _ = true

-- What a host may choose: a new number is fresh.
abbrev pub IsFreeChoice : World → Call → Reply → Type 0
IsFreeChoice w call (Handle h) = IsFresh w.objects h
IsFreeChoice w call _ = Unit {0}

-- A host answers a call by a reply and leaves another world. Apart from what it chooses, the reply
-- and the new world are fixed.
pub record Abi (w : World) (call : Call) (reply : Reply) (w' : World) : Type 0 where
  pub choice : IsFreeChoice w call reply
  pub row : answer w call reply ≡ (reply, w')

-- The same, for some contents that are as the host tells, before and after.
pub record Answers (o : Objects) (told : Told) (call : Call) (reply : Reply)
    (o' : Objects) (told' : Told) : Type 0 where
  pub before : Contents
  pub after : Contents
  pub was : Tells told before
  pub is : Tells told' after
  pub stays : StaysTold told told'
  pub abi : Abi (world_of o before) call reply (world_of o' after)

-- A stream on a file.
abbrev pub is_file : Option Object → Bool
is_file (Some (Stream (File name))) = true
is_file _ = false

-- A count that goes up by one, or stands at its end.
abbrev pub counted_up : ℕ → ℕ
counted_up n = min (n + 1) (2 ^ 64 - 1)

-- The journal, where it is kept, gains an answered call.
abbrev pub journalled : Option (List Crossing) → Crossing → Option (List Crossing)
journalled journal crossing = option_map (λ crossings. crossings ++ crossing ∷ []) journal
