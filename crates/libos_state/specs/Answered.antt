-- What a service does on a reply, and what a reply changes of the records: one row for each stage.
-- A reply that the stage doesn't list ends the service; no host that keeps to its contract gives
-- one.
use Rattle.std.specs.Prelude.{ℕ, Bool, ◌+◌, ◌*◌, ◌==◌, true, false, if◌then◌else◌, List, [], ◌∷◌, ◌++◌, length, take, drop, nat_lt, nat_le}
use Rattle.std.specs.declared.option.Option.{Option}
use Rattle.std.specs.declared.option.Option.TheVariants.{None, Some}
use Rattle.std.specs.declared.result.Result.{Result}
use Rattle.std.specs.declared.result.Result.TheVariants.{Ok, Err}
use Rattle.abi_calls.specs.declared.reply.Reply.{Reply}
use Rattle.abi_calls.specs.declared.reply.Reply.TheVariants.{Done, Handle, Bytes, Count, Length, Exists, BadAddress, NoAccess, NoRoom, TooBig}
use Rattle.mono_model.specs.Machine.{register, returned}
use Rattle.mono_model.specs.Calls.{DUP3, error, ENOMEM, EFAULT, EINVAL, EFBIG, advanced}
use Rattle.mono_model.specs.FileCalls.{READ, LSEEK, sought, status}
use Rattle.mono_model.specs.Starting.{STACK_PAGE}
use Rattle.elf_loader.specs.declared.ElfError.{ElfError}
use Rattle.elf_loader.specs.declared.Program.{Program}
use Rattle.elf_loader.specs.Image.{loaded}
use Rattle.libos_state.specs.declared.cont.Cont.{Cont}
use Rattle.libos_state.specs.declared.cont.Stage.{Stage}
use Rattle.libos_state.specs.declared.cont.Stage.TheVariants.{SetContext, Resume, CloseEvent, ExitThread, CloseHandles, ExitProcess, ReadBuffer, WriteStream, ReadStream, StoreBytes, AppendLength, FileLength, SetFileLength, AllocatePages, FreePages, ProtectPages, Configure, OpenConsole, OpenProgram, ProgramLength, ReadProgram, CloseProgram, CreateProcess, AllocateRun, WriteRun, ProtectRun, AllocateStack, WriteBlock, CreateThread, CreateEvent, StartThread, CloseStream}
use Rattle.libos_state.specs.declared.notes.Description.{Description}
use Rattle.libos_state.specs.declared.notes.DescriptorNote.{DescriptorNote}
use Rattle.libos_state.specs.declared.notes.ProcessNote.{ProcessNote}
use Rattle.libos_state.specs.declared.notes.ThreadNote.{ThreadNote}
use Rattle.libos_state.specs.declared.notes.Kind.{Kind}
use Rattle.libos_state.specs.declared.notes.Kind.TheVariants.{ConIn, ConOut, ConErr}
use Rattle.libos_state.specs.declared.state.Boot.TheVariants.{Up, NoProgram, BadProgram}
use Rattle.libos_state.specs.declared.state.LibOs.{LibOs}
use Rattle.libos_state.specs.declared.step.Change.{Change}
use Rattle.libos_state.specs.declared.step.Change.TheVariants.{Same, PutsPosition, MovesPosition, MovesBreak, Begins, Closes, Replaces}
use Rattle.libos_state.specs.declared.step.Step.{Step}
use Rattle.libos_state.specs.declared.step.Step.TheVariants.{Asks, GivesBreak, Sends, Ends, Stops}
use Rattle.libos_state.specs.Records.{process_with, description_behind, pid_with, is_file}
use Rattle.libos_state.specs.Breaks.{break_of, with_break}
use Rattle.libos_state.specs.Pending.{upcall_in, handle, number, argument, is_brk, program_in, runs_in, run_in, run_piece, file_or_child}
use Rattle.libos_state.specs.Descriptors.{with_descriptor, without_stream, positioned, moved_over}
use Rattle.libos_state.specs.Fits.{is_call}

-- The service goes on with these, or has ended.
abbrev pub goes_on : LibOs → Cont → LibOs
goes_on os c = record os { cont = Some c }

abbrev pub ends : LibOs → LibOs
ends os = record os { cont = None }

-- A stage that keeps nothing: its registers are those at the trap.
abbrev pub bare : Cont → Stage → Cont
bare c stage = record {
  event = c.event;
  stage = stage;
  next = (upcall_in c.event).context;
  names = [];
  bytes = [];
  handles = [];
  later = [];
  numbers = [];
}

-- The system call's result is known: the thread gets it and the next instruction, and becomes
-- ready.
abbrev pub service_with_result : Cont → ℕ → Cont
service_with_result c result =
    record (bare c SetContext) { next = returned (upcall_in c.event).context result }

-- brk gives the break of its process, as the records have it.
abbrev pub gives_break : LibOs → Cont → LibOs
gives_break os c =
    let process = process_with (upcall_in c.event).process os.processes in
    goes_on os (service_with_result c (break_of process))

-- The bytes are written to the stream, into a file from an offset on.
abbrev pub service_writing : Cont → List ℕ → ℕ → Cont
service_writing c bytes offset =
    record (bare c WriteStream) { bytes = bytes; numbers = offset ∷ [] }

-- Where the description appends, the length of its file is asked for before.
abbrev pub service_sending : Cont → Option Description → Cont
service_sending c None = service_writing c c.bytes 0
service_sending c (Some d) =
    if d.append then record (bare c AppendLength) { bytes = c.bytes }
    else service_writing c c.bytes (if is_file d.kind then d.position else 0)

abbrev pub sends : LibOs → Cont → LibOs
sends os c =
    let u = upcall_in c.event in
    goes_on os (service_sending c (description_behind os u.process (register u.context 10)))

-- The library OS after a step of its service.
abbrev pub with_step : LibOs → Step → LibOs
with_step os (Asks c) = goes_on os c
with_step os (GivesBreak c) = gives_break os c
with_step os (Sends c) = sends os c
with_step os Ends = ends os
with_step os (Stops boot) = record os { boot = boot; cont = None }

-- A descriptor of process p names what another one does, where that is open.
abbrev pub duplicated : LibOs → ℕ → ℕ → Option Description → LibOs
duplicated os p new None = os
duplicated os p new (Some d) = with_descriptor os p new d.id

abbrev pub with_duplicate : LibOs → ℕ → ℕ → ℕ → LibOs
with_duplicate os process old new =
    duplicated os (pid_with os process) new (description_behind os process old)

-- The library OS with its records changed; the next id is behind those of the run's first process
-- and its thread, which are both 1.
abbrev pub with_change : LibOs → Change → LibOs
with_change os Same = os
with_change os (Closes handle) = without_stream os handle
with_change os (Replaces handle process old new) =
    with_duplicate (without_stream os handle) process old new
with_change os (PutsPosition process fd position) =
    positioned os position (description_behind os process fd)
with_change os (MovesPosition process fd count) =
    moved_over os count (description_behind os process fd)
with_change os (MovesBreak process address) = with_break os process address
with_change os (Begins process thread descriptions) = record os {
  next_id = 2;
  processes = process ∷ [];
  threads = thread ∷ [];
  descriptions = descriptions;
}

-- The pages are looked for from a page on, below the stack.
abbrev pub service_mapping : Cont → ℕ → ℕ → Cont
service_mapping c page count =
    if nat_le (page + count) STACK_PAGE
    then record (bare c AllocatePages) { numbers = page ∷ count ∷ [] }
    else service_with_result c (error ENOMEM)

-- The pages of mmap are made, or their run has a page that is there, or they are too many.
abbrev pub mapping_step : Cont → Reply → Step
mapping_step c Done = Asks (service_with_result c (number c 0 * 4096))
mapping_step c Exists = Asks (service_mapping c (number c 0 + 1) (number c 1))
mapping_step c NoRoom = Asks (service_with_result c (error ENOMEM))
mapping_step c _ = Ends

-- Pages that are there have changed, or one isn't there, which is this error.
abbrev pub changed_step : Cont → ℕ → Reply → Step
changed_step c refused Done = Asks (service_with_result c 0)
changed_step c refused BadAddress = Asks (service_with_result c (error refused))
changed_step c refused _ = Ends

-- The bytes go to the caller's memory from an address on, and then the call has this result.
abbrev pub service_storing : Cont → ℕ → List ℕ → ℕ → Cont
service_storing c address bytes result =
    record (bare c StoreBytes) { bytes = bytes; numbers = address ∷ result ∷ [] }

-- Where no bytes came, the memory isn't asked.
abbrev pub service_with_bytes : Cont → List ℕ → Cont
service_with_bytes c bytes =
    if length bytes == 0 then service_with_result c 0
    else service_storing c (argument c 1) bytes (length bytes)

-- The result of lseek.
abbrev pub seek_result : Option ℕ → ℕ
seek_result None = error EINVAL
seek_result (Some at) = at

abbrev pub is_lseek : Cont → Bool
is_lseek c = is_call (upcall_in c.event) LSEEK

-- The length of a file is that from whose end lseek seeks a position, or a part of its status.
abbrev pub service_with_length : Cont → ℕ → Cont
service_with_length c size =
    if is_lseek c then service_with_result c (seek_result (sought size (argument c 1)))
    else service_storing c (argument c 1) (status true size) 0

-- The event of the thread that ends is closed, and then it exits.
abbrev pub service_leaving : Cont → ℕ → Cont
service_leaving c event = record (bare c CloseEvent) { handles = event ∷ [] }

-- The handles of the process that ends are closed one after another, and then it exits.
abbrev pub service_closing : Cont → List ℕ → Cont
service_closing c [] = record (bare c ExitProcess) { numbers = c.numbers }
service_closing c (h ∷ hs) =
    record (bare c CloseHandles) { handles = h ∷ hs; numbers = c.numbers }

-- A start that keeps these.
abbrev pub starting : Cont → Stage → List ℕ → List ℕ → List ℕ → Cont
starting c stage bytes handles numbers =
    record c { stage = stage; bytes = bytes; handles = handles; numbers = numbers }

-- The ends of the console are opened one after another, and then the program's file.
abbrev pub start_opening : Cont → List ℕ → Cont
start_opening c handles =
    starting c (if length handles == 3 then OpenProgram else OpenConsole) [] handles []

-- The file has so many bytes, or none to be read.
abbrev pub start_reading : Cont → ℕ → Cont
start_reading c size =
    if size == 0 then starting c CloseProgram [] c.handles []
    else starting c ReadProgram [] c.handles (size ∷ [])

-- The file is read until no bytes come, or all have come.
abbrev pub start_with_piece : Cont → List ℕ → Cont
start_with_piece c bytes =
    if length bytes == 0 then starting c CloseProgram c.bytes c.handles []
    else (if nat_le (number c 0) (length (c.bytes ++ bytes))
    then starting c CloseProgram (c.bytes ++ bytes) c.handles []
    else starting c ReadProgram (c.bytes ++ bytes) c.handles c.numbers)

-- The bytes are a program, which is loaded, or they are refused by this cause.
abbrev pub load_step : Cont → Result Program ElfError → Step
load_step c (Ok program) = Asks (starting c CreateProcess c.bytes (take 3 c.handles) [])
load_step c (Err cause) = Stops (BadProgram cause)

-- The run's bytes are written piece by piece, and then it gets its rights.
abbrev pub start_writing : Cont → ℕ → Cont
start_writing c written =
    if nat_lt written (length (run_in c).bytes)
    then starting c WriteRun c.bytes c.handles (number c 0 ∷ written ∷ [])
    else starting c ProtectRun c.bytes c.handles (number c 0 ∷ [])

-- The runs are loaded one after another, and then the stack is made.
abbrev pub start_loading : Cont → ℕ → Cont
start_loading c run =
    if nat_lt run (length (runs_in c)) then starting c AllocateRun c.bytes c.handles (run ∷ [])
    else starting c AllocateStack c.bytes c.handles []

-- The records of the run's first process, with the console as its descriptors 0, 1 and 2.
abbrev pub console_descriptors : List DescriptorNote
console_descriptors =
    record { number = 0; description = 1 } ∷
    record { number = 1; description = 2 } ∷
    record { number = 2; description = 3 } ∷ []

abbrev pub console_description : ℕ → ℕ → Kind → ℕ → Description
console_description id handle kind access = record {
  id = id;
  handle = handle;
  kind = kind;
  access = access;
  append = false;
  position = 0;
}

abbrev pub console_descriptions : Cont → List Description
console_descriptions c =
    console_description 1 (handle c 0) ConIn 1 ∷
    console_description 2 (handle c 1) ConOut 2 ∷
    console_description 3 (handle c 2) ConErr 2 ∷ []

-- The break of the first process stands where the program ends.
abbrev pub first_process : Cont → ProcessNote
first_process c = record {
  pid = 1;
  parent = 0;
  handle = file_or_child c;
  break_start = (program_in c).end;
  break_now = (program_in c).end;
  handler = 0;
  code = None;
  descriptors = console_descriptors;
}

abbrev pub first_thread : Cont → ThreadNote
first_thread c =
    record { tid = 1; pid = 1; handle = handle c 4; event = handle c 5; saved = None }

-- A description ends whose stream is closed; where dup3 closes it, the new descriptor then names
-- what the old one does.
abbrev pub closing_change : Cont → Change
closing_change c =
    let u = upcall_in c.event in
    if is_call u DUP3
    then Replaces (handle c 0) u.process (register u.context 10) (register u.context 11)
    else Closes (handle c 0)

-- The pages of brk are made, or have gone: its break is where a0 asks it to be.
abbrev pub break_change : Cont → Change
break_change c =
    if is_brk c then MovesBreak (upcall_in c.event).process (argument c 0) else Same

-- The descriptor in a0 names what stands at a position, or moves over so many bytes.
abbrev pub puts_position : Cont → ℕ → Change
puts_position c position = PutsPosition (upcall_in c.event).process (argument c 0) position

-- A read that has stored its bytes moves the position of its file; fstat moves none.
abbrev pub store_change : Cont → Change
store_change c =
    if is_call (upcall_in c.event) READ
    then MovesPosition (upcall_in c.event).process (argument c 0) (length c.bytes)
    else Same

abbrev pub seek_change : Cont → Option ℕ → Change
seek_change c None = Same
seek_change c (Some at) = puts_position c at

abbrev pub length_change : Cont → ℕ → Change
length_change c size = if is_lseek c then seek_change c (sought size (argument c 1)) else Same

-- What a reply changes of the records: what is closed goes, a position or a break moves, and they
-- begin where the first thread has become ready.
abbrev pub change : Cont → Stage → Reply → Change
change c CloseStream Done = closing_change c
change c StoreBytes Done = store_change c
change c WriteStream (Count n) = puts_position c (advanced (number c 0) n)
change c FileLength (Length size) = length_change c size
change c AllocatePages Done = break_change c
change c FreePages Done = break_change c
change c StartThread Done = Begins (first_process c) (first_thread c) (console_descriptions c)
change c _ _ = Same

-- What a service does on a reply.
abbrev pub next : Cont → Stage → Reply → Step
next c SetContext Done = Asks (record c { stage = Resume })
next c CloseStream Done = Asks (record (bare c SetContext) { next = c.next })
next c CloseEvent Done = Asks (bare c ExitThread)
next c CloseHandles Done = Asks (service_closing c (drop 1 c.handles))
next c ReadStream (Bytes bytes) = Asks (service_with_bytes c bytes)
next c StoreBytes Done = Asks (service_with_result c (number c 1))
next c StoreBytes BadAddress = Asks (service_with_result c (error EFAULT))
next c StoreBytes NoAccess = Asks (service_with_result c (error EFAULT))
next c ReadBuffer (Bytes bytes) = Sends (record c { bytes = bytes })
next c ReadBuffer BadAddress = Asks (service_with_result c (error EFAULT))
next c ReadBuffer NoAccess = Asks (service_with_result c (error EFAULT))
next c AppendLength (Length size) = Asks (service_writing c c.bytes size)
next c WriteStream (Count n) = Asks (service_with_result c n)
next c WriteStream TooBig = Asks (service_with_result c (error EFBIG))
next c FileLength (Length size) = Asks (service_with_length c size)
next c SetFileLength Done = Asks (service_with_result c 0)
next c SetFileLength TooBig = Asks (service_with_result c (error EFBIG))
next c AllocatePages reply = if is_brk c then GivesBreak c else mapping_step c reply
next c FreePages reply = if is_brk c then GivesBreak c else changed_step c EINVAL reply
next c ProtectPages reply = changed_step c ENOMEM reply
next c Configure Done = Asks (starting c OpenConsole [] [] [])
next c OpenConsole (Handle h) = Asks (start_opening c (c.handles ++ h ∷ []))
next c OpenProgram (Handle h) = Asks (starting c ProgramLength [] (c.handles ++ h ∷ []) [])
next c OpenProgram _ = Stops NoProgram
next c ProgramLength (Length size) = Asks (start_reading c size)
next c ReadProgram (Bytes bytes) = Asks (start_with_piece c bytes)
next c CloseProgram Done = load_step c (loaded c.bytes)
next c CreateProcess (Handle h) =
    Asks (starting c AllocateRun c.bytes (c.handles ++ h ∷ []) (0 ∷ []))
next c AllocateRun Done = Asks (starting c WriteRun c.bytes c.handles (number c 0 ∷ 0 ∷ []))
next c WriteRun Done = Asks (start_writing c (number c 1 + length (run_piece c)))
next c ProtectRun Done = Asks (start_loading c (number c 0 + 1))
next c AllocateStack Done = Asks (starting c WriteBlock c.bytes c.handles [])
next c WriteBlock Done = Asks (starting c CreateThread c.bytes c.handles [])
next c CreateThread (Handle h) =
    Asks (starting c CreateEvent c.bytes (c.handles ++ h ∷ []) [])
next c CreateEvent (Handle h) = Asks (starting c StartThread c.bytes (c.handles ++ h ∷ []) [])
next c StartThread Done = Stops Up
next c _ _ = Ends

-- The library OS after the reply to a stage's call.
abbrev pub answered_at : LibOs → Cont → Stage → Reply → LibOs
answered_at os c stage reply =
    with_step (with_change os (change c stage reply)) (next c stage reply)

abbrev pub answered_in : LibOs → Option Cont → Reply → LibOs
answered_in os None reply = os
answered_in os (Some c) reply = answered_at os c c.stage reply

-- The library OS after the reply to its pending call.
abbrev pub answered : LibOs → Reply → LibOs
answered os reply = answered_in os os.cont reply
