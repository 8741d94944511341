-- How a service begins: with a trap, or with the start of a run.
use Rattle.std.specs.Prelude.{ℕ, ◌/◌, ◌%◌, ◌==◌, Bool, not, ◌&&◌, if◌then◌else◌, List, [], ◌∷◌, ◌++◌, map, filter, filter_map, bit_and, nat_lt, is_some, replicate, ◌^◌, false}
use Rattle.std.specs.List.{list_any}
use Rattle.std.specs.Option.{option_map}
use Rattle.std.specs.declared.option.Option.{Option}
use Rattle.std.specs.declared.option.Option.TheVariants.{None, Some}
use Rattle.turn_sched.specs.Lists.{without}
use Rattle.turn_sched.specs.declared.settings.Settings.{Settings}
use Rattle.abi_calls.specs.declared.threads.Upcall.{Upcall}
use Rattle.mono_model.specs.Machine.{register, returned}
use Rattle.mono_model.specs.Calls.{WRITE, BRK, MUNMAP, MMAP, MPROTECT, EBADF, EINVAL, ENOSYS, error, munmap_known, mmap_known, mprotect_known, SCHED_YIELD, GETPID, GETPPID, GETTID, is_exit, EXIT, DUP, DUP3, CLOSE, EMFILE, dup3_known}
use Rattle.mono_model.specs.SystemCalls.{fault_code}
use Rattle.mono_model.specs.FileCalls.{FTRUNCATE, LSEEK, READ, FSTAT, ESPIPE, sought, status}
use Rattle.guest_space.specs.First.{first_some}
use Rattle.mono_model.specs.Descriptors.{DESCRIPTORS}
use Rattle.mono_model.specs.Mapping.{FIRST_MAPPED, pages_for}
use Rattle.mono_model.specs.declared.breaks.BreakMove.{BreakMove}
use Rattle.mono_model.specs.declared.breaks.BreakMove.TheVariants.{Grows, Shrinks, Within, Stays}
use Rattle.libos_state.specs.declared.cont.Cont.{Cont}
use Rattle.libos_state.specs.declared.cont.Event.TheVariants as event
use Rattle.libos_state.specs.declared.cont.Stage.{Stage}
use Rattle.libos_state.specs.declared.cont.Stage.TheVariants.{SetContext, CloseStream, ReadStream, ReadBuffer, FileLength, SetFileLength, AllocatePages, FreePages, ProtectPages, Configure}
use Rattle.libos_state.specs.declared.notes.Description.{Description}
use Rattle.libos_state.specs.declared.notes.DescriptorNote.{DescriptorNote}
use Rattle.libos_state.specs.declared.notes.ProcessNote.{ProcessNote}
use Rattle.libos_state.specs.declared.notes.ThreadNote.{ThreadNote}
use Rattle.libos_state.specs.declared.state.Boot.TheVariants.{Going}
use Rattle.libos_state.specs.declared.state.LibOs.{LibOs}
use Rattle.libos_state.specs.Records.{process_named, process_with, thread_named, thread_with, description_named, description_behind, pid_with, tid_with, event_in, descriptor_named, is_file}
use Rattle.libos_state.specs.Breaks.{break_goes, with_break}
use Rattle.libos_state.specs.Answered.{goes_on, gives_break, service_with_result, service_storing, service_closing, service_leaving, bare}
use Rattle.libos_state.specs.Descriptors.{without_descriptor, with_descriptor, with_position}
use Rattle.libos_state.specs.Fits.{is_described}
use Rattle.libos_state.specs.Pending.{upcall_in}

-- What a service on a trap keeps at first.
abbrev pub entered_with : Upcall → Cont
entered_with u = record {
  event = event.Up u;
  stage = SetContext;
  next = u.context;
  names = [];
  bytes = [];
  handles = [];
  later = [];
  numbers = [];
}

abbrev pub result_of : LibOs → Upcall → ℕ → LibOs
result_of os u result = goes_on os (service_with_result (entered_with u) result)

-- A stage that keeps nothing.
abbrev pub stage_of : LibOs → Upcall → Stage → LibOs
stage_of os u stage = goes_on os (record (entered_with u) { stage = stage })

-- write: the result is known at once where the descriptor isn't open for writing, and of no bytes.
abbrev pub write_entered : LibOs → Upcall → Option Description → LibOs
write_entered os u None = result_of os u (error EBADF)
write_entered os u (Some d) =
    if bit_and d.access 2 == 2
    then (if register u.context 12 == 0 then result_of os u 0
    else stage_of os u ReadBuffer)
    else result_of os u (error EBADF)

-- read: the result is known at once where the descriptor isn't open for reading, and of no bytes.
abbrev pub read_entered : LibOs → Upcall → Option Description → LibOs
read_entered os u None = result_of os u (error EBADF)
read_entered os u (Some d) =
    if bit_and d.access 1 == 1
    then (if register u.context 12 == 0 then result_of os u 0 else stage_of os u ReadStream)
    else result_of os u (error EBADF)

-- lseek: the length of the file is asked for where the offset counts from its end.
abbrev pub seek_to : LibOs → Upcall → ℕ → Option ℕ → LibOs
seek_to os u id None = result_of os u (error EINVAL)
seek_to os u id (Some at) = result_of (with_position os id at) u at

abbrev pub seek_by : LibOs → Upcall → Description → ℕ → LibOs
seek_by os u d whence =
    if nat_lt 2 whence then result_of os u (error EINVAL)
    else (if whence == 2 then stage_of os u FileLength
    else seek_to os u d.id
    (sought (if whence == 0 then 0 else d.position) (register u.context 11)))

abbrev pub lseek_entered : LibOs → Upcall → Option Description → LibOs
lseek_entered os u None = result_of os u (error EBADF)
lseek_entered os u (Some d) =
    if is_file d.kind then seek_by os u d (register u.context 12)
    else result_of os u (error ESPIPE)

-- fstat: an end of the console has no length.
abbrev pub fstat_entered : LibOs → Upcall → Option Description → LibOs
fstat_entered os u None = result_of os u (error EBADF)
fstat_entered os u (Some d) =
    if is_file d.kind then stage_of os u FileLength
    else goes_on os (service_storing (entered_with u) (register u.context 11) (status false 0) 0)

-- ftruncate: the file is open for writing, and the length is a position.
abbrev pub ftruncate_entered : LibOs → Upcall → Option Description → LibOs
ftruncate_entered os u None = result_of os u (error EBADF)
ftruncate_entered os u (Some d) =
    if is_file d.kind && (bit_and d.access 2 == 2 && nat_lt (register u.context 11) (2 ^ 63))
    then stage_of os u SetFileLength
    else result_of os u (error EINVAL)

-- A descriptor of a process other than p names the description.
abbrev pub names_description : ℕ → ℕ → ProcessNote → Bool
names_description p id n = not (n.pid == p) && list_any (λ d. d.description == id) n.descriptors

abbrev pub is_open_without : LibOs → ℕ → ℕ → Bool
is_open_without os p id = list_any (names_description p id) os.processes

-- The descriptors of a process, or none.
abbrev pub descriptors_in : Option ProcessNote → List DescriptorNote
descriptors_in None = []
descriptors_in (Some n) = n.descriptors

-- The ids, each once, where it stands first.
abbrev pub each_once : List ℕ → List ℕ
each_once [] = []
each_once (id ∷ ids) = id ∷ without (each_once ids) id

-- The ids of the descriptions that process p alone has open, in the order of its descriptors.
abbrev pub opened_alone : LibOs → ℕ → List ℕ
opened_alone os p =
    filter (λ id. not (is_open_without os p id))
    (each_once (map (λ d. d.description) (descriptors_in (process_named p os.processes))))

-- The handle of a description's stream.
abbrev pub stream_behind : List Description → ℕ → Option ℕ
stream_behind descriptions id = option_map (λ d. d.handle) (description_named id descriptions)

abbrev pub streams_behind : List Description → List ℕ → List ℕ
streams_behind descriptions ids = filter_map (stream_behind descriptions) ids

-- What ends with process p: the streams of the descriptions that it alone has open, in the order of
-- its descriptors, and then its threads' events.
abbrev pub handles_of : LibOs → ℕ → List ℕ
handles_of os p =
    streams_behind os.descriptions (opened_alone os p)
    ++ map (λ n. n.event) (filter (λ n. n.pid == p) os.threads)

-- The record of a process that ends gets its code, and has no descriptors.
abbrev pub note_ended : ℕ → ℕ → ProcessNote → ProcessNote
note_ended p code n = if n.pid == p then record n { code = Some code; descriptors = [] } else n

-- A thread of process p, by its record.
abbrev pub is_note_of : ℕ → Option ThreadNote → Bool
is_note_of p None = false
is_note_of p (Some n) = n.pid == p

-- The records without those that end with process p.
abbrev pub without_process : LibOs → ℕ → ℕ → LibOs
without_process os p code = record os {
  processes = map (note_ended p code) os.processes;
  threads = filter (λ n. not (n.pid == p)) os.threads;
  descriptions = filter (λ d. is_open_without os p d.id) os.descriptions;
  queue = filter (λ q. not (is_note_of p (thread_named q.tid os.threads))) os.queue;
}

-- A process ends: its handles are closed one after another.
abbrev pub ends_process : LibOs → Upcall → ℕ → LibOs
ends_process os u code =
    let p = pid_with os u.process in
    goes_on (without_process os p code)
    (service_closing (record (entered_with u) { numbers = code ∷ [] }) (handles_of os p))

-- A thread of process p other than t, by its record.
abbrev pub is_other_thread : ℕ → ℕ → ThreadNote → Bool
is_other_thread p t n = not (n.tid == t) && n.pid == p

-- The trap's process has another thread that is recorded.
abbrev pub has_other_thread : LibOs → Upcall → Bool
has_other_thread os u =
    list_any (is_other_thread (pid_with os u.process) (tid_with os u.thread)) os.threads

-- The records without those of a thread that ends.
abbrev pub without_thread : LibOs → ℕ → LibOs
without_thread os t = record os {
  threads = filter (λ n. not (n.tid == t)) os.threads;
  queue = filter (λ q. not (q.tid == t)) os.queue;
}

-- A thread ends alone: its event is closed.
abbrev pub ends_thread : LibOs → Upcall → LibOs
ends_thread os u =
    goes_on (without_thread os (tid_with os u.thread))
    (service_leaving (entered_with u) (event_in (thread_with u.thread os.threads)))

-- exit ends the thread alone where its process has another one; otherwise, and by exit_group, the
-- process ends.
abbrev pub exit_entered : LibOs → Upcall → ℕ → LibOs
exit_entered os u number =
    if number == EXIT && has_other_thread os u then ends_thread os u
    else ends_process os u (register u.context 10 % 256)

-- The parent that a record holds.
abbrev pub parent_of : Option ProcessNote → ℕ
parent_of None = 0
parent_of (Some n) = n.parent

-- The result of a call that asks who calls, or of none: sched_yield, getpid, getppid, gettid.
abbrev pub known_result : LibOs → Upcall → ℕ → ℕ
known_result os u number =
    if number == SCHED_YIELD then 0
    else (if number == GETPID then pid_with os u.process
    else (if number == GETPPID then parent_of (process_with u.process os.processes)
    else (if number == GETTID then tid_with os u.thread
    else error ENOSYS)))

-- A call on pages: the result that its arguments alone decide, or a stage with these pages.
abbrev pub on_pages : LibOs → Upcall → Option ℕ → Stage → ℕ → ℕ → LibOs
on_pages os u (Some result) stage page count = result_of os u result
on_pages os u None stage page count =
    goes_on os (record (entered_with u) { stage = stage; numbers = page ∷ count ∷ [] })

abbrev pub munmap_entered : LibOs → Upcall → LibOs
munmap_entered os u = on_pages os u (munmap_known u.context) FreePages
    (register u.context 10 / 4096) (pages_for (register u.context 11))

abbrev pub mmap_entered : LibOs → Upcall → LibOs
mmap_entered os u = on_pages os u (mmap_known u.context) AllocatePages
    FIRST_MAPPED (pages_for (register u.context 11))

abbrev pub mprotect_entered : LibOs → Upcall → LibOs
mprotect_entered os u = on_pages os u (mprotect_known u.context) ProtectPages
    (register u.context 10 / 4096) (pages_for (register u.context 11))

-- brk: its pages are made, or go, and then the break moves; within its page it moves at once.
abbrev pub brk_by : LibOs → Upcall → BreakMove → LibOs
brk_by os u (Grows page count) = on_pages os u None AllocatePages page count
brk_by os u (Shrinks page count) = on_pages os u None FreePages page count
brk_by os u Within =
    gives_break (with_break os u.process (register u.context 10)) (entered_with u)
brk_by os u Stays = gives_break os (entered_with u)

abbrev pub brk_entered : LibOs → Upcall → LibOs
brk_entered os u = brk_by os u (break_goes os u)

abbrev pub memory_entered : LibOs → Upcall → ℕ → LibOs
memory_entered os u number =
    if number == BRK then brk_entered os u
    else (if number == MUNMAP then munmap_entered os u
    else (if number == MMAP then mmap_entered os u
    else (if number == MPROTECT then mprotect_entered os u
    else result_of os u (known_result os u number))))

-- The stream of a description is closed, and then the thread gets the result.
abbrev pub service_with_stream : Cont → ℕ → ℕ → Cont
service_with_stream c handle result = record (bare c CloseStream) {
  next = returned (upcall_in c.event).context result;
  handles = handle ∷ [];
}

-- Without this descriptor no other one names the description.
abbrev pub is_last : LibOs → ℕ → ℕ → ℕ → Bool
is_last os p fd id = not (is_described (without_descriptor os p fd) id)

-- close: a descriptor that isn't the description's last is closed at once.
abbrev pub close_entered : LibOs → Upcall → Option Description → LibOs
close_entered os u None = result_of os u (error EBADF)
close_entered os u (Some d) =
    let p = pid_with os u.process in
    let fd = register u.context 10 in
    if is_last os p fd d.id
    then goes_on os (service_with_stream (entered_with u) d.handle 0)
    else result_of (without_descriptor os p fd) u 0

-- dup: the least free descriptor names the description too.
abbrev pub if_free_descriptor : List DescriptorNote → ℕ → Option ℕ
if_free_descriptor descriptors fd =
    if is_some (descriptor_named fd descriptors) then None else Some fd

abbrev pub least_free : List DescriptorNote → Option ℕ
least_free descriptors = first_some (if_free_descriptor descriptors) 0 DESCRIPTORS

abbrev pub dup_to : LibOs → Upcall → ℕ → Option ℕ → LibOs
dup_to os u id None = result_of os u (error EMFILE)
dup_to os u id (Some fd) = result_of (with_descriptor os (pid_with os u.process) fd id) u fd

abbrev pub dup_entered : LibOs → Upcall → Option Description → LibOs
dup_entered os u None = result_of os u (error EBADF)
dup_entered os u (Some d) =
    dup_to os u d.id (least_free (descriptors_in (process_with u.process os.processes)))

-- dup3: the new descriptor names the description of the old one; if it was the last of another one,
-- the stream of that is closed first.
abbrev pub dup3_over : LibOs → Upcall → ℕ → ℕ → Option Description → LibOs
dup3_over os u new id None = result_of (with_descriptor os (pid_with os u.process) new id) u new
dup3_over os u new id (Some d) =
    let p = pid_with os u.process in
    if is_last os p new d.id then goes_on os (service_with_stream (entered_with u) d.handle new)
    else result_of (with_descriptor os p new id) u new

abbrev pub dup3_open : LibOs → Upcall → ℕ → Option Description → LibOs
dup3_open os u new None = result_of os u (error EBADF)
dup3_open os u new (Some d) =
    if nat_lt new DESCRIPTORS
    then dup3_over os u new d.id (description_behind os u.process new)
    else result_of os u (error EBADF)

abbrev pub dup3_unless : LibOs → Upcall → Option ℕ → LibOs
dup3_unless os u (Some result) = result_of os u result
dup3_unless os u None = dup3_open os u (register u.context 11)
    (description_behind os u.process (register u.context 10))

abbrev pub descriptor_entered : LibOs → Upcall → ℕ → LibOs
descriptor_entered os u number =
    let described = description_behind os u.process (register u.context 10) in
    if number == CLOSE then close_entered os u described
    else (if number == DUP then dup_entered os u described
    else (if number == DUP3 then dup3_unless os u (dup3_known u.context)
    else memory_entered os u number))

abbrev pub file_entered : LibOs → Upcall → ℕ → LibOs
file_entered os u number =
    let described = description_behind os u.process (register u.context 10) in
    if number == READ then read_entered os u described
    else (if number == LSEEK then lseek_entered os u described
    else (if number == FSTAT then fstat_entered os u described
    else (if number == FTRUNCATE then ftruncate_entered os u described
    else descriptor_entered os u number)))

abbrev pub call_entered : LibOs → Upcall → ℕ → LibOs
call_entered os u number =
    if number == WRITE
    then write_entered os u (description_behind os u.process (register u.context 10))
    else (if is_exit number then exit_entered os u number
    else file_entered os u number)

-- The library OS that begins to serve a trap.
abbrev pub entered : LibOs → Upcall → LibOs
entered os u =
    if u.cause == 8 then call_entered os u (register u.context 17)
    else ends_process os u (fault_code u.cause)

-- The library OS that begins a run: the program's name is its first argument too.
abbrev pub booting : List ℕ → List (List ℕ) → Settings → LibOs
booting program args settings = record {
  settings = settings;
  boot = Going;
  next_id = 1;
  processes = [];
  threads = [];
  descriptions = [];
  queue = [];
  cont = Some (record {
    event = event.Boot program args;
    stage = Configure;
    next = record { pc = 0; x = replicate 31 0 };
    names = program ∷ program ∷ args;
    bytes = [];
    handles = [];
    later = [];
    numbers = [];
  });
}
