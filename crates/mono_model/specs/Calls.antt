-- What a trapped thread's system call or fault does, in one step on whole texts, and what it
-- writes. The numbers of the calls and of the errors are Linux's generic ones. The number stands in
-- a7, arguments in a0 to a5, the result in a0.
use Rattle.std.specs.Prelude.{ℕ, ◌+◌, ◌-◌, ◌*◌, ◌/◌, ◌%◌, ◌^◌, ◌==◌, Bool, false, not, ◌&&◌, ◌||◌, nat_lt, if◌then◌else◌, List, [], map, filter, length, min, bit_and}
use Rattle.std.specs.List.{list_any}
use Rattle.std.specs.Ordering.{nat_cmp}
use Rattle.std.specs.FinMap.{get, insert, remove, empty, entries, values, retain_keys, len, FinMap}
use Rattle.std.specs.declared.option.Option.{Option}
use Rattle.std.specs.declared.option.Option.TheVariants.{None, Some}
use Rattle.rv_core.specs.declared.context.Context.{Context}
use Rattle.guest_space.specs.Space.{Space, memory_of, bytes_from, with_run, without_run, protected}
use Rattle.guest_space.specs.Access.{AccessFault, first_fault}
use Rattle.bas_edge.specs.Files.{file_bytes, with_bytes_at}
use Rattle.bas_names.specs.declared.StreamName.{StreamName}
use Rattle.bas_names.specs.declared.StreamName.TheVariants.{File, ConIn, ConOut, ConErr}
use Rattle.turn_sched.specs.Lists.{contains, without}
use Rattle.mono_model.specs.Machine.{Mono, Process, Description, Target, Opened, Exits, Wakes, Gone, Waiter, exited, returned, register, resumed, process_at, with_memory_in, with_break_in, is_thread_in, Thread}
use Rattle.mono_model.specs.Descriptors.{DESCRIPTORS, named_by, descriptors_at, least_free, with_descriptor, with_closed, with_position}
use Rattle.mono_model.specs.Mapping.{MOST_PAGES, FIRST_MAPPED, is_page_start, pages_for, is_whole, lowest_free}
use Rattle.mono_model.specs.Breaks.{can_be_made, break_move}
use Rattle.mono_model.specs.declared.breaks.BreakMove.{BreakMove}
use Rattle.mono_model.specs.declared.breaks.BreakMove.TheVariants.{Grows, Shrinks, Within, Stays}
use Rattle.mono_model.specs.Written.{Written, nothing}

-- The system calls that there are so far.
abbrev pub DUP : ℕ
DUP = 23

abbrev pub DUP3 : ℕ
DUP3 = 24

abbrev pub CLOSE : ℕ
CLOSE = 57

abbrev pub WRITE : ℕ
WRITE = 64

abbrev pub EXIT : ℕ
EXIT = 93

abbrev pub EXIT_GROUP : ℕ
EXIT_GROUP = 94

abbrev pub SCHED_YIELD : ℕ
SCHED_YIELD = 124

abbrev pub GETPID : ℕ
GETPID = 172

abbrev pub GETPPID : ℕ
GETPPID = 173

abbrev pub GETTID : ℕ
GETTID = 178

abbrev pub BRK : ℕ
BRK = 214

abbrev pub MUNMAP : ℕ
MUNMAP = 215

abbrev pub MMAP : ℕ
MMAP = 222

abbrev pub MPROTECT : ℕ
MPROTECT = 226

-- Errors.
abbrev pub EBADF : ℕ
EBADF = 9

abbrev pub ENOMEM : ℕ
ENOMEM = 12

abbrev pub EFAULT : ℕ
EFAULT = 14

abbrev pub EINVAL : ℕ
EINVAL = 22

abbrev pub EMFILE : ℕ
EMFILE = 24

abbrev pub EFBIG : ℕ
EFBIG = 27

abbrev pub ENOSYS : ℕ
ENOSYS = 38

-- An error as a result: its negative number, modulo 2^64.
abbrev pub error : ℕ → ℕ
error number = 2 ^ 64 - number

-- Where a system call was made: the thread, its process, and the registers at the call.
pub record Caller : Type 0 where
  pub thread : ℕ
  pub process : ℕ
  pub context : Context

-- The cause of a trap and its value.
abbrev pub Trap : Type 0
Trap = ℕ × ℕ

-- What serving a trap does: the machine after it, and what was written.
abbrev pub Served : Type 0
Served = Mono × Written

-- Nothing is written.
abbrev pub silently : Mono → Served
silently m = (m, nothing)

-- The thread gets the result and goes on behind the call.
abbrev pub finished : Mono → Caller → ℕ → Mono
finished m who result = resumed m who.thread who.process (returned who.context result)

abbrev pub described_by : Mono → Option ℕ → Option Description
described_by m None = None
described_by m (Some d) = get {R = nat_cmp} m.descriptions d

abbrev pub described_in : Mono → ℕ → Option Process → Option Description
described_in m fd None = None
described_in m fd (Some process) = described_by m (get {R = nat_cmp} process.descriptors fd)

-- The open description that a descriptor of a process names.
abbrev pub description_of : Mono → ℕ → ℕ → Option Description
description_of m p fd = described_in m fd (process_at m p)

-- A description that can be written.
abbrev pub writable : Option Description → Option Description
writable None = None
writable (Some d) = if bit_and d.access 2 == 2 then Some d else None

abbrev pub memory_in : Option Process → Space
memory_in None = empty
memory_in (Some process) = process.memory

-- The memory of a process.
abbrev pub memory_at : Mono → ℕ → Space
memory_at m p = memory_in (process_at m p)

-- No call writes or lengthens a file past 16 MiB.
abbrev pub LONGEST_FILE : ℕ
LONGEST_FILE = 2 ^ 24

-- How many bytes one call moves at most.
abbrev pub moved : ℕ → ℕ
moved count = min count 65536

-- Bytes that go to a stream of the console; its input takes none, and what goes to a file isn't
-- written to the console.
abbrev pub sent : StreamName → List ℕ → Written
sent ConOut bytes = record { output = bytes; errors = [] }
sent ConErr bytes = record { output = []; errors = bytes }
sent ConIn bytes = nothing
sent (File name) bytes = nothing

-- Where a position stands that moves over so many bytes: at 2^64 - 1 at most.
abbrev pub advanced : ℕ → ℕ → ℕ
advanced position count = min (position + count) (2 ^ 64 - 1)

abbrev pub positioned_by : Mono → ℕ → Option ℕ → Mono
positioned_by m position None = m
positioned_by m position (Some id) = with_position m id position

-- The description that the caller's a0 names is at a position.
abbrev pub positioned : Mono → Caller → ℕ → Mono
positioned m who position =
    positioned_by m position (named_by m who.process (register who.context 10))

-- The file has the bytes from an offset on, and the position stands behind them; EFBIG where it
-- would become too long.
abbrev pub write_file : Mono → Caller → List ℕ → ℕ → List ℕ → Mono
write_file m who name offset bytes =
    let written = record m { files = with_bytes_at name offset bytes m.files } in
    if nat_lt LONGEST_FILE (offset + length bytes) then finished m who (error EFBIG)
    else finished (positioned written who (advanced offset (length bytes))) who (length bytes)

-- The bytes go to a stream, into a file from an offset on.
abbrev pub write_at : Mono → Caller → ℕ → List ℕ → StreamName → Served
write_at m who offset bytes (File name) = silently (write_file m who name offset bytes)
write_at m who offset bytes console = (finished m who (length bytes), sent console bytes)

-- The bytes of the file that a stream is; of the console none.
abbrev pub bytes_of : Mono → StreamName → List ℕ
bytes_of m (File name) = file_bytes m.files name
bytes_of m console = []

-- Where a write begins: a description that appends writes at the end of its file.
abbrev pub write_offset : Mono → Description → ℕ
write_offset m d = if d.append then length (bytes_of m d.stream) else d.position

abbrev pub write_bytes : Mono → Caller → Description → List ℕ → Served
write_bytes m who d bytes = write_at m who (write_offset m d) bytes d.stream

abbrev pub write_unless : Mono → Caller → Description → List ℕ → Option AccessFault → Served
write_unless m who d bytes None = write_bytes m who d bytes
write_unless m who d bytes (Some fault) = silently (finished m who (error EFAULT))

-- The bytes are read from the caller's memory: EFAULT where one isn't there or can't be read.
abbrev pub write_from : Mono → Caller → Description → ℕ → ℕ → Served
write_from m who d address count =
    let memory = memory_of (memory_at m who.process) in
    write_unless m who d (bytes_from memory address count) (first_fault memory 1 address count)

abbrev pub write_to : Mono → Caller → Option Description → Served
write_to m who None = silently (finished m who (error EBADF))
write_to m who (Some d) =
    if register who.context 12 == 0 then silently (finished m who 0)
    else write_from m who d (register who.context 11) (moved (register who.context 12))

-- write(fd, buf, n): EBADF where fd isn't open for writing. n is cut to 65,536, and 0 writes
-- nothing.
abbrev pub write : Mono → Caller → Served
write m who = write_to m who (writable (description_of m who.process (register who.context 10)))

-- The caller's process has other pages, and the call gives a result.
abbrev pub finished_with : Mono → Caller → Space → ℕ → Mono
finished_with m who s result =
    finished (with_memory_in m who.process s (process_at m who.process)) who result

-- A result that the arguments alone decide, or what else is done.
abbrev pub unless_known : Mono → Caller → Option ℕ → Mono → Mono
unless_known m who None goes = goes
unless_known m who (Some result) goes = finished m who result

-- munmap(a, n): EINVAL where a isn't the address of a page, or n is 0.
abbrev pub munmap_known : Context → Option ℕ
munmap_known cx =
    if not (is_page_start (register cx 10)) || register cx 11 == 0 then Some (error EINVAL)
    else None

-- The pages of the run go; EINVAL where one isn't there.
abbrev pub free_pages : Mono → Caller → ℕ → ℕ → Mono
free_pages m who page count =
    let s = memory_at m who.process in
    if is_whole s page count then finished_with m who (without_run s page count) 0
    else finished m who (error EINVAL)

abbrev pub munmap : Mono → Caller → Mono
munmap m who = unless_known m who (munmap_known who.context)
    (free_pages m who (register who.context 10 / 4096) (pages_for (register who.context 11)))

-- mprotect(a, n, prot): EINVAL where a isn't the address of a page, or prot is past 7. Of no bytes
-- it gives 0.
abbrev pub mprotect_known : Context → Option ℕ
mprotect_known cx =
    if not (is_page_start (register cx 10)) || nat_lt 7 (register cx 12)
    then Some (error EINVAL)
    else (if register cx 11 == 0 then Some 0 else None)

-- The pages of the run get the rights prot; ENOMEM where one isn't there.
abbrev pub protect_pages : Mono → Caller → ℕ → ℕ → Mono
protect_pages m who page count =
    let s = memory_at m who.process in
    if is_whole s page count
    then finished_with m who (protected s page count (register who.context 12)) 0
    else finished m who (error ENOMEM)

abbrev pub mprotect : Mono → Caller → Mono
mprotect m who = unless_known m who (mprotect_known who.context)
    (protect_pages m who (register who.context 10 / 4096) (pages_for (register who.context 11)))

-- mmap(-, n, prot, flags, -, -): EINVAL where n is 0, prot is past 7, or flags aren't 0x22; ENOMEM
-- where the run has more pages than a process may have.
abbrev pub mmap_known : Context → Option ℕ
mmap_known cx =
    if register cx 11 == 0 || (nat_lt 7 (register cx 12) || not (register cx 13 == 0x22))
    then Some (error EINVAL)
    else (if nat_lt MOST_PAGES (pages_for (register cx 11)) then Some (error ENOMEM) else None)

-- Pages of zeros with the rights prot, whose address is the result; ENOMEM where there is no such
-- run, or the process would have too many pages.
abbrev pub map_pages : Mono → Caller → ℕ → Option ℕ → Mono
map_pages m who count None = finished m who (error ENOMEM)
map_pages m who count (Some page) =
    let s = memory_at m who.process in
    if nat_lt MOST_PAGES (len s + count) then finished m who (error ENOMEM)
    else finished_with m who (with_run s page count (register who.context 12)) (page * 4096)

-- mmap, where only runs from a page on are looked at.
abbrev pub map_from : Mono → Caller → ℕ → ℕ → Mono
map_from m who from count =
    map_pages m who count (lowest_free (memory_at m who.process) from count)

abbrev pub mmap : Mono → Caller → Mono
mmap m who = unless_known m who (mmap_known who.context)
    (map_from m who FIRST_MAPPED (pages_for (register who.context 11)))

-- close(fd): EBADF where fd isn't open.
abbrev pub close_open : Mono → Caller → Option ℕ → Mono
close_open m who None = finished m who (error EBADF)
close_open m who (Some id) = finished (with_closed m who.process (register who.context 10)) who 0

abbrev pub close : Mono → Caller → Mono
close m who = close_open m who (named_by m who.process (register who.context 10))

-- dup(fd): the least free descriptor names the description too; EBADF where fd isn't open, EMFILE
-- where no descriptor is free.
abbrev pub dup_to : Mono → Caller → ℕ → Option ℕ → Mono
dup_to m who id None = finished m who (error EMFILE)
dup_to m who id (Some fd) = finished (with_descriptor m who.process fd id) who fd

abbrev pub dup_open : Mono → Caller → Option ℕ → Mono
dup_open m who None = finished m who (error EBADF)
dup_open m who (Some id) = dup_to m who id (least_free (descriptors_at m who.process))

abbrev pub dup : Mono → Caller → Mono
dup m who = dup_open m who (named_by m who.process (register who.context 10))

-- dup3(old, new, flags): EINVAL where the flags are neither 0 nor 0x80000, or old is new.
abbrev pub dup3_known : Context → Option ℕ
dup3_known cx =
    if not (register cx 12 == 0 || register cx 12 == 0x80000) || register cx 10 == register cx 11
    then Some (error EINVAL)
    else None

-- The descriptor new is closed, if it is open, and names the description of old; EBADF where old
-- isn't open, or new is past the descriptors that there are.
abbrev pub dup3_open : Mono → Caller → ℕ → Option ℕ → Mono
dup3_open m who new None = finished m who (error EBADF)
dup3_open m who new (Some id) =
    if nat_lt new DESCRIPTORS
    then finished (with_descriptor (with_closed m who.process new) who.process new id) who new
    else finished m who (error EBADF)

abbrev pub dup3 : Mono → Caller → Mono
dup3 m who = unless_known m who (dup3_known who.context)
    (dup3_open m who (register who.context 11) (named_by m who.process (register who.context 10)))

-- Where the break of a process stands.
abbrev pub break_in : Option Process → ℕ
break_in None = 0
break_in (Some process) = process.break_now

-- The call gives the break of the caller's process, as it then stands.
abbrev pub break_given : Mono → Caller → Mono
break_given m who = finished m who (break_in (process_at m who.process))

-- The break is where a0 asks it to be.
abbrev pub break_moved : Mono → Caller → Mono
break_moved m who =
    let address = register who.context 10 in
    break_given (with_break_in m who.process address (process_at m who.process)) who

-- So it is, and the process has other pages.
abbrev pub break_moved_with : Mono → Caller → Space → Mono
break_moved_with m who s =
    break_moved (with_memory_in m who.process s (process_at m who.process)) who

-- The pages of the run are made, with the rights to read and to write; the break stays where they
-- can't be had.
abbrev pub grow_break : Mono → Caller → ℕ → ℕ → Mono
grow_break m who page count =
    let s = memory_at m who.process in
    if can_be_made s page count then break_moved_with m who (with_run s page count 3)
    else break_given m who

-- The pages of the run go; the break stays where one isn't there.
abbrev pub shrink_break : Mono → Caller → ℕ → ℕ → Mono
shrink_break m who page count =
    let s = memory_at m who.process in
    if is_whole s page count then break_moved_with m who (without_run s page count)
    else break_given m who

-- Where a process's break goes that is asked to be at an address.
abbrev pub break_asked : Option Process → ℕ → BreakMove
break_asked None address = Stays
break_asked (Some process) address = break_move process.break_start process.break_now address

abbrev pub brk_by : Mono → Caller → BreakMove → Mono
brk_by m who (Grows page count) = grow_break m who page count
brk_by m who (Shrinks page count) = shrink_break m who page count
brk_by m who Within = break_moved m who
brk_by m who Stays = break_given m who

-- brk(a): the new break, or the old one where a is below the start, or the pages can't be had or
-- freed.
abbrev pub brk : Mono → Caller → Mono
brk m who =
    brk_by m who (break_asked (process_at m who.process) (register who.context 10))

-- A descriptor of a process other than p names the description.
abbrev pub names_description : ℕ → ℕ → ℕ × Process → Bool
names_description p id entry =
    not (entry.0 == p) && contains (values entry.1.descriptors) id

abbrev pub is_open_without : Mono → ℕ → ℕ → Bool
is_open_without m p id = list_any (names_description p id) (entries m.processes)

-- A target that goes with a process: an open description that no other process names, or that a
-- thread of it is woken.
abbrev pub goes_with : Mono → ℕ → Target → Bool
goes_with m p (Opened d) = not (is_open_without m p d)
goes_with m p (Exits q) = false
goes_with m p (Wakes t) = is_thread_in m p t
goes_with m p Gone = false

abbrev pub target_left : Mono → ℕ → Target → Target
target_left m p target = if goes_with m p target then Gone else target

abbrev pub waiter_left : Mono → ℕ → Waiter → Waiter
waiter_left m p w = record w { targets = map (target_left m p) w.targets }

-- Process p exits, if there is one.
abbrev pub with_exited
    : FinMap nat_cmp Process → ℕ → ℕ → Option Process → FinMap nat_cmp Process
with_exited processes p code None = processes
with_exited processes p code (Some process) = insert processes p (exited process code)

-- A process ends: its threads end, it keeps its record but for its memory and its descriptors, and
-- the descriptions that it alone had open are closed. Its children keep its number as their
-- parent's.
abbrev pub ended : Mono → ℕ → ℕ → Mono
ended m p code = record m {
  processes = with_exited m.processes p code (process_at m p);
  threads = retain_keys m.threads (λ t. not (is_thread_in m p t));
  descriptions = retain_keys m.descriptions (is_open_without m p);
  lists = record m.lists {
    ready = filter (λ t. not (is_thread_in m p t)) m.lists.ready;
    waiting = map (waiter_left m p) (filter (λ w. not (is_thread_in m p w.thread)) m.lists.waiting);
  };
  queue = filter (λ q. not (is_thread_in m p q.thread)) m.queue;
}

-- What waits that a thread is woken waits for what has gone.
abbrev pub target_without : ℕ → Target → Target
target_without t (Opened d) = Opened d
target_without t (Exits p) = Exits p
target_without t (Wakes u) = if u == t then Gone else Wakes u
target_without t Gone = Gone

abbrev pub waiter_without : ℕ → Waiter → Waiter
waiter_without t w = record w { targets = map (target_without t) w.targets }

-- A thread ends: it leaves the lists and the queue. Its process goes on.
abbrev pub without_thread : Mono → ℕ → Mono
without_thread m t = record m {
  threads = remove m.threads t;
  lists = record m.lists {
    ready = without m.lists.ready t;
    waiting = map (waiter_without t) (filter (λ w. not (w.thread == t)) m.lists.waiting);
  };
  queue = filter (λ q. not (q.thread == t)) m.queue;
}

-- A thread of process p other than t.
abbrev pub is_other_thread : ℕ → ℕ → ℕ × Thread → Bool
is_other_thread p t entry = not (entry.0 == t) && entry.1.process == p

-- The caller's process has another thread.
abbrev pub has_other_thread : Mono → Caller → Bool
has_other_thread m who = list_any (is_other_thread who.process who.thread) (entries m.threads)

-- The calls that end the caller.
abbrev pub is_exit : ℕ → Bool
is_exit number = number == EXIT || number == EXIT_GROUP

-- exit(c) ends the calling thread alone where its process has another one. Otherwise, and by
-- exit_group(c), the process ends with c modulo 256.
abbrev pub exit : Mono → Caller → ℕ → Mono
exit m who number =
    if number == EXIT && has_other_thread m who then without_thread m who.thread
    else ended m who.process (register who.context 10 % 256)

-- The parent of a process; 0 where it has none.
abbrev pub parent_in : Option Process → ℕ
parent_in None = 0
parent_in (Some process) = process.parent

-- The result of a call that changes nothing else: sched_yield gives 0, getpid the process, getppid
-- its parent, gettid the thread. Any other number is no system call: ENOSYS.
abbrev pub known_result : Mono → Caller → ℕ → ℕ
known_result m who number =
    if number == SCHED_YIELD then 0
    else (if number == GETPID then who.process
    else (if number == GETPPID then parent_in (process_at m who.process)
    else (if number == GETTID then who.thread
    else error ENOSYS)))
