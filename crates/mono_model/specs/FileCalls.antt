-- The calls on an open file or an end of the console, but write: read, lseek, fstat, ftruncate
-- (POSIX).
use Rattle.std.specs.Prelude.{ℕ, ◌+◌, ◌-◌, ◌^◌, ◌==◌, Bool, true, false, ◌||◌, not, nat_lt, if◌then◌else◌, List, [], ◌++◌, length, take, drop, replicate, bit_and}
use Rattle.std.specs.Int.{to_le_bytes, w32, w64}
use Rattle.std.specs.declared.option.Option.{Option}
use Rattle.std.specs.declared.option.Option.TheVariants.{None, Some}
use Rattle.guest_space.specs.Space.{memory_of}
use Rattle.guest_space.specs.Access.{AccessFault, first_fault}
use Rattle.bas_edge.specs.Files.{file_bytes, with_length}
use Rattle.bas_names.specs.declared.StreamName.{StreamName}
use Rattle.bas_names.specs.declared.StreamName.TheVariants.{File, ConIn}
use Rattle.mono_model.specs.Machine.{Mono, Description, register}
use Rattle.mono_model.specs.Calls.{Caller, EBADF, EFAULT, EINVAL, EFBIG, LONGEST_FILE, error, finished, finished_with, memory_at, description_of, moved, advanced, positioned, bytes_of}
use Rattle.mono_model.specs.Starting.{filled_from}

abbrev pub FTRUNCATE : ℕ
FTRUNCATE = 46

abbrev pub LSEEK : ℕ
LSEEK = 62

abbrev pub READ : ℕ
READ = 63

abbrev pub FSTAT : ℕ
FSTAT = 80

abbrev pub ESPIPE : ℕ
ESPIPE = 29

-- The stream is a file.
abbrev pub is_file : StreamName → Bool
is_file (File name) = true
is_file console = false

-- The description that the caller's a0 names.
abbrev pub described : Mono → Caller → Option Description
described m who = description_of m who.process (register who.context 10)

-- ---- bytes that go to the caller's memory

-- A read of a file moves its position over the bytes.
abbrev pub moved_over : Mono → Caller → ℕ → Option Description → Mono
moved_over m who count None = m
moved_over m who count (Some d) =
    if is_file d.stream then positioned m who (advanced d.position count) else m

abbrev pub after_store : Mono → Caller → ℕ → Mono
after_store m who count =
    if register who.context 17 == READ then moved_over m who count (described m who) else m

abbrev pub stored_unless : Mono → Caller → ℕ → List ℕ → ℕ → Option AccessFault → Mono
stored_unless m who address bytes result None =
    let filled = filled_from (memory_at m who.process) address bytes in
    finished_with (after_store m who (length bytes)) who filled result
stored_unless m who address bytes result (Some fault) = finished m who (error EFAULT)

-- The bytes lie in the caller's memory from an address on, and the call gives a result; EFAULT
-- where a byte isn't there or can't be written.
abbrev pub stored : Mono → Caller → ℕ → List ℕ → ℕ → Mono
stored m who address bytes result =
    let memory = memory_of (memory_at m who.process) in
    stored_unless m who address bytes result (first_fault memory 2 address (length bytes))

-- ---- read

-- A description that can be read.
abbrev pub readable : Option Description → Option Description
readable None = None
readable (Some d) = if bit_and d.access 1 == 1 then Some d else None

-- What a stream gives: a file its bytes from a position on, the input its front.
abbrev pub given : Mono → ℕ → ℕ → StreamName → List ℕ
given m position count (File name) = take count (drop position (file_bytes m.files name))
given m position count ConIn = take count m.input
given m position count console = []

-- The console's input gives its bytes once.
abbrev pub taken_from : Mono → ℕ → StreamName → Mono
taken_from m count ConIn = record m { input = drop count m.input }
taken_from m count stream = m

-- Where there are no bytes the memory isn't asked.
abbrev pub read_bytes : Mono → Caller → List ℕ → Mono
read_bytes m who bytes =
    if length bytes == 0 then finished m who 0
    else stored m who (register who.context 11) bytes (length bytes)

abbrev pub read_from : Mono → Caller → Description → ℕ → Mono
read_from m who d count =
    read_bytes (taken_from m count d.stream) who (given m d.position count d.stream)

abbrev pub read_of : Mono → Caller → Option Description → Mono
read_of m who None = finished m who (error EBADF)
read_of m who (Some d) =
    if register who.context 12 == 0 then finished m who 0
    else read_from m who d (moved (register who.context 12))

-- read(fd, buf, n): EBADF where fd isn't open for reading. n is cut to 65,536, and 0 reads nothing.
-- EFAULT leaves a file's position; bytes of the console are lost then.
abbrev pub read : Mono → Caller → Mono
read m who = read_of m who (readable (described m who))

-- ---- lseek

-- A position that lseek gives is below 2^63.
abbrev pub if_position : ℕ → Option ℕ
if_position at = if nat_lt at (2 ^ 63) then Some at else None

-- Where a signed offset leads from a base, if it leads to a position.
abbrev pub sought : ℕ → ℕ → Option ℕ
sought base offset =
    if nat_lt offset (2 ^ 63) then if_position (base + offset)
    else (if nat_lt (base + offset) (2 ^ 64) then None
    else if_position (base + offset - 2 ^ 64))

-- The description is where the offset leads, which is the result; EINVAL where that is no position.
abbrev pub seek_to : Mono → Caller → Option ℕ → Mono
seek_to m who None = finished m who (error EINVAL)
seek_to m who (Some at) = finished (positioned m who at) who at

abbrev pub seek_from : Mono → Caller → ℕ → Mono
seek_from m who base = seek_to m who (sought base (register who.context 11))

-- By whence: 0 from the begin, 1 from the position, 2 from the end of the file.
abbrev pub seek_base : Mono → Description → ℕ → ℕ
seek_base m d whence =
    if whence == 0 then 0
    else (if whence == 1 then d.position
    else length (bytes_of m d.stream))

abbrev pub lseek_of : Mono → Caller → Option Description → Mono
lseek_of m who None = finished m who (error EBADF)
lseek_of m who (Some d) =
    if not (is_file d.stream) then finished m who (error ESPIPE)
    else (if nat_lt 2 (register who.context 12) then finished m who (error EINVAL)
    else seek_from m who (seek_base m d (register who.context 12)))

-- lseek(fd, n, whence): EBADF; ESPIPE where fd is no file; EINVAL where whence is past 2, or what
-- comes out is below 0 or past 2^63 - 1.
abbrev pub lseek : Mono → Caller → Mono
lseek m who = lseek_of m who (described m who)

-- ---- fstat

-- The mode of a file that all can read and its owner can write, and that of a terminal.
abbrev pub mode_of : Bool → ℕ
mode_of true = 0x81A4
mode_of false = 0x2190

-- A status of 128 bytes: at 16 the mode, at 48 the size, all else zeros.
abbrev pub status : Bool → ℕ → List ℕ
status file size =
    replicate 16 0 ++ to_le_bytes w32 (mode_of file) ++ replicate 28 0
    ++ to_le_bytes w64 size ++ replicate 72 0

abbrev pub stream_status : Mono → StreamName → List ℕ
stream_status m stream = status (is_file stream) (length (bytes_of m stream))

abbrev pub fstat_of : Mono → Caller → Option Description → Mono
fstat_of m who None = finished m who (error EBADF)
fstat_of m who (Some d) = stored m who (register who.context 11) (stream_status m d.stream) 0

-- fstat(fd, buf): EBADF; EFAULT.
abbrev pub fstat : Mono → Caller → Mono
fstat m who = fstat_of m who (described m who)

-- ---- ftruncate

-- The file has this length; EFBIG where that is too long.
abbrev pub cut_file : Mono → Caller → List ℕ → ℕ → Mono
cut_file m who name size =
    if nat_lt LONGEST_FILE size then finished m who (error EFBIG)
    else finished (record m { files = with_length name size m.files }) who 0

abbrev pub cut_stream : Mono → Caller → ℕ → StreamName → Mono
cut_stream m who size (File name) = cut_file m who name size
cut_stream m who size console = finished m who (error EINVAL)

abbrev pub ftruncate_of : Mono → Caller → Option Description → Mono
ftruncate_of m who None = finished m who (error EBADF)
ftruncate_of m who (Some d) =
    if not (bit_and d.access 2 == 2) || not (nat_lt (register who.context 11) (2 ^ 63))
    then finished m who (error EINVAL)
    else cut_stream m who (register who.context 11) d.stream

-- ftruncate(fd, n): EBADF; EINVAL where fd is no file that can be written, or n is past 2^63 - 1;
-- EFBIG.
abbrev pub ftruncate : Mono → Caller → Mono
ftruncate m who = ftruncate_of m who (described m who)
