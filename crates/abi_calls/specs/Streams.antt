-- The calls on streams and files: StreamOpen, StreamRead, StreamWrite, StreamLength,
-- StreamSetLength, StreamDelete, StreamRename, Share.
use Rattle.std.specs.Prelude.{ℕ, ◌+◌, ◌==◌, Bool, false, ◌&&◌, ◌||◌, if◌then◌else◌, nat_lt, nat_le, List, [], ◌++◌, length, take, drop}
use Rattle.std.specs.Str.{bytes_eq}
use Rattle.std.specs.declared.option.Option.{Option}
use Rattle.std.specs.declared.option.Option.TheVariants.{None, Some}
use Rattle.bas_names.specs.declared.StreamName.{StreamName}
use Rattle.bas_names.specs.declared.StreamName.TheVariants.{File, ConIn, ConOut, ConErr}
use Rattle.bas_edge.specs.Files.{Files, file_of, file_bytes, with_file, with_bytes_at, with_length, without_file, with_renamed}
use Rattle.abi_calls.specs.declared.limits.TheConstants.{LONGEST_NAME, LONGEST_FILE, MOST_BYTES}
use Rattle.abi_calls.specs.declared.object.Object.TheVariants.{Stream, ReadEnd, WriteEnd}
use Rattle.abi_calls.specs.declared.reply.Reply.{Reply}
use Rattle.abi_calls.specs.declared.reply.Reply.TheVariants.{Done, Handle, Bytes, Count, Length, BadHandle, NotFound, Exists, Busy, NoAccess, TooBig}
use Rattle.abi_calls.specs.Objects.{Object, Objects, number_of, with_object}
use Rattle.abi_calls.specs.World.{World, Contents, Answer, with_files, on_contents, on_files}

-- A name of 1 to 80 bytes.
abbrev pub is_name : List ℕ → Bool
is_name name = nat_le 1 (length name) && nat_le (length name) LONGEST_NAME

-- A call on a file's name: it is judged before all else.
abbrev pub named : Files → List ℕ → Reply × Files → Reply × Files
named files name answer =
    if nat_lt LONGEST_NAME (length name) then (TooBig, files)
    else (if length name == 0 then (NotFound, files) else answer)

-- The stream that a handle names, if it names one.
abbrev pub stream_of : Option Object → Option StreamName
stream_of (Some (Stream name)) = Some name
stream_of _ = None

-- A file that isn't there is made where that is asked; one that is there is refused where only a
-- new one is wanted.
abbrev pub open_found : Files → List ℕ → Bool → Bool → Option (List ℕ) → Reply × Files
open_found files name create exclusive None =
    if create then (Done, with_file name [] files) else (NotFound, files)
open_found files name create exclusive (Some bytes) =
    if create && exclusive then (Exists, files) else (Done, files)

-- StreamOpen of a file: Done where it can be opened.
abbrev pub file_open_row : Files → List ℕ → Bool → Bool → Reply × Files
file_open_row files name create exclusive =
    named files name (open_found files name create exclusive (file_of files name))

-- What can be opened gets a new handle.
abbrev pub open_answer : World → StreamName → ℕ → Files → Reply → Answer
open_answer w name h files Done = (
  Handle h,
  record {
    objects = with_object w.objects h (Stream name);
    contents = with_files w.contents files;
  },
)
open_answer w name h files refusal = (refusal, w)

-- StreamOpen; the console never refuses.
abbrev pub stream_open_row : World → StreamName → Bool → Bool → ℕ → Answer
stream_open_row w (File name) create exclusive h =
    let row = file_open_row w.contents.files name create exclusive in
    open_answer w (File name) h row.1 row.0
stream_open_row w console create exclusive h = open_answer w console h w.contents.files Done

-- StreamRead of a file: its bytes from the offset on.
abbrev pub file_read_row : Files → List ℕ → ℕ → ℕ → Reply × Files
file_read_row files name offset count =
    (Bytes (take count (drop offset (file_bytes files name))), files)

-- What a stream gives: the console input its front, which is taken away.
abbrev pub read_row : Contents → ℕ → ℕ → StreamName → Reply × Contents
read_row x offset count (File name) = on_files x (file_read_row x.files name offset count)
read_row x offset count ConIn =
    (Bytes (take count x.input), record x { input = drop count x.input })
read_row x offset count _ = (NoAccess, x)

-- StreamRead: up to 65,536 bytes. Hosts will choose how many, which the reply then says.
abbrev pub stream_read_row : World → ℕ → ℕ → Reply → Option Object → Answer
stream_read_row w offset count reply (Some (Stream name)) =
    if nat_lt MOST_BYTES count then (TooBig, w)
    else on_contents w (read_row w.contents offset count name)
stream_read_row w offset count reply _ = (BadHandle, w)

-- StreamWrite to a file: from the offset on, a gap past its end filled with zeros, up to 16 MiB.
abbrev pub file_write_row : Files → List ℕ → ℕ → List ℕ → Reply × Files
file_write_row files name offset bytes =
    if nat_lt LONGEST_FILE (offset + length bytes) then (TooBig, files)
    else (Count (length bytes), with_bytes_at name offset bytes files)

-- What a stream takes: the console output and errors at their ends.
abbrev pub write_row : Contents → ℕ → List ℕ → StreamName → Reply × Contents
write_row x offset bytes (File name) = on_files x (file_write_row x.files name offset bytes)
write_row x offset bytes ConIn = (NoAccess, x)
write_row x offset bytes ConOut = (Count (length bytes), record x { output = x.output ++ bytes })
write_row x offset bytes ConErr = (Count (length bytes), record x { errors = x.errors ++ bytes })

-- StreamWrite: up to 65,536 bytes. Hosts will choose how many, which the reply then says.
abbrev pub stream_write_row : World → ℕ → List ℕ → Reply → Option Object → Answer
stream_write_row w offset bytes reply (Some (Stream name)) =
    if nat_lt MOST_BYTES (length bytes) then (TooBig, w)
    else on_contents w (write_row w.contents offset bytes name)
stream_write_row w offset bytes reply _ = (BadHandle, w)

-- StreamLength of a file.
abbrev pub file_length_row : Files → List ℕ → Reply × Files
file_length_row files name = (Length (length (file_bytes files name)), files)

abbrev pub length_row : Contents → StreamName → Reply × Contents
length_row x (File name) = on_files x (file_length_row x.files name)
length_row x _ = (NoAccess, x)

-- StreamLength.
abbrev pub stream_length_row : World → Option Object → Answer
stream_length_row w (Some (Stream name)) = on_contents w (length_row w.contents name)
stream_length_row w _ = (BadHandle, w)

-- StreamSetLength of a file: up to 16 MiB; what comes to it is zeros.
abbrev pub file_set_length_row : Files → List ℕ → ℕ → Reply × Files
file_set_length_row files name size =
    if nat_lt LONGEST_FILE size then (TooBig, files) else (Done, with_length name size files)

abbrev pub set_length_row : Contents → ℕ → StreamName → Reply × Contents
set_length_row x size (File name) = on_files x (file_set_length_row x.files name size)
set_length_row x size _ = (NoAccess, x)

-- StreamSetLength.
abbrev pub stream_set_length_row : World → ℕ → Option Object → Answer
stream_set_length_row w size (Some (Stream name)) =
    on_contents w (set_length_row w.contents size name)
stream_set_length_row w size _ = (BadHandle, w)

-- A handle that is open on the file of a name.
abbrev pub is_open_on : List ℕ → Object → Bool
is_open_on name (Stream (File file)) = bytes_eq file name
is_open_on name _ = false

-- How many handles are open on a file.
abbrev pub open_handles : Objects → List ℕ → ℕ
open_handles o name = number_of (is_open_on name) o.live

abbrev pub is_open : Objects → List ℕ → Bool
is_open o name = nat_lt 0 (open_handles o name)

-- A file that is there goes, unless a handle is open on it.
abbrev pub delete_found : Files → List ℕ → Bool → Option (List ℕ) → Reply × Files
delete_found files name in_use None = (NotFound, files)
delete_found files name in_use (Some bytes) =
    if in_use then (Busy, files) else (Done, without_file name files)

-- StreamDelete of a file, which is open or not.
abbrev pub file_delete_row : Files → List ℕ → Bool → Reply × Files
file_delete_row files name in_use =
    named files name (delete_found files name in_use (file_of files name))

-- A file that is there gets another name, in place of a file that had it, unless a handle is open
-- on either.
abbrev pub rename_found : Files → List ℕ → List ℕ → Bool → Option (List ℕ) → Reply × Files
rename_found files from to in_use None = (NotFound, files)
rename_found files from to in_use (Some bytes) =
    if in_use then (Busy, files) else (Done, with_renamed from to files)

-- StreamRename of a file; its name is judged before the new one. Where the names are equal, nothing
-- changes.
abbrev pub file_rename_row : Files → List ℕ → List ℕ → Bool → Reply × Files
file_rename_row files from to in_use =
    named files from (named files to
    (rename_found files from to in_use (file_of files from)))

-- StreamDelete.
abbrev pub stream_delete_row : World → List ℕ → Answer
stream_delete_row w name =
    let row = file_delete_row w.contents.files name (is_open w.objects name) in
    on_contents w (on_files w.contents row)

-- StreamRename.
abbrev pub stream_rename_row : World → List ℕ → List ℕ → Answer
stream_rename_row w from to =
    let in_use = is_open w.objects from || is_open w.objects to in
    on_contents w (on_files w.contents (file_rename_row w.contents.files from to in_use))

-- What several handles can name: a file, an end of the console, an end of a pipe.
abbrev pub shared_object : Option Object → Option Object
shared_object (Some (Stream name)) = Some (Stream name)
shared_object (Some (ReadEnd pipe)) = Some (ReadEnd pipe)
shared_object (Some (WriteEnd pipe)) = Some (WriteEnd pipe)
shared_object _ = None

-- Share: a further handle on the same.
abbrev pub share_row : Objects → Option Object → ℕ → Reply × Objects
share_row o None h = (BadHandle, o)
share_row o (Some x) h = (Handle h, with_object o h x)
