-- What a call on a file answers, and what it leaves of the files and of their users.
use Rattle.std.specs.Prelude.{◌≡◌, ◌⊎◌, ℕ, Bool, true, false, ◌||◌, if◌then◌else◌, nat_lt, List, length, Option, option_map, is_some, IfSome}
use Rattle.bas_names.specs.declared.StreamName.TheVariants.{File}
use Rattle.bas_edge.specs.Files.{Files}
use Rattle.abi_calls.specs.declared.limits.TheConstants.{MOST_BYTES}
use Rattle.abi_calls.specs.declared.call.Call.{Call}
use Rattle.abi_calls.specs.declared.call.Call.TheVariants.{StreamOpen, StreamRead, StreamWrite, StreamLength, StreamSetLength, StreamDelete, StreamRename, Share, Close}
use Rattle.abi_calls.specs.declared.reply.Reply.{Reply}
use Rattle.abi_calls.specs.declared.reply.Reply.TheVariants.{Done, TooBig}
use Rattle.abi_calls.specs.Streams.{file_open_row, file_read_row, file_write_row, file_length_row, file_set_length_row, file_delete_row, file_rename_row}
use Rattle.host_files.specs.Users.{Users, is_used, with_user, without_user}

-- The calls on a file: the name is the one that the call gives, or that of its handle's file.
abbrev pub IsOnFile : Call → List ℕ → Type 0
IsOnFile (StreamOpen (File file) create exclusive) name = file ≡ name
IsOnFile (StreamRead stream offset count) name = Unit {0}
IsOnFile (StreamWrite stream offset bytes) name = Unit {0}
IsOnFile (StreamLength stream) name = Unit {0}
IsOnFile (StreamSetLength stream size) name = Unit {0}
IsOnFile (StreamDelete file) name = file ≡ name
IsOnFile (StreamRename from to) name = from ≡ name
IsOnFile (Share stream) name = Unit {0}
IsOnFile (Close handle) name = Unit {0}
IsOnFile call name = ⊥

-- The calls that name a file; the others name a handle.
abbrev pub is_by_name : Call → Bool
is_by_name (StreamOpen stream create exclusive) = true
is_by_name (StreamDelete file) = true
is_by_name (StreamRename from to) = true
is_by_name call = false

-- The call that may make a file and then fail all the same.
abbrev pub may_make_file : Call → Bool
may_make_file (StreamOpen stream create exclusive) = true
may_make_file call = false

-- A call reads or writes up to 65,536 bytes.
abbrev pub bounded : ℕ → Files → Reply × Files → Reply × Files
bounded count files answer = if nat_lt MOST_BYTES count then (TooBig, files) else answer

-- StreamRead of a file.
abbrev pub read_row : List ℕ → ℕ → ℕ → Files → Reply × Files
read_row name offset count files = bounded count files (file_read_row files name offset count)

-- StreamWrite to a file.
abbrev pub write_row : List ℕ → ℕ → List ℕ → Files → Reply × Files
write_row name offset bytes files =
    bounded (length bytes) files (file_write_row files name offset bytes)

-- The reply to a call on a file, and the files after it. The handle that an open or a share gives
-- is the host's matter: here they are done.
abbrev pub file_call_row : Users → Call → List ℕ → Files → Reply × Files
file_call_row users (StreamOpen stream create exclusive) name files =
    file_open_row files name create exclusive
file_call_row users (StreamRead stream offset count) name files = read_row name offset count files
file_call_row users (StreamWrite stream offset bytes) name files =
    write_row name offset bytes files
file_call_row users (StreamLength stream) name files = file_length_row files name
file_call_row users (StreamSetLength stream size) name files = file_set_length_row files name size
file_call_row users (StreamDelete file) name files =
    file_delete_row files name (is_used users name)
file_call_row users (StreamRename from to) name files =
    file_rename_row files name to (is_used users name || is_used users to)
file_call_row users call name files = (Done, files)

-- The users after a call: what is opened or shared has one more, what is closed one less.
abbrev pub users_after : Users → Call → List ℕ → Reply → Users
users_after users (StreamOpen stream create exclusive) name Done = with_user name users
users_after users (Share stream) name reply = with_user name users
users_after users (Close handle) name reply = without_user name users
users_after users call name reply = users

-- The reply and the files after a call are those of its row, for some files that are as the store
-- tells them.
pub record FollowsRow (row : Files → Reply × Files) (told : Option Files) (reply : Reply)
    (told' : Option Files) : Type 0 where
  pub before : Files
  pub after : Files
  pub was : IfSome told (λ files. files ≡ before)
  pub is : IfSome told' (λ files. files ≡ after)
  pub stays : is_some told' ≡ is_some told
  pub answers : row before ≡ (reply, after)

-- The files are as before a call, or as its row leaves them.
abbrev pub LeavesFiles : (Files → Reply × Files) → Option Files → Option Files → Type 0
LeavesFiles row told told' =
    (told' ≡ told) ⊎ (told' ≡ option_map (λ files. (row files).1) told)
