-- The file that a call is on, and the users of files as the handles that are open on them.
use Rattle.std.specs.Prelude.{◌≡◌, ℕ, Bool, true, false, List}
use Rattle.std.specs.declared.option.Option.{Option}
use Rattle.std.specs.declared.option.Option.TheVariants.{None, Some}
use Rattle.bas_names.specs.declared.StreamName.{StreamName}
use Rattle.bas_names.specs.declared.StreamName.TheVariants.{File}
use Rattle.abi_calls.specs.declared.call.Call.{Call}
use Rattle.abi_calls.specs.declared.call.Call.TheVariants.{StreamOpen, StreamRead, StreamWrite, StreamLength, StreamSetLength, StreamDelete, StreamRename, Share, Close}
use Rattle.abi_calls.specs.declared.reply.Reply.{Reply}
use Rattle.abi_calls.specs.declared.reply.Reply.TheVariants.{Done}
use Rattle.abi_calls.specs.Objects.{Object, Objects, object_at}
use Rattle.abi_calls.specs.Streams.{stream_of, open_handles}
use Rattle.host_files.specs.Users.{Users, user_count, is_used, without_user}
use Rattle.host_files.specs.Rows.{users_after}

-- The file that a stream is open on, if it is open on one, and that of what a handle names.
abbrev pub file_of_stream : Option StreamName → Option (List ℕ)
file_of_stream (Some (File name)) = Some name
file_of_stream _ = None

abbrev pub file_at : Option Object → Option (List ℕ)
file_at x = file_of_stream (stream_of x)

-- The file that a call is on: the one that it names, at StreamRename the old name, or that of its
-- handle.
abbrev pub file_of_call : Objects → Call → Option (List ℕ)
file_of_call o (StreamOpen (File name) create exclusive) = Some name
file_of_call o (StreamRead stream offset count) = file_at (object_at o stream)
file_of_call o (StreamWrite stream offset bytes) = file_at (object_at o stream)
file_of_call o (StreamLength stream) = file_at (object_at o stream)
file_of_call o (StreamSetLength stream size) = file_at (object_at o stream)
file_of_call o (StreamDelete name) = Some name
file_of_call o (StreamRename from to) = Some from
file_of_call o (Share stream) = file_at (object_at o stream)
file_of_call o (Close handle) = file_at (object_at o handle)
file_of_call o _ = None

-- What a StreamOpen opens.
abbrev pub opened_name : Call → Option StreamName
opened_name (StreamOpen name create exclusive) = Some name
opened_name _ = None

-- The calls that give or end a further handle on what a handle names.
abbrev pub is_on_handle : Call → Bool
is_on_handle (Share stream) = true
is_on_handle (Close handle) = true
is_on_handle _ = false

-- The calls after which the same handles are open on each file.
abbrev pub keeps_handles : Call → Bool
keeps_handles (StreamOpen name create exclusive) = false
keeps_handles (Share stream) = false
keeps_handles (Close handle) = false
keeps_handles _ = true

abbrev pub is_done : Reply → Bool
is_done Done = true
is_done _ = false

-- Each file has as many users as handles are open on it.
pub record CountsUsers (o : Objects) (users : Users) : Type 0 where
  pub counts : (name : List ℕ) → user_count users name ≡ open_handles o name

-- The file, if there is one, has a user.
abbrev pub IsUsedIn : Option (List ℕ) → Users → Type 0
IsUsedIn (Some name) users = is_used users name ≡ true
IsUsedIn None users = Unit {0}

-- The users with one less of the file, if there is one.
abbrev pub users_without : Option (List ℕ) → Users → Users
users_without (Some name) users = without_user name users
users_without None users = users

-- The users once a Share or a Close on a file is counted.
abbrev pub users_on : Option (List ℕ) → Users → Call → Users
users_on (Some name) users call = users_after users call name Done
users_on None users call = users
