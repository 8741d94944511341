-- The calls on memory: MemoryAllocate, MemoryFree, MemoryProtect, MemoryRead, MemoryWrite.
use Rattle.std.specs.Prelude.{ℕ, ◌+◌, ◌==◌, ◌||◌, ◌&&◌, not, if◌then◌else◌, nat_lt, nat_le, List, length, is_some}
use Rattle.std.specs.FinMap.{len}
use Rattle.std.specs.declared.option.Option.{Option}
use Rattle.std.specs.declared.option.Option.TheVariants.{None, Some}
use Rattle.guest_space.specs.Space.{Space, memory_of, with_run, without_run, protected, bytes_from, with_memory}
use Rattle.guest_space.specs.Run.{is_run, first_held, first_missing}
use Rattle.guest_space.specs.Access.{AccessFault, Missing, Forbidden, first_fault, with_bytes}
use Rattle.abi_calls.specs.declared.limits.TheConstants.{MOST_BYTES, MOST_PAGES, ALL_RIGHTS, READ_RIGHT, WRITE_RIGHT}
use Rattle.abi_calls.specs.declared.reply.Reply.{Reply}
use Rattle.abi_calls.specs.declared.reply.Reply.TheVariants.{Done, Bytes, BadHandle, Exists, NoAccess, BadAddress, NoRoom, TooBig}
use Rattle.abi_calls.specs.declared.object.Object.TheVariants.{Process}
use Rattle.abi_calls.specs.Objects.{Objects, with_object}

-- The objects with other pages of a running process.
abbrev pub with_pages : Objects → ℕ → Space → Objects
with_pages o p s = with_object o p (Process s None)

-- MemoryAllocate: pages of zeros that aren't there yet, 1,024 in all at most.
abbrev pub memory_allocate_row : Objects → ℕ → ℕ → ℕ → ℕ → Option Space → Reply × Objects
memory_allocate_row o p page count rights None = (BadHandle, o)
memory_allocate_row o p page count rights (Some s) =
    if not (is_run page count && nat_le rights ALL_RIGHTS) then (BadAddress, o)
    else (if is_some (first_held s page count) then (Exists, o)
    else (if nat_lt MOST_PAGES (len s + count) then (NoRoom, o)
    else (Done, with_pages o p (with_run s page count rights))))

-- MemoryFree: pages that are there go.
abbrev pub memory_free_row : Objects → ℕ → ℕ → ℕ → Option Space → Reply × Objects
memory_free_row o p page count None = (BadHandle, o)
memory_free_row o p page count (Some s) =
    if count == 0 || is_some (first_missing s page count) then (BadAddress, o)
    else (Done, with_pages o p (without_run s page count))

-- MemoryProtect: other rights for pages that are there.
abbrev pub memory_protect_row : Objects → ℕ → ℕ → ℕ → ℕ → Option Space → Reply × Objects
memory_protect_row o p page count rights None = (BadHandle, o)
memory_protect_row o p page count rights (Some s) =
    if count == 0 || (is_some (first_missing s page count) || nat_lt ALL_RIGHTS rights)
    then (BadAddress, o)
    else (Done, with_pages o p (protected s page count rights))

-- An access is granted, or its first byte that isn't there or lacks the right decides.
abbrev pub unless_fault : Objects → Option AccessFault → Reply × Objects → Reply × Objects
unless_fault o None granted = granted
unless_fault o (Some Missing) granted = (BadAddress, o)
unless_fault o (Some Forbidden) granted = (NoAccess, o)

-- MemoryRead: up to 65,536 bytes, each with the right to read.
abbrev pub memory_read_row : Objects → ℕ → ℕ → Option Space → Reply × Objects
memory_read_row o address count None = (BadHandle, o)
memory_read_row o address count (Some s) =
    if nat_lt MOST_BYTES count then (TooBig, o)
    else unless_fault o (first_fault (memory_of s) READ_RIGHT address count)
    (Bytes (bytes_from (memory_of s) address count), o)

-- MemoryWrite: up to 65,536 bytes, each with the right to write.
abbrev pub memory_write_row : Objects → ℕ → ℕ → List ℕ → Option Space → Reply × Objects
memory_write_row o p address bytes None = (BadHandle, o)
memory_write_row o p address bytes (Some s) =
    if nat_lt MOST_BYTES (length bytes) then (TooBig, o)
    else unless_fault o (first_fault (memory_of s) WRITE_RIGHT address (length bytes))
    (Done, with_pages o p (with_memory s (with_bytes (memory_of s) address bytes)))
