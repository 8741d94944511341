-- The pages of a process: taken out of the objects for a while, and what their refusals answer.
use Rattle.std.specs.Prelude.{◌≡◌, ℕ, Result, Ok, Err}
use Rattle.std.specs.FinMap.{empty, insert}
use Rattle.std.specs.declared.option.Option.{Option}
use Rattle.std.specs.declared.option.Option.TheVariants.{None, Some}
use Rattle.bas_edge.specs.declared.errors.Memory.{Memory}
use Rattle.bas_edge.specs.Errors.{memory}
use Rattle.guest_space.specs.Space.{Space}
use Rattle.guest_space.specs.Access.{AccessFault, Missing, Forbidden}
use Rattle.guest_memory.specs.declared.error.PageError.{PageError}
use Rattle.guest_memory.specs.declared.error.PageError.TheVariants.{Overlap, Full, Memory as NoMemory}
use Rattle.abi_calls.specs.declared.reply.Reply.{Reply}
use Rattle.abi_calls.specs.declared.reply.Reply.TheVariants.{Exists, NoRoom, NoAccess, BadAddress}
use Rattle.abi_calls.specs.declared.object.Object.TheVariants.{Process}
use Rattle.abi_calls.specs.Objects.{Live, Object, Objects, object_at, running}
use Rattle.abi_calls.specs.Memory.{with_pages}

-- What is left of an object when its pages are taken out, which only a process that runs has.
abbrev pub emptied : Object → Object
emptied (Process space None) = Process empty None
emptied object = object

-- What is left of objects when the pages of a process are taken out, if there are any.
abbrev pub without_pages : Live → ℕ → Option Space → Live
without_pages live process (Some space) = insert live process (Process empty None)
without_pages live process None = live

-- A process runs, and is left without its pages.
pub record Took (o : Objects) (process : ℕ) (o' : Objects) (memory : Space) : Type 0 where
  pub was : object_at o process ≡ Some (Process memory None)
  pub now : o' ≡ with_pages o process empty

-- No such process runs, and nothing changed.
pub record HasNone (o : Objects) (process : ℕ) (o' : Objects) : Type 0 where
  pub none : running (object_at o process) ≡ None
  pub same : o' ≡ o

-- What an allocation answers that the pages refuse. Want of memory is no answer.
abbrev pub allocate_result : PageError → Result Reply Memory
allocate_result (Overlap page) = Ok Exists
allocate_result Full = Ok NoRoom
allocate_result NoMemory = Err memory
allocate_result _ = Ok BadAddress

-- What an access answers at a byte that isn't there or lacks the right.
abbrev pub access_reply : AccessFault → Reply
access_reply Missing = BadAddress
access_reply Forbidden = NoAccess
