-- How a call on a name begins: the name is refused, or it is a file's.
use Rattle.std.specs.Prelude.{◌≡◌, ℕ, List}
use Rattle.bas_edge.specs.Files.{Files}
use Rattle.abi_calls.specs.declared.reply.Reply.{Reply}
use Rattle.abi_calls.specs.Streams.{named}

-- A call on this name is refused by the reply, whatever it does.
pub record IsRefusedName (name : List ℕ) (reply : Reply) : Type 0 where
  pub refuses : (files : Files) (answer : Reply × Files) → named files name answer ≡ (reply, files)

-- A call on this name does what it does.
pub record IsFineName (name : List ℕ) : Type 0 where
  pub goes_on : (files : Files) (answer : Reply × Files) → named files name answer ≡ answer
