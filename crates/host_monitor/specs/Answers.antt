-- Answers of calls as the parts of a host hand them on.
use Rattle.abi_calls.specs.declared.call.Call.{Call}
use Rattle.abi_calls.specs.declared.reply.Reply.{Reply}
use Rattle.abi_calls.specs.Objects.{Objects}
use Rattle.abi_calls.specs.World.{Told}
use Rattle.abi_calls.specs.Abi.{Answers}

-- A call is answered, for some contents that are as told: `Answers`, not taken apart by searches.
pub data IsAnswered (o : Objects) (told : Told) (call : Call) (reply : Reply)
    (o' : Objects) (told' : Told) : Type 0 where
  By : Answers o told call reply o' told' → IsAnswered o told call reply o' told'
