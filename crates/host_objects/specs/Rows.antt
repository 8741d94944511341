-- What a call that reaches nothing of the outside answers.
use Rattle.std.specs.Prelude.{◌≡◌, ℕ, false}
use Rattle.abi_calls.specs.declared.call.Call.{Call}
use Rattle.abi_calls.specs.declared.reply.Reply.{Reply}
use Rattle.abi_calls.specs.Objects.{Objects, object_at, is_thread_of}
use Rattle.abi_calls.specs.World.{Contents, world_of}
use Rattle.abi_calls.specs.Abi.{object_row, IsFreeChoice}

-- A call is answered from the objects alone, whatever the contents of the outside are.
pub record Row (o : Objects) (call : Call) (reply : Reply) (o' : Objects) : Type 0 where
  pub choice : (x : Contents) → IsFreeChoice (world_of o x) call reply
  pub row : object_row o call reply ≡ (reply, o')

-- No object is a thread of a process.
pub record HasNoThread (o : Objects) (process : ℕ) : Type 0 where
  pub none : (h : ℕ) → is_thread_of process (object_at o h) ≡ false
