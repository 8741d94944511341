-- What was done between two moments: the turns and the answered calls, in order.
use Rattle.std.specs.Prelude.{◌≡◌, ◌≢◌, ◌⊎◌, ℕ, suc, List, [], ◌∷◌}
use Rattle.std.specs.declared.option.Option.{Option}
use Rattle.std.specs.declared.option.Option.TheVariants.{None, Some}
use Rattle.abi_calls.specs.declared.call.Call.{Call}
use Rattle.abi_calls.specs.declared.host.Crossing.{Crossing}
use Rattle.abi_calls.specs.declared.reply.Reply.{Reply}
use Rattle.abi_calls.specs.declared.threads.Turned.{Turned}
use Rattle.abi_calls.specs.declared.threads.Turned.TheVariants.{Exception, Stuck}
use Rattle.abi_calls.specs.World.{Told}
use Rattle.abi_calls.specs.Abi.{Answers, counted_up, journalled}
use Rattle.abi_calls.specs.Failing.{Leaves}
use Rattle.abi_calls.specs.Turn.{world_turn}
use Rattle.libos_state.specs.declared.state.LibOs.{LibOs}
use Rattle.libos_state.specs.Pending.{pending}
use Rattle.libos_state.specs.Answered.{answered}
use Rattle.libos_state.specs.Entered.{entered}
use Rattle.libos_state.specs.Records.{exit_code}
use Rattle.turn_engine.specs.Moment.{Moment}

-- A turn and how it ended, or an answered call with its reply.
pub data Event : Type 0 where
  Turns : Turned → Event
  Calls : Call → Reply → Event

-- The call at this moment, and its reply, as a host keeps them.
abbrev pub crossing : Moment → Call → Reply → Crossing
crossing a call reply = record { turns = a.objects.positions.turns; call = call; reply = reply }

-- The call was the pending one, the host answered it by its row, keeps and counts it, and the
-- library OS goes on with the reply.
pub record IsNextCall (a : Moment) (call : Call) (reply : Reply) (b : Moment) : Type 0 where
  pub asked : pending a.os ≡ Some call
  pub row : Answers a.objects a.told call reply b.objects b.told
  pub next : b.os ≡ answered a.os reply
  pub kept : b.journal ≡ journalled a.journal (crossing a call reply)
  pub counted : b.answered ≡ counted_up a.answered

-- The library OS that begins to serve the trap of a turn, if it ended with one.
abbrev pub os_after : LibOs → Turned → LibOs
os_after os (Exception upcall) = entered os upcall
os_after os turned = os

-- With nothing in progress and process 1 alive, the host made its turn: it wasn't stuck.
pub record IsNextTurn (a : Moment) (turned : Turned) (b : Moment) : Type 0 where
  pub goes : turned ≢ Stuck
  pub settled : a.os.cont ≡ None
  pub alive : exit_code a.os ≡ None
  pub turn : world_turn a.objects ≡ (turned, b.objects)
  pub next : b.os ≡ os_after a.os turned
  pub told : b.told ≡ a.told
  pub kept : b.journal ≡ a.journal
  pub counted : b.answered ≡ a.answered

abbrev pub Happens : Event → Moment → Moment → Type 0
Happens (Turns turned) a b = IsNextTurn a turned b
Happens (Calls call reply) a b = IsNextCall a call reply b

-- The events lead from one moment to the other.
unfoldable pub Leads : List Event → Moment → Moment → Type 0
Leads [] a c = c ≡ a
Leads (event ∷ events) a c = (b : Moment) × Happens event a b × Leads events b c

-- How many turns are among the events.
abbrev pub turns_in : List Event → ℕ
turns_in [] = 0
turns_in (Turns turned ∷ events) = suc (turns_in events)
turns_in (Calls call reply ∷ events) = turns_in events

-- What was done from one moment to the other, with so many turns.
pub record History (turns : ℕ) (a c : Moment) : Type 0 where
  pub events : List Event
  pub leads : Leads events a c
  pub made : turns_in events ≡ turns

-- The pending call of a moment failed.
pub record Fails (a : Moment) (told' : Told) : Type 0 where
  pub call : Call
  pub asked : pending a.os ≡ Some call
  pub left : Leaves a.objects call a.told told'

-- What was done up to where it was given up, with so many turns: nothing else but a last call, if
-- that failed. Where a reply or a trap was not taken for want of memory, the last moment has the
-- library OS that takes it.
pub record Broken (turns : ℕ) (a : Moment)
    (told' : Told) (journal' : Option (List Crossing)) (answered' : ℕ) : Type 0 where
  pub last : Moment
  pub history : History turns a last
  pub left : (told' ≡ last.told) ⊎ Fails last told'
  pub kept : journal' ≡ last.journal
  pub counted : answered' ≡ last.answered
