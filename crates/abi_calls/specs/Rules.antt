-- Lists of rules on names above a host's objects: they act on a call before its row.
use Rattle.std.specs.Prelude.{◌≡◌, ◌==◌, if◌then◌else◌, nat_lt, ℕ, List, [], ◌∷◌, length}
use Rattle.std.specs.declared.option.Option.{Option}
use Rattle.std.specs.declared.option.Option.TheVariants.{None, Some}
use Rattle.std.specs.declared.result.Result.{Result}
use Rattle.std.specs.declared.result.Result.TheVariants.{Ok, Err}
use Rattle.bas_names.specs.declared.Rule.{Rule}
use Rattle.bas_names.specs.declared.StreamName.TheVariants.{File}
use Rattle.bas_names.specs.Names.{passed}
use Rattle.abi_calls.specs.declared.limits.TheConstants.{LONGEST_NAME}
use Rattle.abi_calls.specs.declared.call.Call.{Call}
use Rattle.abi_calls.specs.declared.call.Call.TheVariants.{StreamOpen, StreamDelete, StreamRename}
use Rattle.abi_calls.specs.declared.reply.Reply.{Reply}
use Rattle.abi_calls.specs.declared.reply.Reply.TheVariants.{NoAccess, NotFound, TooBig}
use Rattle.abi_calls.specs.Objects.{Objects}
use Rattle.abi_calls.specs.World.{Contents, world_of}
use Rattle.abi_calls.specs.Abi.{Abi}

-- How a name can end at a list.
pub data NameFault : Type 0 where
  Denied : NameFault
  TooLong : NameFault
  Empty : NameFault

-- What a call whose name ended so is refused by.
abbrev pub refusal_of : NameFault → Reply
refusal_of Denied = NoAccess
refusal_of TooLong = TooBig
refusal_of Empty = NotFound

-- A call with the name that a list gives.
abbrev pub call_named : Option (List ℕ) → (List ℕ → Call) → Result Call NameFault
call_named None call = Err Denied
call_named (Some name) call =
    if nat_lt LONGEST_NAME (length name) then Err TooLong
    else (if length name == 0 then Err Empty else Ok (call name))

abbrev pub unless_ended_at : (Call → Result Call NameFault) → Result Call NameFault
    → Result Call NameFault
unless_ended_at next (Ok call) = next call
unless_ended_at next (Err fault) = Err fault

-- The second name of a call, where it has two.
abbrev pub second_behind : List Rule → Call → Result Call NameFault
second_behind rules (StreamRename from to) = call_named (passed rules to) (λ n. StreamRename from n)
second_behind rules call = Ok call

-- A call behind one list of rules: a file's name alone is changed. Of two names the first is
-- judged before the second.
abbrev pub call_behind : List Rule → Call → Result Call NameFault
call_behind rules (StreamOpen (File name) create exclusive) =
    call_named (passed rules name) (λ n. StreamOpen (File n) create exclusive)
call_behind rules (StreamDelete name) = call_named (passed rules name) StreamDelete
call_behind rules (StreamRename from to) =
    unless_ended_at (second_behind rules)
    (call_named (passed rules from) (λ n. StreamRename n to))
call_behind rules call = Ok call

-- A call behind all lists, top first.
abbrev pub call_below : List (List Rule) → Call → Result Call NameFault
call_below [] call = Ok call
call_below (rules ∷ lists) call = unless_ended_at (call_below lists) (call_behind rules call)

-- What is always told where lists of rules stand above the objects; a host has none.
pub record Face : Type 0 where
  pub rules : List (List Rule)
  pub objects : Objects

abbrev pub AnswersBelow : Objects → Contents → Result Call NameFault → Reply → Objects → Contents
    → Type 0
AnswersBelow o x (Ok call) reply o' y = Abi (world_of o x) call reply (world_of o' y)
AnswersBelow o x (Err fault) reply o' y = (reply ≡ refusal_of fault) × (o' ≡ o) × (y ≡ x)

-- A call is answered below all lists, or refused by the name's end.
pub record AnswersThrough (f : Face) (x : Contents) (call : Call) (reply : Reply)
    (f' : Face) (y : Contents) : Type 0 where
  pub rules : f'.rules ≡ f.rules
  pub below : AnswersBelow f.objects x (call_below f.rules call) reply f'.objects y
