-- What a call that fails leaves of the contents.
use Rattle.std.specs.Prelude.{◌≡◌, ◌⊎◌, ℕ, List, ◌++◌, drop}
use Rattle.std.specs.Option.{option_map}
use Rattle.std.specs.declared.option.Option.{Option}
use Rattle.abi_calls.specs.declared.call.Call.{Call}
use Rattle.abi_calls.specs.declared.reply.Reply.{Reply}
use Rattle.abi_calls.specs.Objects.{Objects}
use Rattle.abi_calls.specs.World.{Told}
use Rattle.abi_calls.specs.Abi.{Answers}

-- A told text with bytes behind it, and without as many at its front.
abbrev pub with_text : Option (List ℕ) → List ℕ → Option (List ℕ)
with_text told bytes = option_map (λ old. old ++ bytes) told

abbrev pub without_front : Option (List ℕ) → ℕ → Option (List ℕ)
without_front told count = option_map (drop count) told

-- On the way from a text to a longer one some first bytes were written.
pub record IsPartWritten (old now whole : Option (List ℕ)) : Type 0 where
  pub written : List ℕ
  pub is : now ≡ with_text old written
  pub missing : List ℕ
  pub then : whole ≡ with_text now missing

-- On the way from a text to what is left of it some first bytes were taken.
pub record IsPartTaken (old now rest : Option (List ℕ)) : Type 0 where
  pub taken : ℕ
  pub is : now ≡ without_front old taken
  pub missing : ℕ
  pub then : rest ≡ without_front now missing

-- A part was done of what leads from one told state to another: some first bytes of what is written
-- were written, some first bytes of what is taken were taken, and the files are those before or
-- those after.
pub record IsPartDone (old now whole : Told) : Type 0 where
  pub output : IsPartWritten old.output now.output whole.output
  pub errors : IsPartWritten old.errors now.errors whole.errors
  pub input : IsPartTaken old.input now.input whole.input
  pub files : (now.files ≡ old.files) ⊎ (now.files ≡ whole.files)

-- A part was done of what the call's row does for some reply.
pub record DoesPart (o : Objects) (call : Call) (told told' : Told) : Type 0 where
  pub reply : Reply
  pub objects : Objects
  pub whole : Told
  pub answers : Answers o told call reply objects whole
  pub part : IsPartDone told told' whole

-- A call that failed did nothing, or a part of what its row does.
pub data Leaves (o : Objects) (call : Call) (told told' : Told) : Type 0 where
  Nothing : told' ≡ told → Leaves o call told told'
  Part : DoesPart o call told told' → Leaves o call told told'
