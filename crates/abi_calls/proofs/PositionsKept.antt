-- No call but Configure changes the positions and the settings.
use Rattle.std.specs.Prelude.{◌≡◌, Bool, true, false}
use Rattle.std.proofs.Common.{refl, sym}
use Rattle.std.proofs.lemmas.Bool.{false≢true}
use Rattle.abi_calls.specs.declared.call.Call.{Call}
use Rattle.abi_calls.specs.declared.call.Call.TheVariants.{Configure}
use Rattle.abi_calls.specs.declared.reply.Reply.{Reply}
use Rattle.abi_calls.specs.Objects.{Objects}
use Rattle.abi_calls.specs.World.{World, Told, world_of}
use Rattle.abi_calls.specs.Abi.{Abi, Answers}
use Rattle.abi_calls.proofs.Effects.{Effects, has-Abi}

abbrev pub is_configure : Call → Bool
is_configure (Configure settings positions) = true
is_configure _ = false

pub record KeepsPositions (o o' : Objects) : Type 0 where
  pub positions : o'.positions ≡ o.positions
  pub settings : o'.settings ≡ o.settings

abbrev Keeps : World → Call → Reply → World → Type 0
Keeps w c r w' = is_configure c ≡ false → KeepsPositions w.objects w'.objects

effects : (w : World) → Effects w (Keeps w)
effects w = record {
  stays = λ _ _ _ _. record { positions = refl; settings = refl };
  allocates = λ _ _ _ _ _ _ _ _ _ _ _. record { positions = refl; settings = refl };
  frees = λ _ _ _ _ _ _. record { positions = refl; settings = refl };
  protects = λ _ _ _ _ _ _ _ _. record { positions = refl; settings = refl };
  fills = λ _ _ _ _ _ _. record { positions = refl; settings = refl };
  makes_thread = λ _ _ _ _ _ _ _. record { positions = refl; settings = refl };
  resumes = λ _ _ _ _ _ _. record { positions = refl; settings = refl };
  ends_thread = λ _ _ _ _ _. record { positions = refl; settings = refl };
  registers = λ _ _ _ _ _ _ _. record { positions = refl; settings = refl };
  makes_event = λ _ _. record { positions = refl; settings = refl };
  opens = λ _ _ _ _ _ _. record { positions = refl; settings = refl };
  makes_file = λ _ _ _ _ _ _. record { positions = refl; settings = refl };
  takes = λ _ _ _ _ _. record { positions = refl; settings = refl };
  writes_file = λ _ _ _ _ _ _. record { positions = refl; settings = refl };
  writes_output = λ _ _ _ _ _. record { positions = refl; settings = refl };
  writes_errors = λ _ _ _ _ _. record { positions = refl; settings = refl };
  sets_length = λ _ _ _ _ _ _. record { positions = refl; settings = refl };
  deletes = λ _ _ _ _ _. record { positions = refl; settings = refl };
  renames = λ _ _ _ _ _ _ _ _. record { positions = refl; settings = refl };
  shares = λ _ _ _ _ _. record { positions = refl; settings = refl };
  ends = λ _ _ _ _ _ _. record { positions = refl; settings = refl };
  makes_process = λ _ _ _. record { positions = refl; settings = refl };
  exits = λ _ _ _ _ _. record { positions = refl; settings = refl };
  configures = λ _ _ _ _ is. absurd (false≢true (sym is));
}

pub KeepsPositions-Abi : (w w' : World) (call : Call) (r : Reply) → is_configure call ≡ false → Abi w call r w' → KeepsPositions w.objects w'.objects
KeepsPositions-Abi w w' call r not abi = has-Abi w (Keeps w) (effects w) call r w' abi not

pub KeepsPositions-Answers : (o o' : Objects) (told told' : Told) (call : Call) (r : Reply) → is_configure call ≡ false → Answers o told call r o' told' → KeepsPositions o o'
KeepsPositions-Answers o o' told told' call r not answers =
    KeepsPositions-Abi (world_of o answers.before) (world_of o' answers.after) call r not answers.abi
