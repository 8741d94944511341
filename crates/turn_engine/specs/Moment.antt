-- The library OS over a host, as both stand at one moment.
use Rattle.std.specs.Prelude.{ℕ, List, []}
use Rattle.std.specs.declared.option.Option.{Option}
use Rattle.abi_calls.specs.declared.host.Crossing.{Crossing}
use Rattle.abi_calls.specs.Objects.{Objects}
use Rattle.abi_calls.specs.World.{Told}
use Rattle.mono_model.specs.Machine.{Mono}
use Rattle.mono_model.specs.Readable.{Readable}
use Rattle.libos_state.specs.declared.state.LibOs.{LibOs}
use Rattle.libos_state.specs.Records.{Visible, base}
use Rattle.libos_state.specs.Meaning.{Meaning, meaning}

pub record Moment : Type 0 where
  pub os : LibOs
  pub objects : Objects
  pub told : Told
  pub journal : Option (List Crossing)
  pub answered : ℕ

abbrev pub moment : LibOs → Objects → Told → Option (List Crossing) → ℕ → Moment
moment os objects told journal answered =
    record { os = os; objects = objects; told = told; journal = journal; answered = answered }

-- What programs see at a moment, where the files and the input are these. No list of rules stands
-- above a host.
abbrev pub seen_at : Moment → Readable → Visible
seen_at a x = record { rules = []; objects = a.objects; contents = x }

-- What the moment stands for, and the machine that its records name.
abbrev pub meaning_at : Moment → Readable → Meaning
meaning_at a x = meaning a.os (seen_at a x)

abbrev pub machine_at : Moment → Readable → Mono
machine_at a x = base a.os (seen_at a x)
