-- What stands when a start was served to its end.
use Rattle.std.specs.Prelude.{◌≡◌}
use Rattle.std.specs.declared.option.Option.TheVariants.{None, Some}
use Rattle.mono_model.specs.Readable.{Readable}
use Rattle.libos_state.specs.Fits.{Fits}
use Rattle.libos_state.specs.Meaning.{meant_settled}
use Rattle.turn_engine.specs.Inside.{readable}
use Rattle.turn_engine.specs.Moment.{Moment, seen_at}
use Rattle.turn_engine.specs.History.{History}
use Rattle.bascule_top.specs.Commands.{Launch}
use Rattle.bascule_top.specs.Outcomes.{start_of}

-- Nothing is in progress, no turn was made, nothing that is told has changed, and the library OS
-- stands for what the program's start begins with.
pub record Begun (launch : Launch) (a b : Moment) : Type 0 where
  pub history : History 0 a b
  pub settled : b.os.cont ≡ None
  pub fits : Fits b.os b.objects
  pub told : b.told ≡ a.told
  pub unturned : b.objects.positions.turns ≡ 0
  pub means : (x : Readable) → readable a.told ≡ Some x
      → start_of launch x ≡ meant_settled b.os (seen_at b x) b.os.boot
