-- A host that was not used.
use Rattle.std.specs.Prelude.{◌≡◌, ℕ}
use Rattle.std.specs.FinMap.{empty}
use Rattle.abi_calls.specs.Objects.{Objects}

pub record IsFreshWorld (o : Objects) (answered : ℕ) : Type 0 where
  pub live : o.live ≡ empty
  pub turns : o.positions.turns ≡ 0
  pub pick : o.positions.pick ≡ 0
  pub random : o.positions.random ≡ 0
  pub unasked : answered ≡ 0
