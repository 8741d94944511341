-- The first of several numbers at which something holds.
use Rattle.std.specs.Prelude.{ℕ, zero, suc, ◌+◌}
use Rattle.std.specs.Option.{option_or}
use Rattle.std.specs.declared.option.Option.{Option}
use Rattle.std.specs.declared.option.Option.TheVariants.{None}

-- The first thing that f gives, going through n numbers from one on.
unfoldable pub first_some : {A : Type 0} → (ℕ → Option A) → ℕ → ℕ → Option A
first_some f at zero = None
first_some f at (suc n) = option_or (f at) (first_some f (at + 1) n)
