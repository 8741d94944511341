-- Numbers tied to a map of what they name.
use Rattle.std.specs.Prelude.{◌≡◌, ℕ, ◌≤◌, Bool, true, is_some}
use Rattle.std.specs.Ordering.{nat_cmp}
use Rattle.std.specs.FinMap.{FinMap, get, insert}
use Rattle.std.specs.declared.option.Option.TheVariants.{None}

-- A number that names something in the map is live.
pub record Ties {V : Type 0} (live : ℕ → Bool) (objects : FinMap nat_cmp V) : Type 0 where
  pub at : (q : ℕ) → is_some (get objects q) ≡ true → live q ≡ true

-- A value is added under a number of at least 1 that names nothing yet.
pub record Adds {V : Type 0} (old : FinMap nat_cmp V) (value : V) (new : FinMap nat_cmp V) (number : ℕ)
    : Type 0 where
  pub positive : 1 ≤ number
  pub free : get old number ≡ None
  pub now : new ≡ insert old number value
