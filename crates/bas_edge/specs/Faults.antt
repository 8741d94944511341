-- Counts of faults: what goes wrong outside is counted, and no call fails without a count.
use Rattle.std.specs.Prelude.{ℕ, ◌+◌, ◌-◌, ◌^◌, ◌≤◌, min, Result, IsErrOf}

-- A count of faults rose in a call, or stands at its end.
abbrev pub Rose : ℕ → ℕ → Type 0
Rose before now = min (before + 1) (2 ^ 64 - 1) ≤ now

-- The count of faults never falls, and a failure comes only where it rose.
pub record HasCause {T E : Type 0} (failed : E) (before now : ℕ) (result : Result T E)
    : Type 0 where
  pub later : before ≤ now
  pub failed_rose : IsErrOf result failed → Rose before now
