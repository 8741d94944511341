-- How far labels are reached.
use Rattle.std.specs.Prelude.{◌≡◌, ◌≤◌, ◌<◌, ℕ, ◌+◌, ◌%◌}

-- The other address lies at most so many bytes before the first, or fewer than so many behind it,
-- at an even distance.
abbrev pub IsWithinReach : ℕ → ℕ → ℕ → Type 0
IsWithinReach reach from to = (from ≤ to + reach) × (to < from + reach) × (to % 2 ≡ from % 2)
