-- What is read of a file up to a limit of its length.
use Rattle.std.specs.Prelude.{ℕ, ◌<◌, ◌≤◌, nat_lt, if◌then◌else◌, List, length, Option, Some, None}
use Rattle.bas_edge.specs.declared.fetched.Fetched.{Fetched}
use Rattle.bas_edge.specs.declared.fetched.Fetched.TheVariants.{Bytes, Absent, Large}

-- The whole file, unless there is none, or it is longer than the limit.
abbrev pub fetched_of : Option (List ℕ) → ℕ → Fetched
fetched_of None limit = Absent
fetched_of (Some bytes) limit =
    if nat_lt limit (length bytes) then Large (length bytes) else Bytes bytes

-- Bytes that were read are within the limit, and a length that is told is past it.
abbrev pub IsWithinLimit : ℕ → Fetched → Type 0
IsWithinLimit limit (Bytes bytes) = length bytes ≤ limit
IsWithinLimit limit Absent = Unit {0}
IsWithinLimit limit (Large size) = limit < size
