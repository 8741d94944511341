-- What `Counting` shows: the last number that it gave, and which numbers are live.
use Rattle.std.specs.Prelude.{ℕ, Bool}
use Rattle.std.specs.Ordering.{nat_cmp}
use Rattle.std.specs.BTreeSet.{contains}
use Rattle.host_objects.specs.declared.counting.Counting.{Counting}

abbrev pub last_of : Counting → ℕ
last_of c = c.last

abbrev pub is_live_in : Counting → ℕ → Bool
is_live_in c q = contains nat_cmp c.live q
