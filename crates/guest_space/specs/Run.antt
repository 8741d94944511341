-- Runs of adjacent pages, by their first page and how many there are.
use Rattle.std.specs.Prelude.{ℕ, ◌+◌, ◌^◌, Bool, ◌&&◌, if◌then◌else◌, nat_lt, nat_le, is_some}
use Rattle.std.specs.FinMap.{get}
use Rattle.std.specs.declared.option.Option.{Option}
use Rattle.std.specs.declared.option.Option.TheVariants.{None, Some}
use Rattle.guest_space.specs.Space.{Space}
use Rattle.guest_space.specs.First.{first_some}

-- Whether a process may have the pages of a run: at least one page, not page 0, and none from 2^26
-- on.
abbrev pub is_run : ℕ → ℕ → Bool
is_run page count = nat_lt 0 page && nat_lt 0 count && nat_le (page + count) (2 ^ 26)

-- Whether a page is there.
abbrev pub is_held : Space → ℕ → Bool
is_held s page = is_some (get s page)

abbrev pub if_held : Space → ℕ → Option ℕ
if_held s page = if is_held s page then Some page else None

abbrev pub if_missing : Space → ℕ → Option ℕ
if_missing s page = if is_held s page then None else Some page

-- The first page of a run that is there.
abbrev pub first_held : Space → ℕ → ℕ → Option ℕ
first_held s page count = first_some (if_held s) page count

-- The first page of a run that isn't there.
abbrev pub first_missing : Space → ℕ → ℕ → Option ℕ
first_missing s page count = first_some (if_missing s) page count
