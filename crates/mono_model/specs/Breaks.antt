-- Where brk moves the break of a process, and which pages that makes or frees.
use Rattle.std.specs.Prelude.{ℕ, ◌+◌, ◌-◌, Bool, not, ◌&&◌, if◌then◌else◌, nat_lt}
use Rattle.std.specs.FinMap.{len}
use Rattle.guest_space.specs.Space.{Space}
use Rattle.guest_space.specs.Run.{is_run}
use Rattle.mono_model.specs.Mapping.{MOST_PAGES, is_free, pages_for}
use Rattle.mono_model.specs.declared.breaks.BreakMove.{BreakMove}
use Rattle.mono_model.specs.declared.breaks.BreakMove.TheVariants.{Grows, Shrinks, Within, Stays}

-- The pages of a run can be made: a process may have them, none of them is there, and the process
-- has not too many with them.
abbrev pub can_be_made : Space → ℕ → ℕ → Bool
can_be_made s page count =
    is_run page count && (is_free s page count && not (nat_lt MOST_PAGES (len s + count)))

-- From a break to an address: the process has the pages from the start of its break up to the
-- break, in whole pages. No break is below its start.
abbrev pub break_move : ℕ → ℕ → ℕ → BreakMove
break_move start now address =
    let old = pages_for now in
    let new = pages_for address in
    if nat_lt address start then Stays
    else (if nat_lt old new then Grows old (new - old)
    else (if nat_lt new old then Shrinks new (old - new)
    else Within))
