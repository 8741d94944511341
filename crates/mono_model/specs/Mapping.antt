-- Runs of pages that a process can be given: which are free, and the lowest of them.
use Rattle.std.specs.Prelude.{◌≡◌, ℕ, ◌+◌, ◌-◌, ◌/◌, ◌%◌, ◌≤◌, ◌<◌, ◌==◌, Bool, false, not, if◌then◌else◌, is_some}
use Rattle.std.specs.FinMap.{get}
use Rattle.std.specs.declared.option.Option.{Option}
use Rattle.std.specs.declared.option.Option.TheVariants.{None, Some}
use Rattle.guest_space.specs.Space.{Space}
use Rattle.guest_space.specs.First.{first_some}
use Rattle.guest_space.specs.Run.{first_held, first_missing}
use Rattle.mono_model.specs.Starting.{STACK_PAGE}

-- A process has this many pages at most.
abbrev pub MOST_PAGES : ℕ
MOST_PAGES = 1024

-- mmap gives pages from this one on.
abbrev pub FIRST_MAPPED : ℕ
FIRST_MAPPED = 65536

-- The address is that of a page's first byte.
abbrev pub is_page_start : ℕ → Bool
is_page_start address = address % 4096 == 0

-- So many bytes in whole pages.
abbrev pub pages_for : ℕ → ℕ
pages_for bytes = (bytes + 4095) / 4096

-- No page of a run is there.
abbrev pub is_free : Space → ℕ → ℕ → Bool
is_free s page count = not (is_some (first_held s page count))

-- Each page of a run is there.
abbrev pub is_whole : Space → ℕ → ℕ → Bool
is_whole s page count = not (is_some (first_missing s page count))

abbrev pub if_free : Space → ℕ → ℕ → Option ℕ
if_free s count page = if is_free s page count then Some page else None

-- The first page of the lowest free run of so many pages that begins at a page or above, and ends
-- below the stack.
abbrev pub lowest_free : Space → ℕ → ℕ → Option ℕ
lowest_free s from count = first_some (if_free s count) from (STACK_PAGE + 1 - count - from)

-- No page of a run is there, page by page.
abbrev pub HasNoPages : Space → ℕ → ℕ → Type 0
HasNoPages s page count = (q : ℕ) → page ≤ q → q < page + count → get s q ≡ None

-- A free run from a page on that ends below the stack; none that begins before it is free.
pub record IsLowestFree (s : Space) (from count page : ℕ) : Type 0 where
  pub from_there : from ≤ page
  pub below_stack : page + count ≤ STACK_PAGE
  pub free : HasNoPages s page count
  pub lowest : (other : ℕ) → from ≤ other → other < page → is_free s other count ≡ false

-- No run that begins at a page or above and ends below the stack is free.
abbrev pub HasNoneFree : Space → ℕ → ℕ → Type 0
HasNoneFree s from count =
    (page : ℕ) → from ≤ page → page + count ≤ STACK_PAGE → is_free s page count ≡ false

-- What is told of the lowest free run.
abbrev pub IsLowestFreeIn : Space → ℕ → ℕ → Option ℕ → Type 0
IsLowestFreeIn s from count None = HasNoneFree s from count
IsLowestFreeIn s from count (Some page) = IsLowestFree s from count page
