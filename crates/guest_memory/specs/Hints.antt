-- Where the table of hints says that pages stand. Nothing rests on it, since a hint is tested.
use Rattle.std.specs.Prelude.{◌≡◌, ◌≢◌, ℕ, ◌-◌, ◌%◌, ◌^◌, ◌<◌, ◌≤◌, if◌then◌else◌, nat_lt, List, slice_index, slice_index_or}
use Rattle.guest_memory.specs.declared.page.Page.{Page}

-- The slot of a page: slots rise from page 0 on, and fall from page 65,536 on.
abbrev pub slot_of : ℕ → ℕ
slot_of number = (if nat_lt number 65536 then number else 2 ^ 64 - 1 - number) % 1024

-- The slot of the hint of the page at a place.
abbrev pub slot_at : List Page → ℕ → Page → ℕ
slot_at pages place d = slot_of (slice_index_or pages place d).number

-- The hint in the slot of the page at a place is the place of a page from there on, before an end,
-- with the same slot.
pub record IsNoted (pages : List Page) (hints : List ℕ) (end place : ℕ) (d : Page) : Type 0 where
  pub last : ℕ
  pub from_there : place ≤ last
  pub within : last < end
  pub same : slot_at pages last d ≡ slot_at pages place d
  pub hint : slice_index hints (slot_at pages place d) ≡ last % 65536

-- Each page between two places is noted: of those that share a slot, the last.
abbrev pub AreNoted : List Page → List ℕ → ℕ → ℕ → Type 0
AreNoted pages hints from end =
    (place : ℕ) (d : Page) → from ≤ place → place < end → IsNoted pages hints end place d

-- The slots of no page between two places keep their hints.
abbrev pub AreKept : List Page → List ℕ → List ℕ → ℕ → ℕ → Type 0
AreKept pages before after from end =
    (slot : ℕ)
    → ((place : ℕ) (d : Page) → from ≤ place → place < end → slot_at pages place d ≢ slot)
    → slice_index after slot ≡ slice_index before slot
