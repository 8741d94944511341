-- Lists of pages by rising number, and the space that they make.
use Rattle.std.specs.Prelude.{◌≡◌, ℕ, ◌+◌, ◌*◌, ◌^◌, ◌<◌, ◌≤◌, bit_and, List, [], ◌∷◌, map, length, slice_index_or, Some, None}
use Rattle.std.specs.Ordering.{nat_cmp}
use Rattle.std.specs.FinMap.{from_entries, get}
use Rattle.guest_space.specs.Space.{Frame, Space, IsFrame, memory_of}
use Rattle.guest_space.specs.Access.{first_fault}
use Rattle.guest_memory.specs.declared.held.Held.{Held}
use Rattle.guest_memory.specs.declared.page.Page.{Page}

abbrev pub frame_of : Page → Frame
frame_of p = record { rights = p.rights; bytes = p.bytes }

abbrev pub entry_of : Page → (ℕ × Frame)
entry_of p = (p.number, frame_of p)

-- The space that a list of pages makes.
abbrev pub space_of : List Page → Space
space_of pages = from_entries {R = nat_cmp} (map entry_of pages)

-- The numbers rise from above n on, and each page is one that a process may have.
abbrev pub AllAbove : ℕ → List Page → Type 0
AllAbove n [] = Unit {0}
AllAbove n (p ∷ pages) = (n < p.number) × IsFrame p.number (frame_of p) × AllAbove p.number pages

-- The numbers rise, and each page is one that a process may have.
abbrev pub AreInOrder : List Page → Type 0
AreInOrder pages = AllAbove 0 pages

-- The page of a number stands at a place.
pub record IsPlaceOf (pages : List Page) (number place : ℕ) : Type 0 where
  pub within : place < length pages
  pub is : (d : Page) → (slice_index_or pages place d).number ≡ number

-- The pages before a place have numbers below those of a run, and those from it on have numbers
-- past it.
pub record IsGap (pages : List Page) (number count place : ℕ) : Type 0 where
  pub within : place ≤ length pages
  pub lower : (k : ℕ) (d : Page) → k < place → (slice_index_or pages k d).number < number
  pub higher : (k : ℕ) (d : Page) → place ≤ k → k < length pages
      → number + count ≤ (slice_index_or pages k d).number

-- The page of a number stands at a place, and the space has it.
pub record IsFound (pages : List Page) (number place : ℕ) : Type 0 where
  pub within : place < length pages
  pub is : (d : Page) → (slice_index_or pages place d).number ≡ number
  pub held : (d : Page) → get (space_of pages) number ≡ Some (frame_of (slice_index_or pages place d))

abbrev pub IsAbsent : List Page → ℕ → Type 0
IsAbsent pages number = get (space_of pages) number ≡ None

-- The number and the rights of a page, which no store changes.
abbrev pub label_of : Page → (ℕ × ℕ)
label_of p = (p.number, p.rights)

-- The page at a place begins at an address and can be run; from there on, words begin within it at
-- fewer addresses than `room`.
pub record IsCode (labels : List (ℕ × ℕ)) (place start room : ℕ) : Type 0 where
  pub within : place < length labels
  pub begins : (slice_index_or labels place (0, 0)).0 * 4096 ≡ start
  pub runs : bit_and (slice_index_or labels place (0, 0)).1 4 ≡ 4
  pub most : room ≤ 4093

-- The page of code that is held is that of these labels, or none is held.
abbrev pub Holds : List (ℕ × ℕ) → Held → Type 0
Holds labels held = 0 < held.room → IsCode labels held.place held.start held.room

-- The n bytes from an address on are there.
pub record AreThere (s : Space) (at n : ℕ) : Type 0 where
  pub end : at + n < 2 ^ 64
  pub there : first_fault (memory_of s) 0 at n ≡ None
