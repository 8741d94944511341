-- What the loader's steps find out on the way to a program.
use Rattle.std.specs.Prelude.{◌≡◌, ◌⊎◌, ◌<◌, ◌≤◌, ℕ, ◌+◌, ◌-◌, ◌*◌, ◌^◌, nat_lt, nat_le, Bool, true, false, ◌&&◌, ◌||◌, if◌then◌else◌, List, map, length, bit_or, Contains, slice_index_or}
use Rattle.std.specs.List.{filter, range_with_len, All}
use Rattle.std.specs.List.Sorted.{IsNonDecreasingBy}
use Rattle.guest_space.specs.declared.Extent.{Extent}
use Rattle.elf_loader.specs.declared.header.ProgramHeader.{ProgramHeader}
use Rattle.elf_loader.specs.declared.overlap.Segment.{Segment}
use Rattle.elf_loader.specs.declared.pages.Page.{Page}
use Rattle.elf_loader.specs.Fields.{e_phnum, program_header}
use Rattle.elf_loader.specs.Segments.{is_segment, memory_end, covers, is_touched, page_rights, end_page, byte_of}

-- The address holds a byte of the file.
abbrev pub holds_file_byte : ProgramHeader → ℕ → Bool
holds_file_byte h address = nat_le h.p_vaddr address && nat_lt address (h.p_vaddr + h.p_filesz)

-- The segment has its place in the file and in the pages of a process.
pub record IsPlaced (file : List ℕ) (h : ProgramHeader) : Type 0 where
  pub fits : h.p_filesz ≤ h.p_memsz
  pub in_file : 0 < h.p_filesz → h.p_offset + h.p_filesz ≤ length file
  pub above : 4096 ≤ h.p_vaddr
  pub below : memory_end h ≤ (2 ^ 26 - 16) * 4096

-- The header of that number, as a segment.
abbrev pub segment_of : List ℕ → ℕ → Segment
segment_of file i = record { number = i; header = program_header file i }

-- Each segment of the first n headers is there.
abbrev pub HasSegments : List ℕ → ℕ → List Segment → Type 0
HasSegments file n segments =
    (i : ℕ) → i < n → is_segment (program_header file i) ≡ true
    → Contains segments (segment_of file i)

-- Each is the segment of one of the first n headers.
pub record IsRead (file : List ℕ) (n : ℕ) (s : Segment) : Type 0 where
  pub number : s.number < n
  pub header : s.header ≡ program_header file s.number
  pub segment : is_segment s.header ≡ true

abbrev pub AreRead : List ℕ → ℕ → List Segment → Type 0
AreRead file n segments = All (IsRead file n) segments

-- Each segment that ends above an address is there.
abbrev pub HasSegmentsAbove : List ℕ → ℕ → List Segment → Type 0
HasSegmentsAbove file start segments =
    (i : ℕ) → i < e_phnum file → is_segment (program_header file i) ≡ true
    → start < memory_end (program_header file i) → Contains segments (segment_of file i)

-- Each segment with an address from the first on and before the end is there.
abbrev pub HasSegmentsBetween : List ℕ → ℕ → ℕ → List Segment → Type 0
HasSegmentsBetween file start end segments =
    (i : ℕ) → i < e_phnum file → is_segment (program_header file i) ≡ true
    → start < memory_end (program_header file i) → (program_header file i).p_vaddr < end
    → Contains segments (segment_of file i)

-- A byte of memory after the copies of the first n segments: that of the program, or else 0,
-- and none of these segments covers its address.
abbrev pub IsFilled : List ℕ → List Segment → ℕ → ℕ → ℕ → Type 0
IsFilled file segments n address byte =
    (byte ≡ byte_of file address)
    ⊎ ((byte ≡ 0) × ((k : ℕ) (d : Segment) → k < n
    → covers (slice_index_or segments k d).header address ≡ false))

-- No extent begins below an earlier one.
abbrev pub PagesRise : List Extent → Type 0
PagesRise extents = IsNonDecreasingBy (λ extent. extent.page) extents

-- Of the segments of the first n headers, each ends before any later one begins.
abbrev pub LieApart : ℕ → List Segment → Type 0
LieApart n segments =
    (i j : ℕ) (d : Segment) → i < j → j < length segments
    → (slice_index_or segments i d).number < n → (slice_index_or segments j d).number < n
    → memory_end (slice_index_or segments i d).header ≤ (slice_index_or segments j d).header.p_vaddr

-- The pages below n that are held, each with its rights.
unfoldable pub table_of : (ℕ → Bool) → (ℕ → ℕ) → ℕ → List Page
table_of held rights n =
    map (λ q. record { number = q; rights = rights q }) (filter held (range_with_len 0 n))

-- The touched pages of a file, each with its rights.
abbrev pub touched_pages : List ℕ → List Page
touched_pages file = table_of (is_touched file) (page_rights file) (end_page file)

-- In the new table the pages that pass the test, which are below the bound, have further rights.
abbrev pub Adds : (ℕ → Bool) → ℕ → ℕ → List Page → List Page → Type 0
Adds more rights bound old new =
    (held : ℕ → Bool) (rights_of : ℕ → ℕ) (n : ℕ) → bound ≤ n
    → ((q : ℕ) → held q ≡ false → rights_of q ≡ 0) → old ≡ table_of held rights_of n
    → new ≡ table_of (λ q. held q || more q)
    (λ q. bit_or (rights_of q) (if more q then rights else 0)) n

-- With the pages that pass the test, which are below the bound, a table has more than 1,008.
abbrev pub Overflows : (ℕ → Bool) → ℕ → List Page → Type 0
Overflows more bound old =
    (held : ℕ → Bool) (rights_of : ℕ → ℕ) (n : ℕ) → bound ≤ n
    → ((q : ℕ) → held q ≡ false → rights_of q ≡ 0) → old ≡ table_of held rights_of n
    → 1008 < length (filter (λ q. held q || more q) (range_with_len 0 n))

-- A page as a run.
abbrev pub extent_of_page : Page → Extent
extent_of_page page = record { page = page.number; count = 1; rights = page.rights }
