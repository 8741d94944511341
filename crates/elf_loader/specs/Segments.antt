-- Segments: the parts of memory that the program headers of type PT_LOAD ask for (System V ABI,
-- "Program Loading"), and the pages of 4,096 bytes that they touch.
use Rattle.std.specs.Prelude.{ℕ, zero, suc, ◌+◌, ◌-◌, ◌*◌, ◌/◌, ◌==◌, nat_lt, nat_le, max, Bool, false, ◌&&◌, ◌||◌, if◌then◌else◌, List, slice_index, bit_or}
use Rattle.std.specs.Int.{bit_at}
use Rattle.elf_loader.specs.declared.header.ProgramHeader.{ProgramHeader}
use Rattle.elf_loader.specs.Fields.{e_phnum, program_header}

-- Some number below n passes the test.
unfoldable pub any_below : (ℕ → Bool) → ℕ → Bool
any_below test zero = false
any_below test (suc n) = any_below test n || test n

-- The union of sets of bits, over the numbers below n.
unfoldable pub union_below : (ℕ → ℕ) → ℕ → ℕ
union_below set zero = 0
union_below set (suc n) = bit_or (union_below set n) (set n)

-- The greatest value over the numbers below n, or 0.
unfoldable pub max_below : (ℕ → ℕ) → ℕ → ℕ
max_below value zero = 0
max_below value (suc n) = max (max_below value n) (value n)

-- A segment is a header of type PT_LOAD (1) with at least one byte of memory.
abbrev pub is_segment : ProgramHeader → Bool
is_segment h = h.p_type == 1 && nat_lt 0 h.p_memsz

-- The address after its last byte.
abbrev pub memory_end : ProgramHeader → ℕ
memory_end h = h.p_vaddr + h.p_memsz

-- The address is one of the segment's.
unfoldable pub covers : ProgramHeader → ℕ → Bool
covers h address = is_segment h && (nat_le h.p_vaddr address && nat_lt address (memory_end h))

-- Two segments have an address in common.
unfoldable pub meets : ProgramHeader → ProgramHeader → Bool
meets h other =
    is_segment h && (is_segment other
    && (nat_lt h.p_vaddr (memory_end other) && nat_lt other.p_vaddr (memory_end h)))

-- The byte of a segment at an address: from the file, or 0 past p_filesz.
unfoldable pub segment_byte : List ℕ → ProgramHeader → ℕ → ℕ
segment_byte file h address =
    if nat_lt (address - h.p_vaddr) h.p_filesz
    then slice_index file (h.p_offset + (address - h.p_vaddr)) else 0

-- Pages

-- A segment touches the pages from that of its first byte to that of its last.
abbrev pub first_page : ProgramHeader → ℕ
first_page h = h.p_vaddr / 4096

abbrev pub last_page : ProgramHeader → ℕ
last_page h = (memory_end h - 1) / 4096

unfoldable pub touches : ProgramHeader → ℕ → Bool
touches h page = is_segment h && (nat_le (first_page h) page && nat_le page (last_page h))

-- The rights that its flags give: PF_R (4) to read (1), PF_W (2) to write (2), PF_X (1) to run (4).
unfoldable pub segment_rights : ProgramHeader → ℕ
segment_rights h = bit_at h.p_flags 2 + 2 * bit_at h.p_flags 1 + 4 * bit_at h.p_flags 0

-- Some segment touches the page.
unfoldable pub is_touched : List ℕ → ℕ → Bool
is_touched file page = any_below (λ i. touches (program_header file i) page) (e_phnum file)

-- The union of the rights of the segments that touch the page.
unfoldable pub page_rights : List ℕ → ℕ → ℕ
page_rights file page =
    union_below
    (λ i. if touches (program_header file i) page
    then segment_rights (program_header file i) else 0) (e_phnum file)

-- The page after the last one that is touched.
unfoldable pub end_page : List ℕ → ℕ
end_page file =
    max_below
    (λ i. if is_segment (program_header file i)
    then last_page (program_header file i) + 1 else 0) (e_phnum file)

-- The byte at an address: of the first n headers, the last that covers it gives it, and 0 stands
-- where none does. Where segments share no address it is the one that covers it.
unfoldable pub byte_below : List ℕ → ℕ → ℕ → ℕ
byte_below file address zero = 0
byte_below file address (suc n) =
    if covers (program_header file n) address
    then segment_byte file (program_header file n) address
    else byte_below file address n

-- The byte at an address.
abbrev pub byte_of : List ℕ → ℕ → ℕ
byte_of file address = byte_below file address (e_phnum file)
