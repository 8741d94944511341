-- Which refusal a file has: the first of these that fits.
use Rattle.std.specs.Prelude.{ℕ, zero, suc, ◌+◌, ◌-◌, ◌*◌, ◌/◌, ◌%◌, ◌^◌, ◌==◌, nat_eq, nat_lt, Bool, not, ◌&&◌, ◌||◌, if◌then◌else◌, List, length}
use Rattle.std.specs.List.{starts_with, filter, range_with_len}
use Rattle.std.specs.Int.{bit_at}
use Rattle.std.specs.declared.option.Option.{Option}
use Rattle.std.specs.declared.option.Option.TheVariants.{None, Some}
use Rattle.elf_loader.specs.declared.ElfError.{ElfError}
use Rattle.elf_loader.specs.declared.ElfError.TheVariants.{Short, Magic, Class, Order, Kind, Machine, Table, Interp, Segment, Overlap, Big, Entry}
use Rattle.elf_loader.specs.declared.header.ProgramHeader.{ProgramHeader}
use Rattle.elf_loader.specs.Fields.{magic, class, byte_order, e_type, e_machine, e_entry, e_phoff, e_phentsize, e_phnum, program_header}
use Rattle.elf_loader.specs.Segments.{any_below, is_segment, memory_end, meets, is_touched, page_rights, end_page}

-- The first refusal, or else the later one.
abbrev pub or_later : Option ElfError → Option ElfError → Option ElfError
or_later (Some error) later = Some error
or_later None later = later

-- The file header (System V ABI, "ELF Header"): ELF-64 (class 2), little-endian (order 1),
-- executable (ET_EXEC, 2), for RISC-V (EM_RISCV, 243). Its program headers, if it has any, are
-- entries of 56 bytes within the file.
abbrev pub lacks_table : List ℕ → Bool
lacks_table file =
    not (e_phnum file == 0)
    && (not (e_phentsize file == 56) || nat_lt (length file) (e_phoff file + 56 * e_phnum file))

unfoldable pub file_refusal : List ℕ → Option ElfError
file_refusal file =
    if nat_lt (length file) 64 then Some Short
    else (if not (starts_with nat_eq file magic) then Some Magic
    else (if not (class file == 2) then Some Class
    else (if not (byte_order file == 1) then Some Order
    else (if not (e_type file == 2) then Some Kind
    else (if not (e_machine file == 243) then Some Machine
    else (if lacks_table file then Some Table
    else None))))))

-- A program header (System V ABI, "Program Header"). The bytes that a segment has in the file, if
-- any, have to be there, and may be no more than its bytes in memory.
unfoldable pub leaves_file : List ℕ → ProgramHeader → Bool
leaves_file file h = nat_lt 0 h.p_filesz && nat_lt (length file) (h.p_offset + h.p_filesz)

-- Its memory has to lie in pages 1 to 2 ^ 26 - 17.
abbrev pub leaves_pages : ProgramHeader → Bool
leaves_pages h = nat_lt h.p_vaddr 4096 || nat_lt ((2 ^ 26 - 16) * 4096) (memory_end h)

unfoldable pub is_misplaced : List ℕ → ProgramHeader → Bool
is_misplaced file h =
    is_segment h && (nat_lt h.p_memsz h.p_filesz || (leaves_file file h || leaves_pages h))

-- It has to lie apart from the segments before it.
unfoldable pub meets_earlier : List ℕ → ℕ → Bool
meets_earlier file i = any_below (λ j. meets (program_header file i) (program_header file j)) i

-- What a header gives by itself: one of type PT_INTERP (3) asks for an interpreter, which no
-- program may.
unfoldable pub lone_refusal : List ℕ → ℕ → Option ElfError
lone_refusal file i =
    if (program_header file i).p_type == 3 then Some Interp
    else (if is_misplaced file (program_header file i) then Some (Segment i)
    else None)

unfoldable pub header_refusal : List ℕ → ℕ → Option ElfError
header_refusal file i =
    or_later (lone_refusal file i) (if meets_earlier file i then Some (Overlap i) else None)

-- The first n program headers, in their order.
unfoldable pub header_refusals : List ℕ → ℕ → Option ElfError
header_refusals file zero = None
header_refusals file (suc n) = or_later (header_refusals file n) (header_refusal file n)

-- The touched pages, rising.
unfoldable pub pages : List ℕ → List ℕ
pages file = filter (is_touched file) (range_with_len 0 (end_page file))

-- The program as a whole has at most 1,008 pages. Its entry is a multiple of 4, in a page with the
-- right to run.
abbrev pub is_runnable : List ℕ → ℕ → Bool
is_runnable file address = bit_at (page_rights file (address / 4096)) 2 == 1

unfoldable pub program_refusal : List ℕ → Option ElfError
program_refusal file =
    if nat_lt 1008 (length (pages file)) then Some Big
    else (if not (e_entry file % 4 == 0 && is_runnable file (e_entry file)) then Some Entry
    else None)

-- The file header comes first, then the program headers, then the program.
abbrev pub refusal : List ℕ → Option ElfError
refusal file =
    or_later (file_refusal file)
    (or_later (header_refusals file (e_phnum file)) (program_refusal file))
