-- The fields of an ELF-64 file that the loader reads (System V ABI, "ELF Header" and "Program
-- Header"), by their offsets. Numbers are little-endian, and a byte past the end of the file reads
-- as 0.
use Rattle.std.specs.Prelude.{ℕ, zero, suc, ◌+◌, ◌*◌, List, ◌∷◌, codes, slice_index}
use Rattle.elf_loader.specs.declared.header.ProgramHeader.{ProgramHeader}

-- The number of so many bytes from an offset on.
unfoldable pub number_at : List ℕ → ℕ → ℕ → ℕ
number_at file at zero = 0
number_at file at (suc size) = slice_index file at + 256 * number_at file (at + 1) size

-- The first four bytes of e_ident.
abbrev pub magic : List ℕ
magic = 0x7F ∷ codes "ELF"

-- EI_CLASS and EI_DATA of e_ident.
abbrev pub class : List ℕ → ℕ
class file = slice_index file 4

abbrev pub byte_order : List ℕ → ℕ
byte_order file = slice_index file 5

-- The fields of the file header, under their names in the standard.
abbrev pub e_type : List ℕ → ℕ
e_type file = number_at file 16 2

abbrev pub e_machine : List ℕ → ℕ
e_machine file = number_at file 18 2

abbrev pub e_entry : List ℕ → ℕ
e_entry file = number_at file 24 8

abbrev pub e_phoff : List ℕ → ℕ
e_phoff file = number_at file 32 8

abbrev pub e_phentsize : List ℕ → ℕ
e_phentsize file = number_at file 54 2

abbrev pub e_phnum : List ℕ → ℕ
e_phnum file = number_at file 56 2

-- The fields of an entry of the program header table that begins at an offset.
abbrev pub header_at : List ℕ → ℕ → ProgramHeader
header_at file at = record {
  p_type = number_at file at 4;
  p_flags = number_at file (at + 4) 4;
  p_offset = number_at file (at + 8) 8;
  p_vaddr = number_at file (at + 16) 8;
  p_filesz = number_at file (at + 32) 8;
  p_memsz = number_at file (at + 40) 8;
}

-- The program header of that number, from 0 on: entries of 56 bytes from e_phoff on.
unfoldable pub program_header : List ℕ → ℕ → ProgramHeader
program_header file i = header_at file (e_phoff file + 56 * i)
