-- The executable file of a program (ELF-64): the file header, one program header, and the bytes.
use Rattle.std.specs.Prelude.{ℕ, List, ◌∷◌, ◌++◌, length, replicate}
use Rattle.std.specs.Int.{to_le_bytes, w16, w32, w64}
use Rattle.rv_asm.specs.Encoding.{base}

-- The fields, the lowest byte first.
abbrev pub half : ℕ → List ℕ
half n = to_le_bytes w16 n

abbrev pub word : ℕ → List ℕ
word n = to_le_bytes w32 n

abbrev pub xword : ℕ → List ℕ
xword n = to_le_bytes w64 n

-- The ELF magic, ELFCLASS64, ELFDATA2LSB, EV_CURRENT and zeros.
abbrev pub e_ident : List ℕ
e_ident = 0x7f ∷ 0x45 ∷ 0x4c ∷ 0x46 ∷ 2 ∷ 1 ∷ 1 ∷ replicate 9 0

-- e_type is ET_EXEC, e_machine EM_RISCV, e_version 1; then e_entry, e_phoff, e_shoff, e_flags,
-- e_ehsize, e_phentsize, e_phnum, e_shentsize, e_shnum and e_shstrndx.
abbrev pub file_header : List ℕ
file_header =
    e_ident ++ half 2 ++ half 243 ++ word 1 ++ xword base ++ xword 64 ++ xword 0 ++ word 0
    ++ half 64 ++ half 56 ++ half 1 ++ half 0 ++ half 0 ++ half 0

-- p_type is PT_LOAD, p_flags all rights; then p_offset, p_vaddr, p_paddr, p_filesz, p_memsz and
-- p_align.
abbrev pub program_header : ℕ → List ℕ
program_header size =
    word 1 ++ word 7 ++ xword 120 ++ xword base ++ xword base
    ++ xword size ++ xword size ++ xword 4096

unfoldable pub file_of : List ℕ → List ℕ
file_of bytes = file_header ++ program_header (length bytes) ++ bytes
