-- An assembled program in memory.
use Rattle.std.specs.Prelude.{ℕ, ◌+◌, ◌-◌, ◌*◌, ◌/◌, List, [], ◌∷◌, ◌++◌, length, replicate}
use Rattle.elf_loader.specs.declared.Program.{Program}
use Rattle.rv_asm.specs.Encoding.{base}

-- The pages of 4096 bytes, from page 16 on, with so many bytes from the base on.
abbrev pub page_count : ℕ → ℕ
page_count size = (base + size - 1) / 4096 - 15

-- The zeros up to the end of the last of them.
abbrev pub rest : ℕ → ℕ
rest size = 4096 * (16 + page_count size) - (base + size)

-- One run of these pages with all rights: zeros up to the base, the bytes, and zeros. The entry is
-- the first byte.
abbrev pub image_of : List ℕ → Program
image_of bytes = record {
  entry = base;
  runs = record {
    page = 16;
    rights = 7;
    bytes = replicate 120 0 ++ bytes ++ replicate (rest (length bytes)) 0;
  } ∷ [];
  end = 4096 * (16 + page_count (length bytes));
}
