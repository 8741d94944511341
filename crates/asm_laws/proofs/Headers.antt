-- The headers of an assembled file, as the loader reads them.
use Rattle.std.proofs.Common.{◌≡◌, ℕ, ◌+◌, ◌-◌, ◌*◌, ◌^◌, ◌≤◌, ◌<◌, true, false, ltb, ◌==◌, List, ◌++◌, length, None, refl, ap, ◌∙◌, arith}
use Rattle.std.specs.Int.{to_le_bytes, w64}
use Rattle.std.proofs.lemmas.Bool.{lt-ltb, le-ltb, cond-false}
use Rattle.elf_loader.specs.declared.header.ProgramHeader.{ProgramHeader}
use Rattle.elf_loader.specs.Fields.{number_at, e_entry, e_phnum, program_header}
use Rattle.elf_loader.specs.Refusal.{or_later, file_refusal, is_misplaced, leaves_file, meets_earlier, lone_refusal, header_refusals}
use Rattle.elf_loader.specs.Segments.{any_below}
use Rattle.elf_loader.proofs.Refusals.{header_refusal-none}
use Rattle.rv_asm.specs.Encoding.{base, limit}
use Rattle.rv_asm.specs.File.{file_of, file_header}
use Rattle.rv_asm.specs.File as asm

-- The one program header.
abbrev pub segment : ℕ → ProgramHeader
segment size = record { p_type = 1; p_flags = 7; p_offset = 120; p_vaddr = base; p_filesz = size; p_memsz = size }

-- The bytes before those of the program.
abbrev pub front : ℕ → List ℕ
front size = file_header ++ asm.program_header size

pub file_of-front : (bytes : List ℕ) → file_of bytes ≡ front (length bytes) ++ bytes
unfolding file_of
file_of-front bytes = refl

pub length-file_of : (bytes : List ℕ) → length (file_of bytes) ≡ 120 + length bytes
unfolding file_of
length-file_of bytes = omega arith

pub e_phnum-file_of : (bytes : List ℕ) → e_phnum (file_of bytes) ≡ 1
unfolding file_of number_at
e_phnum-file_of bytes = refl

pub e_entry-file_of : (bytes : List ℕ) → e_entry (file_of bytes) ≡ base
unfolding file_of number_at
e_entry-file_of bytes = refl

number_of : (n : ℕ) → n < 2 ^ 32 → number_at (to_le_bytes w64 n) 0 8 ≡ n
unfolding number_at
number_of n h = omega arith

pub program_header-file_of : (bytes : List ℕ) → length bytes < 2 ^ 32 → program_header (file_of bytes) 0 ≡ segment (length bytes)
unfolding file_of number_at program_header
program_header-file_of bytes h = ap segment (number_of (length bytes) h)

pub file_refusal-file_of : (bytes : List ℕ) → file_refusal (file_of bytes) ≡ None
unfolding file_of number_at file_refusal
file_refusal-file_of bytes =
    let long : ltb (length (file_of bytes)) 64 ≡ false = le-ltb (length (file_of bytes)) 64 (omega (arith, length-file_of bytes)) in
    let table : ltb (length (file_of bytes)) 120 ≡ false = le-ltb (length (file_of bytes)) 120 (omega (arith, length-file_of bytes)) in
    cond-false _ _ _ long ∙ cond-false _ _ _ table

misplaced : (file : List ℕ) (n : ℕ) → 1 ≤ n → length file ≡ 120 + n → base + n ≤ limit → is_misplaced file (segment n) ≡ false
unfolding is_misplaced leaves_file
misplaced file n some long few =
    let same : ltb n n ≡ false = le-ltb n n (omega arith) in
    let there : ltb 0 n ≡ true = lt-ltb 0 n some in
    let inside : ltb (length file) (120 + n) ≡ false = le-ltb (length file) (120 + n) (omega arith) in
    let low : ltb ((2 ^ 26 - 16) * 4096) (base + n) ≡ false = le-ltb ((2 ^ 26 - 16) * 4096) (base + n) (omega arith) in
    rw (same, there, inside, low) refl

lone_refusal-is : (file : List ℕ) (h : ProgramHeader) → program_header file 0 ≡ h → (h.p_type == 3) ≡ false → is_misplaced file h ≡ false
    → lone_refusal file 0 ≡ None
unfolding lone_refusal
lone_refusal-is file h e other placed = rw (e, other, placed) refl

pub header_refusals-file_of : (bytes : List ℕ) → 1 ≤ length bytes → base + length bytes ≤ limit
    → header_refusals (file_of bytes) (e_phnum (file_of bytes)) ≡ None
unfolding header_refusals meets_earlier any_below
header_refusals-file_of bytes some few =
    let file = file_of bytes in
    let lone = lone_refusal-is file (segment (length bytes)) (program_header-file_of bytes (omega arith)) refl (misplaced file (length bytes) some (length-file_of bytes) few) in
    ap (header_refusals file) (e_phnum-file_of bytes) ∙ ap (or_later None) (header_refusal-none file 0 lone refl)
