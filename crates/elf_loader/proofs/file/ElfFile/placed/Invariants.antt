use Rattle.std.proofs.Common.{◌≡◌, ℕ, ◌<◌, ◌≤◌, true, false, None}
use Rattle.elf_loader.specs.Fields.{program_header}
use Rattle.elf_loader.specs.Segments.{is_segment, memory_end}
use Rattle.elf_loader.specs.Refusal.{lone_refusal, meets_earlier}
use Rattle.elf_loader.proofs.file.ElfFile.placed.Given as goal

abbrev pub invariant-loop-i : goal.invariant-loop-i
invariant-loop-i l = record {
  placed : (i : ℕ) → i < l.i → lone_refusal l.self.bytes.now i ≡ None;
  ends : l.rising ≡ true → (j : ℕ) → j < l.i → is_segment (program_header l.self.bytes.now j) ≡ true
      → memory_end (program_header l.self.bytes.now j) ≤ l.end;
  apart : l.rising ≡ true → (j : ℕ) → j < l.i → meets_earlier l.self.bytes.now j ≡ false;
}
