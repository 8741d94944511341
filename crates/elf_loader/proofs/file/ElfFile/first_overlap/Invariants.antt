use Rattle.std.proofs.Common.{◌≡◌, ℕ, ◌<◌, false}
use Rattle.elf_loader.specs.Refusal.{meets_earlier}
use Rattle.elf_loader.proofs.file.ElfFile.first_overlap.Given as goal

abbrev pub invariant-loop-i : goal.invariant-loop-i
invariant-loop-i l = (j : ℕ) → j < l.i → meets_earlier l.self.bytes.now j ≡ false
