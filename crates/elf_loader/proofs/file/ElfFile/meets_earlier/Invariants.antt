use Rattle.std.proofs.Common.{◌≡◌, false}
use Rattle.elf_loader.specs.Fields.{program_header}
use Rattle.elf_loader.specs.Segments.{any_below, meets}
use Rattle.elf_loader.proofs.file.ElfFile.meets_earlier.Given as goal

abbrev pub invariant-loop-j : goal.invariant-loop-j
invariant-loop-j l = any_below (λ j. meets (program_header l.self.bytes.now l.i) (program_header l.self.bytes.now j)) l.j ≡ false
