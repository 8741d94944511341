use Rattle.std.proofs.Common.{◌≡◌, map, length}
use Rattle.std.specs.List.{range_with_len}
use Rattle.elf_loader.specs.Segments.{byte_below}
use Rattle.elf_loader.proofs.file.ElfFile.fill.Given as goal

abbrev pub invariant-loop-i : goal.invariant-loop-i
invariant-loop-i l = l.memory ≡ map (λ address. byte_below l.self.bytes.now address l.i) (range_with_len l.start (length l.fn.memory))
