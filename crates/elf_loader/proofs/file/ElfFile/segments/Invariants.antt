use Rattle.elf_loader.specs.Steps.{AreRead, HasSegments}
use Rattle.elf_loader.proofs.file.ElfFile.segments.Given as goal

abbrev pub invariant-loop-number : goal.invariant-loop-number
invariant-loop-number l = record {
  there : HasSegments l.self.bytes.now l.number l.segments.items;
  read : AreRead l.self.bytes.now l.n l.segments.items;
}
