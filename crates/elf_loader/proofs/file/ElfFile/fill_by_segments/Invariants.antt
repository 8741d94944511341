use Rattle.std.proofs.Common.{◌≡◌, ℕ, ◌+◌, ◌<◌, length, get_or}
use Rattle.elf_loader.specs.Steps.{IsFilled}
use Rattle.elf_loader.proofs.file.ElfFile.fill_by_segments.Given as goal

abbrev pub invariant-loop-segment : goal.invariant-loop-segment
invariant-loop-segment l = record {
  size : length l.memory ≡ length l.fn.memory;
  filled : (k : ℕ) → k < length l.fn.memory → IsFilled l.self.bytes.now l.segments l.segment-index (l.start + k) (get_or l.memory k 0);
}
