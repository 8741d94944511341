use Rattle.std.proofs.Common.{◌≡◌, ℕ, ◌*◌, ◌<◌, ◌≤◌, map, take, length, get_or}
use Rattle.guest_space.specs.declared.Extent.{Extent}
use Rattle.elf_loader.specs.declared.overlap.Segment.{Segment}
use Rattle.elf_loader.specs.Segments.{memory_end}
use Rattle.elf_loader.specs.Image.{run_of}
use Rattle.elf_loader.proofs.file.ElfFile.runs.Given as goal

abbrev pub invariant-loop-extent : goal.invariant-loop-extent
invariant-loop-extent l = record {
  made : l.runs ≡ map (run_of l.self.bytes.now) (take l.extent-index l.extents);
  within : l.place ≤ length l.segments;
  below : (k j : ℕ) (e : Extent) (d : Segment) → l.extent-index ≤ k → k < length l.extents → j < l.place → memory_end (get_or l.segments j d).header ≤ 4096 * (get_or l.extents k e).page;
}
