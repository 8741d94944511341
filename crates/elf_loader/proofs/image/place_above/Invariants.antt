use Rattle.std.proofs.Common.{ℕ, ◌<◌, ◌≤◌, get_or}
use Rattle.elf_loader.specs.declared.overlap.Segment.{Segment}
use Rattle.elf_loader.specs.Segments.{memory_end}
use Rattle.elf_loader.proofs.image.place_above.Given as goal

abbrev pub invariant-loop-place : goal.invariant-loop-place
invariant-loop-place l = record { below : (k : ℕ) (d : Segment) → l.from ≤ k → k < l.place → memory_end (get_or l.segments k d).header ≤ l.address }
