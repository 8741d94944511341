use Rattle.std.proofs.Common.{ℕ, ◌<◌, ◌≤◌, get_or}
use Rattle.elf_loader.specs.declared.overlap.Segment.{Segment}
use Rattle.elf_loader.specs.Segments.{memory_end}
use Rattle.elf_loader.proofs.overlap.lie_apart.Given as goal

abbrev pub invariant-loop-segment : goal.invariant-loop-segment
invariant-loop-segment l = record {
  ends : (i : ℕ) (d : Segment) → i < l.segment-index → (get_or l.segments i d).number < l.n → memory_end (get_or l.segments i d).header ≤ l.end;
  apart : (i j : ℕ) (d : Segment) → i < j → j < l.segment-index → (get_or l.segments i d).number < l.n → (get_or l.segments j d).number < l.n
      → memory_end (get_or l.segments i d).header ≤ (get_or l.segments j d).header.p_vaddr;
}
