use Rattle.std.proofs.Common.{◌≡◌, ◌+◌, ◌-◌, ◌<◌, ℕ, true, cond, length, get_or, ap, sym, subst, ◌∙◌, arith}
use Rattle.std.proofs.lemmas.List.{get_or_default}
use Rattle.elf_loader.specs.declared.header.ProgramHeader.{ProgramHeader}
use Rattle.elf_loader.specs.declared.overlap.Segment.{Segment}
use Rattle.elf_loader.specs.Fields.{e_phnum, program_header}
use Rattle.elf_loader.specs.Segments.{is_segment}
use Rattle.elf_loader.specs.Steps.{holds_file_byte, IsPlaced, IsFilled, IsRead}
use Rattle.elf_loader.proofs.SegmentBytes.{placed, IsFilled-copied, bytes-filled}
use Rattle.elf_loader.proofs.file.ElfFile.fill_by_segments.Goals as goal

pub copy_into-requires : goal.copy_into-requires
copy_into-requires c =
    let file = c.args.self.now.bytes.now in
    let read = c.requires.read c.loop-segment.segment-index _ c.loop-segment-test.true in
    subst (λ h. IsPlaced file h) (sym read.header)
    (placed file c.requires.sound _ read.number (subst (λ h. is_segment h ≡ true) read.header read.segment))

pub loop-segment-preserved : goal.loop-segment-preserved
loop-segment-preserved c =
    let file = c.args.self.now.bytes.now in
    let segments = c.args.segments.now in
    let at = c.loop-segment.segment-index in
    let none : Segment = record { number = 0; header = program_header file 0 } in
    let here : Segment = get_or segments at none in
    let i : ℕ = here.number in
    let read : IsRead file (e_phnum file) here = c.requires.read at none c.loop-segment-test.true in
    let header : (d : Segment) → (get_or segments at d).header ≡ program_header file i =
    λ d. ap (λ (s : Segment). s.header) (get_or_default segments at d none c.loop-segment-test.true) ∙ read.header in
    let segment : is_segment (program_header file i) ≡ true = subst (λ h. is_segment h ≡ true) read.header read.segment in
    record {
      size = c.copy_into.auto.memory ∙ c.loop-segment.invariant.size;
      filled = λ k below.
          let old : ℕ = get_or c.loop-segment.memory k 0 in
          let copied = c.copy_into.ensures k (omega (arith, c.loop-segment.invariant.size)) in
          IsFilled-copied file c.requires.sound segments at (c.args.start + k) old (get_or c.copy_into.new.memory k 0) i header read.number segment
          (subst (λ (h : ProgramHeader). get_or c.copy_into.new.memory k 0 ≡ cond (holds_file_byte h (c.args.start + k)) (get_or file (h.p_offset + (c.args.start + k - h.p_vaddr)) 0) old) (header _) copied)
          (c.loop-segment.invariant.filled k below);
    }

pub returns : goal.returns
returns c =
    let file = c.args.self.now.bytes.now in
    let all : c.loop-segment.segment-index ≡ length c.args.segments.now = omega arith in
    bytes-filled file c.requires.sound c.args.segments.now c.args.start (length c.args.memory.now) c.loop-segment.memory c.loop-segment.invariant.size
    c.requires.there (subst (λ n. (k : ℕ) → k < length c.args.memory.now → IsFilled file c.args.segments.now n (c.args.start + k) (get_or c.loop-segment.memory k 0)) all c.loop-segment.invariant.filled)
