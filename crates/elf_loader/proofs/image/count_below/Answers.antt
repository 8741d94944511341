use Rattle.std.proofs.Common.{◌≡◌, get_or, ap, arith}
use Rattle.std.proofs.lemmas.List.{get_or_default}
use Rattle.elf_loader.specs.declared.header.ProgramHeader.{ProgramHeader}
use Rattle.elf_loader.specs.declared.overlap.Segment.{Segment}
use Rattle.elf_loader.proofs.image.count_below.Goals as goal

pub returns-then-segments-count-clause-above : goal.returns-then-segments-count-clause-above
returns-then-segments-count-clause-above c = λ k d from within.
    let header : ProgramHeader = record { p_type = 0; p_flags = 0; p_offset = 0; p_vaddr = 0; p_filesz = 0; p_memsz = 0 } in
    let none : Segment = record { number = 0; header = header } in
    let rises = c.requires c.loop-count.count k none from within in
    let same : (get_or c.args.segments.now k d).header.p_vaddr ≡ (get_or c.args.segments.now k none).header.p_vaddr =
    ap (λ (s : Segment). s.header.p_vaddr) (get_or_default c.args.segments.now k d none within) in
    omega (arith, rises, same, c.if-segments-count.true)
