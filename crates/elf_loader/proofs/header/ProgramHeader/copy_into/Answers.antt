use Rattle.std.proofs.Common.{◌≡◌, ℕ, ◌+◌, ◌-◌, min, length, take, drop, refl, ap, ◌∙◌, arith}
use Rattle.elf_loader.proofs.MemoryBytes.{get_or-copied}
use Rattle.elf_loader.proofs.header.ProgramHeader.copy_into.Goals as goal

pub returns-then-from-end : goal.returns-then-from-end
returns-then-from-end c =
    let h = c.args.self.now in
    let file = c.args.file.now in
    let start = c.args.start in
    let from = c.max-from.result in
    let end = c.min-end.result in
    let at : ℕ = from - start in
    let len : ℕ = from - start + (end - from) - (from - start) in
    let copied : c.copy_from_slice.new.self ≡ take len (drop (h.p_offset + (from - h.p_vaddr)) file) = c.copy_from_slice.ensures.after ∙ ap (λ n. take n (drop (h.p_offset + (from - h.p_vaddr)) file)) (omega arith) in
    let last : end ≡ min (start + length c.args.memory.now) (h.p_vaddr + h.p_filesz) = omega (arith, c.min-end.ensures, c.saturating_add.ensures, c.requires.fits, c.requires.below) in
    λ k within.
    get_or-copied file c.args.memory.now c.copy_from_slice.new.self h c.requires start from end at len
    c.max-from.ensures last c.if-from-end.true refl (omega arith) copied k within
