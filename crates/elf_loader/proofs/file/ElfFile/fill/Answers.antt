use Rattle.std.proofs.Common.{◌≡◌, ℕ, ◌+◌, true, false, map, length, replicate, ap, sym, subst, ◌∙◌, arith}
use Rattle.std.specs.List.{range_with_len}
use Rattle.elf_loader.specs.Fields.{e_phnum, program_header}
use Rattle.elf_loader.specs.Segments.{is_segment, byte_below}
use Rattle.elf_loader.specs.Steps.{IsPlaced}
use Rattle.elf_loader.specs.Image.{bytes_at}
use Rattle.elf_loader.proofs.Refusals.{header_refusals-each, IsPlaced-from_none, meets-from_none}
use Rattle.elf_loader.proofs.MemoryBytes.{bytes-copied, byte_below-no_segment, map-same, replicate-is_map}
use Rattle.elf_loader.proofs.file.ElfFile.fill.Goals as goal
use Rattle.elf_loader.proofs.file.ElfFile.fill.Goals.{then-is_segment, else-is_segment}

pub loop-i-init : goal.loop-i-init
unfolding byte_below
loop-i-init c =
    let zeros : c.fill.new.self ≡ replicate {A = ℕ} (length c.args.memory.now) 0 = c.fill.ensures.after (λ y e. e) in
    zeros ∙ replicate-is_map c.args.start (length c.args.memory.now)

pub copy_into-requires : goal.copy_into-requires
copy_into-requires c =
    let file = c.args.self.now.bytes.now in
    let none = header_refusals-each file (e_phnum file) c.loop-i.i (omega (arith, c.args.self.now.counted)) c.requires in
    let segment : is_segment (program_header file c.loop-i.i) ≡ true = ap (λ x. is_segment x) (sym c.header-header.ensures) ∙ (sym c.is_segment.ensures ∙ c.if-is_segment.true) in
    subst (λ h. IsPlaced file h) (sym c.header-header.ensures) (IsPlaced-from_none file c.loop-i.i none segment)

pub loop-i-preserved : goal.loop-i-preserved
loop-i-preserved c =
    let file = c.args.self.now.bytes.now in
    let size = length c.args.memory.now in
    let old = c.loop-i.invariant in
    elim c.if-is_segment.branch [
      | then-is_segment w ↦
          let none = header_refusals-each file (e_phnum file) c.loop-i.i (omega (arith, c.args.self.now.counted)) c.requires in
          let segment : is_segment c.header-header.result ≡ true = sym c.is_segment.ensures ∙ w.if-is_segment.true in
          let placed : IsPlaced file c.header-header.result =
          subst (λ h. IsPlaced file h) (sym c.header-header.ensures) (IsPlaced-from_none file c.loop-i.i none (subst (λ h. is_segment h ≡ true) c.header-header.ensures segment)) in
          w.memory-is
          ∙ bytes-copied file c.header-header.result c.loop-i.i c.args.start size c.loop-i.memory w.copy_into.new.memory c.header-header.ensures segment placed
          (λ j below. meets-from_none file c.loop-i.i j below none)
          old
          w.copy_into.auto.memory
          w.copy_into.ensures
      | else-is_segment w ↦
          let none : is_segment (program_header file c.loop-i.i) ≡ false = ap (λ x. is_segment x) (sym c.header-header.ensures) ∙ (sym c.is_segment.ensures ∙ w.if-is_segment.false) in
          rw w.memory-is (old ∙ map-same (λ address. byte_below file address c.loop-i.i) (λ address. byte_below file address (c.loop-i.i + 1)) (range_with_len c.args.start size) (λ address. sym (byte_below-no_segment file address c.loop-i.i none)))
    ]

pub returns : goal.returns
unfolding bytes_at
returns c =
    let file = c.args.self.now.bytes.now in
    let all : c.loop-i.i ≡ e_phnum file = omega (arith, c.args.self.now.counted) in
    c.loop-i.invariant ∙ ap (λ n. map (λ address. byte_below file address n) (range_with_len c.args.start (length c.args.memory.now))) all
