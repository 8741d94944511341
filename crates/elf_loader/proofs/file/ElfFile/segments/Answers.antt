use Rattle.std.proofs.Common.{rules}
use Rattle.std.proofs.lemmas.List.Sorted.{IsNonDecreasingBy-from_sort_by_key, All-permutation}
use Rattle.elf_loader.specs.declared.overlap.Segment.{Segment}
use Rattle.elf_loader.specs.Steps.{IsRead}
use Rattle.elf_loader.proofs.file.ElfFile.segments.Goals as goal

pub returns-clause-read : goal.returns-clause-read
returns-clause-read c = All-permutation (IsRead c.args.self.now.bytes.now c.args.n) _ _ c.sort_unstable_by_key.ensures.permutation c.loop-number.invariant.read

pub returns-clause-rising : goal.returns-clause-rising
returns-clause-rising c =
    IsNonDecreasingBy-from_sort_by_key (λ (s : Segment). s.header.p_vaddr) _ c.sort_unstable_by_key.ensures.sorted (λ a r q k. search rules)
