use Rattle.std.proofs.Common.{◌+◌, ◌-◌, ◌/◌, ◌≤◌, refl, arith, subst}
use Rattle.elf_loader.specs.Steps.{LieApart}
use Rattle.elf_loader.proofs.Apart.{meets_earlier-apart}
use Rattle.elf_loader.proofs.file.ElfFile.apart_count.Goals as goal

pub returns-then-lie_apart-clause-apart : goal.returns-then-lie_apart-clause-apart
returns-then-lie_apart-clause-apart c =
    let apart : LieApart c.args.n c.in-Ok.segments.items = subst (λ segments. LieApart c.args.n segments) c.as_slice.ensures.value (c.if-lie_apart.ensures refl) in
    meets_earlier-apart c.args.self.now.bytes.now c.args.n c.args.n c.in-Ok.segments.items c.in-Ok.ensures.there apart (omega arith)

pub loop-apart-preserved-then-lie_apart-2 : goal.loop-apart-preserved-then-lie_apart-2
loop-apart-preserved-then-lie_apart-2 c =
    let middle = c.loop-apart.apart + (c.loop-apart.beyond - c.loop-apart.apart) / 2 in
    let below : middle ≤ c.args.n = omega (arith, c.loop-apart.invariant.within, c.loop-apart-test.true) in
    let apart : LieApart middle c.in-Ok.segments.items = subst (λ segments. LieApart middle segments) c.as_slice-in-loop-apart.ensures.value (c.if-lie_apart-2.ensures refl) in
    record {
      within = c.loop-apart.invariant.within;
      below = below;
      apart = meets_earlier-apart c.args.self.now.bytes.now middle c.args.n c.in-Ok.segments.items c.in-Ok.ensures.there apart below;
    }
