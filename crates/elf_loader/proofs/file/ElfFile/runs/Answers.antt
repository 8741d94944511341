use Rattle.std.proofs.Common.{◌≡◌, ◌-◌, ◌*◌, ◌<◌, ◌≤◌, ℕ, List, length, drop, get_or, ap, sym, subst, ⊎_elim, arith, length-drop}
use Rattle.std.proofs.lemmas.Bool.{cases_lt}
use Rattle.std.proofs.lemmas.List.{get_or_default, take_all, map_more}
use Rattle.guest_space.specs.declared.Extent.{Extent}
use Rattle.elf_loader.specs.declared.overlap.Segment.{Segment}
use Rattle.elf_loader.specs.Fields.{e_phnum}
use Rattle.elf_loader.specs.Image.{run_of}
use Rattle.elf_loader.specs.Steps.{HasSegments, HasSegmentsAbove}
use Rattle.elf_loader.proofs.SegmentBytes.{HasSegmentsAbove-drop}
use Rattle.elf_loader.proofs.file.ElfFile.runs.Goals as goal

pub run-requires-clause-there : goal.run-requires-clause-there
run-requires-clause-there c =
    let file = c.args.self.now.bytes.now in
    let segments = c.as_slice-segments.result.now in
    let place = c.place_above-place.result in
    let none : Extent = record { page = 0; count = 0; rights = 0 } in
    let start : ℕ = 4096 * (get_or c.args.extents.now c.loop-extent.extent-index none).page in
    let has : HasSegments file (e_phnum file) segments =
    subst (λ (n : ℕ). HasSegments file n segments) c.args.self.now.counted (subst (λ (s : List Segment). HasSegments file c.args.self.now.count s) (sym c.as_slice-segments.ensures.value) c.in_ok-segments.ensures.there) in
    subst (HasSegmentsAbove file start) (sym (take_all (length segments - place) (drop place segments) (omega (arith, length-drop place segments))))
    (HasSegmentsAbove-drop file segments start place has
    (λ k d below.
    ⊎_elim
    (λ (l : k < c.loop-extent.place). c.loop-extent.invariant.below c.loop-extent.extent-index k none d (omega arith) c.loop-extent-test.true l)
    (λ (l : c.loop-extent.place ≤ k). c.place_above-place.ensures.below k d l below)
    (cases_lt k c.loop-extent.place)))

pub loop-extent-preserved : goal.loop-extent-preserved
loop-extent-preserved c =
    let none : Extent = record { page = 0; count = 0; rights = 0 } in
    let extents = c.args.extents.now in
    let here = c.loop-extent.extent-index in
    record {
      made =
          let more = map_more (run_of c.args.self.now.bytes.now) extents here none c.loop-extent-test.true in
          let pushed = c.in_ok-push.ensures.ok in
          let run = c.in_ok-run.ensures in
          let before = c.loop-extent.invariant.made in
          cc;
      within = c.place_above-place.ensures.within;
      below = λ k j e d after inside under.
          let rises = c.requires.rising here k none (omega arith) inside in
          let same : (get_or extents k e).page ≡ (get_or extents k none).page = ap (λ (x : Extent). x.page) (get_or_default extents k e none inside) in
          ⊎_elim
          (λ (l : j < c.loop-extent.place). c.loop-extent.invariant.below k j e d (omega arith) inside l)
          (λ (l : c.loop-extent.place ≤ j). let low = c.place_above-place.ensures.below j d l under in omega (arith, low, rises, same))
          (cases_lt j c.loop-extent.place);
    }
