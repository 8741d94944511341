use Rattle.std.proofs.Common.{◌≡◌, Ok, map, ap, sym, subst, ◌∙◌}
use Rattle.elf_loader.specs.Image.{run_of, with_bytes, without_bytes, IsImage, FitsProcess, AreWhole}
use Rattle.elf_loader.proofs.ImageLaws.{loaded-accepted, layout_of-laid_out, without_bytes-with_bytes, program_of-made, IsImage-with_bytes, AreWhole-with_bytes}
use Rattle.elf_loader.specs.Steps.{PagesRise}
use Rattle.elf_loader.proofs.ExtentLists.{PagesRise-maximal}
use Rattle.elf_loader.proofs.load.Goals as goal

pub runs-requires-clause-rising : goal.runs-requires-clause-rising
runs-requires-clause-rising c =
    subst (λ extents. PagesRise extents) (sym c.as_slice.ensures) (PagesRise-maximal c.in_ok-layout.layout.runs c.in_ok-layout.ensures.fits.rising)

-- the program that is returned
module _ (c : goal.After-drop-layout-2) where
  made : with_bytes c.args.bytes.now c.in_ok-layout.layout ≡ record { entry = c.in_ok-layout.layout.entry; runs = c.in_ok-runs.runs; end = c.in_ok-layout.layout.end }
  made =
      let runs =
      ap (map (run_of c.args.bytes.now)) (sym c.as_slice.ensures)
      ∙ (ap (λ bytes. map (run_of bytes) c.as_slice.result.now) (sym c.in-Ok.ensures.0) ∙ sym c.in_ok-runs.ensures) in
      λ i. record { entry = c.in_ok-layout.layout.entry; runs = runs i; end = c.in_ok-layout.layout.end }

pub returns-clause-exact : goal.returns-clause-exact
returns-clause-exact c =
    let file = c.args.bytes.now in
    let layout = c.in_ok-layout.layout in
    let accepted = c.in_ok-layout.ensures.accepted in
    loaded-accepted file accepted
    ∙ ap (λ program. Ok program) (program_of-made file layout (layout_of-laid_out file layout accepted c.in_ok-layout.ensures.exact) ∙ made c)

pub returns-clause-image : goal.returns-clause-image
returns-clause-image c =
    subst (λ program. IsImage c.args.bytes.now program) (made c) (IsImage-with_bytes c.args.bytes.now c.in_ok-layout.layout c.in_ok-layout.ensures.layout)

pub returns-clause-fits : goal.returns-clause-fits
returns-clause-fits c =
    subst (λ program. FitsProcess (without_bytes program)) (made c)
    (subst (λ layout. FitsProcess layout) (sym (without_bytes-with_bytes c.args.bytes.now c.in_ok-layout.layout)) c.in_ok-layout.ensures.fits)

pub returns-clause-whole : goal.returns-clause-whole
returns-clause-whole c = subst (λ program. AreWhole program.runs) (made c) (AreWhole-with_bytes c.args.bytes.now c.in_ok-layout.layout)
