use Rattle.elf_loader.proofs.ImageLaws.{IsImage-program_of, IsLayout-layout_of, layout_of-only, FitsProcess-accepted, without_bytes-program_of}
use Rattle.elf_loader.proofs.laws.one_image.Goals as goal

pub returns-clause-image : goal.returns-clause-image
returns-clause-image c = IsImage-program_of

pub returns-clause-layout : goal.returns-clause-layout
returns-clause-layout c = IsLayout-layout_of

pub returns-clause-only : goal.returns-clause-only
returns-clause-only c = layout_of-only

pub returns-clause-same : goal.returns-clause-same
returns-clause-same c = without_bytes-program_of

pub returns-clause-fits : goal.returns-clause-fits
returns-clause-fits c = FitsProcess-accepted
