use Rattle.elf_loader.specs.Fields.{e_phnum}
use Rattle.elf_loader.proofs.MemoryBytes.{byte_below-covered, byte_below-uncovered}
use Rattle.elf_loader.proofs.Refusals.{refusal-parts, header_refusals-each, meets-from_none}
use Rattle.elf_loader.proofs.laws.bytes_of_segments.Goals as goal

pub returns-clause-covered : goal.returns-clause-covered
returns-clause-covered c = λ file address i none within covered.
    let sound = (refusal-parts file none).1 in
    byte_below-covered file address (e_phnum file) i within
    (λ j k order below. meets-from_none file j k order (header_refusals-each file (e_phnum file) j below sound))
    covered

pub returns-clause-uncovered : goal.returns-clause-uncovered
returns-clause-uncovered c = λ file address none. byte_below-uncovered file address (e_phnum file) none
