use Rattle.elf_loader.proofs.ImageLaws.{pieces-program_of}
use Rattle.elf_loader.proofs.MemoryBytes.{bytes_at-append}
use Rattle.elf_loader.proofs.laws.pieces_of_runs.Goals as goal

pub returns-clause-piece : goal.returns-clause-piece
returns-clause-piece c = pieces-program_of

pub returns-clause-joined : goal.returns-clause-joined
returns-clause-joined c = bytes_at-append
