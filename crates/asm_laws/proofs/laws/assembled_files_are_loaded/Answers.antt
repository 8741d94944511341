use Rattle.asm_laws.proofs.Loaded.{loaded-file_of, loaded-empty, loaded-assembled}
use Rattle.asm_laws.proofs.laws.assembled_files_are_loaded.Goals as goal

pub returns-clause-image : goal.returns-clause-image
returns-clause-image c = loaded-file_of

pub returns-clause-empty : goal.returns-clause-empty
returns-clause-empty c = loaded-empty

pub returns-clause-text : goal.returns-clause-text
returns-clause-text c = loaded-assembled
