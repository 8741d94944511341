use Rattle.file_commands.proofs.Telling.{left_same}
use Rattle.file_commands.proofs.Rows.{length_changes}
use Rattle.file_commands.proofs.open_file.OpenFile.length.Goals as goal

pub returns-in_err-length-clause-same : goal.returns-in_err-length-clause-same
returns-in_err-length-clause-same g c = left_same c.in_err-length.ensures.left (λ r. length_changes _ c.args.self.now.name _ r c.requires.on)
