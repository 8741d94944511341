use Rattle.file_commands.proofs.Telling.{left_same}
use Rattle.file_commands.proofs.Rows.{read_changes}
use Rattle.file_commands.proofs.open_file.OpenFile.read.Goals as goal

pub returns-in_err-bytes-clause-same : goal.returns-in_err-bytes-clause-same
returns-in_err-bytes-clause-same g c = left_same c.in_err-bytes.ensures.left (λ r. read_changes _ c.args.self.now.name _ _ _ r c.requires.on)
