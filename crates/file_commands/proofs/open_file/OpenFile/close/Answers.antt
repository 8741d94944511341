use Rattle.std.proofs.Common.{refl}
use Rattle.file_commands.proofs.Telling.{left_same}
use Rattle.file_commands.proofs.open_file.OpenFile.close.Goals as goal

pub returns-in_err-_done-clause-same : goal.returns-in_err-_done-clause-same
returns-in_err-_done-clause-same g c = left_same c.in_err-_done.ensures.left (λ r x. refl)
