use Rattle.file_commands.proofs.Telling.{told_left, on_err}
use Rattle.file_commands.proofs.Rows.{empty_changes}
use Rattle.file_commands.proofs.open_file.OpenFile.make_empty.Goals as goal

pub returns-in_err-_done-clause-left : goal.returns-in_err-_done-clause-left
returns-in_err-_done-clause-left g c = on_err _ _ (told_left _ c.in_err-_done.ensures.left (λ r. empty_changes _ c.args.self.now.name _ r c.requires.on))
