use Rattle.std.proofs.Common.{rules, ◌≡◌}
use Rattle.file_commands.proofs.Telling.{told_left, told_after, on_err}
use Rattle.file_commands.proofs.Rows.{write_changes_as}
use Rattle.file_commands.proofs.open_file.OpenFile.write.Goals as goal

pub returns-in_err-_count-clause-left : goal.returns-in_err-_count-clause-left
returns-in_err-_count-clause-left g c =
    let same : c.in_ok-bytes.bytes ≡ c.args.piece.now = search rules in
    on_err _ _ (told_left _ c.in_err-_count.ensures.left (λ r. write_changes_as _ c.args.self.now.name _ _ _ _ r same c.requires.on c.requires.piece c.requires.short))

pub returns-clause-written : goal.returns-clause-written
returns-clause-written g c =
    let same : c.in_ok-bytes.bytes ≡ c.args.piece.now = search rules in
    told_after _ c.in_ok-_count.ensures.row (write_changes_as _ c.args.self.now.name _ _ _ _ c.in_ok-_count._count same c.requires.on c.requires.piece c.requires.short)
