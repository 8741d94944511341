use Rattle.std.proofs.Common.{rules, ◌≡◌, true}
use Rattle.file_commands.proofs.Telling.{told_left, on_err}
use Rattle.file_commands.proofs.Rows.{make_changes, opened_as}
use Rattle.file_commands.proofs.open_file.OpenFile.make.Goals as goal

pub returns-in_err-stream-clause-left : goal.returns-in_err-stream-clause-left
returns-in_err-stream-clause-left g c =
    let same : c.in_ok-copied.field-0 ≡ c.args.name.now = search rules in
    on_err _ _ (told_left _ c.in_err-stream.ensures.left (λ r. make_changes (g.H.Host.objects c.args.host.now) c.args.name.now c.in_ok-copied.field-0 r same c.requires.named))

pub returns-clause-on : goal.returns-clause-on
returns-clause-on g c = opened_as c.in_ok-name.name c.in_ok-copied.field-0 true c.in_ok-stream.field-0 c.in-Handle.stream (search rules) (search rules) c.in_ok-stream.ensures.row
