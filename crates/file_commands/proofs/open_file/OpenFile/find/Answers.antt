use Rattle.std.proofs.Common.{rules, ◌≡◌, false}
use Rattle.file_commands.proofs.Telling.{left_same}
use Rattle.file_commands.proofs.Rows.{find_changes, opened_as}
use Rattle.file_commands.proofs.open_file.OpenFile.find.Goals as goal

pub returns-in_err-stream-clause-same : goal.returns-in_err-stream-clause-same
returns-in_err-stream-clause-same g c = left_same c.in_err-stream.ensures.left (λ r. find_changes (g.H.Host.objects c.args.host.now) c.in_ok-copied.field-0 r)

pub returns-in-Handle-clause-on : goal.returns-in-Handle-clause-on
returns-in-Handle-clause-on g c = opened_as c.in_ok-name.name c.in_ok-copied.field-0 false c.in_ok-stream.field-0 c.in-Handle.stream (search rules) (search rules) c.in_ok-stream.ensures.row
