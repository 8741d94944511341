use Rattle.std.proofs.Common.{sym, ap, ◌∙◌}
use Rattle.std.specs.Option.{option_copied}
use Rattle.host_monitor.proofs.Counting.{has_user}
use Rattle.host_monitor.proofs.Rows.{file_answered, file_left}
use Rattle.host_monitor.proofs.serve.answer.Goals as goal

pub call_file-requires-clause-user : goal.call_file-requires-clause-user
call_file-requires-clause-user g c = has_user c.args.call.now c.requires.counted (sym c.file_of.ensures ∙ ap option_copied c.in-Some.is)

pub returns-in-Some-clause-row : goal.returns-in-Some-clause-row
returns-in-Some-clause-row g c =
    file_answered (g.W.Edges.told c.args.outside.now) (g.W.Edges.told c.call_file.new.self) (g.W.Edges.users c.args.outside.now) c.args.call.now c.in-Some.name.now c.call_file.result c.requires.counted (sym c.file_of.ensures ∙ ap option_copied c.in-Some.is) c.requires.keeps
    c.call_file.ensures.rest c.call_file.ensures.row

pub returns-in-Some-clause-left : goal.returns-in-Some-clause-left
returns-in-Some-clause-left g c =
    file_left (g.W.Edges.told c.args.outside.now) (g.W.Edges.told c.call_file.new.self) (g.W.Edges.users c.args.outside.now) c.args.call.now c.in-Some.name.now c.call_file.result c.requires.counted (sym c.file_of.ensures ∙ ap option_copied c.in-Some.is) c.requires.keeps
    c.call_file.ensures.rest c.call_file.ensures.row c.call_file.ensures.same_files
