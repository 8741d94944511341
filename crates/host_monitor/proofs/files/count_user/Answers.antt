use Rattle.std.proofs.Common.{sym, ap, ◌∙◌}
use Rattle.std.specs.Option.{option_copied}
use Rattle.host_monitor.proofs.Counting.{has_user}
use Rattle.host_monitor.proofs.files.count_user.Goals as goal

pub call_file-requires-clause-user : goal.call_file-requires-clause-user
call_file-requires-clause-user g c = has_user c.args.call.now c.requires.counted (sym c.file_of.ensures ∙ ap option_copied c.in-Some.is)
