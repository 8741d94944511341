use Rattle.std.proofs.Common.{refl, ap, ◌∙◌}
use Rattle.std.specs.Prelude.{option_map}
use Rattle.bas_edge.specs.Files.{without_file}
use Rattle.host_files.proofs.Followed.{follows_refused, deletes_missing, deletes_busy, deletes_there}
use Rattle.host_files.proofs.rows.delete_file.Goals as goal

pub returns-in-Some-clause-row : goal.returns-in-Some-clause-row
returns-in-Some-clause-row g c = follows_refused _ c.in-Some.ensures.refused refl

pub returns-in_default-2-clause-row : goal.returns-in_default-2-clause-row
returns-in_default-2-clause-row g c = deletes_missing _ c.in_default.ensures.fine c.in_ok-length.ensures.found c.in_default-2.is c.in_ok-length.ensures.same

pub returns-then-in_use-clause-row : goal.returns-then-in_use-clause-row
returns-then-in_use-clause-row g c = deletes_busy _ c.in_default.ensures.fine c.in_ok-length.ensures.found c.in-Some-2.is c.if-in_use.true c.in_ok-length.ensures.same

pub returns-clause-row : goal.returns-clause-row
returns-clause-row g c =
    deletes_there _ c.in_default.ensures.fine c.in_ok-length.ensures.found c.in-Some-2.is c.if-in_use.false
    (c.in_ok-remove.ensures.removed ∙ ap (option_map (without_file c.args.name.now)) c.in_ok-length.ensures.same)
