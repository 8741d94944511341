use Rattle.std.proofs.Common.{refl, ap, ◌∙◌, arith, rules}
use Rattle.std.specs.Prelude.{[], option_map}
use Rattle.bas_edge.specs.Files.{with_file}
use Rattle.host_files.proofs.Followed.{follows_refused, opens_missing, opens_new, opens_taken, opens_there}
use Rattle.host_files.proofs.rows.open_file.Goals as goal

pub returns-in-Some-clause-row : goal.returns-in-Some-clause-row
returns-in-Some-clause-row g c = follows_refused _ c.in-Some.ensures.refused refl

pub returns-then-not-create-clause-row : goal.returns-then-not-create-clause-row
returns-then-not-create-clause-row g c =
    opens_missing _ _ c.in_default.ensures.fine c.in_ok-length.ensures.found c.in_default-2.is (search rules) c.in_ok-length.ensures.same

pub returns-in_default-2-clause-row : goal.returns-in_default-2-clause-row
returns-in_default-2-clause-row g c =
    opens_new _ _ c.in_default.ensures.fine c.in_ok-length.ensures.found c.in_default-2.is (search rules)
    (c.in_ok-create.ensures.created ∙ ap (option_map (with_file c.args.name.now [])) c.in_ok-length.ensures.same)

pub returns-then-exclusive-clause-row : goal.returns-then-exclusive-clause-row
returns-then-exclusive-clause-row g c =
    opens_taken _ _ c.in_default.ensures.fine c.in_ok-length.ensures.found c.in-Some-2.is (search rules) c.in_ok-length.ensures.same

pub returns-clause-row : goal.returns-clause-row
returns-clause-row g c =
    opens_there _ _ c.in_default.ensures.fine c.in_ok-length.ensures.found c.in-Some-2.is (grind (arith, c.else-create.either)) c.in_ok-length.ensures.same
