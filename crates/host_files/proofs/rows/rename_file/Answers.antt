use Rattle.std.proofs.Common.{refl, sym, ap, ◌∙◌}
use Rattle.std.specs.Prelude.{option_map}
use Rattle.std.proofs.lemmas.Slice.Eq.{bytes_eq-Decides}
use Rattle.bas_edge.specs.Files.{with_renamed}
use Rattle.host_files.proofs.Followed.{follows_refused, renames_refused, renames_missing, renames_busy, renames_same, renames_there}
use Rattle.host_files.proofs.rows.rename_file.Goals as goal

pub returns-in-Some-clause-row : goal.returns-in-Some-clause-row
returns-in-Some-clause-row g c = follows_refused _ c.in-Some.ensures.refused refl

pub returns-in-Some-refusal_of-clause-row : goal.returns-in-Some-refusal_of-clause-row
returns-in-Some-refusal_of-clause-row g c = renames_refused _ c.in_default.ensures.fine c.in-Some-refusal_of.ensures.refused refl

pub returns-in_default-2-clause-row : goal.returns-in_default-2-clause-row
returns-in_default-2-clause-row g c =
    renames_missing _ c.in_default.ensures.fine c.in_default-refusal_of.ensures.fine c.in_ok-length.ensures.found c.in_default-2.is c.in_ok-length.ensures.same

pub returns-then-in_use-clause-row : goal.returns-then-in_use-clause-row
returns-then-in_use-clause-row g c =
    renames_busy _ c.in_default.ensures.fine c.in_default-refusal_of.ensures.fine c.in_ok-length.ensures.found c.in-Some-2.is c.if-in_use.true c.in_ok-length.ensures.same

pub returns-then-eq-clause-row : goal.returns-then-eq-clause-row
returns-then-eq-clause-row g c =
    renames_same _ c.in_default.ensures.fine c.in_default-refusal_of.ensures.fine c.in_ok-length.ensures.found c.in-Some-2.is c.if-in_use.false
    ((bytes_eq-Decides _ _).0 (sym c.eq.ensures ∙ c.if-eq.true)) c.in_ok-length.ensures.same

pub returns-clause-row : goal.returns-clause-row
returns-clause-row g c =
    renames_there _ c.in_default.ensures.fine c.in_default-refusal_of.ensures.fine c.in_ok-length.ensures.found c.in-Some-2.is c.if-in_use.false
    (c.in_ok-rename.ensures.renamed ∙ ap (option_map (with_renamed c.args.from.now c.args.to.now)) c.in_ok-length.ensures.same)
