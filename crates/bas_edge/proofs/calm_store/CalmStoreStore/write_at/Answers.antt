use Rattle.std.proofs.Common.{ap, sym, ◌∙◌, refl, rules}
use Rattle.std.specs.Prelude.{Some}
use Rattle.std.specs.FinMap.{insert}
use Rattle.std.proofs.lemmas.Result.{err_from_is_err_and}
use Rattle.bas_edge.specs.Files.{overwritten}
use Rattle.bas_edge.proofs.FilesIn.{with_bytes_at-there, bytes_found, files_in-written, files_in-rewritten, missed_there}
use Rattle.bas_edge.proofs.calm_store.CalmStoreStore.write_at.Goals as goal

pub returns-in_err-overwrite-in-Some-clause-same :
    goal.returns-in_err-overwrite-in-Some-clause-same
returns-in_err-overwrite-in-Some-clause-same c =
    let p = err_from_is_err_and c.from_residual.result c.from_residual.ensures.1 in
    rw p.1 (ap Some
    (files_in-rewritten c.self.inside.files (c.get_mut.follows.lender c.overwrite.new.text) c.args.self.now c.args.name.now c.in-Some.text.now c.overwrite.new.text
    c.self.view_is (c.requires c.args.self.now refl (search rules)) (rw c.in-Some.is at c.get_mut.ensures.value) (c.get_mut.follows.holds c.overwrite.new.text) c.in_err-overwrite-in-Some.ensures.err))

pub unreachable-requires : goal.unreachable-requires
unreachable-requires c =
    missed_there c.self.inside.files c.args.self.now c.args.name.now c.self.view_is (c.requires c.args.self.now refl (search rules)) (rw c.in-None.is at c.get_mut.ensures.value)

pub returns-clause-written : goal.returns-clause-written
returns-clause-written c =
    let held = bytes_found c.self.inside.files c.args.self.now c.args.name.now c.in-Some.text.now c.self.view_is (rw c.in-Some.is at c.get_mut.ensures.value) in
    ap Some
    (files_in-written c.self.inside.files (c.get_mut.follows.lender c.overwrite.new.text) c.args.self.now c.args.name.now c.overwrite.new.text
    c.self.view_is (c.requires c.args.self.now refl (search rules)) (c.get_mut.follows.holds c.overwrite.new.text)
    ∙ ap (insert c.args.self.now c.args.name.now) (c.in_ok-overwrite-in-Some.ensures.ok ∙ ap (λ old. overwritten old c.args.at c.args.bytes.now) held)
    ∙ sym (with_bytes_at-there c.args.self.now c.args.name.now c.args.at c.args.bytes.now (c.requires c.args.self.now refl (search rules))))
