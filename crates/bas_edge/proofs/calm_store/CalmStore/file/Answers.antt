use Rattle.std.proofs.Common.{sym, ap, ◌∙◌}
use Rattle.std.specs.Prelude.{Some}
use Rattle.bas_edge.proofs.FilesIn.{get-found}
use Rattle.bas_edge.proofs.calm_store.CalmStore.file.Goals as goal

pub returns-in-Some : goal.returns-in-Some
returns-in-Some c =
    let found = get-found c.self.inside.files c.args.self.now c.args.name.now c.get.result c.self.view_is c.get.ensures.value in
    ap Some c.as_slice.ensures.value ∙ sym (rw c.in-Some.is at found)

pub returns-in-None : goal.returns-in-None
returns-in-None c =
    let found = get-found c.self.inside.files c.args.self.now c.args.name.now c.get.result c.self.view_is c.get.ensures.value in
    sym (rw c.in-None.is at found)
