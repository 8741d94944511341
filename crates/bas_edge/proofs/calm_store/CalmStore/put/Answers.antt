use Rattle.std.proofs.Common.{ap, ◌∙◌}
use Rattle.std.specs.FinMap.{insert}
use Rattle.bas_edge.proofs.FilesIn.{files_in-insert}
use Rattle.bas_edge.proofs.calm_store.CalmStore.put.Goals as goal

pub returns-clause-ok : goal.returns-clause-ok
returns-clause-ok c =
    files_in-insert c.args.name.items c.self.inside.files c.insert.new.self c.args.bytes c.in_ok-insert.ensures.updates
    ∙ ap (λ files. insert files c.args.name.items c.args.bytes.items) c.self.view_is
