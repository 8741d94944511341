use Rattle.std.proofs.Common.{ap, ◌∙◌}
use Rattle.std.specs.FinMap.{remove}
use Rattle.bas_edge.proofs.FilesIn.{bytes_found, files_in-remove, missed_there}
use Rattle.bas_edge.proofs.calm_store.CalmStore.take.Goals as goal

pub unreachable-requires : goal.unreachable-requires
unreachable-requires c =
    missed_there c.self.inside.files c.args.self.now c.args.name.now c.self.view_is c.requires (rw c.in-None.is at c.remove.ensures.value)

pub returns-clause-bytes : goal.returns-clause-bytes
returns-clause-bytes c =
    bytes_found c.self.inside.files c.args.self.now c.args.name.now c.in-Some.bytes c.self.view_is (rw c.in-Some.is at c.remove.ensures.value)

pub returns-clause-rest : goal.returns-clause-rest
returns-clause-rest c =
    files_in-remove c.args.name.now c.self.inside.files c.remove.new.self c.remove.ensures.updates
    ∙ ap (λ files. remove files c.args.name.now) c.self.view_is
