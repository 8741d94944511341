use Rattle.bas_edge.proofs.FilesIn.{files_in-written, missed_there}
use Rattle.bas_edge.proofs.calm_store.CalmStore.set.Goals as goal

pub returns : goal.returns
returns c =
    files_in-written c.self.inside.files (c.get_mut.follows.lender c.args.bytes) c.args.self.now c.args.name.now c.args.bytes c.self.view_is c.requires (c.get_mut.follows.holds c.args.bytes)

pub unreachable-requires : goal.unreachable-requires
unreachable-requires c =
    missed_there c.self.inside.files c.args.self.now c.args.name.now c.self.view_is c.requires (rw c.in-None.is at c.get_mut.ensures.value)
