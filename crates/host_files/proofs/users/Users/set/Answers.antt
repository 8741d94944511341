use Rattle.host_files.proofs.Counts.{set_under}
use Rattle.host_files.proofs.users.Users.set.Goals as goal

-- The name is put in as a copy.
pub returns-clause-ok : goal.returns-clause-ok
returns-clause-ok c =
    set_under c.self.inside.counts c.insert.new.self c.args.self.now c.args.name.now c.in_ok-name.name.items c.args.count
    c.self.view_is c.in_ok-name.ensures.items c.in_ok-insert.ensures.updates
