use Rattle.std.proofs.Common.{sym}
use Rattle.std.specs.Prelude.{Some, None}
use Rattle.host_files.proofs.Counts.{count-found}
use Rattle.host_files.proofs.users.Users.count.Goals as goal

pub returns-in-Some : goal.returns-in-Some
returns-in-Some c =
    sym (count-found c.self.inside.counts c.args.self.now c.args.name.now (Some c.in-Some.count.now) c.self.view_is (rw c.in-Some.is at c.get.ensures.value))

pub returns-in-None : goal.returns-in-None
returns-in-None c =
    sym (count-found c.self.inside.counts c.args.self.now c.args.name.now None c.self.view_is (rw c.in-None.is at c.get.ensures.value))
