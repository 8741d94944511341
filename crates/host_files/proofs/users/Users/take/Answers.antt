use Rattle.std.proofs.Common.{◌≡◌, ◌-◌, arith}
use Rattle.std.specs.Prelude.{Some, None}
use Rattle.host_files.specs.Users.{user_count}
use Rattle.host_files.proofs.Counts.{count-found, taken_last, taken_one}
use Rattle.host_files.proofs.users.Users.take.Goals as goal

pub returns-then-count-le1 : goal.returns-then-count-le1
returns-then-count-le1 c =
    taken_last c.self.inside.counts c.remove.new.self c.args.self.now c.args.name.now c.self.view_is c.remove.ensures.updates (omega (arith, c.if-count-le1.true, c.count.ensures))

pub overflow_sub-count : goal.overflow_sub-count
overflow_sub-count c =
    let found : user_count c.args.self.now c.args.name.now ≡ c.in-Some.count.now =
    count-found c.self.inside.counts c.args.self.now c.args.name.now (Some c.in-Some.count.now) c.self.view_is (rw c.in-Some.is at c.get_mut.ensures.value) in
    omega (arith, found, c.if-count-le1.false, c.count.ensures)

pub unreachable-requires : goal.unreachable-requires
unreachable-requires c =
    let found : user_count c.args.self.now c.args.name.now ≡ 0 =
    count-found c.self.inside.counts c.args.self.now c.args.name.now None c.self.view_is (rw c.in-None.is at c.get_mut.ensures.value) in
    omega (arith, found, c.if-count-le1.false, c.count.ensures)

pub returns : goal.returns
returns c =
    taken_one c.self.inside.counts (c.get_mut.follows.lender (c.in-Some.count.now - 1)) c.args.self.now c.args.name.now c.in-Some.count.now
    c.self.view_is (rw c.in-Some.is at c.get_mut.ensures.value) (c.get_mut.follows.holds (c.in-Some.count.now - 1)) (omega (arith, c.if-count-le1.false, c.count.ensures))
