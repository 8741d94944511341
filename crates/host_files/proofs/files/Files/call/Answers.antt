use Rattle.std.proofs.Common.{◌≡◌, false, true, sym, subst}
use Rattle.host_files.specs.Users.{is_used}
use Rattle.host_files.specs.Rows.{is_by_name}
use Rattle.host_files.proofs.Kept.{there_after, there_left}
use Rattle.host_files.proofs.files.Files.call.Goals as goal

pub invariant_of-self : goal.invariant_of-self
invariant_of-self g c =
    there_left c.args.call.now c.args.name.now c.self.invariant c.in_err-reply.ensures.left c.in_err-reply.ensures.same_users

pub invariant_of-self-2 : goal.invariant_of-self-2
invariant_of-self-2 g c =
    let user = subst (λ it. is_by_name c.args.call.now ≡ false → is_used it.users c.args.name.now ≡ true) (sym c.self.view_is) c.requires.user in
    there_after c.args.call.now c.args.name.now c.self.invariant user c.in_ok-reply.ensures.row c.in_ok-reply.ensures.users

pub returns-clause-row : goal.returns-clause-row
returns-clause-row g c = rw (← c.self.view_is) c.in_ok-reply.ensures.row
