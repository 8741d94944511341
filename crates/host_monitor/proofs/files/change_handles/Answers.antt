use Rattle.std.proofs.Common.{◌≡◌, false, rules, sym, subst}
use Rattle.abi_calls.specs.Abi.{is_outside}
use Rattle.host_objects.specs.Objects.{objects_of}
use Rattle.host_monitor.specs.Counted.{CountsUsers, IsUsedIn, file_of_call, users_without}
use Rattle.host_monitor.proofs.Counting.{IsUsedIn-counted, CountsUsers-on_handle, CountsUsers-uncounted}
use Rattle.host_monitor.proofs.Rows.{row_answered}
use Rattle.host_monitor.proofs.files.change_handles.Goals as goal

pub uncount_user-requires : goal.uncount_user-requires
uncount_user-requires g c = record {
  used = subst (λ o. IsUsedIn (file_of_call o c.args.call.now) (g.W.Edges.users c.count_user.new.outside)) (sym c.in-Err.ensures.same)
      (IsUsedIn-counted (objects_of c.args.objects.now) (g.W.Edges.users c.args.outside.now) (g.W.Edges.users c.count_user.new.outside) c.args.call.now c.requires.on_handle c.in-Err.ensures.memory c.in_ok-count_user.ensures.users);
}

-- The call reaches nothing of the outside, so its contents stay.
pub returns-in-Ok-clause-row : goal.returns-in-Ok-clause-row
returns-in-Ok-clause-row g c =
    let inside : is_outside (objects_of c.args.objects.now) c.args.call.now ≡ false = search rules in
    row_answered c.in-Ok.ensures.row inside c.count_user.ensures.told

pub returns-in-Ok-clause-counted : goal.returns-in-Ok-clause-counted
returns-in-Ok-clause-counted g c = CountsUsers-on_handle c.requires.on_handle c.requires.counted c.in-Ok.ensures.row c.in_ok-count_user.ensures.users

pub returns-in-Err-clause-counted : goal.returns-in-Err-clause-counted
returns-in-Err-clause-counted g c =
    let after = g.W.Edges.users c.uncount_user.new.outside in
    subst (λ o. CountsUsers o after) (sym c.in-Err.ensures.same)
    (CountsUsers-uncounted c.args.call.now c.requires.on_handle c.in-Err.ensures.memory c.requires.counted c.in_ok-count_user.ensures.users
    (subst (λ o. after ≡ users_without (file_of_call o c.args.call.now) (g.W.Edges.users c.count_user.new.outside)) c.in-Err.ensures.same c.uncount_user.ensures.users))
