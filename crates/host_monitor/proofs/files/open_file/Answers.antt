use Rattle.std.proofs.Common.{◌≡◌, false, true, Some, rules, sym, ap, ◌∙◌, subst}
use Rattle.bas_names.specs.declared.StreamName.TheVariants.{File}
use Rattle.abi_calls.specs.declared.object.Object.TheVariants.{Stream}
use Rattle.abi_calls.specs.Objects.{with_object}
use Rattle.abi_calls.specs.Failing.{Leaves}
use Rattle.host_files.specs.Users.{is_used, with_user, without_user}
use Rattle.host_objects.specs.Objects.{objects_of}
use Rattle.host_monitor.specs.Answers.IsAnswered.{By}
use Rattle.host_monitor.specs.Counted.{CountsUsers, is_done, opened_name}
use Rattle.host_monitor.proofs.FileRows.{done_is, open_answers, refusal_answers, leaves_opened, leaves_failed_open}
use Rattle.host_monitor.proofs.Counting.{users-opened, used-with_user, CountsUsers-opened, CountsUsers-released}
use Rattle.host_monitor.proofs.files.open_file.Goals as goal

pub returns-in_err-reply-clause-left : goal.returns-in_err-reply-clause-left
returns-in_err-reply-clause-left g c =
    let opens : opened_name c.args.call.now ≡ Some (File c.args.file.now) = c.requires.opens ∙ ap (λ n. Some n) c.requires.is_file in
    leaves_failed_open (g.W.Edges.users c.args.outside.now) c.args.objects.now.sound opens (rw c.as_slice.ensures at c.in_err-reply.ensures.left) c.in_err-reply.ensures.rest

pub returns-then-not-is_done-clause-row : goal.returns-then-not-is_done-clause-row
returns-then-not-is_done-clause-row g c =
    let opens : opened_name c.args.call.now ≡ Some (File c.args.file.now) = c.requires.opens ∙ ap (λ n. Some n) c.requires.is_file in
    let refused : is_done c.in_ok-reply.reply ≡ false = search rules in
    By (refusal_answers (g.W.Edges.users c.args.outside.now) opens refused (rw c.as_slice.ensures at c.in_ok-reply.ensures.row) c.in_ok-reply.ensures.rest)

pub returns-in-Ok-clause-row : goal.returns-in-Ok-clause-row
returns-in-Ok-clause-row g c =
    let opens : opened_name c.args.call.now ≡ Some (File c.args.file.now) = c.requires.opens ∙ ap (λ n. Some n) c.requires.is_file in
    let done : is_done c.in_ok-reply.reply ≡ true = search rules in
    By (open_answers (g.W.Edges.users c.args.outside.now) opens (rw (c.as_slice.ensures, done_is c.in_ok-reply.reply done) at c.in_ok-reply.ensures.row) c.in_ok-reply.ensures.rest
    c.in-Ok.ensures.fresh (c.in-Ok.ensures.added ∙ ap (λ n. with_object (objects_of c.args.objects.now) c.in-Ok.handle (Stream n)) c.requires.is_file))

pub returns-in-Ok-clause-left : goal.returns-in-Ok-clause-left
returns-in-Ok-clause-left g c =
    let opens : opened_name c.args.call.now ≡ Some (File c.args.file.now) = c.requires.opens ∙ ap (λ n. Some n) c.requires.is_file in
    let done : is_done c.in_ok-reply.reply ≡ true = search rules in
    leaves_opened (g.W.Edges.users c.args.outside.now) c.args.objects.now.sound opens (rw (c.as_slice.ensures, done_is c.in_ok-reply.reply done) at c.in_ok-reply.ensures.row) c.in_ok-reply.ensures.rest

pub returns-in-Ok-clause-counted : goal.returns-in-Ok-clause-counted
returns-in-Ok-clause-counted g c =
    let opens : opened_name c.args.call.now ≡ Some (File c.args.file.now) = c.requires.opens ∙ ap (λ n. Some n) c.requires.is_file in
    let done : is_done c.in_ok-reply.reply ≡ true = search rules in
    CountsUsers-opened c.args.file.now c.requires.counted
    (users-opened (g.W.Edges.users c.args.outside.now) (g.W.Edges.users c.call_file.new.self) c.args.call.now c.args.file.now c.in_ok-reply.reply opens done (rw c.as_slice.ensures at c.in_ok-reply.ensures.users))
    c.in-Ok.ensures.fresh (c.in-Ok.ensures.added ∙ ap (λ n. with_object (objects_of c.args.objects.now) c.in-Ok.handle (Stream n)) c.requires.is_file)

pub release-requires : goal.release-requires
release-requires g c =
    let opens : opened_name c.args.call.now ≡ Some (File c.args.file.now) = c.requires.opens ∙ ap (λ n. Some n) c.requires.is_file in
    let done : is_done c.in_ok-reply.reply ≡ true = search rules in
    let users = g.W.Edges.users c.args.outside.now in
    let more : g.W.Edges.users c.call_file.new.self ≡ with_user c.args.file.now users =
    users-opened users (g.W.Edges.users c.call_file.new.self) c.args.call.now c.args.file.now c.in_ok-reply.reply opens done (rw c.as_slice.ensures at c.in_ok-reply.ensures.users) in
    subst (λ f. is_used (g.W.Edges.users c.call_file.new.self) f ≡ true) (sym c.as_slice-in-Err.ensures) (ap (λ u. is_used u c.args.file.now) more ∙ used-with_user users c.args.file.now)

pub returns-clause-left : goal.returns-clause-left
returns-clause-left g c =
    let opens : opened_name c.args.call.now ≡ Some (File c.args.file.now) = c.requires.opens ∙ ap (λ n. Some n) c.requires.is_file in
    let done : is_done c.in_ok-reply.reply ≡ true = search rules in
    subst (Leaves (objects_of c.args.objects.now) c.args.call.now (g.W.Edges.told c.args.outside.now)) (sym c.release.ensures.told)
    (leaves_opened (g.W.Edges.users c.args.outside.now) c.args.objects.now.sound opens (rw (c.as_slice.ensures, done_is c.in_ok-reply.reply done) at c.in_ok-reply.ensures.row) c.in_ok-reply.ensures.rest)

pub returns-clause-counted : goal.returns-clause-counted
returns-clause-counted g c =
    let opens : opened_name c.args.call.now ≡ Some (File c.args.file.now) = c.requires.opens ∙ ap (λ n. Some n) c.requires.is_file in
    let done : is_done c.in_ok-reply.reply ≡ true = search rules in
    let users = g.W.Edges.users c.args.outside.now in
    let more : g.W.Edges.users c.call_file.new.self ≡ with_user c.args.file.now users =
    users-opened users (g.W.Edges.users c.call_file.new.self) c.args.call.now c.args.file.now c.in_ok-reply.reply opens done (rw c.as_slice.ensures at c.in_ok-reply.ensures.users) in
    let back : g.W.Edges.users c.release.new.outside ≡ without_user c.args.file.now (with_user c.args.file.now users) =
    c.release.ensures.users ∙ ap (λ f. without_user f (g.W.Edges.users c.call_file.new.self)) c.as_slice-in-Err.ensures ∙ ap (without_user c.args.file.now) more in
    subst (λ o. CountsUsers o (g.W.Edges.users c.release.new.outside)) (sym c.in-Err.ensures.same)
    (subst (CountsUsers (objects_of c.args.objects.now)) (sym back) (CountsUsers-released c.args.file.now c.requires.counted))
