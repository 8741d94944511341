-- The laws of what a service becomes on a reply.
use Rattle.std.specs.Prelude.{◌≡◌, ◌<◌, Result, Ok, Err, OnOk, IfSome}
use Rattle.std.proofs.Common.{sym, subst}
use Rattle.std.proofs.lemmas.Result.{on_ok_weaker}
use Rattle.libos_state.specs.declared.cont.Stage.TheVariants.{ProgramLength}
use Rattle.libos_state.specs.declared.state.LibOs.{LibOs}
use Rattle.libos_state.specs.Answered as spec
use Rattle.libos_state.specs.Laws.{KeepsMeaning}
use Rattle.libos_state.proofs.Stages.{answered_keeps}
use Rattle.libos_calls.specs.Left.{calls_left, IsLengthSmall}
use Rattle.libos_calls.proofs.Falls.{calls_left_falls}
use Rattle.libos_calls.proofs.replies.answered.Goals as goal

pub returns-clause-kept : goal.returns-clause-kept
returns-clause-kept c =
    let old = c.args.os.now in
    let reply = c.args.reply in
    let keeps = λ (is : c.take_reply.new.os ≡ spec.answered old reply). subst (λ (os : LibOs). KeepsMeaning old reply os) (sym is) (answered_keeps old reply) in
    on_ok_weaker _ keeps c.take_reply.ensures.value

on_ok_from_both : {T E P Q R : Type 0} (r : Result T E) → (P → Q → R) → OnOk r P → OnOk r Q → OnOk r R
on_ok_from_both (Ok x) f p q = f p q
on_ok_from_both (Err e) f p q = tt

pub returns-clause-nearer : goal.returns-clause-nearer
returns-clause-nearer c =
    let old = c.args.os.now in
    let reply = c.args.reply in
    let falls = λ (is : c.take_reply.new.os ≡ spec.answered old reply) (small : IfSome old.cont (λ k. k.stage ≡ ProgramLength → IsLengthSmall reply)) (some : 0 < calls_left old).
    subst (λ (os : LibOs). calls_left os < calls_left old) (sym is) (calls_left_falls old reply c.requires small some) in
    on_ok_from_both _ falls c.take_reply.ensures.value c.take_reply.ensures.small
