-- The next id is another one, or stands there already.
use Rattle.std.specs.Prelude.{slice_index}
use Rattle.std.proofs.Common.{◌∙◌, ap, sym}
use Rattle.turn_sched.specs.Lists.{contains}
use Rattle.libos_calls.proofs.Onces.{each_once-take_kept, each_once-take_pushed}
use Rattle.libos_calls.proofs.process_end.each_once.Goals as goal
use Rattle.libos_calls.proofs.process_end.each_once.Goals.{then-not-contains+in_ok-push, else-not-contains}

pub loop-id-preserved : goal.loop-id-preserved
loop-id-preserved c =
    let pushed = each_once-take_pushed c.args.ids.now c.loop-id.once c.loop-id.id-index c.loop-id-test.true c.loop-id.invariant in
    let kept = each_once-take_kept c.args.ids.now c.loop-id.once c.loop-id.id-index c.loop-id-test.true c.loop-id.invariant in
    let same = ap (λ once. contains once (slice_index c.args.ids.now c.loop-id.id-index)) c.as_slice.ensures in
    elim c.if-not-contains.branch [
      | then-not-contains+in_ok-push w ↦ w.once-is ∙ w.in_ok-push.ensures.ok ∙ pushed (sym (w.if-not-contains.ensures.value ∙ same))
      | else-not-contains w ↦ w.once-is ∙ kept (sym (w.if-not-contains.ensures.value ∙ same))
    ]
