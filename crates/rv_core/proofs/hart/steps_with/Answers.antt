use Rattle.std.proofs.Common.{◌∙◌, arith}
use Rattle.rv_core.proofs.Runs.{instructions-goes}
use Rattle.rv_core.proofs.hart.steps_with.Goals as goal

pub loop-step-preserved : goal.loop-step-preserved
loop-step-preserved g c = record {
  zero = c.in_default.ensures.zero;
  left = instructions-goes c.args.n c.loop-step._step _ _ _ _ (omega arith) c.in_default.ensures.outcome ∙ c.loop-step.invariant.left;
}
