use Rattle.std.proofs.Common.{◌∙◌, arith}
use Rattle.rv_core.proofs.Runs.{instructions-goes}
use Rattle.rv_core.proofs.hart.steps.Goals as goal

pub loop-done-preserved : goal.loop-done-preserved
loop-done-preserved g c = record {
  zero = c.in_default.ensures.zero;
  left = instructions-goes c.args.n c.loop-done._done _ _ _ _ (omega arith) c.in_default.ensures.outcome ∙ c.loop-done.invariant.left;
}
