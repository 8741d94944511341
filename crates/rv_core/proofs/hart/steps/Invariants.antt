-- What is left to do leads to where the whole run leads.
use Rattle.std.proofs.Common.{◌≡◌, ◌-◌}
use Rattle.rv_core.specs.Machine.{instructions}
use Rattle.rv_core.specs.RegisterFile.{HasZero, registers_of}
use Rattle.rv_core.proofs.hart.steps.Given as goal

abbrev pub invariant-loop-done : goal.invariant-loop-done
invariant-loop-done g l = record {
  zero : HasZero l.file;
  left : instructions (l.n - l._done) (registers_of l.file) (g.C.Cells.memory l.cells) ≡ instructions l.fn.n (registers_of l.fn.file) (g.C.Cells.memory l.fn.cells);
}
