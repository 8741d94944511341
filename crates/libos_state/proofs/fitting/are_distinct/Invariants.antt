use Rattle.std.proofs.Common.{◌≡◌, drop}
use Rattle.libos_state.specs.Fits.{are_distinct}
use Rattle.libos_state.proofs.fitting.are_distinct.Given as goal

abbrev pub invariant-loop-place : goal.invariant-loop-place
invariant-loop-place l = are_distinct (drop l.place l.numbers) ≡ are_distinct l.numbers
