-- The layout has as many runs as the program.
use Rattle.std.proofs.Common.{◌∙◌}
use Rattle.libos_program.proofs.Layouts.{length-runs_in_layout}
use Rattle.libos_program.proofs.program.count_of_runs.Goals as goal

pub returns : goal.returns
returns c = c.len.ensures ∙ length-runs_in_layout c.args.file.now c.in_ok-layout.layout c.in_ok-layout.ensures
