-- The end of the layout is the program's.
use Rattle.libos_program.proofs.Layouts.{end_in_layout}
use Rattle.libos_program.proofs.program.end_of.Goals as goal

pub returns : goal.returns
returns c = end_in_layout c.args.file.now c.in_ok-layout.layout c.in_ok-layout.ensures
