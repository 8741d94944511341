-- The entry of the layout is the program's.
use Rattle.libos_program.proofs.Layouts.{entry_in_layout}
use Rattle.libos_program.proofs.program.entry_of.Goals as goal

pub returns : goal.returns
returns c = entry_in_layout c.args.file.now c.in_ok-layout.layout c.in_ok-layout.ensures
