use Rattle.std.proofs.Common.{rules}
use Rattle.file_commands.proofs.Fetching.{large_is_longer}
use Rattle.bascule_top.specs.Assembly.{LONGEST_TEXT}
use Rattle.bascule_top.proofs.assembly.assemble_file.Goals as goal

pub returns-in-Large-clause-says : goal.returns-in-Large-clause-says
returns-in-Large-clause-says g c = (
  search rules,
  search rules,
  λ files told. large_is_longer LONGEST_TEXT c.args.text.now files c.in_ok-source.field-0 c.in-Large.field-0 c.in-Large.is (c.in_ok-source.ensures.found files told),
)
