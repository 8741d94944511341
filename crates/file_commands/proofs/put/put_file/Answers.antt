use Rattle.std.proofs.Common.{refl}
use Rattle.file_commands.proofs.Fetching.{large_is_longer}
use Rattle.file_commands.proofs.put.put_file.Goals as goal

pub returns-in-Large-clause-says : goal.returns-in-Large-clause-says
returns-in-Large-clause-says g c = (λ files told. large_is_longer 16777216 c.args.file.now files c.in_ok-bytes.field-0 c.in-Large.field-0 c.in-Large.is (c.in_ok-bytes.ensures.found files told), refl)
