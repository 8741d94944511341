-- Without the descriptor, no other one names the description.
use Rattle.std.specs.Prelude.{not}
use Rattle.std.proofs.Common.{ap, ◌∙◌}
use Rattle.libos_files.proofs.Closings.{described_without}
use Rattle.libos_files.proofs.closing.is_last.Goals as goal

pub returns : goal.returns
returns c = ap not (c.is_named_besides.ensures ∙ described_without c.args.os.now c.args.pid c.args.fd c.args.id)
