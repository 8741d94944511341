use Rattle.std.proofs.Common.{◌<◌, ◌^◌, arith}
use Rattle.std.proofs.lemmas.List.Elements.{All-from_get_or}
use Rattle.host_objects.proofs.memory.is_within_limit.Goals as goal

pub returns-clause-bytes : goal.returns-clause-bytes
returns-clause-bytes c = All-from_get_or (λ byte. byte < 2 ^ 8) c.args.bytes.now 0 (λ i within. omega (arith, c.type_inv.bytes i))
