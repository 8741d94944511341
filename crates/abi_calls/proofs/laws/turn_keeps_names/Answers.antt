use Rattle.abi_calls.proofs.RenamedTurns.{world_turn-renamed}
use Rattle.abi_calls.proofs.laws.turn_keeps_names.Goals as goal

pub returns : goal.returns
returns c = λ names o. world_turn-renamed names o
