use Rattle.std.proofs.Common.{refl}
use Rattle.abi_calls.proofs.laws.rules_of_a_host.Goals as goal

pub returns : goal.returns
returns c = λ o o' x y call reply. (λ through. through.below, λ abi. record { rules = refl; below = abi })
