-- A command that isn't refused for its host.
use Rattle.std.proofs.Common.{◌≢◌}
use Rattle.std.specs.declared.option.Option.{Option}
use Rattle.abi_calls.specs.Fresh.{IsFreshWorld}
use Rattle.bas_outcomes.specs.declared.outcome.Outcome.{Outcome}
use Rattle.bas_outcomes.specs.declared.outcome.Outcome.TheVariants.{AlreadyUsed}
use Rattle.bascule_top.specs.Commands.{Command}
use Rattle.bascule_top.specs.States.{HostState}
use Rattle.bascule_top.specs.Carried.{IsRefused}

-- On a host that was not used another outcome came.
pub not_refused : (outcome : Outcome) (command : Option Command) (s : HostState) → outcome ≢ AlreadyUsed → IsFreshWorld s.objects s.answered → IsRefused outcome command s
not_refused outcome command s other fresh = record { uses = λ e. absurd (other e); refused = λ _ used. absurd (used fresh) }
