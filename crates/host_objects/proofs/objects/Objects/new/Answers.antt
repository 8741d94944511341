use Rattle.std.proofs.Common.{refl, sym, subst}
use Rattle.abi_calls.specs.Sound.{IsSound}
use Rattle.abi_calls.proofs.SoundChanges.{IsSound-no_objects}
use Rattle.host_objects.specs.Objects.{untouched}
use Rattle.host_objects.proofs.objects.Objects.new.Goals as goal

pub invariant_of-result : goal.invariant_of-result
invariant_of-result g c = record { sound = subst IsSound (sym c.new.ensures) (IsSound-no_objects untouched refl refl refl) }
