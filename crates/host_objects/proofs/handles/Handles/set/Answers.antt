use Rattle.std.proofs.Common.{sym, subst, IsSome}
use Rattle.std.specs.FinMap as map
use Rattle.std.specs.Ordering.{nat_cmp}
use Rattle.host_objects.proofs.Tied.{ties_set}
use Rattle.host_objects.proofs.handles.Handles.set.Goals as goal

pub invariant_of-self : goal.invariant_of-self
invariant_of-self g c = ties_set _ _ _ c.args.number c.args.value c.self.invariant (subst (λ m. IsSome (map.get {R = nat_cmp} m c.args.number)) (sym c.self.view_is) c.requires) c.set.ensures
