use Rattle.std.proofs.Common.{◌≡◌, false, IfOk, refl, ap, subst}
use Rattle.std.specs.Prelude.{unwrap_or}
use Rattle.abi_calls.specs.declared.call.Call.TheVariants.{StreamOpen}
use Rattle.abi_calls.specs.declared.object.Object.TheVariants.{Stream}
use Rattle.abi_calls.specs.Objects.{with_object}
use Rattle.abi_calls.proofs.Copies.{same_call}
use Rattle.host_objects.specs.Objects.{objects_of}
use Rattle.host_monitor.specs.Counted.{opened_name}
use Rattle.host_monitor.proofs.files.add_handle.Goals as goal

-- The copy is the name, since a copy of a call that opens it is that call.
pub returns-clause-added : goal.returns-clause-added
returns-clause-added g c =
    let name = c.args.name.now in
    let call = same_call (StreamOpen name false false) (StreamOpen c.in_ok-copy.copy false false) (c.in_ok-copy.ensures.cases, (refl, refl)) in
    let copy : c.in_ok-copy.copy ≡ name = ap (λ opens. unwrap_or (opened_name opens) name) call in
    subst (λ n. IfOk c.add_stream.result (λ handle. objects_of c.add_stream.new.self ≡ with_object (objects_of c.args.objects.now) handle (Stream n))) copy c.add_stream.ensures.added
