use Rattle.std.proofs.Common.{◌≡◌, List, [], ◌∷◌, ◌++◌, sym, ap, ◌∙◌}
use Rattle.std.specs.declared.option.Option.TheVariants.{Some}
use Rattle.abi_calls.specs.declared.host.Crossing.{Crossing}
use Rattle.abi_calls.specs.Abi.{journalled}
use Rattle.abi_calls.proofs.Copies.{same_call, same_reply}
use Rattle.host_monitor.proofs.monitor.note.Goals as goal

-- The copies are equal to the call and its reply.
pub returns-in_ok-push-clause-noted : goal.returns-in_ok-push-clause-noted
returns-in_ok-push-clause-noted c =
    let call = same_call _ _ c.in_ok-clone.ensures.cases in
    let reply = same_reply _ _ c.in_ok-clone-2.ensures.cases in
    let crossing : Crossing = record { turns = c.args.turns; call = c.args.call.now; reply = c.args.reply.now } in
    let longer : c.push.new.self ≡ c.in-Some.crossings ++ crossing ∷ [] =
    c.in_ok-push.ensures.ok ∙ (λ i. c.in-Some.crossings ++ record { turns = c.args.turns; call = call i; reply = reply i } ∷ []) in
    ap {A = List Crossing} (λ crossings. Some crossings) longer ∙ sym (ap (λ j. journalled j crossing) c.in-Some.is)
