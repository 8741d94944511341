-- The law of what begins on a trap.
use Rattle.std.proofs.Common.{◌≡◌, sym, subst}
use Rattle.std.proofs.lemmas.Result.{on_ok_weaker}
use Rattle.libos_state.specs.declared.state.LibOs.{LibOs}
use Rattle.libos_state.specs.Laws.{EntersTurn}
use Rattle.libos_state.specs.Entered.{entered}
use Rattle.libos_state.proofs.Entering.{entered_turn}
use Rattle.libos_calls.proofs.entered.enter.Goals as goal

pub returns-clause-turn : goal.returns-clause-turn
returns-clause-turn c =
    let old = c.args.os.now in
    let upcall = c.args.upcall.now in
    let turns = λ (is : c.enter_trap.new.os ≡ entered old upcall). subst (λ (os : LibOs). EntersTurn old upcall os) (sym is) (entered_turn old upcall) in
    on_ok_weaker _ turns c.enter_trap.ensures
