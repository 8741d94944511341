-- A service that has a call to make isn't at its end.
use Rattle.std.proofs.Common.{arith, ◌≡◌, ◌<◌, Result}
use Rattle.std.specs.Prelude.{OnErr, Ok, Err}
use Rattle.std.specs.declared.option.Option.{Option}
use Rattle.std.specs.declared.option.Option.TheVariants.{None, Some}
use Rattle.abi_calls.specs.declared.call.Call.{Call}
use Rattle.libos_state.specs.declared.cont.Cont.{Cont}
use Rattle.libos_state.specs.declared.state.LibOs.{LibOs}
use Rattle.libos_state.specs.Pending.{pending, asked_by}
use Rattle.libos_calls.specs.Left.{calls_left, left_of}

left_in_cont : (os : LibOs) (cont : Option Cont) (call : Call) → asked_by os cont ≡ Some call → 0 < left_of cont
left_in_cont os None call asks = absurd (cc)
left_in_cont os (Some c) call asks = omega arith

pub calls_left_pending : (os : LibOs) (call : Call) → pending os ≡ Some call → 0 < calls_left os
calls_left_pending os call asks = left_in_cont os os.cont call asks

-- what holds whatever the result is
pub on_err : {T E : Type 0} (r : Result T E) (P : Type 0) → P → OnErr r P
on_err (Ok x) P p = tt
on_err (Err e) P p = p
