use Rattle.std.proofs.Common.{◌≡◌, take}
use Rattle.libos_state.specs.Entered.{each_once}
use Rattle.libos_calls.proofs.process_end.each_once.Given as goal

-- the first ids, each once
abbrev pub invariant-loop-id : goal.invariant-loop-id
invariant-loop-id l = l.once ≡ each_once (take l.id-index l.ids)
