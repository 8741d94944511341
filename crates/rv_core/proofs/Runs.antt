-- Runs of several instructions, one after another.
use Rattle.std.proofs.Common.{◌≡◌, ℕ, ◌+◌, ◌-◌, ◌<◌, suc, ap, ◌∙◌, sym, arith}
use Rattle.rv_core.specs.declared.context.Context.{Context}
use Rattle.rv_core.specs.Memory.{Memory}
use Rattle.rv_core.specs.Machine.{Goes, go_on, instruction, instructions}

-- A run that has an instruction left, and does it without a trap.
pub instructions-goes : (n k : ℕ) (cx cx' : Context) (m m' : Memory) → k < n → instruction cx m ≡ Goes cx' m' → instructions (n - (k + 1)) cx' m' ≡ instructions (n - k) cx m
unfolding instructions
instructions-goes n k cx cx' m m' below goes =
    let left : n - k ≡ suc (n - (k + 1)) = omega arith in
    sym (ap (λ j. instructions j cx m) left ∙ ap (go_on (instructions (n - (k + 1))) cx m) goes)
