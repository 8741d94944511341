-- A number of a byte more is below 256 times the bound.
use Rattle.std.proofs.Common.{◌≡◌, ℕ, ◌+◌, ◌-◌, ◌*◌, ◌^◌, ◌<◌, ◌≤◌, ◌≢◌, suc, ap, ◌∙◌, arith, rules}
use Rattle.std.proofs.Math.Nat.{pow-suc, pow-le-pow_right}
use Rattle.leaf_tests.proofs.processor.Rom.+number.Goals as goal

pow_of : (size : ℕ) → size ≢ 0 → 256 ^ size ≡ 256 ^ (size - 1) * 256
pow_of size h = let e : size ≡ suc (size - 1) = omega arith in ap (λ n. 256 ^ n) e ∙ pow-suc 256 (size - 1)

within : (size low high : ℕ) → size ≤ 8 → size ≢ 0 → low < 256 → high < 256 ^ (size - 1) → low + high * 256 < 2 ^ 64
within size low high small some l h =
    let p = pow_of size some in
    let q : 256 ^ size ≤ 256 ^ 8 = pow-le-pow_right {n = 256} (omega arith) small in
    omega arith

pub overflow_mul-result : goal.overflow_mul-result
overflow_mul-result t c =
    let w = within c.args.size 0 c.in-Some-Some.high c.requires (omega arith) (omega arith) c.in-Some-Some.ensures'.bound in
    omega arith

pub overflow_add-result : goal.overflow_add-result
overflow_add-result t c =
    let low : c.in-Some-Some.low < 2 ^ 8 = search rules in
    let w = within c.args.size c.from.result c.in-Some-Some.high c.requires (omega arith) (omega arith) c.in-Some-Some.ensures'.bound in
    omega arith

pub returns-in-Some-Some-clause-bound : goal.returns-in-Some-Some-clause-bound
returns-in-Some-Some-clause-bound t c =
    let p = pow_of c.args.size (omega arith) in
    let h = c.in-Some-Some.ensures'.bound in
    let low : c.in-Some-Some.low < 2 ^ 8 = search rules in
    omega (arith, h)
