-- Bounds on numbers of several bytes.
use Rattle.std.proofs.Common.{◌≡◌, ℕ, zero, suc, ◌+◌, ◌-◌, ◌*◌, ◌^◌, ◌<◌, ◌≤◌, subst, arith}
use Rattle.std.proofs.Math.Nat.{pow-suc, pow-le-pow_right}

-- a number of n bytes, by its lowest byte and the others
pub low_and_high_fit : (low high n : ℕ) → 0 < n → low < 256 → high < 256 ^ (n - 1) → low + high * 256 < 256 ^ n
low_and_high_fit low high zero some l h = absurd (omega arith)
low_and_high_fit low high (suc n) some l h =
    let e : suc n - 1 ≡ n = omega arith in
    let below : high < 256 ^ n = subst (λ k. high < 256 ^ k) e h in
    let power = pow-suc 256 n in
    omega arith

-- up to eight bytes fit 64 bits
pub pow_256_le : (n : ℕ) → n ≤ 8 → 256 ^ n ≤ 2 ^ 64
pow_256_le n h = pow-le-pow_right {n = 256} (omega arith) h

pub low_and_high_fit_64 : (low high n : ℕ) → 0 < n → n ≤ 8 → low < 256 → high < 256 ^ (n - 1) → low + high * 256 < 2 ^ 64
low_and_high_fit_64 low high n some few l h = let small = low_and_high_fit low high n some l h in let power = pow_256_le n few in omega arith
