-- Numbers in two's complement: reading and spelling invert each other.
use Rattle.std.proofs.Common.{◌≡◌, ℕ, ◌*◌, ◌<◌, true, refl, arith, ℤ, pos, negsuc}
use Rattle.std.proofs.lemmas.Bool.Decides.{nat_tests}
use Rattle.std.proofs.lemmas.Int.{ints}
use Rattle.rv_core.specs.Listing.{signed_by}
use Rattle.rv_core.specs.Encoding.{unsigned_by, is_signed_by, is_below}

pub unsigned_by-bound : (half : ℕ) (z : ℤ) → is_signed_by half z ≡ true → unsigned_by half z < 2 * half
unsigned_by-bound half (pos n) h = grind (arith, nat_tests)
unsigned_by-bound half (negsuc n) h = grind (arith, nat_tests)

pub signed_by-unsigned_by : (half : ℕ) (z : ℤ) → is_signed_by half z ≡ true → signed_by half (unsigned_by half z) ≡ z
signed_by-unsigned_by half (pos n) h = grind (arith, nat_tests)
signed_by-unsigned_by half (negsuc n) h = grind (arith, nat_tests)

pub unsigned_by-signed_by : (half n : ℕ) → n < 2 * half → unsigned_by half (signed_by half n) ≡ n
unsigned_by-signed_by half n h = grind (arith, nat_tests, ints)

pub is_signed_by-signed_by : (half n : ℕ) → n < 2 * half → is_signed_by half (signed_by half n) ≡ true
is_signed_by-signed_by half n h = grind (arith, nat_tests, ints)

pub is_below-bound : (bound half : ℕ) (z : ℤ) → is_below bound z ≡ true → unsigned_by half z < bound
is_below-bound bound half (pos n) h = grind (arith, nat_tests)
is_below-bound bound half (negsuc n) h = cc

pub pos-unsigned_by : (bound half : ℕ) (z : ℤ) → is_below bound z ≡ true → pos (unsigned_by half z) ≡ z
pos-unsigned_by bound half (pos n) h = refl
pos-unsigned_by bound half (negsuc n) h = cc
