-- The bytes of a memory from an address on, read and written.
use Rattle.std.proofs.Common.{◌≡◌, ℕ, zero, suc, ◌+◌, ◌<◌, ◌≤◌, cond, List, [], ◌∷◌, ◌++◌, length, get_or, refl, ap, ◌∙◌, arith}
use Rattle.std.proofs.lemmas.Bool.{eq-eqb, ne_eqb}
use Rattle.rv_core.specs.Memory.{Memory, cell_with, with_byte_at}
use Rattle.guest_space.specs.Space.{bytes_from, byte_or_zero}
use Rattle.guest_space.specs.Access.{with_bytes}

pub bytes_from-add : (m : Memory) (at n k : ℕ) → bytes_from m at (n + k) ≡ bytes_from m at n ++ bytes_from m (at + n) k
unfolding bytes_from
bytes_from-add m at zero k = let e : 0 + k ≡ k = omega arith in let d : at ≡ at + 0 = omega arith in λ i. bytes_from m (d i) (e i)
bytes_from-add m at (suc n) k =
    ap (bytes_from m at) (let e : suc n + k ≡ suc (n + k) = omega arith in e)
    ∙ ap (λ rest. byte_or_zero (m at) ∷ rest) (bytes_from-add m (at + 1) n k)
    ∙ ap (λ a. byte_or_zero (m at) ∷ bytes_from m (at + 1) n ++ bytes_from m a k) (let d : at + 1 + n ≡ at + suc n = omega arith in d)

pub with_bytes-nil : (m : Memory) (at : ℕ) → with_bytes m at [] ≡ m
unfolding with_bytes
with_bytes-nil m at = refl

pub with_bytes-append : (m : Memory) (at : ℕ) (xs ys : List ℕ) → with_bytes m at (xs ++ ys) ≡ with_bytes (with_bytes m at xs) (at + length xs) ys
unfolding with_bytes
with_bytes-append m at [] ys = ap (λ a. with_bytes m a ys) (let d : at ≡ at + 0 = omega arith in d)
with_bytes-append m at (x ∷ xs) ys =
    with_bytes-append (with_byte_at m at x) (at + 1) xs ys
    ∙ ap (λ a. with_bytes (with_bytes (with_byte_at m at x) (at + 1) xs) a ys) (let d : at + 1 + length xs ≡ at + suc (length xs) = omega arith in d)

pub with_byte_at_here : (m : Memory) (at byte a : ℕ) → a ≡ at → with_byte_at m at byte a ≡ cell_with (m a) byte
with_byte_at_here m at byte a e = ap (λ b. cond b (cell_with (m a) byte) (m a)) (eq-eqb a at e)

pub with_byte_at_there : (m : Memory) (at byte a : ℕ) → (a ≡ at → ⊥) → with_byte_at m at byte a ≡ m a
with_byte_at_there m at byte a ne = ap (λ b. cond b (cell_with (m a) byte) (m a)) (ne_eqb a at ne)

-- outside the bytes that are written
pub with_bytes_before : (m : Memory) (at : ℕ) (bytes : List ℕ) (a : ℕ) → a < at → with_bytes m at bytes a ≡ m a
unfolding with_bytes
with_bytes_before m at [] a h = refl
with_bytes_before m at (x ∷ xs) a h = with_bytes_before (with_byte_at m at x) (at + 1) xs a (omega arith) ∙ with_byte_at_there m at x a (λ e. omega arith)

pub with_bytes_past : (m : Memory) (at : ℕ) (bytes : List ℕ) (a : ℕ) → at + length bytes ≤ a → with_bytes m at bytes a ≡ m a
unfolding with_bytes
with_bytes_past m at [] a h = refl
with_bytes_past m at (x ∷ xs) a h = with_bytes_past (with_byte_at m at x) (at + 1) xs a (omega arith) ∙ with_byte_at_there m at x a (λ e. omega arith)

-- one of the bytes that are written
pub with_bytes_within : (m : Memory) (at : ℕ) (bytes : List ℕ) (k : ℕ) → k < length bytes → with_bytes m at bytes (at + k) ≡ cell_with (m (at + k)) (get_or bytes k 0)
unfolding with_bytes
with_bytes_within m at [] k h = absurd (omega arith)
with_bytes_within m at (x ∷ xs) zero h = with_bytes_before (with_byte_at m at x) (at + 1) xs (at + 0) (omega arith) ∙ with_byte_at_here m at x (at + 0) (omega arith)
with_bytes_within m at (x ∷ xs) (suc k) h =
    ap (with_bytes (with_byte_at m at x) (at + 1) xs) (let d : at + suc k ≡ at + 1 + k = omega arith in d)
    ∙ with_bytes_within (with_byte_at m at x) (at + 1) xs k (omega arith)
    ∙ ap (λ c. cell_with c (get_or xs k 0)) (with_byte_at_there m at x (at + 1 + k) (λ e. omega arith))
    ∙ ap (λ a. cell_with (m a) (get_or xs k 0)) (let d : at + 1 + k ≡ at + suc k = omega arith in d)
