-- The 8 bytes of a number, the lowest first.
use Rattle.std.proofs.Common.{◌≡◌, ℕ, ◌^◌, ◌<◌, List, ◌++◌, take, drop, sym, ◌∙◌, ap}
use Rattle.std.proofs.lemmas.Nat.{from_le_bytes-to_le_bytes_8}
use Rattle.std.specs.Int.{from_le_bytes, to_le_bytes, w64}

pub number_and_rest : (m n : ℕ) (rest other : List ℕ) → m < 2 ^ 64 → n < 2 ^ 64
    → to_le_bytes w64 m ++ rest ≡ to_le_bytes w64 n ++ other → (m ≡ n) × (rest ≡ other)
number_and_rest m n rest other small small' e =
    let numbers : to_le_bytes w64 m ≡ to_le_bytes w64 n = ap (take 8) e in (
      sym (from_le_bytes-to_le_bytes_8 m small) ∙ (ap (from_le_bytes w64) numbers ∙ from_le_bytes-to_le_bytes_8 n small'),
      ap (drop 8) e,
    )
