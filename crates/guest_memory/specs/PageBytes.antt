-- Bytes in a page, and numbers in its bytes, the lowest byte first.
use Rattle.std.specs.Prelude.{ℕ, zero, suc, ◌+◌, ◌*◌, ◌%◌, ◌/◌, List, slice_index, slice_set, take, drop, length, ◌++◌}

-- The number of n bytes from a place on.
abbrev pub bytes_number : List ℕ → ℕ → ℕ → ℕ
bytes_number bytes at zero = 0
bytes_number bytes at (suc n) = slice_index bytes at + bytes_number bytes (at + 1) n * 256

-- The bytes with the low n bytes of a number from a place on.
abbrev pub with_number : List ℕ → ℕ → ℕ → ℕ → List ℕ
with_number bytes at zero value = bytes
with_number bytes at (suc n) value =
    with_number (slice_set bytes at (value % 256)) (at + 1) n (value / 256)

-- The bytes with other bytes from a place on.
abbrev pub with_part : List ℕ → ℕ → List ℕ → List ℕ
with_part bytes at part = take at bytes ++ (part ++ drop (at + length part) bytes)
