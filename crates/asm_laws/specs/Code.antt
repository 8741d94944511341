-- Code in memory.
use Rattle.std.specs.Prelude.{◌≡◌, ℕ, ◌+◌, ◌%◌, ◌^◌, List, [], ◌∷◌}
use Rattle.std.specs.declared.option.Option.TheVariants.{Some}
use Rattle.rv_core.specs.Memory.{Memory, byte_at}

-- The bytes stand one after another from an address on, with the right to run (4).
abbrev pub HoldsCode : Memory → ℕ → List ℕ → Type 0
HoldsCode m at [] = Unit {0}
HoldsCode m at (byte ∷ bytes) = (byte_at m 4 at ≡ Some byte) × HoldsCode m ((at + 1) % 2 ^ 64) bytes
