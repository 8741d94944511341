-- Reads and writes of several bytes, which need a right at each of them.
use Rattle.std.specs.Prelude.{ℕ, ◌+◌, ◌==◌, if◌then◌else◌, bit_and, List, [], ◌∷◌}
use Rattle.std.specs.declared.option.Option.{Option}
use Rattle.std.specs.declared.option.Option.TheVariants.{None, Some}
use Rattle.rv_core.specs.Memory.{Memory, Cell, with_byte_at}
use Rattle.guest_space.specs.First.{first_some}

-- Why a byte can't be accessed: it isn't there, or it is there without the right.
pub data AccessFault : Type 0 where
  Missing : AccessFault
  Forbidden : AccessFault

abbrev pub fault_of_cell : ℕ → Option Cell → Option AccessFault
fault_of_cell right None = Some Missing
fault_of_cell right (Some cell) =
    if bit_and cell.rights right == right then None else Some Forbidden

-- Of n bytes from an address on, why the first that can't be accessed can't. No bytes can always be
-- accessed.
abbrev pub first_fault : Memory → ℕ → ℕ → ℕ → Option AccessFault
first_fault m right at n = first_some (λ a. fault_of_cell right (m a)) at n

-- The memory with other bytes from an address on, where bytes are there.
unfoldable pub with_bytes : Memory → ℕ → List ℕ → Memory
with_bytes m at [] = m
with_bytes m at (byte ∷ bytes) = with_bytes (with_byte_at m at byte) (at + 1) bytes
