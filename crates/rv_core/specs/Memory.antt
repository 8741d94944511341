-- Memory as the processor sees it: a map from addresses to bytes with rights
-- (RISC-V Unprivileged ISA, "Memory"). Words are little-endian, and addresses wrap modulo 2^64.
use Rattle.std.specs.Prelude.{◌≡◌, ℕ, zero, suc, ◌+◌, ◌*◌, ◌%◌, ◌/◌, ◌^◌, ◌==◌, Bool, if◌then◌else◌, bit_and, is_some, ◌⊎◌}
use Rattle.std.specs.declared.option.Option.{Option}
use Rattle.std.specs.declared.option.Option.TheVariants.{None, Some}

-- A byte, and the rights of its page: 1 read, 2 write, 4 run.
pub record Cell : Type 0 where
  pub byte : ℕ
  pub rights : ℕ

-- The byte at each address, if there is one.
abbrev pub Memory : Type 0
Memory = ℕ → Option Cell

abbrev pub byte_if : ℕ → Option Cell → Option ℕ
byte_if right None = None
byte_if right (Some cell) = if bit_and cell.rights right == right then Some cell.byte else None

-- The byte at an address, where it is there and has the right.
abbrev pub byte_at : Memory → ℕ → ℕ → Option ℕ
byte_at m right at = byte_if right (m at)

abbrev pub above : Option ℕ → Option ℕ → Option ℕ
above None rest = None
above (Some low) None = None
above (Some low) (Some high) = Some (low + high * 256)

-- The number of n bytes from an address on, the lowest byte first, where each has the right.
abbrev pub number_at : Memory → ℕ → ℕ → ℕ → Option ℕ
number_at m right at zero = Some 0
number_at m right at (suc n) = above (byte_at m right at) (number_at m right ((at + 1) % 2 ^ 64) n)

abbrev pub fetched : Memory → ℕ → Option ℕ
fetched m at = number_at m 4 at 4

abbrev pub loaded : Memory → ℕ → ℕ → Option ℕ
loaded m at size = number_at m 1 at size

abbrev pub storable : Memory → ℕ → ℕ → Bool
storable m at size = is_some (number_at m 2 at size)

abbrev pub cell_with : Option Cell → ℕ → Option Cell
cell_with None byte = None
cell_with (Some cell) byte = Some (record { byte = byte; rights = cell.rights })

-- The memory with another byte at one address, if a byte is there.
abbrev pub with_byte_at : Memory → ℕ → ℕ → Memory
with_byte_at m at byte = λ a. if a == at then cell_with (m a) byte else m a

-- The memory with the low n bytes of a number from an address on.
abbrev pub written : Memory → ℕ → ℕ → ℕ → Memory
written m at zero value = m
written m at (suc n) value =
    written (with_byte_at m at (value % 256)) ((at + 1) % 2 ^ 64) n (value / 256)

-- A store: all the bytes, or none where one isn't there or can't be written.
abbrev pub stored : Memory → ℕ → ℕ → ℕ → Memory
stored m at size value = if storable m at size then written m at size value else m

-- The sizes of an access.
abbrev pub IsSize : ℕ → Type 0
IsSize size = (size ≡ 1) ⊎ (size ≡ 2) ⊎ (size ≡ 4) ⊎ (size ≡ 8)
