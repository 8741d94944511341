-- What stores keep, instructions keep: which bytes are there, and with which rights.
use Rattle.std.proofs.Common.{◌≡◌, ℕ, zero, suc, ◌+◌, ◌/◌, ◌%◌, ◌^◌, ◌==◌, Bool, true, false, cond, refl, ◌∙◌, Option, Some, None}
use Rattle.std.specs.Option.{option_map}
use Rattle.std.specs.Int.{cast_unsigned, w64}
use Rattle.rv_core.specs.declared.context.Context.{Context}
use Rattle.rv_core.specs.declared.instr.Instr.{Instr}
use Rattle.rv_core.specs.declared.rows.Effect.{Effect}
use Rattle.rv_core.specs.declared.rows.Effect.TheVariants.{Sets, Jumps, Branches, Loads, Stores, Nothing, Traps}
use Rattle.rv_core.specs.Memory.{Memory, Cell, cell_with, with_byte_at, written, fetched, loaded, storable, stored}
use Rattle.rv_core.specs.Listing.{decoded}
use Rattle.rv_core.specs.Machine.{Outcome, Goes, Faults, jumps, loads, outcome, executed_word, executed_at, instruction, instructions, register, go_on, Reached}
use Rattle.rv_core.specs.Rows.{row}

-- the rights of the byte at an address, if there is one
abbrev pub rights_of : Option Cell → Option ℕ
rights_of c = option_map (λ cell. cell.rights) c

-- two memories have bytes at the same addresses, with the same rights
pub record SameRights (m n : Memory) : Type 0 where
  pub at : (a : ℕ) → rights_of (n a) ≡ rights_of (m a)

pub SameRights-refl : (m : Memory) → SameRights m m
SameRights-refl m = record { at = λ a. refl }

pub SameRights-trans : (m n o : Memory) → SameRights m n → SameRights n o → SameRights m o
SameRights-trans m n o g h = record { at = λ a. h.at a ∙ g.at a }

rights_of-cell_with : (c : Option Cell) (byte : ℕ) → rights_of (cell_with c byte) ≡ rights_of c
rights_of-cell_with None byte = refl
rights_of-cell_with (Some cell) byte = refl

pub SameRights-with_byte_at : (m : Memory) (at byte : ℕ) → SameRights m (with_byte_at m at byte)
SameRights-with_byte_at m at byte = record {
  at = λ a. elim (a == at) as (λ b. rights_of (cond b (cell_with (m a) byte) (m a)) ≡ rights_of (m a)) [
    | true ↦ rights_of-cell_with (m a) byte
    | false ↦ refl
  ];
}

pub SameRights-written : (m : Memory) (at n value : ℕ) → SameRights m (written m at n value)
SameRights-written m at zero value = SameRights-refl m
SameRights-written m at (suc n) value =
    SameRights-trans m (with_byte_at m at (value % 256)) _ (SameRights-with_byte_at m at (value % 256))
    (SameRights-written (with_byte_at m at (value % 256)) ((at + 1) % 2 ^ 64) n (value / 256))

pub SameRights-stored : (m : Memory) (at size value : ℕ) → SameRights m (stored m at size value)
SameRights-stored m at size value =
    elim (storable m at size) as (λ b. SameRights m (cond b (written m at size value) m)) [
      | true ↦ SameRights-written m at size value
      | false ↦ SameRights-refl m
    ]

-- ---- what each store keeps of a memory, a run keeps
module _ (Kept : Memory → Type 0) (kept_stored : (m : Memory) (at size value : ℕ) → Kept m → Kept (stored m at size value)) where
  abbrev Leaves : Outcome → Type 0
  Leaves (Goes cx m) = Kept m
  Leaves (Faults cause value) = Unit {0}

  leaves_if : (b : Bool) (x y : Outcome) → Leaves x → Leaves y → Leaves (cond b x y)
  leaves_if true x y h g = h
  leaves_if false x y h g = g

  leaves_jump : (cx : Context) (m : Memory) (rd to : ℕ) → Kept m → Leaves (jumps cx m rd to)
  leaves_jump cx m rd to kept = leaves_if (to % 4 == 0) _ _ kept tt

  leaves_load : (cx : Context) (m : Memory) (rd from size : ℕ) (sign : Bool) (o : Option ℕ) → Kept m → Leaves (loads cx m rd from size sign o)
  leaves_load cx m rd from size sign None kept = tt
  leaves_load cx m rd from size sign (Some value) kept = kept

  leaves_outcome : (cx : Context) (m : Memory) (rd : ℕ) (effect : Effect) → Kept m → Leaves (outcome cx m rd effect)
  leaves_outcome cx m rd (Sets value) kept = kept
  leaves_outcome cx m rd (Jumps to) kept = leaves_jump cx m rd to kept
  leaves_outcome cx m rd (Branches true to) kept = leaves_jump cx m 0 to kept
  leaves_outcome cx m rd (Branches false to) kept = kept
  leaves_outcome cx m rd (Loads from size sign) kept = leaves_load cx m rd from size sign (loaded m from size) kept
  leaves_outcome cx m rd (Stores to size value) kept = leaves_if (storable m to size) _ _ (kept_stored m to size value kept) tt
  leaves_outcome cx m rd Nothing kept = kept
  leaves_outcome cx m rd (Traps cause value) kept = tt

  leaves_word : (cx : Context) (m : Memory) (w : ℕ) (o : Option Instr) → Kept m → Leaves (executed_word cx m w o)
  leaves_word cx m w None kept = tt
  leaves_word cx m w (Some i) kept = leaves_outcome cx m i.rd (row i.op cx.pc (cast_unsigned w64 i.imm) (register cx i.rs1) (register cx i.rs2)) kept

  leaves_at : (cx : Context) (m : Memory) (o : Option ℕ) → Kept m → Leaves (executed_at cx m o)
  leaves_at cx m None kept = tt
  leaves_at cx m (Some w) kept = leaves_word cx m w (decoded w) kept

  leaves_instruction : (cx : Context) (m : Memory) → Kept m → Leaves (instruction cx m)
  leaves_instruction cx m kept = leaves_if (cx.pc % 4 == 0) _ _ (leaves_at cx m (fetched m cx.pc) kept) tt

  leaves_going : (rest : Context → Memory → Reached) → ((cx : Context) (m : Memory) → Kept m → Kept (rest cx m).memory) → (cx : Context) (m : Memory) (o : Outcome) → Kept m → Leaves o → Kept (go_on rest cx m o).memory
  leaves_going rest all cx m (Goes cx' m') kept left = all cx' m' left
  leaves_going rest all cx m (Faults cause value) kept left = kept

  pub kept_instructions : (n : ℕ) (cx : Context) (m : Memory) → Kept m → Kept (instructions n cx m).memory
  unfolding instructions
  kept_instructions zero cx m kept = kept
  kept_instructions (suc n) cx m kept = leaves_going (instructions n) (kept_instructions n) cx m (instruction cx m) kept (leaves_instruction cx m kept)

pub SameRights-instructions : (n : ℕ) (cx : Context) (m : Memory) → SameRights m (instructions n cx m).memory
SameRights-instructions n cx m =
    kept_instructions (SameRights m) (λ m' at size value kept. SameRights-trans m m' _ kept (SameRights-stored m' at size value)) n cx m (SameRights-refl m)
