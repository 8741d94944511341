-- Which jumps, branches and `la` the assembler accepts.
use Rattle.std.proofs.Common.{◌≡◌, ℕ, ◌+◌, ◌^◌, ◌%◌, ◌≤◌, ◌<◌, Bool, true, false, cond, not, ltb, ◌&&◌, ◌==◌, List, Option, Some, None, Ok, Err, refl, ap, ◌∙◌, arith, ℤ, pos, negsuc, ◌-ℤ◌}
use Rattle.std.specs.Prelude.{IsOk, ◌↔◌}
use Rattle.std.specs.Option.{is_some, is_none}
use Rattle.std.proofs.lemmas.Bool.{lt-ltb, le-ltb}
use Rattle.std.proofs.lemmas.Bool.Decides.{nat_tests}
use Rattle.std.proofs.lemmas.Int.{ints}
use Rattle.rv_core.specs.declared.instr.Op.{Op}
use Rattle.rv_core.specs.declared.instr.Op.TheVariants as op
use Rattle.rv_core.specs.declared.listing.Layout.TheVariants.{U, B}
use Rattle.rv_core.specs.Listing.{form}
use Rattle.rv_core.specs.Encoding.{is_signed_by, unsigned_by, is_immediate, encoded, encoded_as}
use Rattle.rv_asm.specs.declared.AsmCause.TheVariants as causes
use Rattle.rv_asm.specs.declared.labels.Definition.{Definition}
use Rattle.rv_asm.specs.declared.statement.Statement.TheVariants.{Branch, Jump, LoadAddress}
use Rattle.rv_asm.specs.Encoding.{limit, instr, low_part, high_part, instructions_of, fits_word, bytes_of}
use Rattle.asm_laws.specs.Reach.{IsWithinReach}
use Rattle.rv_asm.proofs.Parts.{low-fits}
use Rattle.asm_laws.proofs.Accepted.{high-fits}
use Rattle.asm_laws.proofs.Addresses.{small_distance}

-- Distances that an immediate holds

abbrev is_held : ℕ → ℤ → Bool
is_held reach z = is_signed_by reach z && (unsigned_by reach z % 2 == 0)

held-reach : (to from : ℕ) → (is_held (2 ^ 20) (pos to -ℤ pos from) ≡ true) ↔ IsWithinReach (2 ^ 20) from to
held-reach to from = (λ h. grind (arith, nat_tests, ints), λ r. grind (arith, nat_tests, ints))

held-branch : (to from : ℕ) → (is_held (2 ^ 12) (pos to -ℤ pos from) ≡ true) ↔ IsWithinReach (2 ^ 12) from to
held-branch to from = (λ h. grind (arith, nat_tests, ints), λ r. grind (arith, nat_tests, ints))

-- Words

some_if : {A : Type 0} (b : Bool) (x : A) → is_some (cond b (Some x) None) ≡ b
some_if true x = refl
some_if false x = refl

jump-fits : (rd : ℕ) (z : ℤ) → rd < 32 → fits_word (instr op.Jal rd 0 0 z) ≡ is_held (2 ^ 20) z
unfolding encoded
jump-fits rd z h = rw (lt-ltb rd 32 h) (some_if (is_held (2 ^ 20) z) _)

branch-fits : (o : Op) (opcode f3 rs1 rs2 : ℕ) (z : ℤ) → form o ≡ B opcode f3 → rs1 < 32 → rs2 < 32
    → fits_word (instr o 0 rs1 rs2 z) ≡ is_held (2 ^ 12) z
unfolding encoded
branch-fits o opcode f3 rs1 rs2 z is first second =
    ap (λ f. is_some (encoded_as f (instr o 0 rs1 rs2 z))) is
    ∙ rw (lt-ltb rs1 32 first, lt-ltb rs2 32 second) (some_if (is_held (2 ^ 12) z) _)

auipc-fits : (rd : ℕ) (z : ℤ) → rd < 32 → is_immediate (U 0x17) z ≡ true → fits_word (instr op.Auipc rd 0 0 z) ≡ true
unfolding encoded
auipc-fits rd z h e = rw (lt-ltb rd 32 h, e) refl

add-fits : (rd : ℕ) (z : ℤ) → rd < 32 → is_signed_by (2 ^ 11) z ≡ true → fits_word (instr op.Addi rd rd 0 z) ≡ true
unfolding encoded
add-fits rd z h e = rw (lt-ltb rd 32 h, e) refl

within_word : (z : ℤ) → is_signed_by (2 ^ 30) z ≡ true → is_signed_by (2 ^ 31) z ≡ true
within_word (pos n) h = grind (arith, nat_tests)
within_word (negsuc n) h = grind (arith, nat_tests)

-- Bytes

-- What is accepted has room.
room : (undefined fits : Bool) (at size : ℕ) (bytes : List ℕ)
    → IsOk (cond undefined (Err causes.Label) (cond (not fits) (Err causes.Range) (cond (ltb limit (at + size)) (Err causes.Big) (Ok bytes))))
    → at + size ≤ limit
room undefined fits at size bytes ok = grind (arith, nat_tests)

-- A statement of one instruction, whose label is defined, is accepted where its fields fit and where there is room.
one_accepted : (fits : Bool) (at : ℕ) (bytes : List ℕ)
    → IsOk (cond (not (fits && true)) (Err causes.Range) (cond (ltb limit (at + 4)) (Err causes.Big) (Ok bytes)))
    ↔ ((fits ≡ true) × (at + 4 ≤ limit))
one_accepted true at bytes =
    (λ ok. (refl, room false true at 4 bytes ok), λ given. rw (le-ltb limit (at + 4) given.1) refl)
one_accepted false at bytes = (λ ok. absurd (cc), λ given. absurd (cc))

both : {A B C D : Type 0} → A ↔ (B × C) → B ↔ D → A ↔ (D × C)
both accepted held = (λ a. (held.0 (accepted.0 a).0, (accepted.0 a).1), λ given. accepted.1 (held.1 given.0, given.1))

module _ (find : List ℕ → Option Definition) (at : ℕ) (label : List ℕ) (d : Definition) (found : find label ≡ Some d) where
  pub jump_accepted : (rd : ℕ) → rd < 32 → IsOk (bytes_of find at (Jump rd label)) ↔ (IsWithinReach (2 ^ 20) at d.address × (at + 4 ≤ limit))
  unfolding bytes_of instructions_of
  jump_accepted rd h =
      let z : ℤ = pos d.address -ℤ pos at in
      rw (found, jump-fits rd z h) (both (one_accepted (is_held (2 ^ 20) z) at _) (held-reach d.address at))

  pub branch_accepted : (o : Op) (opcode f3 rs1 rs2 : ℕ) → form o ≡ B opcode f3 → rs1 < 32 → rs2 < 32
      → IsOk (bytes_of find at (Branch o rs1 rs2 label)) ↔ (IsWithinReach (2 ^ 12) at d.address × (at + 4 ≤ limit))
  unfolding bytes_of instructions_of
  branch_accepted o opcode f3 rs1 rs2 is first second =
      let z : ℤ = pos d.address -ℤ pos at in
      rw (found, branch-fits o opcode f3 rs1 rs2 z is first second) (both (one_accepted (is_held (2 ^ 12) z) at _) (held-branch d.address at))

  pub la_accepted : (rd : ℕ) → rd < 32 → d.address ≤ limit → IsOk (bytes_of find at (LoadAddress rd label)) ↔ (at + 8 ≤ limit)
  unfolding bytes_of instructions_of
  la_accepted rd h near =
      let z : ℤ = pos d.address -ℤ pos at in (
        λ ok. room (is_none (find label)) _ at 8 _ ok,
        λ (behind : at + 8 ≤ limit).
            let small = within_word z (small_distance d.address at near (omega arith)) in
            rw (found, auipc-fits rd (high_part z) h (high-fits z small), add-fits rd (low_part z) h (low-fits z), le-ltb limit (at + 8) behind) refl,
      )
