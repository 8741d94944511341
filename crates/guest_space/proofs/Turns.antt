-- A run of instructions leaves the pages with other bytes.
use Rattle.std.proofs.Common.{◌≡◌, ℕ, zero, suc, ◌+◌, ◌/◌, ◌%◌, ◌^◌, true, false, cond, ap, sym, arith}
use Rattle.rv_core.specs.declared.context.Context.{Context}
use Rattle.rv_core.specs.declared.context.Ended.{Ended}
use Rattle.rv_core.specs.Memory.{Memory, with_byte_at, written, storable, stored}
use Rattle.rv_core.specs.Machine.{instructions, Reached, Ends, trap_of}
use Rattle.rv_core.proofs.Rights.{SameRights-instructions, kept_instructions}
use Rattle.guest_space.specs.Space.{Space, IsSpace, memory_of, with_memory}
use Rattle.guest_space.specs.Running.{run_space}
use Rattle.guest_space.proofs.Spaces.{HasBytes, HasBytes-memory_of, HasBytes-with_byte_at, IsSpace-with_memory}
use Rattle.guest_space.proofs.Cells.{with_memory-unique}

-- what a run over the memory of one space leaves, where it is the memory of another
pub run_space-ends : (n : ℕ) (cx cx' : Context) (s t : Space) (ended : Ended) → IsSpace s → IsSpace t → Ends (instructions n cx (memory_of s)) ended cx' (memory_of t) → run_space n cx s ≡ record { context = cx'; space = t; trap = trap_of ended }
run_space-ends n cx cx' s t ended sound_s sound_t is =
    let left : Memory = (instructions n cx (memory_of s)).memory in
    let same : memory_of t ≡ left = sym (ap (λ (r : Reached). r.memory) is) in
    let pages : with_memory s left ≡ t = sym (with_memory-unique s t left sound_s sound_t (SameRights-instructions n cx (memory_of s)) same) in
    λ i. record { context = (is i).context; space = pages i; trap = (is i).trap }

-- ---- each byte stays below 256

pub HasBytes-written : (m : Memory) (at n value : ℕ) → HasBytes m → HasBytes (written m at n value)
HasBytes-written m at zero value small = small
HasBytes-written m at (suc n) value small =
    HasBytes-written (with_byte_at m at (value % 256)) ((at + 1) % 2 ^ 64) n (value / 256) (HasBytes-with_byte_at m at (value % 256) (omega arith) small)

pub HasBytes-stored : (m : Memory) (at size value : ℕ) → HasBytes m → HasBytes (stored m at size value)
HasBytes-stored m at size value small =
    elim (storable m at size) as (λ b. HasBytes (cond b (written m at size value) m)) [
      | true ↦ HasBytes-written m at size value small
      | false ↦ small
    ]

-- each page stays one that a process may have
pub IsSpace-run_space : (n : ℕ) (cx : Context) (s : Space) → IsSpace s → IsSpace (run_space n cx s).space
IsSpace-run_space n cx s sound =
    IsSpace-with_memory s (instructions n cx (memory_of s)).memory (kept_instructions HasBytes HasBytes-stored n cx (memory_of s) (HasBytes-memory_of s sound)) sound
