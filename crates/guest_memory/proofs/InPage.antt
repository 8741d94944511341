-- Numbers in one page, read and written, as the memory of a space has them.
use Rattle.std.proofs.Common.{◌≡◌, ℕ, zero, suc, ◌+◌, ◌*◌, ◌/◌, ◌%◌, ◌^◌, ◌<◌, ◌≤◌, cond, List, length, get_or, set, refl, sym, ap, ◌∙◌, arith, Some, None, inl, inr}
use Rattle.std.proofs.lemmas.Bool.{eq-eqb, cases_eq}
use Rattle.std.proofs.lemmas.List.{get_or-set_same, get_or-set_other, length-set}
use Rattle.std.proofs.lemmas.List.Elements.{All-set}
use Rattle.std.specs.Int.Bits.{bit_and}
use Rattle.std.specs.List.{All}
use Rattle.std.specs.FinMap.{get, insert}
use Rattle.rv_core.specs.Memory.{Memory, byte_at, byte_if, above, number_at, cell_with, with_byte_at, written}
use Rattle.guest_space.specs.Space.{Space, Frame, cell_in, memory_of}
use Rattle.guest_space.proofs.Cells.{memory_of-place, page_of_place, place_of_address}
use Rattle.guest_space.proofs.Bytes.{with_byte_at_here, with_byte_at_there}
use Rattle.guest_space.proofs.Puts.{get-put_here, get-put_there, put_same, put-put}
use Rattle.guest_memory.specs.PageBytes.{bytes_number, with_number}

byte_at-in_page : (s : Space) (right page k : ℕ) (frame : Frame) → get s page ≡ Some frame → bit_and frame.rights right ≡ right → k < 4096 → byte_at (memory_of s) right (page * 4096 + k) ≡ Some (get_or frame.bytes k 0)
byte_at-in_page s right page k frame held allowed h =
    ap (byte_if right) (memory_of-place s page k h)
    ∙ ap (λ o. byte_if right (cell_in o k)) held
    ∙ ap (λ b. cond b (Some (get_or frame.bytes k 0)) None) (eq-eqb (bit_and frame.rights right) right allowed)

pub number_at-in_page : (s : Space) (right page k n : ℕ) (frame : Frame) → get s page ≡ Some frame → bit_and frame.rights right ≡ right → k + n ≤ 4096 → page < 2 ^ 52 → number_at (memory_of s) right (page * 4096 + k) n ≡ Some (bytes_number frame.bytes k n)
number_at-in_page s right page k zero frame held allowed fits below = refl
number_at-in_page s right page k (suc zero) frame held allowed fits below =
    ap (λ o. above o (Some 0)) (byte_at-in_page s right page k frame held allowed (omega arith))
number_at-in_page s right page k (suc (suc n)) frame held allowed fits below =
    let next : (page * 4096 + k + 1) % 2 ^ 64 ≡ page * 4096 + (k + 1) = omega arith in
    ap (λ o. above o (number_at (memory_of s) right ((page * 4096 + k + 1) % 2 ^ 64) (suc n))) (byte_at-in_page s right page k frame held allowed (omega arith))
    ∙ ap (λ a. above (Some (get_or frame.bytes k 0)) (number_at (memory_of s) right a (suc n))) next
    ∙ ap (above (Some (get_or frame.bytes k 0))) (number_at-in_page s right page (k + 1) (suc n) frame held allowed (omega arith) below)

-- the frame with other bytes
abbrev pub with_frame_bytes : Frame → List ℕ → Frame
with_frame_bytes frame bytes = record { rights = frame.rights; bytes = bytes }

-- a memory is that of a space with other bytes in one page, if it has those bytes there and is as before elsewhere
pub memory_of-put : (s : Space) (page : ℕ) (frame : Frame) (bytes : List ℕ) (m : Memory) → ((a : ℕ) → (a / 4096 ≡ page → ⊥) → m a ≡ memory_of s a) → ((k : ℕ) → k < 4096 → m (page * 4096 + k) ≡ Some (record { byte = get_or bytes k 0; rights = frame.rights })) → m ≡ memory_of (insert s page (with_frame_bytes frame bytes))
memory_of-put s page frame bytes m elsewhere here = λ i a. at a i
  where
    at : (a : ℕ) → m a ≡ memory_of (insert s page (with_frame_bytes frame bytes)) a
    at a =
        elim (cases_eq (a / 4096) page) [
          | inl e ↦
              let p = place_of_address a in
              let same : page * 4096 + a % 4096 ≡ a = ap (λ q. q * 4096 + a % 4096) (sym e) ∙ p.0 in
              ap m (sym same) ∙ here (a % 4096) p.1 ∙ ap (λ o. cell_in o (a % 4096)) (sym (get-put_here s page (a / 4096) (with_frame_bytes frame bytes) e))
          | inr ne ↦ elsewhere a ne ∙ ap (λ o. cell_in o (a % 4096)) (sym (get-put_there s page (a / 4096) (with_frame_bytes frame bytes) ne))
        ]

pub cell_of_page : (s : Space) (page k : ℕ) (frame : Frame) → get s page ≡ Some frame → k < 4096 → memory_of s (page * 4096 + k) ≡ Some (record { byte = get_or frame.bytes k 0; rights = frame.rights })
cell_of_page s page k frame held h = memory_of-place s page k h ∙ ap (λ o. cell_in o k) held

-- one byte of a page
pub with_byte_at-in_page : (s : Space) (page k byte : ℕ) (frame : Frame) → get s page ≡ Some frame → length frame.bytes ≡ 4096 → k < 4096 → with_byte_at (memory_of s) (page * 4096 + k) byte ≡ memory_of (insert s page (with_frame_bytes frame (set frame.bytes k byte)))
with_byte_at-in_page s page k byte frame held whole within =
    memory_of-put s page frame (set frame.bytes k byte) (with_byte_at (memory_of s) (page * 4096 + k) byte)
    (λ a ne. with_byte_at_there (memory_of s) (page * 4096 + k) byte a (λ e. ne (ap (λ b. b / 4096) e ∙ page_of_place page k within)))
    (λ j h. elim (cases_eq j k) [
      | inl e ↦ with_byte_at_here (memory_of s) (page * 4096 + k) byte (page * 4096 + j) (omega arith)
          ∙ ap (λ c. cell_with c byte) (cell_of_page s page j frame held h)
          ∙ ap (λ b. Some (record { byte = b; rights = frame.rights })) (sym (ap (λ n. get_or (set frame.bytes k byte) n 0) e ∙ get_or-set_same frame.bytes k byte 0 (omega arith)))
      | inr ne ↦ with_byte_at_there (memory_of s) (page * 4096 + k) byte (page * 4096 + j) (λ e. ne (omega arith))
          ∙ cell_of_page s page j frame held h
          ∙ ap (λ b. Some (record { byte = b; rights = frame.rights })) (sym (get_or-set_other frame.bytes k j byte 0 ne))
    ])

pub length-with_number : (bytes : List ℕ) (at n value : ℕ) → length (with_number bytes at n value) ≡ length bytes
length-with_number bytes at zero value = refl
length-with_number bytes at (suc n) value = length-with_number (set bytes at (value % 256)) (at + 1) n (value / 256) ∙ length-set bytes at (value % 256)

pub All-with_number : (bytes : List ℕ) (at n value : ℕ) → All (λ byte. byte < 256) bytes → All (λ byte. byte < 256) (with_number bytes at n value)
All-with_number bytes at zero value small = small
All-with_number bytes at (suc n) value small =
    All-with_number (set bytes at (value % 256)) (at + 1) n (value / 256) (All-set (λ b. b < 256) bytes at (value % 256) (omega arith) small)

-- several bytes of a page
pub written-in_page : (s : Space) (page k n value : ℕ) (frame : Frame) → get s page ≡ Some frame → length frame.bytes ≡ 4096 → k + n ≤ 4096 → page < 2 ^ 52 → written (memory_of s) (page * 4096 + k) n value ≡ memory_of (insert s page (with_frame_bytes frame (with_number frame.bytes k n value)))
written-in_page s page k zero value frame held whole fits below = ap memory_of (sym (put_same s page frame held))
written-in_page s page k (suc zero) value frame held whole fits below = with_byte_at-in_page s page k (value % 256) frame held whole (omega arith)
written-in_page s page k (suc (suc n)) value frame held whole fits below =
    let first : Frame = with_frame_bytes frame (set frame.bytes k (value % 256)) in
    let next : (page * 4096 + k + 1) % 2 ^ 64 ≡ page * 4096 + (k + 1) = omega arith in
    ap (λ m. written m ((page * 4096 + k + 1) % 2 ^ 64) (suc n) (value / 256)) (with_byte_at-in_page s page k (value % 256) frame held whole (omega arith))
    ∙ ap (λ a. written (memory_of (insert s page first)) a (suc n) (value / 256)) next
    ∙ written-in_page (insert s page first) page (k + 1) (suc n) (value / 256) first
    (get-put_here s page page first refl) (length-set frame.bytes k (value % 256) ∙ whole) (omega arith) below
    ∙ ap memory_of (put-put s page first (with_frame_bytes frame (with_number frame.bytes k (suc (suc n)) value)))
