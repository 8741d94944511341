-- What keeps each page one that a process may have, and each byte below 256.
use Rattle.std.proofs.Common.{◌≡◌, ℕ, zero, suc, ◌+◌, ◌*◌, ◌/◌, ◌%◌, ◌<◌, ◌==◌, ◌&&◌, nat_lt, Bool, true, false, cond, List, [], ◌∷◌, length, refl, sym, ap, ◌∙◌, subst, arith, Option, Some, None}
use Rattle.std.proofs.lemmas.Bool.Decides.{nat_tests}
use Rattle.std.proofs.lemmas.List.{length-replicate}
use Rattle.std.proofs.lemmas.List.Elements.{All-nil, All-cons, All-head, All-tail, All-get_or, All-replicate}
use Rattle.std.proofs.lemmas.Option.{none-some, same_Some}
use Rattle.std.specs.List.{All}
use Rattle.std.specs.Option.{option_map}
use Rattle.std.specs.FinMap.{get, empty, get-empty}
use Rattle.std.specs.Ordering.{nat_cmp}
use Rattle.rv_core.specs.Memory.{Memory, Cell, cell_with, with_byte_at}
use Rattle.guest_space.specs.Space.{Space, Frame, IsFrame, IsSpace, in_run, blank, with_run, without_run, protected, frame_in_run, with_memory, frame_of_memory, bytes_from, byte_or_zero, cell_in, memory_of}
use Rattle.guest_space.specs.Access.{with_bytes}
use Rattle.guest_space.specs.Run.{is_run}
use Rattle.guest_space.proofs.Gets.{get-with_run, get-without_run, get-protected, get-with_memory}

pub length-bytes_from : (m : Memory) (at n : ℕ) → length (bytes_from m at n) ≡ n
unfolding bytes_from
length-bytes_from m at zero = refl
length-bytes_from m at (suc n) = ap suc (length-bytes_from m (at + 1) n)

-- each byte of a memory is below 256
pub record HasBytes (m : Memory) : Type 0 where
  pub at : (a : ℕ) → byte_or_zero (m a) < 256

pub both : (a b : Bool) → (a && b) ≡ true → (a ≡ true) × (b ≡ true)
both true true is = (refl, refl)
both true false is = absurd (cc)
both false b is = absurd (cc)

pub All-bytes_from : (m : Memory) (at n : ℕ) → HasBytes m → All (λ byte. byte < 256) (bytes_from m at n)
unfolding bytes_from
All-bytes_from m at zero small = All-nil {X = ℕ} (λ byte. byte < 256)
All-bytes_from m at (suc n) small =
    All-cons (λ byte. byte < 256) (byte_or_zero (m at)) (bytes_from m (at + 1) n) (small.at at) (All-bytes_from m (at + 1) n small)

byte_in : (page k : ℕ) (o : Option Frame) → ((frame : Frame) → o ≡ Some frame → IsFrame page frame) → k < 4096 → byte_or_zero (cell_in o k) < 256
byte_in page k None sound h = omega arith
byte_in page k (Some frame) sound h =
    let is = sound frame refl in
    let whole : length frame.bytes ≡ 4096 = is.whole in
    All-get_or (λ byte. byte < 256) frame.bytes k 0 (omega arith) is.small

pub HasBytes-memory_of : (s : Space) → IsSpace s → HasBytes (memory_of s)
HasBytes-memory_of s sound = record { at = λ a. byte_in (a / 4096) (a % 4096) (get s (a / 4096)) (sound.frames (a / 4096)) (omega arith) }

byte_with : (c : Option Cell) (byte : ℕ) → byte < 256 → byte_or_zero (cell_with c byte) < 256
byte_with None byte h = omega arith
byte_with (Some cell) byte h = h

pub HasBytes-with_byte_at : (m : Memory) (at byte : ℕ) → byte < 256 → HasBytes m → HasBytes (with_byte_at m at byte)
HasBytes-with_byte_at m at byte h small = record {
  at = λ a. elim (a == at) as (λ b. byte_or_zero (cond b (cell_with (m a) byte) (m a)) < 256) [
    | true ↦ byte_with (m a) byte h
    | false ↦ small.at a
  ];
}

pub HasBytes-with_bytes : (m : Memory) (at : ℕ) (bytes : List ℕ) → All (λ byte. byte < 256) bytes → HasBytes m → HasBytes (with_bytes m at bytes)
unfolding with_bytes
HasBytes-with_bytes m at [] all small = small
HasBytes-with_bytes m at (byte ∷ bytes) all small =
    HasBytes-with_bytes (with_byte_at m at byte) (at + 1) bytes (All-tail (λ b. b < 256) byte bytes all)
    (HasBytes-with_byte_at m at byte (All-head (λ b. b < 256) byte bytes all) small)

pub IsSpace-empty : IsSpace (empty {R = nat_cmp})
IsSpace-empty = record { frames = λ q frame is. absurd (none-some frame (sym (get-empty nat_cmp q) ∙ is)) }

pub IsFrame-blank : (page count rights q : ℕ) → is_run page count ≡ true → rights < 8 → in_run page count q ≡ true → IsFrame q (blank rights)
IsFrame-blank page count rights q run below within = record { above = grind (arith, nat_tests); below = grind (arith, nat_tests); whole = length-replicate {A = ℕ} 4096 0; small = All-replicate (λ byte. byte < 256) 4096 0 (omega arith); rights = below }

frame_of_cond : (b : Bool) (x : Frame) (o : Option Frame) (z : Frame) (P : Frame → Type 0) → cond b (Some x) o ≡ Some z → (b ≡ true → P x) → ((y : Frame) → o ≡ Some y → P y) → P z
frame_of_cond true x o z P is here there = subst P (same_Some x z is) (here refl)
frame_of_cond false x o z P is here there = there z is

frame_of_none : (b : Bool) (o : Option Frame) (z : Frame) → cond b None o ≡ Some z → o ≡ Some z
frame_of_none true o z is = absurd (none-some z is)
frame_of_none false o z is = is

frame_of_map : (f : Frame → Frame) (o : Option Frame) (z : Frame) (P : Frame → Type 0) → option_map f o ≡ Some z → ((y : Frame) → o ≡ Some y → P (f y)) → P z
frame_of_map f None z P is here = absurd (none-some z is)
frame_of_map f (Some y) z P is here = subst P (same_Some (f y) z is) (here y refl)

pub IsSpace-with_run : (s : Space) (page count rights : ℕ) → is_run page count ≡ true → rights < 8 → IsSpace s → IsSpace (with_run s page count rights)
IsSpace-with_run s page count rights run below sound = record {
  frames = λ q frame is. frame_of_cond (in_run page count q) (blank rights) (get s q) frame (IsFrame q)
      (sym (get-with_run s page count rights q) ∙ is) (IsFrame-blank page count rights q run below) (sound.frames q);
}

pub IsSpace-without_run : (s : Space) (page count : ℕ) → IsSpace s → IsSpace (without_run s page count)
IsSpace-without_run s page count sound = record {
  frames = λ q frame is. sound.frames q frame (frame_of_none (in_run page count q) (get s q) frame (sym (get-without_run s page count q) ∙ is));
}

IsFrame-in_run : (page count rights q : ℕ) (frame : Frame) → rights < 8 → IsFrame q frame → IsFrame q (frame_in_run page count rights q frame)
IsFrame-in_run page count rights q frame below sound =
    record { above = sound.above; below = sound.below; whole = sound.whole; small = sound.small; rights = smaller (in_run page count q) sound.rights }
  where
    smaller : (b : Bool) → frame.rights < 8 → cond b rights frame.rights < 8
    smaller true h = below
    smaller false h = h

pub IsSpace-protected : (s : Space) (page count rights : ℕ) → rights < 8 → IsSpace s → IsSpace (protected s page count rights)
IsSpace-protected s page count rights below sound = record {
  frames = λ q frame is. frame_of_map (frame_in_run page count rights q) (get s q) frame (IsFrame q)
      (sym (get-protected s page count rights q) ∙ is) (λ y e. IsFrame-in_run page count rights q y below (sound.frames q y e));
}

pub IsSpace-with_memory : (s : Space) (m : Memory) → HasBytes m → IsSpace s → IsSpace (with_memory s m)
IsSpace-with_memory s m small sound = record {
  frames = λ q frame is. frame_of_map (frame_of_memory m q) (get s q) frame (IsFrame q) (sym (get-with_memory s m q) ∙ is)
      (λ y e.
      let h = sound.frames q y e in
      record { above = h.above; below = h.below; whole = length-bytes_from m (q * 4096) 4096; small = All-bytes_from m (q * 4096) 4096 small; rights = h.rights });
}
