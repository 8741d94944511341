-- The memory of a space, byte by byte: what keeps which bytes are there and their rights, and that a space is
-- determined by its memory.
use Rattle.std.proofs.Common.{◌≡◌, ℕ, zero, suc, ◌+◌, ◌*◌, ◌/◌, ◌%◌, ◌<◌, List, [], ◌∷◌, length, get_or, refl, sym, ap, ◌∙◌, subst, arith, Option, Some, None}
use Rattle.std.proofs.lemmas.Grind.{same_number_lists}
use Rattle.std.proofs.lemmas.Option.{none-some, same_Some}
use Rattle.std.proofs.lemmas.Nat.{div-mul-add, mod-mul-add}
use Rattle.std.specs.Option.{option_map}
use Rattle.std.specs.Cmp.{nat_cmp_total}
use Rattle.std.specs.FinMap.{get, same_map, nat_cmp-IsAntisymmetric}
use Rattle.rv_core.specs.Memory.{Memory, Cell, with_byte_at}
use Rattle.rv_core.proofs.Rights.{rights_of, SameRights, SameRights-refl, SameRights-trans, SameRights-with_byte_at}
use Rattle.guest_space.specs.Space.{Space, Frame, IsFrame, IsSpace, cell_in, memory_of, with_memory, frame_of_memory, bytes_from, byte_or_zero}
use Rattle.guest_space.specs.Access.{with_bytes}
use Rattle.guest_space.proofs.Gets.{get-with_memory}
use Rattle.guest_space.proofs.Spaces.{HasBytes, HasBytes-memory_of, IsSpace-with_memory}

pub SameRights-with_bytes : (m : Memory) (at : ℕ) (bytes : List ℕ) → SameRights m (with_bytes m at bytes)
unfolding with_bytes
SameRights-with_bytes m at [] = SameRights-refl m
SameRights-with_bytes m at (byte ∷ bytes) =
    SameRights-trans m (with_byte_at m at byte) _ (SameRights-with_byte_at m at byte) (SameRights-with_bytes (with_byte_at m at byte) (at + 1) bytes)

-- an address is a place in a page
pub page_of_place : (page k : ℕ) → k < 4096 → (page * 4096 + k) / 4096 ≡ page
page_of_place page k h = div-mul-add page 4096 k h

pub place_of_place : (page k : ℕ) → k < 4096 → (page * 4096 + k) % 4096 ≡ k
place_of_place page k h = mod-mul-add page 4096 k h

pub memory_of-place : (s : Space) (page k : ℕ) → k < 4096 → memory_of s (page * 4096 + k) ≡ cell_in (get s page) k
memory_of-place s page k h = λ i. cell_in (get s (page_of_place page k h i)) (place_of_place page k h i)

pub get_or-bytes_from : (m : Memory) (at n k : ℕ) → k < n → get_or (bytes_from m at n) k 0 ≡ byte_or_zero (m (at + k))
unfolding bytes_from
get_or-bytes_from m at zero k h = absurd (omega arith)
get_or-bytes_from m at (suc n) zero h = ap (λ a. byte_or_zero (m a)) (let e : at ≡ at + 0 = omega arith in e)
get_or-bytes_from m at (suc n) (suc k) h =
    get_or-bytes_from m (at + 1) n k (omega arith) ∙ ap (λ a. byte_or_zero (m a)) (let e : at + 1 + k ≡ at + suc k = omega arith in e)

same_cell : (c : Option Cell) (rights byte : ℕ) → rights_of c ≡ Some rights → byte ≡ byte_or_zero c → Some (record { byte = byte; rights = rights }) ≡ c
same_cell None rights byte is e = absurd (none-some rights is)
same_cell (Some cell) rights byte is e = let r = sym (same_Some cell.rights rights is) in λ i. Some (record { byte = e i; rights = r i })

no_cell : (c : Option Cell) → rights_of c ≡ None → None ≡ c
no_cell None is = refl
no_cell (Some cell) is = absurd (none-some cell.rights (sym is))

cell_of_memory : (m : Memory) (page k : ℕ) (o : Option Frame) → k < 4096 → rights_of (m (page * 4096 + k)) ≡ rights_of (cell_in o k) → cell_in (option_map (frame_of_memory m page) o) k ≡ m (page * 4096 + k)
cell_of_memory m page k None h is = no_cell (m (page * 4096 + k)) is
cell_of_memory m page k (Some frame) h is = same_cell (m (page * 4096 + k)) frame.rights _ is (get_or-bytes_from m (page * 4096) 4096 k h)

-- the page and the place of an address
pub place_of_address : (a : ℕ) → (a / 4096 * 4096 + a % 4096 ≡ a) × (a % 4096 < 4096)
place_of_address a = (omega arith, omega arith)

-- the memory of a space with the bytes of a memory is that memory, if it has bytes with the same rights
pub memory_of-with_memory : (s : Space) (m : Memory) → SameRights (memory_of s) m → memory_of (with_memory s m) ≡ m
memory_of-with_memory s m same = λ i a. at a i
  where
    at : (a : ℕ) → memory_of (with_memory s m) a ≡ m a
    at a =
        let p = place_of_address a in
        ap (λ o. cell_in o (a % 4096)) (get-with_memory s m (a / 4096))
        ∙ cell_of_memory m (a / 4096) (a % 4096) (get s (a / 4096)) p.1 (ap (λ b. rights_of (m b)) p.0 ∙ same.at a)
        ∙ ap m p.0

same_frames : (f g : Frame) → length f.bytes ≡ 4096 → length g.bytes ≡ 4096 → ((k : ℕ) → k < 4096 → cell_in (Some f) k ≡ cell_in (Some g) k) → f ≡ g
same_frames f g long_f long_g same =
    let rights : f.rights ≡ g.rights = same_Some _ _ (ap rights_of (same 0 (omega arith))) in
    let bytes : f.bytes ≡ g.bytes = same_number_lists f.bytes g.bytes (long_f ∙ sym long_g) (λ k h. ap byte_or_zero (same k (omega arith))) in
    λ i. record { rights = rights i; bytes = bytes i }

same_pages : (page : ℕ) (o p : Option Frame) → ((f : Frame) → o ≡ Some f → IsFrame page f) → ((f : Frame) → p ≡ Some f → IsFrame page f) → ((k : ℕ) → k < 4096 → cell_in o k ≡ cell_in p k) → o ≡ p
same_pages page None None sound_o sound_p same = refl
same_pages page None (Some g) sound_o sound_p same = absurd (none-some _ (same 0 (omega arith)))
same_pages page (Some f) None sound_o sound_p same = absurd (none-some _ (sym (same 0 (omega arith))))
same_pages page (Some f) (Some g) sound_o sound_p same = ap Some (same_frames f g (sound_o f refl).whole (sound_p g refl).whole same)

-- a space is determined by its memory
pub same_space : (s t : Space) → IsSpace s → IsSpace t → memory_of s ≡ memory_of t → s ≡ t
same_space s t sound_s sound_t same =
    same_map nat_cmp_total nat_cmp-IsAntisymmetric s t
    (λ q. same_pages q (get s q) (get t q) (sound_s.frames q) (sound_t.frames q)
    (λ k h. sym (memory_of-place s q k h) ∙ ap (λ m. m (q * 4096 + k)) same ∙ memory_of-place t q k h))

-- a space whose memory has the same bytes as s, with the same rights, is s with that memory
pub with_memory-unique : (s t : Space) (m : Memory) → IsSpace s → IsSpace t → SameRights (memory_of s) m → memory_of t ≡ m → t ≡ with_memory s m
with_memory-unique s t m sound_s sound_t same is =
    same_space t (with_memory s m) sound_t (IsSpace-with_memory s m (subst HasBytes is (HasBytes-memory_of t sound_t)) sound_s) (is ∙ sym (memory_of-with_memory s m same))

pub with_memory_same : (s : Space) → IsSpace s → with_memory s (memory_of s) ≡ s
with_memory_same s sound = sym (with_memory-unique s s (memory_of s) sound sound (SameRights-refl (memory_of s)) refl)
