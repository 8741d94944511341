-- A space is made again from its regions and their bytes, and gives them again.
use Rattle.std.proofs.Common.{◌≡◌, ℕ, zero, suc, ◌+◌, ◌-◌, ◌*◌, ◌/◌, ◌%◌, ◌<◌, ◌≤◌, Bool, true, false, cond, List, [], ◌∷◌, ◌++◌, map, length, get_or, take, drop, slice_range, refl, sym, ap, ◌∙◌, arith, Option, Some, None, inl, inr}
use Rattle.std.proofs.lemmas.Bool.{cases_eq}
use Rattle.std.proofs.lemmas.Bool.Decides.{nat_tests}
use Rattle.std.proofs.lemmas.Grind.{same_number_lists}
use Rattle.std.proofs.lemmas.List.{get_or-take, get_or-drop}
use Rattle.std.proofs.lemmas.List.Elements.{All-head, All-tail}
use Rattle.std.proofs.Math.Seq.{drop-append_seam, take-append_seam}
use Rattle.std.specs.List.{All}
use Rattle.std.specs.Option.{option_map}
use Rattle.std.specs.Ordering.{nat_cmp}
use Rattle.std.specs.FinMap.{get, get-empty}
use Rattle.rv_core.specs.Memory.{Memory}
use Rattle.guest_space.specs.declared.Extent.{Extent}
use Rattle.guest_space.specs.Space.{Space, Frame, IsSpace, in_run, cell_in, memory_of, page_rights, frame_of_memory, bytes_from, byte_or_zero}
use Rattle.guest_space.specs.Regions.{extent_end, AreMaximal, AreRegionsWithBytes, extent_rights, regions, region_bytes, regions_with_bytes, with_pages, space_from}
use Rattle.guest_space.proofs.Gets.{get-with_memory}
use Rattle.guest_space.proofs.Puts.{same_spaces, get-put_here, get-put_there}
use Rattle.guest_space.proofs.Spaces.{length-bytes_from}
use Rattle.guest_space.proofs.Cells.{memory_of-place, get_or-bytes_from, with_memory_same}
use Rattle.guest_space.proofs.Bytes.{bytes_from-add}
use Rattle.guest_space.proofs.Regions.{AreFrom, AreFrom-before, AreFrom-zero, in_run_within, in_run_behind}
use Rattle.guest_space.proofs.RegionChanges.{AreRegions-regions, regions-unique}

-- a page of an extent, with its part of the bytes
abbrev frame_of_part : ℕ → ℕ → List ℕ → ℕ → Frame
frame_of_part page rights bytes q = record { rights = rights; bytes = slice_range bytes ((q - page) * 4096) ((q - page) * 4096 + 4096) }

no_pages : {A : Type 0} (page q : ℕ) (x y : A) → y ≡ cond (in_run page 0 q) x y
no_pages page q x y = grind (arith, nat_tests)

the_last : (page n q : ℕ) → q ≡ page + n → in_run page (suc n) q ≡ true
the_last page n q e = grind (arith, nat_tests)

another : (page n q : ℕ) → (q ≡ page + n → ⊥) → in_run page n q ≡ in_run page (suc n) q
another page n q ne = grind (arith, nat_tests)

get-with_pages : (s : Space) (page n rights : ℕ) (bytes : List ℕ) (q : ℕ) → get (with_pages s page n rights bytes) q ≡ cond (in_run page n q) (Some (frame_of_part page rights bytes q)) (get s q)
unfolding with_pages
get-with_pages s page zero rights bytes q = no_pages page q (Some (frame_of_part page rights bytes q)) (get s q)
get-with_pages s page (suc n) rights bytes q =
    let last : Frame = record { rights = rights; bytes = slice_range bytes (n * 4096) (n * 4096 + 4096) } in
    elim (cases_eq q (page + n)) [
      | inl e ↦
          let place : n ≡ q - page = omega arith in
          get-put_here (with_pages s page n rights bytes) (page + n) q last e
          ∙ ap (λ k. Some (record { rights = rights; bytes = slice_range bytes (k * 4096) (k * 4096 + 4096) })) place
          ∙ ap (λ b. cond b (Some (frame_of_part page rights bytes q)) (get s q)) (sym (the_last page n q e))
      | inr ne ↦
          get-put_there (with_pages s page n rights bytes) (page + n) q last ne
          ∙ get-with_pages s page n rights bytes q
          ∙ ap (λ b. cond b (Some (frame_of_part page rights bytes q)) (get s q)) (another page n q ne)
    ]

-- ---- a space made again

part_of_bytes : (m : Memory) (at n k some : ℕ) → k + some ≤ n → take some (drop k (bytes_from m at n)) ≡ bytes_from m (at + k) some
part_of_bytes m at n k some fits =
    let rest = n - k - some in
    let a = bytes_from m at k in
    let b = bytes_from m (at + k) some in
    let c = bytes_from m (at + k + some) rest in
    let whole : bytes_from m at n ≡ a ++ (b ++ c) =
    ap (bytes_from m at) (let e : n ≡ k + (some + rest) = omega arith in e) ∙ bytes_from-add m at k (some + rest) ∙ ap (λ xs. a ++ xs) (bytes_from-add m (at + k) some rest) in
    let dropped : drop k (bytes_from m at n) ≡ b ++ c =
    (λ i. drop (sym (length-bytes_from m at k) i) (whole i)) ∙ drop-append_seam a (b ++ c) in
    (λ i. take (sym (length-bytes_from m (at + k) some) i) (dropped i)) ∙ take-append_seam b c

frame_again : (s : Space) (e : Extent) (q : ℕ) → in_run e.page e.count q ≡ true → frame_of_part e.page e.rights (region_bytes s e) q ≡ record { rights = e.rights; bytes = bytes_from (memory_of s) (q * 4096) 4096 }
frame_again s e q inside =
    let low : e.page ≤ q = grind (arith, nat_tests) in
    let high : q < e.page + e.count = grind (arith, nat_tests) in
    let k = (q - e.page) * 4096 in
    let size : k + 4096 - k ≡ 4096 = omega arith in
    let at : e.page * 4096 + k ≡ q * 4096 = omega arith in
    ap (λ bytes. record { rights = e.rights; bytes = bytes })
    (ap (λ n. take n (drop k (region_bytes s e))) size
    ∙ part_of_bytes (memory_of s) (e.page * 4096) (e.count * 4096) k 4096 (omega arith)
    ∙ ap (λ a. bytes_from (memory_of s) a 4096) at)

abbrev frame_there : Space → ℕ → ℕ → Frame
frame_there s q rights = record { rights = rights; bytes = bytes_from (memory_of s) (q * 4096) 4096 }

get-space_from : (s : Space) (es : List Extent) (q : ℕ) → get (space_from (map (λ e. (e, region_bytes s e)) es)) q ≡ option_map (frame_there s q) (extent_rights es q)
unfolding space_from
get-space_from s [] q = get-empty nat_cmp q
get-space_from s (e ∷ es) q =
    get-with_pages (space_from (map (λ e. (e, region_bytes s e)) es)) e.page e.count e.rights (region_bytes s e) q
    ∙ ap (cond (in_run e.page e.count q) (Some (frame_of_part e.page e.rights (region_bytes s e) q))) (get-space_from s es q)
    ∙ chosen (in_run e.page e.count q) refl
  where
    chosen : (b : Bool) → in_run e.page e.count q ≡ b →
        cond b (Some (frame_of_part e.page e.rights (region_bytes s e) q)) (option_map (frame_there s q) (extent_rights es q)) ≡ option_map (frame_there s q) (cond b (Some e.rights) (extent_rights es q))
    chosen true is = ap Some (frame_again s e q is)
    chosen false is = refl

pub space_from-regions : (s : Space) → IsSpace s → space_from (regions_with_bytes s) ≡ s
space_from-regions s sound =
    same_spaces (space_from (regions_with_bytes s)) s
    (λ q. get-space_from s (regions s) q
    ∙ ap (option_map (frame_there s q)) ((AreRegions-regions s).rights q)
    ∙ frame_kept q (get s q)
    ∙ sym (get-with_memory s (memory_of s) q)
    ∙ ap (λ t. get t q) (with_memory_same s sound))
  where
    frame_kept : (q : ℕ) (o : Option Frame) → option_map (frame_there s q) (option_map (λ (f : Frame). f.rights) o) ≡ option_map (frame_of_memory (memory_of s) q) o
    frame_kept q None = refl
    frame_kept q (Some f) = refl

-- ---- regions given again

rights_given : (rs : List (Extent × List ℕ)) (q : ℕ) → extent_rights (map (λ r. r.0) rs) q ≡ page_rights (space_from rs) q
unfolding space_from
rights_given [] q = sym (ap (option_map (λ (f : Frame). f.rights)) (get-empty {X = Frame} nat_cmp q))
rights_given (r ∷ rs) q =
    let e = r.0 in
    ap (cond (in_run e.page e.count q) (Some e.rights)) (rights_given rs q)
    ∙ moved (in_run e.page e.count q) (frame_of_part e.page e.rights r.1 q) (get (space_from rs) q)
    ∙ ap (option_map (λ (f : Frame). f.rights)) (sym (get-with_pages (space_from rs) e.page e.count e.rights r.1 q))
  where
    moved : (b : Bool) (f : Frame) (o : Option Frame) → cond b (Some f.rights) (option_map (λ (g : Frame). g.rights) o) ≡ option_map (λ (g : Frame). g.rights) (cond b (Some f) o)
    moved true f o = refl
    moved false f o = refl

bytes_given : (t : Space) (page n rights : ℕ) (bytes : List ℕ) → length bytes ≡ n * 4096 → ((q : ℕ) → page ≤ q → q < page + n → get t q ≡ Some (frame_of_part page rights bytes q)) → bytes_from (memory_of t) (page * 4096) (n * 4096) ≡ bytes
bytes_given t page n rights bytes long there =
    same_number_lists (bytes_from (memory_of t) (page * 4096) (n * 4096)) bytes (length-bytes_from (memory_of t) (page * 4096) (n * 4096) ∙ sym long)
    (λ k h.
    let within = length-bytes_from (memory_of t) (page * 4096) (n * 4096) in
    let q = page + k / 4096 in
    let off = k % 4096 in
    let low : (q - page) * 4096 ≡ k / 4096 * 4096 = omega arith in
    let size : (q - page) * 4096 + 4096 - (q - page) * 4096 ≡ 4096 = omega arith in
    let at : page * 4096 + k ≡ q * 4096 + off = omega arith in
    let place : (q - page) * 4096 + off ≡ k = omega arith in
    let part = drop ((q - page) * 4096) bytes in
    get_or-bytes_from (memory_of t) (page * 4096) (n * 4096) k (omega arith)
    ∙ ap (λ a. byte_or_zero (memory_of t a)) at
    ∙ ap byte_or_zero (memory_of-place t q off (omega arith) ∙ ap (λ o. cell_in o off) (there q (omega arith) (omega arith)))
    ∙ ap (λ c. get_or (take c part) off 0) size
    ∙ get_or-take 4096 part off 0 (omega arith)
    ∙ get_or-drop ((q - page) * 4096) bytes off 0
    ∙ ap (λ i. get_or bytes i 0) place)

all_given : (from : ℕ) (rs : List (Extent × List ℕ)) (t : Space) → AreMaximal (map (λ r. r.0) rs) → AreFrom from (map (λ r. r.0) rs) → All (λ (r : Extent × List ℕ). length r.1 ≡ (r.0).count * 4096) rs →
    ((q : ℕ) → from ≤ q → get t q ≡ get (space_from rs) q) → map (λ e. (e, region_bytes t e)) (map (λ r. r.0) rs) ≡ rs
unfolding space_from
all_given from [] t maximal low whole same = refl
all_given from (r ∷ rs) t maximal low whole same =
    let e = r.0 in
    let first : region_bytes t e ≡ r.1 = bytes_given t e.page e.count e.rights r.1 (All-head (λ (r : Extent × List ℕ). length r.1 ≡ (r.0).count * 4096) r rs whole) (λ q above below.
    same q (omega arith)
    ∙ get-with_pages (space_from rs) e.page e.count e.rights r.1 q
    ∙ ap (λ b. cond b (Some (frame_of_part e.page e.rights r.1 q)) (get (space_from rs) q)) (in_run_within e.page e.count q above below)) in
    let rest = all_given (extent_end e) rs t maximal.2 (AreFrom-before e (map (λ r. r.0) rs) maximal.1) (All-tail (λ (r : Extent × List ℕ). length r.1 ≡ (r.0).count * 4096) r rs whole) (λ q past.
    same q (omega arith)
    ∙ get-with_pages (space_from rs) e.page e.count e.rights r.1 q
    ∙ ap (λ b. cond b (Some (frame_of_part e.page e.rights r.1 q)) (get (space_from rs) q)) (in_run_behind e.page e.count q past)) in
    λ i. (e, first i) ∷ rest i

pub regions-space_from : (rs : List (Extent × List ℕ)) → AreRegionsWithBytes rs → regions_with_bytes (space_from rs) ≡ rs
regions-space_from rs are =
    let own : map (λ r. r.0) rs ≡ regions (space_from rs) =
    regions-unique (space_from rs) (map (λ r. r.0) rs) (record { maximal = are.maximal; rights = rights_given rs }) in
    ap (map (λ e. (e, region_bytes (space_from rs) e))) (sym own)
    ∙ all_given 0 rs (space_from rs) are.maximal (AreFrom-zero (map (λ r. r.0) rs)) are.whole (λ q low. refl)
