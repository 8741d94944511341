-- Parts of pages copied out of a memory and into it.
use Rattle.std.proofs.Common.{◌≡◌, ℕ, ◌+◌, ◌-◌, ◌*◌, ◌/◌, ◌%◌, ◌<◌, ◌≤◌, List, [], ◌++◌, length, get_or, take, drop, set, refl, sym, ap, ◌∙◌, arith, Some, None, inl, inr}
use Rattle.std.proofs.lemmas.Bool.{cases_lt}
use Rattle.std.proofs.lemmas.Grind.{same_number_lists}
use Rattle.std.proofs.lemmas.List.{length-drop, length-append, length-take-le, get_or-take, get_or-drop, get_or_append_left, get_or-append_right, take-append-drop, take-take, drop-take, nil_from_length}
use Rattle.std.proofs.lemmas.List.Elements.{All-same, All-append, All-take, All-drop}
use Rattle.std.proofs.lemmas.Slice.{take-put_mid}
use Rattle.std.specs.List.{All}
use Rattle.std.specs.FinMap.{get, insert}
use Rattle.rv_core.specs.Memory.{Memory, cell_with}
use borrow.Rule.Slice.PartMut.{put_mid}
use Rattle.guest_space.specs.Space.{Space, Frame, IsSpace, cell_in, memory_of, with_memory, bytes_from, byte_or_zero}
use Rattle.guest_space.specs.Access.{Missing, fault_of_cell, first_fault, with_bytes}
use Rattle.guest_space.proofs.FirstSome.{first_some_none_at}
use Rattle.guest_space.proofs.Spaces.{length-bytes_from}
use Rattle.guest_space.proofs.Cells.{SameRights-with_bytes, with_memory-unique, with_memory_same, get_or-bytes_from, place_of_address}
use Rattle.guest_space.proofs.Bytes.{bytes_from-add, with_bytes-nil, with_bytes-append, with_bytes_before, with_bytes_past, with_bytes_within}
use Rattle.guest_memory.specs.declared.page.Page.{Page}
use Rattle.guest_memory.specs.Pages.{frame_of, space_of, AreInOrder, IsFound}
use Rattle.guest_memory.specs.PageBytes.{with_part}
use Rattle.guest_memory.proofs.Order.{IsSpace-space_of}
use Rattle.guest_memory.proofs.InPage.{with_frame_bytes, cell_of_page, memory_of-put}
use Rattle.guest_memory.proofs.Writes.{with_page_bytes, found_whole, found_small, AreInOrder-with_bytes, space_of-with_bytes}

pub bytes_from-zero : (m : Memory) (at : ℕ) → bytes_from m at 0 ≡ []
unfolding bytes_from
bytes_from-zero m at = refl

-- ---- out of a page
pub bytes_from-in_page : (s : Space) (page k n : ℕ) (frame : Frame) → get s page ≡ Some frame → length frame.bytes ≡ 4096 → k + n ≤ 4096 → take n (drop k frame.bytes) ≡ bytes_from (memory_of s) (page * 4096 + k) n
bytes_from-in_page s page k n frame held whole fits =
    let long : length (take n (drop k frame.bytes)) ≡ n = length-take-le n (drop k frame.bytes) (let e = length-drop k frame.bytes in omega arith) in
    same_number_lists (take n (drop k frame.bytes)) (bytes_from (memory_of s) (page * 4096 + k) n) (long ∙ sym (length-bytes_from (memory_of s) (page * 4096 + k) n))
    (λ j h.
    let d : page * 4096 + k + j ≡ page * 4096 + (k + j) = omega arith in
    get_or-take n (drop k frame.bytes) j 0 (omega arith)
    ∙ get_or-drop k frame.bytes j 0
    ∙ sym (get_or-bytes_from (memory_of s) (page * 4096 + k) n j (omega arith)
    ∙ ap (λ a. byte_or_zero (memory_of s a)) d
    ∙ ap byte_or_zero (cell_of_page s page (k + j) frame held (omega arith))))

-- a step of a loop that copies one part after another
pub copied-more : (m : Memory) (at done n : ℕ) (buf part : List ℕ) → done + n ≤ length buf → take done buf ≡ bytes_from m at done → part ≡ bytes_from m (at + done) n → take (done + n) (put_mid done (done + n - done) buf part) ≡ bytes_from m at (done + n)
copied-more m at done n buf part fits before is =
    let long : length part ≡ n = ap length is ∙ length-bytes_from m (at + done) n in
    take-put_mid done (done + n - done) buf part (done + n) (omega arith) (omega arith)
    ∙ (λ i. before i ++ is i)
    ∙ sym (bytes_from-add m at done n)

pub done_within : (done n : ℕ) (buf part : List ℕ) → done + n ≤ length buf → length part ≡ n → done + n ≤ length (put_mid done (done + n - done) buf part)
done_within done n buf part fits long =
    let rest = drop (done + n - done) (drop done buf) in
    let a = length-take-le done buf (omega arith) in
    let b = length-append (take done buf) (part ++ rest) in
    let c = length-append part rest in
    omega arith

pub part_of_place : (ps : List Page) (at i n : ℕ) (d : Page) → AreInOrder ps → IsFound ps (at / 4096) i → at % 4096 + n ≤ 4096 → take (at % 4096 + n - at % 4096) (drop (at % 4096) (get_or ps i d).bytes) ≡ bytes_from (memory_of (space_of ps)) at n
part_of_place ps at i n d order found fits =
    let p = place_of_address at in
    ap (λ k. take k (drop (at % 4096) (get_or ps i d).bytes)) (let e : at % 4096 + n - at % 4096 ≡ n = omega arith in e)
    ∙ bytes_from-in_page (space_of ps) (at / 4096) (at % 4096) n (frame_of (get_or ps i d)) (found.held d) (found_whole ps (at / 4096) i d order found) fits
    ∙ ap (λ a. bytes_from (memory_of (space_of ps)) a n) p.0

-- a page that isn't there is a fault
pub absent_fault : (s : Space) (right at n a : ℕ) → first_fault (memory_of s) right at n ≡ None → at ≤ a → a < at + n → get s (a / 4096) ≡ None → ⊥
absent_fault s right at n a is low high absent =
    let none : fault_of_cell right (memory_of s a) ≡ None = first_some_none_at (λ b. fault_of_cell right (memory_of s b)) at n a is low high in
    let missing : fault_of_cell right (memory_of s a) ≡ Some Missing = ap (λ o. fault_of_cell right (cell_in o (a % 4096))) absent in
    let both : Some Missing ≡ None = sym missing ∙ none in
    cc

-- ---- into a page
module _ (bytes part : List ℕ) (k : ℕ) (fits : k + length part ≤ length bytes) where
  front : length (take k bytes) ≡ k
  front = length-take-le k bytes (omega arith)

  pub length-with_part : length (with_part bytes k part) ≡ length bytes
  length-with_part =
      let a = front in
      let b = length-append (take k bytes) (part ++ drop (k + length part) bytes) in
      let c = length-append part (drop (k + length part) bytes) in
      let d = length-drop (k + length part) bytes in
      omega arith

  with_part_before : (j : ℕ) → j < k → get_or (with_part bytes k part) j 0 ≡ get_or bytes j 0
  with_part_before j h =
      let a = front in
      get_or_append_left (take k bytes) (part ++ drop (k + length part) bytes) 0 j (omega arith) ∙ get_or-take k bytes j 0 h

  with_part_within : (j : ℕ) → j < length part → get_or (with_part bytes k part) (k + j) 0 ≡ get_or part j 0
  with_part_within j h =
      get_or-append_right (take k bytes) (part ++ drop (k + length part) bytes) k (k + j) 0 front (omega arith)
      ∙ ap (λ n. get_or (part ++ drop (k + length part) bytes) n 0) (let e : k + j - k ≡ j = omega arith in e)
      ∙ get_or_append_left part (drop (k + length part) bytes) 0 j h

  with_part_past : (j : ℕ) → k + length part ≤ j → get_or (with_part bytes k part) j 0 ≡ get_or bytes j 0
  with_part_past j h =
      get_or-append_right (take k bytes) (part ++ drop (k + length part) bytes) k j 0 front (omega arith)
      ∙ get_or-append_right part (drop (k + length part) bytes) (length part) (j - k) 0 refl (omega arith)
      ∙ get_or-drop (k + length part) bytes (j - k - length part) 0
      ∙ ap (λ n. get_or bytes n 0) (let e : k + length part + (j - k - length part) ≡ j = omega arith in e)

pub with_bytes-in_page : (s : Space) (page k : ℕ) (part : List ℕ) (frame : Frame) → get s page ≡ Some frame → length frame.bytes ≡ 4096 → k + length part ≤ 4096 → with_bytes (memory_of s) (page * 4096 + k) part ≡ memory_of (insert s page (with_frame_bytes frame (with_part frame.bytes k part)))
with_bytes-in_page s page k part frame held whole fits =
    let m : Memory = memory_of s in
    let inside : k + length part ≤ length frame.bytes = omega arith in
    memory_of-put s page frame (with_part frame.bytes k part) (with_bytes m (page * 4096 + k) part)
    (λ a ne. elim (cases_lt a (page * 4096 + k)) [
      | inl before ↦ with_bytes_before m (page * 4096 + k) part a before
      | inr after ↦ elim (cases_lt a (page * 4096 + k + length part)) [
        | inl within ↦ absurd (ne (omega arith))
        | inr past ↦ with_bytes_past m (page * 4096 + k) part a past
      ]
    ])
    (λ j h. elim (cases_lt j k) [
      | inl before ↦ with_bytes_before m (page * 4096 + k) part (page * 4096 + j) (omega arith)
          ∙ cell_of_page s page j frame held h
          ∙ ap (λ b. Some (record { byte = b; rights = frame.rights })) (sym (with_part_before frame.bytes part k inside j before))
      | inr after ↦ elim (cases_lt j (k + length part)) [
        | inl within ↦
            let e : page * 4096 + j ≡ page * 4096 + k + (j - k) = omega arith in
            let f : j ≡ k + (j - k) = omega arith in
            ap (with_bytes m (page * 4096 + k) part) e
            ∙ with_bytes_within m (page * 4096 + k) part (j - k) (omega arith)
            ∙ ap (λ a. cell_with (m a) (get_or part (j - k) 0)) (sym e)
            ∙ ap (λ c. cell_with c (get_or part (j - k) 0)) (cell_of_page s page j frame held h)
            ∙ ap (λ b. Some (record { byte = b; rights = frame.rights })) (sym (ap (λ n. get_or (with_part frame.bytes k part) n 0) f ∙ with_part_within frame.bytes part k inside (j - k) (omega arith)))
        | inr past ↦ with_bytes_past m (page * 4096 + k) part (page * 4096 + j) (omega arith)
            ∙ cell_of_page s page j frame held h
            ∙ ap (λ b. Some (record { byte = b; rights = frame.rights })) (sym (with_part_past frame.bytes part k inside j past))
      ]
    ])

pub AreInOrder-part : (ps : List Page) (q i k : ℕ) (part : List ℕ) (d : Page) (bytes : List ℕ) → AreInOrder ps → IsFound ps q i → k + length part ≤ 4096 → All (λ byte. byte < 256) part → bytes ≡ with_part (get_or ps i d).bytes k part → AreInOrder (set ps i (with_page_bytes (get_or ps i d) bytes))
AreInOrder-part ps q i k part d bytes order found fits small is =
    let whole = found_whole ps q i d order found in
    let old = (get_or ps i d).bytes in
    let rest = found_small ps q i d order found in
    AreInOrder-with_bytes ps q i d bytes order found (ap length is ∙ length-with_part (get_or ps i d).bytes part k (omega arith) ∙ whole)
    (All-same (λ b. b < 256) bytes _ is
    (All-append (λ b. b < 256) (take k old) (part ++ drop (k + length part) old) (All-take (λ b. b < 256) k old rest)
    (All-append (λ b. b < 256) part (drop (k + length part) old) small (All-drop (λ b. b < 256) (k + length part) old rest))))

pub memory_of-part : (ps : List Page) (at i : ℕ) (part : List ℕ) (d : Page) (bytes : List ℕ) → AreInOrder ps → IsFound ps (at / 4096) i → at % 4096 + length part ≤ 4096 → bytes ≡ with_part (get_or ps i d).bytes (at % 4096) part → memory_of (space_of (set ps i (with_page_bytes (get_or ps i d) bytes))) ≡ with_bytes (memory_of (space_of ps)) at part
memory_of-part ps at i part d bytes order found fits is =
    let p = place_of_address at in
    ap memory_of (space_of-with_bytes ps (at / 4096) i d bytes order found)
    ∙ ap (λ b. memory_of (insert (space_of ps) (at / 4096) (with_frame_bytes (frame_of (get_or ps i d)) b))) is
    ∙ sym (with_bytes-in_page (space_of ps) (at / 4096) (at % 4096) part (frame_of (get_or ps i d)) (found.held d) (found_whole ps (at / 4096) i d order found) fits)
    ∙ ap (λ a. with_bytes (memory_of (space_of ps)) a part) p.0

-- a page that isn't there
pub with_bytes-absent : (s : Space) (at : ℕ) (part : List ℕ) → get s (at / 4096) ≡ None → at % 4096 + length part ≤ 4096 → memory_of s ≡ with_bytes (memory_of s) at part
with_bytes-absent s at part absent fits = λ i a. sym (same a) i
  where
    m : Memory
    m = memory_of s

    same : (a : ℕ) → with_bytes m at part a ≡ m a
    same a =
        elim (cases_lt a at) [
          | inl before ↦ with_bytes_before m at part a before
          | inr after ↦ elim (cases_lt a (at + length part)) [
            | inl within ↦
                let e : a ≡ at + (a - at) = omega arith in
                let q : at / 4096 ≡ a / 4096 = omega arith in
                let none : None ≡ m a = ap (λ o. cell_in o (a % 4096)) (sym absent) ∙ ap (λ k. cell_in (get s k) (a % 4096)) q in
                ap (with_bytes m at part) e
                ∙ with_bytes_within m at part (a - at) (omega arith)
                ∙ ap (λ b. cell_with (m b) (get_or part (a - at) 0)) (sym e)
                ∙ ap (λ c. cell_with c (get_or part (a - at) 0)) (sym none)
                ∙ none
            | inr past ↦ with_bytes_past m at part a past
          ]
        ]

take-add : (n k : ℕ) (xs : List ℕ) → take (n + k) xs ≡ take n xs ++ take k (drop n xs)
take-add n k xs = sym (take-append-drop n (take (n + k) xs)) ∙ (λ i. take-take n (n + k) xs (omega arith) i ++ drop-take n k xs i)

-- a step of a loop that writes one part after another
pub written_part-more : (m : Memory) (at done n : ℕ) (bytes : List ℕ) → done + n ≤ length bytes → with_bytes (with_bytes m at (take done bytes)) (at + done) (take (done + n - done) (drop done bytes)) ≡ with_bytes m at (take (done + n) bytes)
written_part-more m at done n bytes fits =
    let long : length (take done bytes) ≡ done = length-take-le done bytes (omega arith) in
    ap (λ k. with_bytes (with_bytes m at (take done bytes)) (at + done) (take k (drop done bytes))) (let e : done + n - done ≡ n = omega arith in e)
    ∙ ap (λ k. with_bytes (with_bytes m at (take done bytes)) (at + k) (take n (drop done bytes))) (sym long)
    ∙ sym (with_bytes-append m at (take done bytes) (take n (drop done bytes)))
    ∙ ap (with_bytes m at) (sym (take-add done n bytes))

-- the space after bytes are written
pub space_of-written : (s : Space) (ps : List Page) (at : ℕ) (bytes : List ℕ) → IsSpace s → AreInOrder ps → memory_of (space_of ps) ≡ with_bytes (memory_of s) at bytes → space_of ps ≡ with_memory s (with_bytes (memory_of s) at bytes)
space_of-written s ps at bytes sound order is =
    with_memory-unique s (space_of ps) (with_bytes (memory_of s) at bytes) sound (IsSpace-space_of 0 ps order) (SameRights-with_bytes (memory_of s) at bytes) is

-- and after none are
pub nothing_written : (s : Space) (at : ℕ) (bytes : List ℕ) → IsSpace s → length bytes ≡ 0 → s ≡ with_memory s (with_bytes (memory_of s) at bytes)
nothing_written s at bytes sound empty =
    sym (ap (with_memory s) (ap (with_bytes (memory_of s) at) (nil_from_length bytes empty) ∙ with_bytes-nil (memory_of s) at) ∙ with_memory_same s sound)

pub nothing_read : (m : Memory) (at : ℕ) (buf : List ℕ) → length buf ≡ 0 → buf ≡ bytes_from m at (length buf)
nothing_read m at buf empty = nil_from_length buf empty ∙ sym (ap (bytes_from m at) empty ∙ bytes_from-zero m at)
