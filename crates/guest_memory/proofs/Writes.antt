-- Other bytes in a page of a list, and what the memory then is.
use Rattle.std.proofs.Common.{◌≡◌, ℕ, suc, ◌+◌, ◌-◌, ◌/◌, ◌%◌, ◌^◌, ◌<◌, ◌≤◌, true, cond, List, [], length, get_or, set, sym, ap, ◌∙◌, arith}
use Rattle.std.proofs.lemmas.List.{length-set}
use Rattle.std.proofs.lemmas.List.Elements.{All-same, All-set}
use Rattle.std.specs.Int.Bits.{bit_and}
use Rattle.std.specs.List.{All}
use Rattle.std.specs.Option.{is_some}
use Rattle.std.specs.FinMap.{insert}
use Rattle.rv_core.specs.Memory.{Memory, storable, stored, with_byte_at, written}
use Rattle.guest_space.specs.Space.{memory_of}
use Rattle.guest_space.proofs.Cells.{place_of_address}
use Rattle.guest_space.proofs.Runs.{with_frame_rights}
use Rattle.guest_memory.specs.declared.page.Page.{Page}
use Rattle.guest_memory.specs.Pages.{frame_of, space_of, AreInOrder, IsFound}
use Rattle.guest_memory.specs.PageBytes.{with_number}
use Rattle.guest_memory.proofs.Order.{IsFrame-at, AllAbove-set, space_of-set}
use Rattle.guest_memory.proofs.InPage.{with_frame_bytes, with_byte_at-in_page, written-in_page, length-with_number, All-with_number, number_at-in_page}

abbrev pub with_page_bytes : Page → List ℕ → Page
with_page_bytes p bytes = record { number = p.number; rights = p.rights; bytes = bytes }

pub found_whole : (ps : List Page) (q i : ℕ) (d : Page) → AreInOrder ps → IsFound ps q i → length (get_or ps i d).bytes ≡ 4096
found_whole ps q i d order found = (IsFrame-at 0 ps i d order found.within).whole

pub found_small : (ps : List Page) (q i : ℕ) (d : Page) → AreInOrder ps → IsFound ps q i → All (λ byte. byte < 256) (get_or ps i d).bytes
found_small ps q i d order found = (IsFrame-at 0 ps i d order found.within).small

pub AreInOrder-with_bytes : (ps : List Page) (q i : ℕ) (d : Page) (bytes : List ℕ) → AreInOrder ps → IsFound ps q i → length bytes ≡ 4096 → All (λ byte. byte < 256) bytes → AreInOrder (set ps i (with_page_bytes (get_or ps i d) bytes))
AreInOrder-with_bytes ps q i d bytes order found whole small =
    let old = IsFrame-at 0 ps i d order found.within in
    AllAbove-set 0 ps i (with_page_bytes (get_or ps i d) bytes) order found.within (λ e. found.is e ∙ sym (found.is d))
    (record { above = old.above; below = old.below; whole = whole; small = small; rights = old.rights })

pub space_of-with_bytes : (ps : List Page) (q i : ℕ) (d : Page) (bytes : List ℕ) → AreInOrder ps → IsFound ps q i → space_of (set ps i (with_page_bytes (get_or ps i d) bytes)) ≡ insert (space_of ps) q (with_frame_bytes (frame_of (get_or ps i d)) bytes)
space_of-with_bytes ps q i d bytes order found =
    space_of-set 0 ps i (with_page_bytes (get_or ps i d) bytes) order found.within (λ e. found.is e ∙ sym (found.is d))
    ∙ ap (λ k. insert (space_of ps) k (with_frame_bytes (frame_of (get_or ps i d)) bytes)) (found.is d)

-- one byte
pub AreInOrder-byte : (ps : List Page) (q i k byte : ℕ) (d : Page) → AreInOrder ps → IsFound ps q i → byte < 256 → AreInOrder (set ps i (with_page_bytes (get_or ps i d) (set (get_or ps i d).bytes k byte)))
AreInOrder-byte ps q i k byte d order found small =
    AreInOrder-with_bytes ps q i d (set (get_or ps i d).bytes k byte) order found
    (length-set (get_or ps i d).bytes k byte ∙ found_whole ps q i d order found)
    (All-set (λ b. b < 256) (get_or ps i d).bytes k byte small (found_small ps q i d order found))

pub memory_of-byte : (ps : List Page) (at i byte : ℕ) (d : Page) → AreInOrder ps → IsFound ps (at / 4096) i → memory_of (space_of (set ps i (with_page_bytes (get_or ps i d) (set (get_or ps i d).bytes (at % 4096) byte)))) ≡ with_byte_at (memory_of (space_of ps)) at byte
memory_of-byte ps at i byte d order found =
    let p = place_of_address at in
    ap memory_of (space_of-with_bytes ps (at / 4096) i d (set (get_or ps i d).bytes (at % 4096) byte) order found)
    ∙ sym (with_byte_at-in_page (space_of ps) (at / 4096) (at % 4096) byte (frame_of (get_or ps i d)) (found.held d) (found_whole ps (at / 4096) i d order found) p.1)
    ∙ ap (λ a. with_byte_at (memory_of (space_of ps)) a byte) p.0

-- a number
pub AreInOrder-number : (ps : List Page) (q i k n value : ℕ) (d : Page) (bytes : List ℕ) → AreInOrder ps → IsFound ps q i → bytes ≡ with_number (get_or ps i d).bytes k n value → AreInOrder (set ps i (with_page_bytes (get_or ps i d) bytes))
AreInOrder-number ps q i k n value d bytes order found is =
    AreInOrder-with_bytes ps q i d bytes order found
    (ap length is ∙ length-with_number (get_or ps i d).bytes k n value ∙ found_whole ps q i d order found)
    (All-same (λ b. b < 256) bytes _ is (All-with_number (get_or ps i d).bytes k n value (found_small ps q i d order found)))

pub memory_of-number : (ps : List Page) (at i n value : ℕ) (d : Page) (bytes : List ℕ) → AreInOrder ps → IsFound ps (at / 4096) i → at < 2 ^ 64 → at % 4096 + n ≤ 4096 → bytes ≡ with_number (get_or ps i d).bytes (at % 4096) n value → memory_of (space_of (set ps i (with_page_bytes (get_or ps i d) bytes))) ≡ written (memory_of (space_of ps)) at n value
memory_of-number ps at i n value d bytes order found small fits is =
    let p = place_of_address at in
    ap memory_of (space_of-with_bytes ps (at / 4096) i d bytes order found)
    ∙ ap (λ b. memory_of (insert (space_of ps) (at / 4096) (with_frame_bytes (frame_of (get_or ps i d)) b))) is
    ∙ sym (written-in_page (space_of ps) (at / 4096) (at % 4096) n value (frame_of (get_or ps i d)) (found.held d) (found_whole ps (at / 4096) i d order found) fits (omega arith))
    ∙ ap (λ a. written (memory_of (space_of ps)) a n value) p.0

-- a step of a loop that writes one byte after another
pub written-more : (m : Memory) (at k n value : ℕ) → k < n → written (with_byte_at m at (value % 256)) ((at + 1) % 2 ^ 64) (n - (k + 1)) (value / 256) ≡ written m at (n - k) value
written-more m at k n value h = ap (λ left. written m at left value) (let e : suc (n - (k + 1)) ≡ n - k = omega arith in e)

-- a store within a page that can be written
pub memory_of-stored : (ps : List Page) (at i n value : ℕ) (d : Page) (bytes : List ℕ) → AreInOrder ps → IsFound ps (at / 4096) i → at < 2 ^ 64 → at % 4096 + n ≤ 4096 → bit_and (get_or ps i d).rights 2 ≡ 2 → bytes ≡ with_number (get_or ps i d).bytes (at % 4096) n value → memory_of (space_of (set ps i (with_page_bytes (get_or ps i d) bytes))) ≡ stored (memory_of (space_of ps)) at n value
memory_of-stored ps at i n value d bytes order found small fits allowed is =
    let p = place_of_address at in
    let m : Memory = memory_of (space_of ps) in
    let number = number_at-in_page (space_of ps) 2 (at / 4096) (at % 4096) n (frame_of (get_or ps i d)) (found.held d) allowed fits (omega arith) in
    let can : storable m at n ≡ true = ap (λ a. storable m a n) (sym p.0) ∙ ap is_some number in
    memory_of-number ps at i n value d bytes order found small fits is ∙ ap (λ b. cond b (written m at n value) m) (sym can)

-- ---- other rights
abbrev pub with_page_rights : Page → ℕ → Page
with_page_rights p rights = record { number = p.number; rights = rights; bytes = p.bytes }

pub AreInOrder-with_rights : (ps : List Page) (q i rights : ℕ) (d : Page) → AreInOrder ps → IsFound ps q i → rights < 8 → AreInOrder (set ps i (with_page_rights (get_or ps i d) rights))
AreInOrder-with_rights ps q i rights d order found below =
    let old = IsFrame-at 0 ps i d order found.within in
    AllAbove-set 0 ps i (with_page_rights (get_or ps i d) rights) order found.within (λ e. found.is e ∙ sym (found.is d))
    (record { above = old.above; below = old.below; whole = old.whole; small = old.small; rights = below })

pub space_of-with_rights : (ps : List Page) (q i rights : ℕ) (d : Page) → AreInOrder ps → IsFound ps q i → space_of (set ps i (with_page_rights (get_or ps i d) rights)) ≡ insert (space_of ps) q (with_frame_rights rights (frame_of (get_or ps i d)))
space_of-with_rights ps q i rights d order found =
    space_of-set 0 ps i (with_page_rights (get_or ps i d) rights) order found.within (λ e. found.is e ∙ sym (found.is d))
    ∙ ap (λ k. insert (space_of ps) k (with_frame_rights rights (frame_of (get_or ps i d)))) (found.is d)

pub found_below : (ps : List Page) (q i : ℕ) → AreInOrder ps → IsFound ps q i → q < 2 ^ 26
found_below ps q i order found =
    let d : Page = record { number = 0; rights = 0; bytes = [] } in
    let below = (IsFrame-at 0 ps i d order found.within).below in
    let same = found.is d in
    omega arith
