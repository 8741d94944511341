-- The numbers and rights of a list of pages, which a store leaves as they are, and the code that is held by them.
use Rattle.std.proofs.Common.{◌≡◌, ℕ, zero, suc, ◌+◌, ◌-◌, ◌*◌, ◌%◌, ◌^◌, ◌<◌, List, [], ◌∷◌, map, length, get_or, set, refl, sym, ap, ◌∙◌, subst, arith, Some}
use Rattle.std.specs.Int.Bits.{bit_and}
use Rattle.rv_core.specs.Memory.{fetched, number_at}
use Rattle.guest_space.specs.Space.{memory_of}
use Rattle.guest_memory.specs.declared.page.Page.{Page}
use Rattle.guest_memory.specs.Pages.{AreInOrder, IsCode, IsFound, frame_of, label_of, space_of}
use Rattle.guest_memory.specs.PageBytes.{bytes_number}
use Rattle.guest_memory.proofs.InPage.{number_at-in_page}
use Rattle.guest_memory.proofs.Order.{IsFound-from_place}
use Rattle.guest_memory.proofs.Writes.{with_page_bytes, found_below}

pub labels-with_bytes : (ps : List Page) (i : ℕ) (d : Page) (bytes : List ℕ) → map label_of (set ps i (with_page_bytes (get_or ps i d) bytes)) ≡ map label_of ps
labels-with_bytes [] i d bytes = refl
labels-with_bytes (p ∷ ps) zero d bytes = refl
labels-with_bytes (p ∷ ps) (suc i) d bytes = ap (λ labels. label_of p ∷ labels) (labels-with_bytes ps i d bytes)

pub length-labels : (ps : List Page) → length (map label_of ps) ≡ length ps
length-labels [] = refl
length-labels (p ∷ ps) = ap suc (length-labels ps)

pub label-at : (ps : List Page) (i : ℕ) (d : Page) → i < length ps → get_or (map label_of ps) i (0, 0) ≡ label_of (get_or ps i d)
label-at [] i d h = absurd (omega arith)
label-at (p ∷ ps) zero d h = refl
label-at (p ∷ ps) (suc i) d h = label-at ps i d (omega arith)

-- the words of the code that is held
pub fetched-code : (ps : List Page) (at i start room : ℕ) (d : Page) → AreInOrder ps → IsCode (map label_of ps) i start room → at < 2 ^ 64 → (at + (2 ^ 64 - start)) % 2 ^ 64 < room → fetched (memory_of (space_of ps)) at ≡ Some (bytes_number (get_or ps i d).bytes ((at + (2 ^ 64 - start)) % 2 ^ 64) 4)
fetched-code ps at i start room d order code small near =
    let within : i < length ps = subst (λ n. i < n) (length-labels ps) code.within in
    let label = λ (e : Page). label-at ps i e within in
    let page : ℕ = (get_or (map label_of ps) i (0, 0)).0 in
    let found : IsFound ps page i = IsFound-from_place ps page i order (record { within = within; is = λ e. sym (ap (λ (l : ℕ × ℕ). l.0) (label e)) }) in
    let below = found_below ps page i order found in
    let starts = code.begins in
    let fits = code.most in
    let offset : ℕ = (at + (2 ^ 64 - start)) % 2 ^ 64 in
    let runs : bit_and (get_or ps i d).rights 4 ≡ 4 = sym (ap (λ (l : ℕ × ℕ). bit_and l.1 4) (label d)) ∙ code.runs in
    let address : page * 4096 + offset ≡ at = omega arith in
    sym (ap (λ a. number_at (memory_of (space_of ps)) 4 a 4) address)
    ∙ number_at-in_page (space_of ps) 4 page offset 4 (frame_of (get_or ps i d)) (found.held d) runs (omega arith) (omega arith)
