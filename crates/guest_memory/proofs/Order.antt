-- Pages in the order of their numbers, and what a look-up in their space finds.
use Rattle.std.proofs.Common.{◌+◌, Option, ◌↔◌, ◌≡◌, ℕ, zero, suc, ◌<◌, ◌≤◌, ◌==◌, cond, List, [], ◌∷◌, map, length, get_or, set, sym, subst, ap, ◌∙◌, arith, Some, None, Result, Ok, Err, MatchResult, inl, inr}
use Rattle.std.proofs.lemmas.Bool.{eq-eqb, ne_eqb, cases_eq, cases_lt}
use Rattle.std.proofs.lemmas.Bool.Decides.{nat_tests}
use Rattle.std.specs.List.Sorted.{IsSearchInRange, IsBinarySearchResult}
use Rattle.std.specs.declared.cmp.Ordering.TheVariants.{Less, Equal, Greater}
use Rattle.std.specs.Ordering.{nat_cmp, ordering_index}
use Rattle.std.specs.Cmp.{nat_cmp_total}
use Rattle.std.specs.Option.{is_some}
use Rattle.std.proofs.lemmas.Option.{same_Some}
use Rattle.std.specs.FinMap.{get, insert, find, len, empty, get-empty, get-from_entries, len-empty, len-insert, empty_of_len}
use Rattle.guest_space.specs.Space.{Frame, IsFrame, IsSpace}
use Rattle.guest_space.proofs.Spaces.{IsSpace-empty}
use Rattle.guest_space.proofs.Gets.{eq_by_nat_cmp}
use Rattle.guest_space.proofs.Puts.{put-put, put_comm}
use Rattle.guest_memory.specs.declared.page.Page.{Page}
use Rattle.guest_memory.specs.Pages.{frame_of, entry_of, space_of, AllAbove, AreInOrder, IsPlaceOf, IsGap, IsFound}

get-cons : (p : Page) (ps : List Page) (q : ℕ) → get (space_of (p ∷ ps)) q ≡ cond (q == p.number) (Some (frame_of p)) (get (space_of ps) q)
get-cons p ps q =
    get-from_entries nat_cmp_total (map entry_of (p ∷ ps)) q
    ∙ ap (λ b. cond b (Some (frame_of p)) (find nat_cmp q (map entry_of ps))) (eq_by_nat_cmp q p.number)
    ∙ ap (cond (q == p.number) (Some (frame_of p))) (sym (get-from_entries nat_cmp_total (map entry_of ps) q))

pub get-cons_here : (p : Page) (ps : List Page) (q : ℕ) → q ≡ p.number → get (space_of (p ∷ ps)) q ≡ Some (frame_of p)
get-cons_here p ps q e = get-cons p ps q ∙ ap (λ b. cond b (Some (frame_of p)) (get (space_of ps) q)) (eq-eqb q p.number e)

pub get-cons_there : (p : Page) (ps : List Page) (q : ℕ) → (q ≡ p.number → ⊥) → get (space_of (p ∷ ps)) q ≡ get (space_of ps) q
get-cons_there p ps q ne = get-cons p ps q ∙ ap (λ b. cond b (Some (frame_of p)) (get (space_of ps) q)) (ne_eqb q p.number ne)

-- each page has a number above n
pub number_above : (n : ℕ) (ps : List Page) (i : ℕ) (d : Page) → AllAbove n ps → i < length ps → n < (get_or ps i d).number
number_above n [] i d order h = absurd (omega arith)
number_above n (p ∷ ps) zero d order h = order.0
number_above n (p ∷ ps) (suc i) d order h = let rest = number_above p.number ps i d order.2 (omega arith) in let first = order.0 in omega arith

-- the page at a place is found under its number
pub get-place : (n : ℕ) (ps : List Page) (q i : ℕ) (d : Page) → AllAbove n ps → i < length ps → (get_or ps i d).number ≡ q → get (space_of ps) q ≡ Some (frame_of (get_or ps i d))
get-place n [] q i d order h e = absurd (omega arith)
get-place n (p ∷ ps) q zero d order h e = get-cons_here p ps q (sym e)
get-place n (p ∷ ps) q (suc i) d order h e =
    let rest = number_above p.number ps i d order.2 (omega arith) in
    get-cons_there p ps q (λ same. omega arith) ∙ get-place p.number ps q i d order.2 (omega arith) e

-- no page of a number
pub get_absent : (ps : List Page) (q : ℕ) → ((i : ℕ) (d : Page) → i < length ps → (get_or ps i d).number ≡ q → ⊥) → get (space_of ps) q ≡ None
get_absent [] q none = get-empty nat_cmp q
get_absent (p ∷ ps) q none = get-cons_there p ps q (λ e. none 0 p (omega arith) (sym e)) ∙ get_absent ps q (λ i d h e. none (suc i) d (omega arith) e)

pub IsFound-from_place : (ps : List Page) (q i : ℕ) → AreInOrder ps → IsPlaceOf ps q i → IsFound ps q i
IsFound-from_place ps q i order place = record { within = place.within; is = place.is; held = λ d. get-place 0 ps q i d order place.within (place.is d) }

pub get_gap : (ps : List Page) (q i : ℕ) → IsGap ps q 1 i → get (space_of ps) q ≡ None
get_gap ps q i gap =
    get_absent ps q
    (λ k d h e. elim (cases_lt k i) [
      | inl before ↦ let low = gap.lower k d before in omega arith
      | inr after ↦ let high = gap.higher k d after h in omega arith
    ])

-- the numbers rise
pub numbers_rise : (n : ℕ) (ps : List Page) (i j : ℕ) (d : Page) → AllAbove n ps → i < j → j < length ps → (get_or ps i d).number < (get_or ps j d).number
numbers_rise n [] i j d order low high = absurd (omega arith)
numbers_rise n (p ∷ ps) i zero d order low high = absurd (omega arith)
numbers_rise n (p ∷ ps) zero (suc j) d order low high = number_above p.number ps j d order.2 (omega arith)
numbers_rise n (p ∷ ps) (suc i) (suc j) d order low high = numbers_rise p.number ps i j d order.2 (omega arith) (omega arith)

pub numbers_rise_weakly : (n : ℕ) (ps : List Page) (i j : ℕ) (d : Page) → AllAbove n ps → i ≤ j → j < length ps → (get_or ps i d).number ≤ (get_or ps j d).number
numbers_rise_weakly n ps i j d order low high =
    elim (cases_eq i j) [
      | inl e ↦ let same : (get_or ps i d).number ≡ (get_or ps j d).number = ap (λ k. (get_or ps k d).number) e in omega arith
      | inr ne ↦ let less = numbers_rise n ps i j d order (omega arith) high in omega arith
    ]

index_rises : (a b q : ℕ) → a ≤ b → ordering_index (nat_cmp a q) ≤ ordering_index (nat_cmp b q)
index_rises a b q h = grind (arith, nat_tests)

less_than : (a q : ℕ) → nat_cmp a q ≡ Less → a < q
less_than a q e = grind (arith, nat_tests)

greater_than : (a q : ℕ) → nat_cmp a q ≡ Greater → q < a
greater_than a q e = grind (arith, nat_tests)

equal_to : (a q : ℕ) → nat_cmp a q ≡ Equal → a ≡ q
equal_to a q e = grind (arith, nat_tests)

-- what a binary search by number finds
pub place_or_gap : (ps : List Page) (q : ℕ) (r : Result ℕ ℕ) → AreInOrder ps → IsSearchInRange r (length ps) → IsBinarySearchResult (λ p. nat_cmp p.number q) ps r → MatchResult r (IsPlaceOf ps q) (IsGap ps q 1)
place_or_gap ps q (Ok i) order bound found = record { within = bound; is = λ d. equal_to _ q (found d) }
place_or_gap ps q (Err i) order bound found =
    let parts = found (λ k j d low high. index_rises _ _ q (numbers_rise_weakly 0 ps k j d order low high)) in
    record { within = bound; lower = λ k d h. less_than _ q (parts.0 k d (omega arith) h); higher = λ k d low h. let more = greater_than _ q (parts.1 k d low h) in omega arith }

-- each page is one that a process may have
pub IsFrame-at : (n : ℕ) (ps : List Page) (i : ℕ) (d : Page) → AllAbove n ps → i < length ps → IsFrame (get_or ps i d).number (frame_of (get_or ps i d))
IsFrame-at n [] i d order h = absurd (omega arith)
IsFrame-at n (p ∷ ps) zero d order h = order.1
IsFrame-at n (p ∷ ps) (suc i) d order h = IsFrame-at p.number ps i d order.2 (omega arith)

-- a page in place of one of its number
pub AllAbove-set : (n : ℕ) (ps : List Page) (i : ℕ) (p : Page) → AllAbove n ps → i < length ps → ((d : Page) → (get_or ps i d).number ≡ p.number) → IsFrame p.number (frame_of p) → AllAbove n (set ps i p)
AllAbove-set n [] i p order h same sound = absurd (omega arith)
AllAbove-set n (x ∷ ps) zero p order h same sound =
    let e : x.number ≡ p.number = same p in
    (subst (λ k. n < k) e order.0, sound, subst (λ k. AllAbove k ps) e order.2)
AllAbove-set n (x ∷ ps) (suc i) p order h same sound = (order.0, order.1, AllAbove-set x.number ps i p order.2 (omega arith) same sound)

pub space_of-set : (n : ℕ) (ps : List Page) (i : ℕ) (p : Page) → AllAbove n ps → i < length ps → ((d : Page) → (get_or ps i d).number ≡ p.number) → space_of (set ps i p) ≡ insert (space_of ps) p.number (frame_of p)
space_of-set n [] i p order h same = absurd (omega arith)
space_of-set n (x ∷ ps) zero p order h same =
    sym (put-put (space_of ps) p.number (frame_of x) (frame_of p)) ∙ ap (λ k. insert (insert (space_of ps) k (frame_of x)) p.number (frame_of p)) (sym (same p))
space_of-set n (x ∷ ps) (suc i) p order h same =
    let above = number_above x.number ps i p order.2 (omega arith) in
    let e = same p in
    ap (λ s. insert s x.number (frame_of x)) (space_of-set x.number ps i p order.2 (omega arith) same)
    ∙ put_comm (space_of ps) x.number p.number (frame_of p) (frame_of x) (λ both. omega arith)

-- how many pages the space has
pub len-space_of : (n : ℕ) (ps : List Page) → AllAbove n ps → len (space_of ps) ≡ length ps
len-space_of n [] order = len-empty nat_cmp Frame
len-space_of n (p ∷ ps) order =
    let new = get_absent ps p.number (λ i d h e. let a = number_above p.number ps i d order.2 h in omega arith) in
    len-insert nat_cmp_total (space_of ps) p.number (frame_of p)
    ∙ ap (λ (o : Option Frame). cond (is_some o) (len (space_of ps)) (len (space_of ps) + 1)) new
    ∙ ap (λ k. k + 1) (len-space_of p.number ps order.2)
    ∙ (let e : length ps + 1 ≡ suc (length ps) = omega arith in e)

pub IsSpace-space_of : (n : ℕ) (ps : List Page) → AllAbove n ps → IsSpace (space_of ps)
IsSpace-space_of n [] order = IsSpace-empty
IsSpace-space_of n (p ∷ ps) order = record {
  frames = λ q frame is. elim (cases_eq q p.number) [
    | inl e ↦
        let same = same_Some (frame_of p) frame (sym (get-cons_here p ps q e) ∙ is) in
        subst (IsFrame q) same (subst (λ k. IsFrame k (frame_of p)) (sym e) order.1)
    | inr ne ↦ (IsSpace-space_of p.number ps order.2).frames q frame (sym (get-cons_there p ps q ne) ∙ is)
  ];
}

pub empty_space_of : (n : ℕ) (ps : List Page) → AllAbove n ps → (length ps ≡ 0) ↔ (space_of ps ≡ empty)
empty_space_of n ps order =
    (λ e. empty_of_len (space_of ps) (len-space_of n ps order ∙ e), λ e. sym (len-space_of n ps order) ∙ ap len e ∙ len-empty nat_cmp Frame)
