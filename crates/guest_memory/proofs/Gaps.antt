-- Places for new runs of pages, and runs of pages that are there or aren't.
use Rattle.std.proofs.Common.{◌≡◌, ℕ, zero, suc, ◌+◌, ◌-◌, ◌<◌, ◌≤◌, Bool, true, false, not, cond, List, [], ◌∷◌, ◌++◌, length, get_or, replicate, take, drop, refl, sym, ap, ◌∙◌, subst, add-one, arith, Option, Some, None, inl, inr}
use Rattle.std.proofs.lemmas.Bool.{cases_lt, cases_eq, false≢true, true≢false}
use Rattle.std.proofs.lemmas.Bool.Decides.{nat_tests}
use Rattle.std.proofs.lemmas.List.{get_or_default, length-append, length-take-le, take-append-drop, take-append-le, drop-append-le}
use Rattle.std.proofs.Math.Seq.{drop-append_seam, take-append_seam}
use Rattle.std.proofs.lemmas.List.Edits.{length-insert, get_or-insert_below, get_or-insert_at, get_or-insert_above, insert-append_left, insert-append_right, insert_end}
use Rattle.std.specs.List.{insert, filter, slice_rotate_right}
use Rattle.std.specs.Ordering.{nat_cmp}
use Rattle.std.specs.Option.{is_some, MatchOption}
use Rattle.std.specs.FinMap as map
use Rattle.std.specs.FinMap.{get, get-empty}
use Rattle.guest_space.specs.First.{first_some}
use Rattle.guest_space.specs.Space.{Space, IsFrame, in_run, blank, with_run, without_run}
use Rattle.guest_space.specs.Run.{is_run, first_held, if_held, if_missing}
use Rattle.guest_space.proofs.RunLaws.{if_held_some, if_held_none, if_missing_none, if_missing_some}
use Rattle.guest_space.proofs.FirstSome.{first_some-here, first_some-none, first_some-at}
use Rattle.guest_space.proofs.Gets.{get-without_run}
use Rattle.guest_space.proofs.Runs.{with_run-zero, with_run-suc}
use Rattle.guest_space.proofs.Spaces.{IsFrame-blank}
use Rattle.guest_space.proofs.Puts.{put_comm, same_spaces}
use Rattle.guest_memory.specs.declared.page.Page.{Page}
use Rattle.guest_memory.specs.Pages.{frame_of, space_of, AllAbove, AreInOrder, IsPlaceOf, IsGap, IsFound, IsAbsent}
use Rattle.guest_memory.proofs.Order.{get-cons_here, get-cons_there, get-place, get_gap, numbers_rise_weakly}

-- what a look for a page says of a run that it starts
pub if_missing-found : (ps : List Page) (q : ℕ) (r : Option ℕ) → MatchOption r (IsAbsent ps q) (IsFound ps q) → is_some r ≡ true → if_missing (space_of ps) q ≡ None
if_missing-found ps q None is there = absurd (false≢true there)
if_missing-found ps q (Some i) is there = if_missing_none (space_of ps) q _ (is.held (record { number = 0; rights = 0; bytes = [] }))

pub if_missing-absent : (ps : List Page) (q : ℕ) (r : Option ℕ) → MatchOption r (IsAbsent ps q) (IsFound ps q) → is_some r ≡ false → if_missing (space_of ps) q ≡ Some q
if_missing-absent ps q None is gone = if_missing_some (space_of ps) q is
if_missing-absent ps q (Some i) is gone = absurd (true≢false gone)

-- ---- the place for a run
pub IsGap-at : (ps : List Page) (page count place q : ℕ) → IsGap ps page count place → page ≤ q → q < page + count → IsGap ps q 1 place
IsGap-at ps page count place q gap low high = record {
  within = gap.within;
  lower = λ k d h. let l = gap.lower k d h in omega arith;
  higher = λ k d h g. let u = gap.higher k d h g in omega arith;
}

pub first_held-gap : (ps : List Page) (page count place : ℕ) → IsGap ps page count place → first_held (space_of ps) page count ≡ None
first_held-gap ps page count place gap =
    first_some-none (if_held (space_of ps)) page count
    (λ q low high. if_held_none (space_of ps) q (get_gap ps q place (IsGap-at ps page count place q gap low high)))

pub first_held-first : (ps : List Page) (page count place : ℕ) → AreInOrder ps → 0 < count → IsPlaceOf ps page place → first_held (space_of ps) page count ≡ Some page
first_held-first ps page count place order some at =
    let p : Page = record { number = 0; rights = 0; bytes = [] } in
    ap (first_some (if_held (space_of ps)) page) (let e : count ≡ count - 1 + 1 = omega arith in e)
    ∙ first_some-here (if_held (space_of ps)) page (count - 1) page
    (if_held_some (space_of ps) page (frame_of (get_or ps place p)) (get-place 0 ps page place p order at.within (at.is p)))

-- a place whose page is the first of a run that is there
pub first_held-place : (ps : List Page) (page count place : ℕ) (d : Page) → AreInOrder ps → IsGap ps page 1 place → place < length ps → (get_or ps place d).number < page + count → first_held (space_of ps) page count ≡ Some (get_or ps place d).number
first_held-place ps page count place d order gap within below =
    let q = (get_or ps place d).number in
    let above = gap.higher place d (omega arith) within in
    first_some-at (if_held (space_of ps)) page count q q (omega arith) below
    (if_held_some (space_of ps) q (frame_of (get_or ps place d)) (get-place 0 ps q place d order within refl))
    (λ b low high. if_held_none (space_of ps) b (get_gap ps b place (record {
      within = gap.within;
      lower = λ k e h. let l = gap.lower k e h in omega arith;
      higher = λ k e h g. let u = numbers_rise_weakly 0 ps place k e order h g in let same : q ≡ (get_or ps place e).number = ap (λ p. p.number) (get_or_default ps place d e within) in omega arith;
    })))

pub IsGap-run : (ps : List Page) (page count place : ℕ) → AreInOrder ps → IsGap ps page 1 place → (place < length ps → (d : Page) → page + count ≤ (get_or ps place d).number) → IsGap ps page count place
IsGap-run ps page count place order gap past = record {
  within = gap.within;
  lower = gap.lower;
  higher = λ k d h g.
      let p = past (omega arith) d in
      let u = numbers_rise_weakly 0 ps place k d order h g in omega arith;
}

-- ---- a page inserted in its place
AllAbove-weaker : (m n : ℕ) (ps : List Page) → m ≤ n → AllAbove n ps → AllAbove m ps
AllAbove-weaker m n [] h order = tt
AllAbove-weaker m n (p ∷ ps) h order = let above = order.0 in (omega arith, order.1, order.2)

AllAbove_from_first : (m n : ℕ) (ps : List Page) → AllAbove n ps → (0 < length ps → (d : Page) → m < (get_or ps 0 d).number) → AllAbove m ps
AllAbove_from_first m n [] order first = tt
AllAbove_from_first m n (p ∷ ps) order first = (first (omega arith) p, order.1, order.2)

pub AllAbove-insert : (n : ℕ) (ps : List Page) (i : ℕ) (p : Page) → AllAbove n ps → n < p.number → IsFrame p.number (frame_of p) → IsGap ps p.number 1 i → AllAbove n (insert ps i p)
AllAbove-insert n ps zero p order above sound gap =
    (above, sound, AllAbove_from_first p.number n ps order (λ h d. let u = gap.higher 0 d (omega arith) h in omega arith))
AllAbove-insert n [] (suc i) p order above sound gap = let w = gap.within in absurd (omega arith)
AllAbove-insert n (x ∷ ps) (suc i) p order above sound gap = (
  order.0,
  order.1,
  AllAbove-insert x.number ps i p order.2 (gap.lower 0 x (omega arith)) sound (record {
    within = let w = gap.within in omega arith;
    lower = λ k d h. gap.lower (suc k) d (omega arith);
    higher = λ k d h g. gap.higher (suc k) d (omega arith) (omega arith);
  }),
)

pub space_of-insert : (n : ℕ) (ps : List Page) (i : ℕ) (p : Page) → IsGap ps p.number 1 i → space_of (insert ps i p) ≡ map.insert (space_of ps) p.number (frame_of p)
space_of-insert n ps zero p gap = refl
space_of-insert n [] (suc i) p gap = let w = gap.within in absurd (omega arith)
space_of-insert n (x ∷ ps) (suc i) p gap =
    let low = gap.lower 0 x (omega arith) in
    ap (λ s. map.insert s x.number (frame_of x)) (space_of-insert x.number ps i p (record {
      within = let w = gap.within in omega arith;
      lower = λ k d h. gap.lower (suc k) d (omega arith);
      higher = λ k d h g. gap.higher (suc k) d (omega arith) (omega arith);
    }))
    ∙ put_comm (space_of ps) x.number p.number (frame_of p) (frame_of x) (λ e. omega arith)

-- the rest of a run goes behind its first page
pub IsGap-insert : (ps : List Page) (page count i : ℕ) (p : Page) → p.number ≡ page → 0 < count → IsGap ps page count i → IsGap (insert ps i p) (page + 1) (count - 1) (i + 1)
IsGap-insert ps page count i p is some gap =
    let w = gap.within in
    let long = length-insert ps i p w in
    record {
      within = omega arith;
      lower = λ k d h. elim (cases_lt k i) [
        | inl before ↦ let e = ap (λ x. x.number) (get_or-insert_below ps i p d k before w) in let l = gap.lower k d before in omega arith
        | inr after ↦ let e : (get_or (insert ps i p) k d).number ≡ p.number = ap (λ x. (get_or (insert ps i p) x d).number) (let same : k ≡ i = omega arith in same) ∙ ap (λ x. x.number) (get_or-insert_at ps i p d w) in omega arith
      ];
      higher = λ k d h g.
          let e : (get_or (insert ps i p) k d).number ≡ (get_or ps (k - 1) d).number = ap (λ x. (get_or (insert ps i p) x d).number) (let same : k ≡ k - 1 + 1 = omega arith in same) ∙ ap (λ x. x.number) (get_or-insert_above ps i p d (k - 1) (omega arith) w) in
          let u = gap.higher (k - 1) d (omega arith) (omega arith) in
          omega arith;
    }

pub IsGap-same : (ps : List Page) (page count i page' count' i' : ℕ) → page ≡ page' → count ≡ count' → i ≡ i' → IsGap ps page count i → IsGap ps page' count' i'
IsGap-same ps page count i page' count' i' a b c gap = record {
  within = let w = gap.within in omega arith;
  lower = λ k d h. let l = gap.lower k d (omega arith) in omega arith;
  higher = λ k d h g. let u = gap.higher k d (omega arith) g in omega arith;
}

-- ---- a page of a run inserted behind those before it
abbrev pub blank_page : ℕ → ℕ → Page
blank_page number rights = record { number = number; rights = rights; bytes = replicate 4096 0 }

module _ (ps : List Page) (page count place rights k : ℕ) (run : is_run page count ≡ true) (below : rights < 8) (h : k < count) (order : AreInOrder ps) (gap : IsGap ps (page + k) (count - k) (place + k)) where
  gap_here : IsGap ps (page + k) 1 (place + k)
  gap_here = IsGap-at ps (page + k) (count - k) (place + k) (page + k) gap (omega arith) (omega arith)

  page_fits : IsFrame (page + k) (blank rights)
  page_fits = IsFrame-blank page count rights (page + k) run below (grind (arith, nat_tests))

  pub AreInOrder-next : AreInOrder (insert ps (place + k) (blank_page (page + k) rights))
  AreInOrder-next = let f = page_fits.above in AllAbove-insert 0 ps (place + k) (blank_page (page + k) rights) order (omega arith) page_fits gap_here

  pub IsGap-next : IsGap (insert ps (place + k) (blank_page (page + k) rights)) (page + (k + 1)) (count - (k + 1)) (place + (k + 1))
  IsGap-next =
      IsGap-same (insert ps (place + k) (blank_page (page + k) rights)) (page + k + 1) (count - k - 1) (place + k + 1) (page + (k + 1)) (count - (k + 1)) (place + (k + 1))
      (omega arith) (omega arith) (omega arith)
      (IsGap-insert ps (page + k) (count - k) (place + k) (blank_page (page + k) rights) refl (omega arith) gap)

  pub space_of-next : (s : Space) → space_of ps ≡ with_run s page k rights → space_of (insert ps (place + k) (blank_page (page + k) rights)) ≡ with_run s page (k + 1) rights
  space_of-next s is =
      space_of-insert 0 ps (place + k) (blank_page (page + k) rights) gap_here
      ∙ ap (λ t. map.insert t (page + k) (blank rights)) is
      ∙ sym (with_run-suc s page k rights)

-- the first pages of a run
abbrev pub blank_pages : ℕ → ℕ → ℕ → List Page
blank_pages page rights zero = []
blank_pages page rights (suc k) = blank_pages page rights k ++ blank_page (page + k) rights ∷ []

pub length-blank_pages : (page rights k : ℕ) → length (blank_pages page rights k) ≡ k
length-blank_pages page rights zero = refl
length-blank_pages page rights (suc k) =
    length-append (blank_pages page rights k) (blank_page (page + k) rights ∷ []) ∙ ap (λ n. n + 1) (length-blank_pages page rights k) ∙ add-one k

pub blank_pages-more : (page rights k : ℕ) → blank_pages page rights (k + 1) ≡ blank_pages page rights k ++ blank_page (page + k) rights ∷ []
blank_pages-more page rights k = ap (blank_pages page rights) (add-one k)

-- pages with the first of a run at a place
abbrev pub with_blank_pages : List Page → ℕ → ℕ → ℕ → ℕ → List Page
with_blank_pages ps page place rights k = take place ps ++ (blank_pages page rights k ++ drop place ps)

with_blank_pages-none : (ps : List Page) (page place rights : ℕ) → with_blank_pages ps page place rights 0 ≡ ps
with_blank_pages-none ps page place rights = take-append-drop place ps

with_blank_pages-more : (ps : List Page) (page place rights k : ℕ) → place ≤ length ps
    → insert (with_blank_pages ps page place rights k) (place + k) (blank_page (page + k) rights) ≡ with_blank_pages ps page place rights (k + 1)
with_blank_pages-more ps page place rights k within =
    let new = blank_pages page rights k in
    let p = blank_page (page + k) rights in
    let long = length-blank_pages page rights k in
    let here : place + k - place ≡ length new = omega arith in
    insert-append_right (take place ps) (new ++ drop place ps) place (place + k) p (length-take-le place ps within) (omega arith)
    ∙ ap (λ i. take place ps ++ insert (new ++ drop place ps) i p) here
    ∙ ap (λ qs. take place ps ++ qs) (insert-append_left new (drop place ps) (length new) p (omega arith))
    ∙ ap (λ qs. take place ps ++ (qs ++ drop place ps)) (insert_end new p ∙ sym (blank_pages-more page rights k))

-- what a run of pages leaves at their place
pub record IsRunAdded (ps : List Page) (page count place rights k : ℕ) (added : List Page) : Type 0 where
  pub order : AreInOrder added
  pub gap : IsGap added (page + k) (count - k) (place + k)
  pub after : space_of added ≡ with_run (space_of ps) page k rights

module _ (ps : List Page) (page count place rights : ℕ) (run : is_run page count ≡ true) (below : rights < 8) (order : AreInOrder ps) (gap : IsGap ps page count place) where
  run_added : (k : ℕ) → k ≤ count → IsRunAdded ps page count place rights k (with_blank_pages ps page place rights k)
  run_added zero h =
      subst (IsRunAdded ps page count place rights 0) (sym (with_blank_pages-none ps page place rights)) (record {
        order = order;
        gap = IsGap-same ps page count place (page + 0) (count - 0) (place + 0) (omega arith) (omega arith) (omega arith) gap;
        after = sym (with_run-zero (space_of ps) page rights);
      })
  run_added (suc k) h =
      let before = run_added k (omega arith) in
      let added = with_blank_pages ps page place rights k in
      let next : IsRunAdded ps page count place rights (k + 1) (insert added (place + k) (blank_page (page + k) rights)) = record {
        order = AreInOrder-next added page count place rights k run below (omega arith) before.order before.gap;
        gap = IsGap-next added page count place rights k run below (omega arith) before.order before.gap;
        after = space_of-next added page count place rights k run below (omega arith) before.order before.gap (space_of ps) before.after;
      } in
      let more : k + 1 ≡ suc k = omega arith in
      subst (λ n. IsRunAdded ps page count place rights n (with_blank_pages ps page place rights n)) more
      (subst (IsRunAdded ps page count place rights (k + 1)) (with_blank_pages-more ps page place rights k gap.within) next)

  pub IsRunAdded-rotated : (added : List Page) → added ≡ take place (ps ++ blank_pages page rights count) ++ slice_rotate_right (drop place (ps ++ blank_pages page rights count)) count → IsRunAdded ps page count place rights count added
  IsRunAdded-rotated added is =
      let new = blank_pages page rights count in
      let long = length-blank_pages page rights count in
      let rest = drop-append-le place ps new gap.within in
      let behind : length (drop place ps ++ new) - count ≡ length (drop place ps) = omega (arith, length-append (drop place ps) new) in
      let turned : slice_rotate_right (drop place (ps ++ new)) count ≡ new ++ drop place ps =
      ap (λ qs. slice_rotate_right qs count) rest
      ∙ ap (λ n. drop n (drop place ps ++ new) ++ take n (drop place ps ++ new)) behind
      ∙ (λ i. drop-append_seam (drop place ps) new i ++ take-append_seam (drop place ps) new i) in
      let same : added ≡ with_blank_pages ps page place rights count = is ∙ (λ i. take-append-le place ps new gap.within i ++ turned i) in
      subst (IsRunAdded ps page count place rights count) (sym same) (run_added count (omega arith))

-- ---- the pages outside a run
abbrev pub is_outside : ℕ → ℕ → Page → Bool
is_outside page count p = not (in_run page count p.number)

pub AllAbove-filter : (test : Page → Bool) (n : ℕ) (ps : List Page) → AllAbove n ps → AllAbove n (filter test ps)
AllAbove-filter test n [] order = tt
AllAbove-filter test n (p ∷ ps) order =
    let rest = AllAbove-filter test p.number ps order.2 in
    let above = order.0 in
    elim (test p) as (λ b. AllAbove n (cond b (p ∷ filter test ps) (filter test ps))) [
      | true ↦ (order.0, order.1, rest)
      | false ↦ AllAbove-weaker n p.number (filter test ps) (omega arith) rest
    ]

get-filter : (page count : ℕ) (ps : List Page) (q : ℕ) → get (space_of (filter (is_outside page count) ps)) q ≡ cond (in_run page count q) None (get (space_of ps) q)
get-filter page count [] q = sym (elim (in_run page count q) as (λ b. cond b None (get (space_of []) q) ≡ get (space_of []) q) [ true ↦ sym (get-empty nat_cmp q) | false ↦ refl ])
get-filter page count (p ∷ ps) q =
    let rest = get-filter page count ps q in
    elim (in_run page count p.number) as (λ b. in_run page count p.number ≡ b → get (space_of (cond (not b) (p ∷ filter (is_outside page count) ps) (filter (is_outside page count) ps))) q ≡ cond (in_run page count q) None (get (space_of (p ∷ ps)) q)) [
      | true ↦ λ within. rest ∙ elim (cases_eq q p.number) [
        | inl e ↦ let inside : in_run page count q ≡ true = ap (in_run page count) e ∙ within in
            ap (λ b. cond b None (get (space_of ps) q)) inside ∙ sym (ap (λ b. cond b None (get (space_of (p ∷ ps)) q)) inside)
        | inr ne ↦ ap (cond (in_run page count q) None) (sym (get-cons_there p ps q ne))
      ]
      | false ↦ λ outside. elim (cases_eq q p.number) [
        | inl e ↦ get-cons_here p (filter (is_outside page count) ps) q e
            ∙ sym (ap (λ b. cond b None (get (space_of (p ∷ ps)) q)) (ap (in_run page count) e ∙ outside) ∙ get-cons_here p ps q e)
        | inr ne ↦ get-cons_there p (filter (is_outside page count) ps) q ne ∙ rest ∙ ap (cond (in_run page count q) None) (sym (get-cons_there p ps q ne))
      ]
    ] refl

pub space_of-filter : (page count : ℕ) (ps : List Page) → space_of (filter (is_outside page count) ps) ≡ without_run (space_of ps) page count
space_of-filter page count ps = same_spaces _ _ (λ q. get-filter page count ps q ∙ sym (get-without_run (space_of ps) page count q))
