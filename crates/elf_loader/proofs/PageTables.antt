-- Tables of pages, and what comes of adding rights to some.
use Rattle.std.proofs.Common.{◌≡◌, ◌≢◌, ℕ, zero, suc, ◌+◌, ◌-◌, ◌<◌, ◌≤◌, Bool, true, false, cond, leb, ltb, ◌&&◌, ◌||◌, ◌==◌, List, [], ◌∷◌, ◌++◌, map, filter, length, get_or, set, take, drop, bit_or, Err, refl, ap, ap₂, sym, subst, ◌∙◌, ⊎_elim, arith, length-append}
use Rattle.std.specs.List.{range_with_len, insert}
use Rattle.std.specs.List.Sorted.{IsBinarySearchResult}
use Rattle.std.specs.Ordering.{nat_cmp, ordering_index}
use Rattle.std.specs.declared.cmp.Ordering.TheVariants.{Less, Equal, Greater}
use Rattle.std.specs.Int.Bits.{or_zero_l, or_zero_r}
use Rattle.std.proofs.lemmas.Bool.{or_left, or_right, or_parts, or_cases, and_parts, cases_Bool, cases_order, cases_lt, cases_eq, eq-eqb, ne_eqb, eqb-true, leb-true, ltb-true}
use Rattle.std.proofs.lemmas.Bool.Decides.{nat_tests}
use Rattle.std.proofs.lemmas.List.{take_at, drop_at, length-map, set-append_right, get_or_append_left, get_or-append_right}
use Rattle.elf_loader.specs.declared.pages.Page.{Page}
use Rattle.elf_loader.specs.declared.header.ProgramHeader.{ProgramHeader}
use Rattle.elf_loader.specs.Fields.{e_phnum, program_header}
use Rattle.elf_loader.specs.Segments.{any_below, union_below, is_segment, first_page, last_page, touches, segment_rights, is_touched, page_rights, end_page}
use Rattle.elf_loader.specs.Refusal.{pages}
use Rattle.elf_loader.specs.Steps.{table_of, touched_pages, Adds, Overflows}
use Rattle.elf_loader.proofs.Below.{any_below-more, any_below-at, any_below-some, union_below-more}
use Rattle.elf_loader.proofs.TouchedPages.{touches-within, touches-no_segment, is_touched-from_end, is_touched-last}

-- Where a test implies another

pub length-filter-le : (p q : ℕ → Bool) → ((x : ℕ) → p x ≡ true → q x ≡ true) → (xs : List ℕ) → length (filter p xs) ≤ length (filter q xs)
length-filter-le p q implies [] = omega arith
length-filter-le p q implies (x ∷ xs) =
    let rest = length-filter-le p q implies xs in
    ⊎_elim
    (λ (here : p x ≡ true). rw (here, implies x here) (omega arith))
    (λ (other : p x ≡ false). rw other (⊎_elim (λ (more : q x ≡ true). rw more (omega arith)) (λ (none : q x ≡ false). rw none rest) (cases_Bool (q x))))
    (cases_Bool (p x))

-- The held pages of a range

abbrev part : (ℕ → Bool) → (ℕ → ℕ) → ℕ → ℕ → List Page
part held rights a n = map (λ q. record { number = q; rights = rights q }) (filter held (range_with_len a n))

part-same : (held other : ℕ → Bool) (rights others : ℕ → ℕ) (n a : ℕ) → ((q : ℕ) → a ≤ q → q < a + n → held q ≡ other q) → ((q : ℕ) → a ≤ q → q < a + n → rights q ≡ others q) → part held rights a n ≡ part other others a n
part-same held other rights others zero a same alike = refl
part-same held other rights others (suc n) a same alike =
    let rest = part-same held other rights others n (a + 1) (λ q above below. same q (omega arith) (omega arith)) (λ q above below. alike q (omega arith) (omega arith)) in
    let here = same a (omega arith) (omega arith) in
    ⊎_elim
    (λ (is : held a ≡ true). rw (is, sym here ∙ is) (λ i. record { number = a; rights = alike a (omega arith) (omega arith) i } ∷ rest i))
    (λ (not : held a ≡ false). rw (not, sym here ∙ not) rest)
    (cases_Bool (held a))

pub table_of-same : (held other : ℕ → Bool) (rights others : ℕ → ℕ) (n : ℕ) → ((q : ℕ) → held q ≡ other q) → ((q : ℕ) → rights q ≡ others q) → table_of held rights n ≡ table_of other others n
unfolding table_of
table_of-same held other rights others n same alike = part-same held other rights others n 0 (λ q above below. same q) (λ q above below. alike q)

module _ (held : ℕ → Bool) (rights : ℕ → ℕ) where
  part-append : (m a n : ℕ) → part held rights a (m + n) ≡ part held rights a m ++ part held rights (a + m) n
  part-append zero a n = ap₂ (λ x k. part held rights x k) (omega arith) (omega arith)
  part-append (suc m) a n =
      let next : suc m + n ≡ suc (m + n) = omega arith in
      let rest : part held rights (a + 1) (m + n) ≡ part held rights (a + 1) m ++ part held rights (a + suc m) n =
      part-append m (a + 1) n ∙ ap (λ x. part held rights (a + 1) m ++ part held rights x n) (omega arith) in
      ap (part held rights a) next
      ∙ ⊎_elim
      (λ (is : held a ≡ true). rw is (ap (λ pages. record { number = a; rights = rights a } ∷ pages) rest))
      (λ (not : held a ≡ false). rw not rest)
      (cases_Bool (held a))

  -- the page at a place
  abbrev IsIn : ℕ → ℕ → ℕ → Type 0
  IsIn a n q = (a ≤ q) × (q < a + n) × (held q ≡ true)

  at_cons : (a n : ℕ) (pages : List Page) → held a ≡ true → ((k : ℕ) (d : Page) → k < length pages → IsIn (a + 1) n (get_or pages k d).number) → (k : ℕ) (d : Page) → k < length (record { number = a; rights = rights a } ∷ pages) → IsIn a (suc n) (get_or (record { number = a; rights = rights a } ∷ pages) k d).number
  at_cons a n pages is rest zero d within = (omega arith, omega arith, is)
  at_cons a n pages is rest (suc k) d within = let there = rest k d (omega arith) in (omega (arith, there.0), omega (arith, there.1), there.2)

  part-at : (n a k : ℕ) (d : Page) → k < length (part held rights a n) → IsIn a n (get_or (part held rights a n) k d).number
  part-at zero a k d within = absurd (omega arith)
  part-at (suc n) a k d within =
      ⊎_elim
      (λ (is : held a ≡ true). rw is (at_cons a n (part held rights (a + 1) n) is (λ k d inside. part-at n (a + 1) k d inside) k d (rw is at within)))
      (λ (not : held a ≡ false). rw not (let there = part-at n (a + 1) k d (rw not at within) in (omega (arith, there.0), omega (arith, there.1), there.2)))
      (cases_Bool (held a))

  rises_cons : (a n : ℕ) (pages : List Page) → ((k : ℕ) (d : Page) → k < length pages → IsIn (a + 1) n (get_or pages k d).number) → (d : Page) → ((i j : ℕ) → i < j → j < length pages → (get_or pages i d).number < (get_or pages j d).number) → (i j : ℕ) → i < j → j < length (record { number = a; rights = rights a } ∷ pages) → (get_or (record { number = a; rights = rights a } ∷ pages) i d).number < (get_or (record { number = a; rights = rights a } ∷ pages) j d).number
  rises_cons a n pages there d rest i zero low high = absurd (omega arith)
  rises_cons a n pages there d rest zero (suc j) low high = let at = there j d (omega arith) in omega (arith, at.0)
  rises_cons a n pages there d rest (suc i) (suc j) low high = rest i j (omega arith) (omega arith)

  part-rises : (n a i j : ℕ) (d : Page) → i < j → j < length (part held rights a n) → (get_or (part held rights a n) i d).number < (get_or (part held rights a n) j d).number
  part-rises zero a i j d low high = absurd (omega arith)
  part-rises (suc n) a i j d low high =
      ⊎_elim
      (λ (is : held a ≡ true). rw is (rises_cons a n (part held rights (a + 1) n) (part-at n (a + 1)) d (λ i j low high. part-rises n (a + 1) i j d low high) i j low (rw is at high)))
      (λ (not : held a ≡ false). rw not (part-rises n (a + 1) i j d low (rw not at high)))
      (cases_Bool (held a))

  -- the table about one page
  split_here : (n q : ℕ) → q < n → held q ≡ true → part held rights 0 n ≡ part held rights 0 q ++ record { number = q; rights = rights q } ∷ part held rights (q + 1) (n - q - 1)
  split_here n q below is =
      let sum : n ≡ q + suc (n - q - 1) = omega arith in
      let start : 0 + q ≡ q = omega arith in
      ap (part held rights 0) sum
      ∙ (part-append q 0 (suc (n - q - 1))
      ∙ (ap (λ x. part held rights 0 q ++ part held rights x (suc (n - q - 1))) start
      ∙ rw is refl))

  split_other : (n q : ℕ) → q < n → held q ≡ false → part held rights 0 n ≡ part held rights 0 q ++ part held rights (q + 1) (n - q - 1)
  split_other n q below not =
      let sum : n ≡ q + suc (n - q - 1) = omega arith in
      let start : 0 + q ≡ q = omega arith in
      ap (part held rights 0) sum
      ∙ (part-append q 0 (suc (n - q - 1))
      ∙ (ap (λ x. part held rights 0 q ++ part held rights x (suc (n - q - 1))) start
      ∙ rw not refl))

-- What a binary search finds

index_rises : (a b q : ℕ) → a ≤ b → ordering_index (nat_cmp a q) ≤ ordering_index (nat_cmp b q)
index_rises a b q h = grind (arith, nat_tests)

less_than : (a q : ℕ) → nat_cmp a q ≡ Less → a < q
less_than a q e = grind (arith, nat_tests)

greater_than : (a q : ℕ) → nat_cmp a q ≡ Greater → q < a
greater_than a q e = grind (arith, nat_tests)

equal_to : (a q : ℕ) → nat_cmp a q ≡ Equal → a ≡ q
equal_to a q e = grind (arith, nat_tests)

module _ (held : ℕ → Bool) (rights : ℕ → ℕ) (n q : ℕ) (below : q < n) where
  abbrev low : List Page
  low = part held rights 0 q

  abbrev high : List Page
  high = part held rights (q + 1) (n - q - 1)

  abbrev with_page : ℕ → List Page
  with_page r = low ++ record { number = q; rights = r } ∷ high

  place_here : (d : Page) → held q ≡ true → get_or (table_of held rights n) (length low) d ≡ record { number = q; rights = rights q }
  unfolding table_of
  place_here d is =
      let first : length low - length low ≡ 0 = omega arith in
      ap (λ pages. get_or pages (length low) d) (split_here held rights n q below is)
      ∙ (get_or-append_right low (record { number = q; rights = rights q } ∷ high) (length low) (length low) d refl (omega arith)
      ∙ ap (λ k. get_or (record { number = q; rights = rights q } ∷ high) k d) first)

  length_here : held q ≡ true → length low < length (table_of held rights n)
  unfolding table_of
  length_here is =
      let whole = ap length (split_here held rights n q below is) in
      let parts = length-append low (record { number = q; rights = rights q } ∷ high) in
      omega arith

  -- what a search that hits says
  pub found_at : (i : ℕ) → i < length (table_of held rights n) → ((d : Page) → nat_cmp (get_or (table_of held rights n) i d).number q ≡ Equal) → (held q ≡ true) × (i ≡ length low)
  unfolding table_of
  found_at i within hit =
      let d : Page = record { number = q; rights = 0 } in
      let is : (get_or (table_of held rights n) i d).number ≡ q = equal_to _ q (hit d) in
      let there = part-at held rights n 0 i d within in
      let held_is : held q ≡ true = subst (λ x. held x ≡ true) is there.2 in
      let place = ap (λ page. page.number) (place_here d held_is) in
      let size = length_here held_is in (
        held_is,
        ⊎_elim
            (λ (e : i ≡ length low). e)
            (λ o. ⊎_elim
            (λ (l : i < length low). let less = part-rises held rights n 0 i (length low) d l size in absurd (omega arith))
            (λ (l : length low < i). let less = part-rises held rights n 0 (length low) i d l within in absurd (omega arith))
            o)
            (cases_order i (length low)),
      )

  -- what a search that misses says
  pub gap_at : (i : ℕ) → i ≤ length (table_of held rights n) → IsBinarySearchResult (λ page. nat_cmp page.number q) (table_of held rights n) (Err i) → (held q ≡ false) × (i ≡ length low)
  unfolding table_of
  gap_at i within missed =
      let d : Page = record { number = q; rights = 0 } in
      let sides =
      missed (λ j k e le inside. index_rises _ _ q
      (⊎_elim
      (λ (same : j ≡ k). let alike = ap (λ x. (get_or (table_of held rights n) x e).number) same in omega arith)
      (λ o. ⊎_elim
      (λ (l : j < k). let less = part-rises held rights n 0 j k e l inside in omega arith)
      (λ (l : k < j). absurd (omega arith))
      o)
      (cases_order j k))) in
      ⊎_elim
      (λ (is : held q ≡ true).
      let place = ap (λ page. page.number) (place_here d is) in
      let size = length_here is in
      ⊎_elim
      (λ (l : length low < i). let less = less_than _ q (sides.0 (length low) d (omega arith) l) in absurd (omega arith))
      (λ (l : i ≤ length low). let more = greater_than _ q (sides.1 (length low) d l size) in absurd (omega arith))
      (cases_lt (length low) i))
      (λ (not : held q ≡ false).
      let split : table_of held rights n ≡ low ++ high = split_other held rights n q below not in
      let whole = ap length split in
      let parts = length-append low high in (
        not,
        ⊎_elim
            (λ (e : i ≡ length low). e)
            (λ o. ⊎_elim
            (λ (l : i < length low).
            let at = part-at held rights q 0 i d l in
            let more = greater_than _ q (sides.1 i d (omega arith) (omega arith)) in
            let same = ap (λ page. page.number) (ap (λ pages. get_or pages i d) split ∙ get_or_append_left low high d i l) in
            absurd (omega (arith, at.1, more, same)))
            (λ (l : length low < i).
            let at = part-at held rights (n - q - 1) (q + 1) 0 d (omega arith) in
            let less = less_than _ q (sides.0 (length low) d (omega arith) l) in
            let first : length low - length low ≡ 0 = omega arith in
            let same = ap (λ page. page.number) (ap (λ pages. get_or pages (length low) d) split ∙ (get_or-append_right low high (length low) (length low) d refl (omega arith) ∙ ap (λ k. get_or high k d) first)) in
            absurd (omega (arith, at.0, less, same)))
            o)
            (cases_order i (length low)),
      ))
      (cases_Bool (held q))

  -- the new table
  module _ (r : ℕ) where
    holds : ℕ → Bool
    holds x = held x || x == q

    rights_with : ℕ → ℕ
    rights_with x = bit_or (rights x) (cond (x == q) r 0)

    same_rights : (x : ℕ) → x ≢ q → rights x ≡ rights_with x
    unfolding rights_with
    same_rights x other = sym (ap (λ b. bit_or (rights x) (cond b r 0)) (ne_eqb x q other) ∙ or_zero_r (rights x))

    same_held : (x : ℕ) → x ≢ q → held x ≡ holds x
    unfolding holds
    same_held x other = sym (ap (λ b. held x || b) (ne_eqb x q other) ∙ or_false (held x))
      where
        or_false : (b : Bool) → (b || false) ≡ b
        or_false true = refl
        or_false false = refl

    table_with : table_of holds rights_with n ≡ with_page (bit_or (rights q) r)
    unfolding table_of rights_with holds
    table_with =
        split_here holds rights_with n q below (or_right (held q) (q == q) (eq-eqb q q refl))
        ∙ (ap₂ (λ front back. front ++ record { number = q; rights = bit_or (rights q) (cond (q == q) r 0) } ∷ back)
        (sym (part-same held holds rights rights_with q 0 (λ x above under. same_held x (λ e. omega arith)) (λ x above under. same_rights x (λ e. omega arith))))
        (sym (part-same held holds rights rights_with (n - q - 1) (q + 1) (λ x above under. same_held x (λ e. omega arith)) (λ x above under. same_rights x (λ e. omega arith))))
        ∙ ap (λ b. low ++ record { number = q; rights = bit_or (rights q) (cond b r 0) } ∷ high) (eq-eqb q q refl))

    set_here : held q ≡ true → (page : Page) → set (table_of held rights n) (length low) page ≡ low ++ page ∷ high
    unfolding table_of
    set_here is page =
        let first : length low - length low ≡ 0 = omega arith in
        ap (λ pages. set pages (length low) page) (split_here held rights n q below is)
        ∙ (set-append_right low (record { number = q; rights = rights q } ∷ high) (length low) (length low) page refl (omega arith)
        ∙ ap (λ k. low ++ set (record { number = q; rights = rights q } ∷ high) k page) first)

    -- rights for a page that is there
    pub set-found : (i : ℕ) (d : Page) → held q ≡ true → i ≡ length low → set (table_of held rights n) i (record { number = (get_or (table_of held rights n) i d).number; rights = bit_or (get_or (table_of held rights n) i d).rights r }) ≡ table_of (λ x. held x || x == q) (λ x. bit_or (rights x) (cond (x == q) r 0)) n
    unfolding holds rights_with
    set-found i d is at =
        let here : get_or (table_of held rights n) i d ≡ record { number = q; rights = rights q } = ap (λ k. get_or (table_of held rights n) k d) at ∙ place_here d is in
        ap (λ page. set (table_of held rights n) i (record { number = page.number; rights = bit_or page.rights r })) here
        ∙ (ap (λ k. set (table_of held rights n) k (record { number = q; rights = bit_or (rights q) r })) at
        ∙ (set_here is (record { number = q; rights = bit_or (rights q) r })
        ∙ sym table_with))

    -- a page that isn't there
    insert_gap : (i : ℕ) → held q ≡ false → i ≡ length low → rights q ≡ 0 → insert (table_of held rights n) i (record { number = q; rights = r }) ≡ with_page (bit_or (rights q) r)
    unfolding table_of
    insert_gap i not at none =
        let split : table_of held rights n ≡ low ++ high = split_other held rights n q below not in
        ap₂ (λ front back. front ++ record { number = q; rights = r } ∷ back)
        (ap₂ (λ k pages. take k pages) at split ∙ take_at low high (length low) refl)
        (ap₂ (λ k pages. drop k pages) at split ∙ drop_at low high (length low) refl)
        ∙ ap (λ x. low ++ record { number = q; rights = x } ∷ high) (sym (ap (λ x. bit_or x r) none ∙ or_zero_l r))

    pub insert-gap : (i : ℕ) → held q ≡ false → i ≡ length low → rights q ≡ 0 → insert (table_of held rights n) i (record { number = q; rights = r }) ≡ table_of (λ x. held x || x == q) (λ x. bit_or (rights x) (cond (x == q) r 0)) n
    unfolding holds rights_with
    insert-gap i not at none = insert_gap i not at none ∙ sym table_with

  pub length-with : held q ≡ false → length (filter (λ x. held x || x == q) (range_with_len 0 n)) ≡ length (table_of held rights n) + 1
  unfolding table_of holds rights_with
  length-with not =
      let split = ap length (split_other held rights n q below not) in
      let parts = length-append low high in
      let made = ap length (table_with 0) in
      let more = length-append low (record { number = q; rights = bit_or (rights q) 0 } ∷ high) in
      let page_of : ℕ → Page = λ x. record { number = x; rights = rights_with 0 x } in
      let size = length-map (filter (holds 0) (range_with_len 0 n)) page_of in
      omega arith

-- The same of a list that is the table

module _ (pages : List Page) (held : ℕ → Bool) (rights : ℕ → ℕ) (n q r : ℕ) (below : q < n) (is : pages ≡ table_of held rights n) where
  pub table_of-found : (i : ℕ) (d : Page) → i < length pages → ((e : Page) → nat_cmp (get_or pages i e).number q ≡ Equal) → set pages i (record { number = (get_or pages i d).number; rights = bit_or (get_or pages i d).rights r }) ≡ table_of (λ x. held x || x == q) (λ x. bit_or (rights x) (cond (x == q) r 0)) n
  table_of-found i d within hit =
      let found = found_at held rights n q below i (subst (λ xs. i < length xs) is within) (subst (λ xs. (e : Page) → nat_cmp (get_or xs i e).number q ≡ Equal) is hit) in
      subst (λ xs. set xs i (record { number = (get_or xs i d).number; rights = bit_or (get_or xs i d).rights r }) ≡ table_of (λ x. held x || x == q) (λ x. bit_or (rights x) (cond (x == q) r 0)) n) (sym is)
      (set-found held rights n q below r i d found.0 found.1)

  module _ (i : ℕ) (within : i ≤ length pages) (missed : IsBinarySearchResult (λ page. nat_cmp page.number q) pages (Err i)) where
    gap : (held q ≡ false) × (i ≡ length (low held rights n q below))
    gap = gap_at held rights n q below i (subst (λ xs. i ≤ length xs) is within) (subst (λ xs. IsBinarySearchResult (λ page. nat_cmp page.number q) xs (Err i)) is missed)

    pub table_of-missed : ((x : ℕ) → held x ≡ false → rights x ≡ 0) → insert pages i (record { number = q; rights = r }) ≡ table_of (λ x. held x || x == q) (λ x. bit_or (rights x) (cond (x == q) r 0)) n
    table_of-missed none =
        subst (λ xs. insert xs i (record { number = q; rights = r }) ≡ table_of (λ x. held x || x == q) (λ x. bit_or (rights x) (cond (x == q) r 0)) n) (sym is)
        (insert-gap held rights n q below r i gap.0 gap.1 (none q gap.0))

    pub length-missed : length (filter (λ x. held x || x == q) (range_with_len 0 n)) ≡ length pages + 1
    length-missed = subst (λ xs. length (filter (λ x. held x || x == q) (range_with_len 0 n)) ≡ length xs + 1) (sym is) (length-with held rights n q below gap.0)

-- Adding rights to the pages of a range one by one

-- the pages from one on up to another
abbrev pub between : ℕ → ℕ → ℕ → Bool
between first end q = leb first q && ltb q end

between-more : (first end q : ℕ) → first ≤ end → between first (end + 1) q ≡ (between first end q || q == end)
between-more first end q le = grind (arith, nat_tests)

apart_at : (first end : ℕ) → between first end end ≡ false
apart_at first end = grind (arith, nat_tests)

pub Adds-none : (first r : ℕ) (pages : List Page) → Adds (between first first) r first pages pages
Adds-none first r pages = λ held rights n within none is.
    is ∙ table_of-same held (λ q. held q || between first first q) rights (λ q. bit_or (rights q) (cond (between first first q) r 0)) n
    (λ q. sym (or_false (held q) (between first first q) (empty q)))
    (λ q. sym (ap (λ b. bit_or (rights q) (cond b r 0)) (empty q) ∙ or_zero_r (rights q)))
  where
    empty : (q : ℕ) → between first first q ≡ false
    empty q = grind (arith, nat_tests)

    or_false : (a b : Bool) → b ≡ false → (a || b) ≡ a
    or_false true b e = refl
    or_false false b e = e

module _ (first end r : ℕ) (le : first ≤ end) (old mid : List Page) (before : Adds (between first end) r end old mid) where
  -- the table in the middle
  none_held : (held : ℕ → Bool) (rights : ℕ → ℕ) → ((q : ℕ) → held q ≡ false → rights q ≡ 0) → (q : ℕ) → (held q || between first end q) ≡ false → bit_or (rights q) (cond (between first end q) r 0) ≡ 0
  none_held held rights none q not =
      let parts = or_parts (held q) (between first end q) not in
      ap₂ (λ x b. bit_or x (cond b r 0)) (none q parts.0) parts.1 ∙ or_zero_r 0

  held_more : (held : ℕ → Bool) (q : ℕ) → ((held q || between first end q) || q == end) ≡ (held q || between first (end + 1) q)
  held_more held q = or_assoc (held q) (between first end q) (q == end) ∙ ap (λ b. held q || b) (sym (between-more first end q le))
    where
      or_assoc : (a b c : Bool) → ((a || b) || c) ≡ (a || (b || c))
      or_assoc true b c = refl
      or_assoc false b c = refl

  rights_more : (rights : ℕ → ℕ) (q : ℕ) → bit_or (bit_or (rights q) (cond (between first end q) r 0)) (cond (q == end) r 0) ≡ bit_or (rights q) (cond (between first (end + 1) q) r 0)
  rights_more rights q =
      ⊎_elim
      (λ (e : q ≡ end).
      let out : between first end q ≡ false = ap (between first end) e ∙ apart_at first end in
      let here : (q == end) ≡ true = eq-eqb q end e in
      ap₂ (λ a b. bit_or (bit_or (rights q) (cond a r 0)) (cond b r 0)) out here
      ∙ (ap (λ x. bit_or x r) (or_zero_r (rights q))
      ∙ ap (λ b. bit_or (rights q) (cond b r 0)) (sym (between-more first end q le ∙ or_right (between first end q) (q == end) here))))
      (λ (ne : q ≡ end → ⊥).
      let there : (q == end) ≡ false = ne_eqb q end ne in
      ap (λ b. bit_or (bit_or (rights q) (cond (between first end q) r 0)) (cond b r 0)) there
      ∙ (or_zero_r (bit_or (rights q) (cond (between first end q) r 0))
      ∙ ap (λ b. bit_or (rights q) (cond b r 0)) (sym (between-more first end q le ∙ ap (λ b. between first end q || b) there ∙ or_false (between first end q)))))
      (cases_eq q end)
    where
      or_false : (b : Bool) → (b || false) ≡ b
      or_false true = refl
      or_false false = refl

  pub Adds-more : (new : List Page) → Adds (λ q. q == end) r (end + 1) mid new → Adds (between first (end + 1)) r (end + 1) old new
  Adds-more new here = λ held rights n within none is.
      here (λ q. held q || between first end q) (λ q. bit_or (rights q) (cond (between first end q) r 0)) n within (none_held held rights none) (before held rights n (omega arith) none is)
      ∙ table_of-same (λ q. (held q || between first end q) || q == end) (λ q. held q || between first (end + 1) q)
      (λ q. bit_or (bit_or (rights q) (cond (between first end q) r 0)) (cond (q == end) r 0)) (λ q. bit_or (rights q) (cond (between first (end + 1) q) r 0)) n
      (held_more held) (rights_more rights)

-- The pages of a segment

touches-between : (h : ProgramHeader) → is_segment h ≡ true → (q : ℕ) → between (first_page h) (last_page h + 1) q ≡ touches h q
unfolding touches
touches-between h segment q = sym (rw segment (ap (λ b. leb (first_page h) q && b) (up_to q (last_page h))))
  where
    up_to : (q last : ℕ) → leb q last ≡ ltb q (last + 1)
    up_to q last = grind (arith, nat_tests)

pub Adds-segment : (h : ProgramHeader) (old new : List Page) → is_segment h ≡ true → Adds (between (first_page h) (last_page h + 1)) (segment_rights h) (last_page h + 1) old new → Adds (touches h) (segment_rights h) (last_page h + 1) old new
Adds-segment h old new segment adds = λ held rights n within none is.
    adds held rights n within none is
    ∙ table_of-same (λ q. held q || between (first_page h) (last_page h + 1) q) (λ q. held q || touches h q)
    (λ q. bit_or (rights q) (cond (between (first_page h) (last_page h + 1) q) (segment_rights h) 0)) (λ q. bit_or (rights q) (cond (touches h q) (segment_rights h) 0)) n
    (λ q. ap (λ b. held q || b) (touches-between h segment q))
    (λ q. ap (λ b. bit_or (rights q) (cond b (segment_rights h) 0)) (touches-between h segment q))

pub Overflows-segment : (h : ProgramHeader) (end r : ℕ) (old mid : List Page) → is_segment h ≡ true → first_page h ≤ end → end ≤ last_page h → Adds (between (first_page h) end) r end old mid → Overflows (λ q. q == end) (end + 1) mid → Overflows (touches h) (last_page h + 1) old
Overflows-segment h end r old mid segment above below before over = λ held rights n within none is.
    let first = first_page h in
    let more =
    over (λ q. held q || between first end q) (λ q. bit_or (rights q) (cond (between first end q) r 0)) n (omega arith)
    (none_held first end r above old mid before held rights none) (before held rights n (omega arith) none is) in
    let least =
    length-filter-le (λ q. (held q || between first end q) || q == end) (λ q. held q || touches h q)
    (λ q holds. implies held q holds) (range_with_len 0 n) in
    omega (arith, more, least)
  where
    implies : (held : ℕ → Bool) (q : ℕ) → ((held q || between (first_page h) end q) || q == end) ≡ true → (held q || touches h q) ≡ true
    implies held q holds =
        ⊎_elim
        (λ (front : (held q || between (first_page h) end q) ≡ true).
        ⊎_elim
        (λ (here : held q ≡ true). or_left (held q) (touches h q) here)
        (λ (there : between (first_page h) end q ≡ true).
        let bounds = and_parts (leb (first_page h) q) (ltb q end) there in
        let low : first_page h ≤ q = leb-true (first_page h) q bounds.0 in
        let high : q < end = ltb-true q end bounds.1 in
        or_right (held q) (touches h q) (touches-within h q segment low (omega arith)))
        (or_cases (held q) (between (first_page h) end q) front))
        (λ (last : (q == end) ≡ true).
        let e : q ≡ end = eqb-true q end last in
        or_right (held q) (touches h q) (touches-within h q segment (omega arith) (omega arith)))
        (or_cases (held q || between (first_page h) end q) (q == end) holds)

-- The pages of the headers

pub table_of-none : (held : ℕ → Bool) (rights : ℕ → ℕ) (n : ℕ) → ((q : ℕ) → held q ≡ false) → table_of held rights n ≡ []
unfolding table_of
table_of-none held rights n none = empty n 0
  where
    empty : (n a : ℕ) → part held rights a n ≡ []
    empty zero a = refl
    empty (suc n) a = rw (none a) (empty n (a + 1))

module _ (file : List ℕ) where
  abbrev pub touched_below : ℕ → ℕ → Bool
  touched_below i q = any_below (λ j. touches (program_header file j) q) i

  abbrev pub rights_below : ℕ → ℕ → ℕ
  rights_below i q = union_below (λ j. cond (touches (program_header file j) q) (segment_rights (program_header file j)) 0) i

  pub rights_below-none : (i q : ℕ) → touched_below i q ≡ false → rights_below i q ≡ 0
  unfolding any_below union_below
  rights_below-none zero q none = refl
  rights_below-none (suc i) q none =
      let parts = or_parts (touched_below i q) (touches (program_header file i) q) none in
      ap₂ (λ x b. bit_or x (cond b (segment_rights (program_header file i)) 0)) (rights_below-none i q parts.0) parts.1 ∙ or_zero_r 0

  pub table_of-more : (i n : ℕ) → table_of (λ q. touched_below i q || touches (program_header file i) q) (λ q. bit_or (rights_below i q) (cond (touches (program_header file i) q) (segment_rights (program_header file i)) 0)) n ≡ table_of (touched_below (i + 1)) (rights_below (i + 1)) n
  table_of-more i n =
      table_of-same (λ q. touched_below i q || touches (program_header file i) q) (touched_below (i + 1))
      (λ q. bit_or (rights_below i q) (cond (touches (program_header file i) q) (segment_rights (program_header file i)) 0)) (rights_below (i + 1)) n
      (λ q. sym (any_below-more (λ j. touches (program_header file j) q) i))
      (λ q. sym (union_below-more (λ j. cond (touches (program_header file j) q) (segment_rights (program_header file j)) 0) i))

  -- a header that is no segment adds nothing
  pub table_of-no_segment : (i n : ℕ) → is_segment (program_header file i) ≡ false → table_of (touched_below i) (rights_below i) n ≡ table_of (touched_below (i + 1)) (rights_below (i + 1)) n
  table_of-no_segment i n lacks =
      let h = program_header file i in
      table_of-same (touched_below i) (λ q. touched_below i q || touches h q) (rights_below i) (λ q. bit_or (rights_below i q) (cond (touches h q) (segment_rights h) 0)) n
      (λ q. sym (ap (λ b. touched_below i q || b) (touches-no_segment h q lacks) ∙ or_false (touched_below i q)))
      (λ q. sym (ap (λ b. bit_or (rights_below i q) (cond b (segment_rights h) 0)) (touches-no_segment h q lacks) ∙ or_zero_r (rights_below i q)))
      ∙ table_of-more i n
    where
      or_false : (b : Bool) → (b || false) ≡ b
      or_false true = refl
      or_false false = refl

  pub pages-more : (i : ℕ) → i < e_phnum file → length (filter (λ q. touched_below i q || touches (program_header file i) q) (range_with_len 0 (end_page file))) ≤ length (pages file)
  unfolding pages is_touched
  pages-more i below =
      length-filter-le (λ q. touched_below i q || touches (program_header file i) q) (touched_below (e_phnum file))
      (λ q holds.
      let found = any_below-some (λ j. touches (program_header file j) q) (i + 1) (any_below-more (λ j. touches (program_header file j) q) i ∙ holds) in
      any_below-at (λ j. touches (program_header file j) q) (e_phnum file) found.0 (let l = found.1 in omega arith) found.2)
      (range_with_len 0 (end_page file))

pub table_of-below : (held : ℕ → Bool) (rights : ℕ → ℕ) (n k : ℕ) (d : Page) → k < length (table_of held rights n) → (get_or (table_of held rights n) k d).number < n
unfolding table_of
table_of-below held rights n k d within = let at = part-at held rights n 0 k d within in omega (arith, at.1)

-- The touched pages of a file

length-table_of-zero : (held : ℕ → Bool) (rights : ℕ → ℕ) → length (table_of held rights 0) ≡ 0
unfolding table_of
length-table_of-zero held rights = refl

touched_rise : (file : List ℕ) (i j : ℕ) (d : Page) → i < j → j < length (touched_pages file) → (get_or (touched_pages file) i d).number < (get_or (touched_pages file) j d).number
unfolding table_of
touched_rise file i j d less inside = part-rises (is_touched file) (page_rights file) (end_page file) 0 i j d less inside

module _ (file : List ℕ) (pages : List Page) (is : pages ≡ touched_pages file) where
  pub touched_pages-found : (q i : ℕ) (d : Page) → i < length pages → ((e : Page) → nat_cmp (get_or pages i e).number q ≡ Equal) → (get_or pages i d).rights ≡ page_rights file q
  touched_pages-found q i d within hit =
      let held = is_touched file in
      let rights = page_rights file in
      let n = end_page file in
      let inside : i < length (table_of held rights n) = subst (λ (xs : List Page). i < length xs) is within in
      let number : (get_or (table_of held rights n) i d).number ≡ q = equal_to _ q (subst (λ (xs : List Page). nat_cmp (get_or xs i d).number q ≡ Equal) is (hit d)) in
      let below : q < n = omega (arith, table_of-below held rights n i d inside, number) in
      let found = found_at held rights n q below i inside (subst (λ (xs : List Page). (e : Page) → nat_cmp (get_or xs i e).number q ≡ Equal) is hit) in
      ap (λ (xs : List Page). (get_or xs i d).rights) is
      ∙ (ap (λ k. (get_or (table_of held rights n) k d).rights) found.1
      ∙ ap (λ page. page.rights) (place_here held rights n q below d found.0))

  untouched : (q : ℕ) → is_touched file q ≡ false → 0 ≡ page_rights file q
  unfolding is_touched page_rights
  untouched q none = sym (rights_below-none file (e_phnum file) q none)

  pub touched_pages-missed : (q i : ℕ) → i ≤ length pages → IsBinarySearchResult (λ page. nat_cmp page.number q) pages (Err i) → 0 ≡ page_rights file q
  touched_pages-missed q i within missed =
      let held = is_touched file in
      let rights = page_rights file in
      let n = end_page file in
      untouched q
      (⊎_elim
      (λ (below : q < n).
      (gap_at held rights n q below i (subst (λ (xs : List Page). i ≤ length xs) is within)
      (subst (λ (xs : List Page). IsBinarySearchResult (λ page. nat_cmp page.number q) xs (Err i)) is missed)).0)
      (λ (above : n ≤ q). is_touched-from_end file q above)
      (cases_lt q n))

  at_end : (m : ℕ) (d : Page) → m + 1 ≡ end_page file → (0 < length pages) × ((get_or pages (length pages - 1) d).number ≡ m)
  at_end m d last =
      let held = is_touched file in
      let rights = page_rights file in
      let n = end_page file in
      let below : m < n = omega arith in
      let touched = is_touched-last file m last in
      let place = ap (λ page. page.number) (place_here held rights n m below d touched) in
      let size = length_here held rights n m below touched in
      let most : ℕ = length (table_of held rights n) - 1 in
      let inside : most < length (table_of held rights n) = omega arith in
      let limit = table_of-below held rights n most d inside in
      subst (λ (xs : List Page). (0 < length xs) × ((get_or xs (length xs - 1) d).number ≡ m)) (sym is) (
        omega arith,
        ⊎_elim
            (λ (less : length (low held rights n m below) < most). let more = touched_rise file (length (low held rights n m below)) most d less inside in absurd (omega arith))
            (λ (same : most ≤ length (low held rights n m below)).
            let here : most ≡ length (low held rights n m below) = omega arith in
            ap (λ k. (get_or (table_of held rights n) k d).number) here ∙ place)
            (cases_lt (length (low held rights n m below)) most),
      )

  pub touched_pages-last : (d : Page) → 0 < length pages → (get_or pages (length pages - 1) d).number + 1 ≡ end_page file
  touched_pages-last d some = by (end_page file) refl
    where
      by : (n : ℕ) → end_page file ≡ n → (get_or pages (length pages - 1) d).number + 1 ≡ end_page file
      by zero none =
          let all = ap length (is ∙ ap (table_of (is_touched file) (page_rights file)) none) in
          let empty = length-table_of-zero (is_touched file) (page_rights file) in
          absurd (omega arith)
      by (suc m) last = let at = (at_end m d (omega arith)).1 in omega arith

  pub touched_pages-none : length pages ≡ 0 → 0 ≡ end_page file
  touched_pages-none none = by (end_page file) refl
    where
      by : (n : ℕ) → end_page file ≡ n → 0 ≡ end_page file
      by zero nothing = sym nothing
      by (suc m) last = let some = (at_end m (record { number = 0; rights = 0 }) (omega arith)).0 in absurd (omega arith)
