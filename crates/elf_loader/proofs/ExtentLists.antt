-- Extents that are joined where they are adjacent and have equal rights.
use Rattle.std.proofs.Common.{◌≡◌, ◌⊎◌, ℕ, zero, suc, ◌+◌, ◌<◌, ◌≤◌, Bool, true, false, cond, ◌&&◌, ◌==◌, List, [], ◌∷◌, map, filter, length, get_or, Some, None, sum_by, refl, ap, sym, subst, ◌∙◌, ⊎_elim, inl, inr, arith}
use Rattle.std.specs.List.{range_with_len, AllByRecursion}
use Rattle.std.proofs.lemmas.Bool.{and_from, and_parts, cases_Bool, cases_lt, cases_order, eqb-true, eq-eqb, cond-true, cond-false}
use Rattle.std.proofs.lemmas.List.Sums.{sum_by-cons}
use Rattle.guest_space.specs.declared.Extent.{Extent}
use Rattle.guest_space.specs.Space.{in_run}
use Rattle.guest_space.specs.Regions.{extent_end, AreMaximal, extent_rights, joined, merged}
use Rattle.elf_loader.specs.Steps.{PagesRise}
use Rattle.guest_space.proofs.Regions as regions
use Rattle.guest_space.proofs.Regions.{AreRising, AreRising-weaker, AreFrom, AreFrom-before, merged-maximal, in_run_within, in_run_before, in_run_behind}

-- the second extent continues the first
abbrev continues : Extent → Extent → Bool
continues e next = extent_end e == next.page && e.rights == next.rights

-- the two as one
abbrev both : Extent → Extent → Extent
both e next = record { page = e.page; count = e.count + next.count; rights = e.rights }

sum_by-joined : (e : Extent) (extents : List Extent) → sum_by (λ x. x.count) (joined e extents) ≡ e.count + sum_by (λ x. x.count) extents
sum_by-joined e [] = sum_by-cons (λ x. x.count) e []
sum_by-joined e (next ∷ extents) =
    ⊎_elim
    (λ (one : continues e next ≡ true).
    rw one
    (let cons = sum_by-cons (λ (x : Extent). x.count) next extents in
    sum_by-cons (λ x. x.count) (both e next) extents ∙ omega arith))
    (λ (two : continues e next ≡ false). rw two (sum_by-cons (λ x. x.count) e (next ∷ extents)))
    (cases_Bool (continues e next))

pub sum_by-merged : (extents : List Extent) → sum_by (λ x. x.count) (merged extents) ≡ sum_by (λ x. x.count) extents
unfolding merged
sum_by-merged [] = refl
sum_by-merged (e ∷ extents) =
    let rest = sum_by-merged extents in
    sum_by-joined e (merged extents) ∙ (ap (λ n. e.count + n) rest ∙ sym (sum_by-cons (λ x. x.count) e extents))

-- what holds of each extent, and of two that are joined if of both
module _ (P : Extent → Type 0) (joins : (e next : Extent) → extent_end e ≡ next.page → P e → P next → P (both e next)) where
  each-joined : (e : Extent) (extents : List Extent) → P e → AllByRecursion P extents → AllByRecursion P (joined e extents)
  each-joined e [] here each = (here, tt)
  each-joined e (next ∷ extents) here each =
      ⊎_elim
      (λ (one : continues e next ≡ true).
      let parts = and_parts (extent_end e == next.page) (e.rights == next.rights) one in
      rw one (joins e next (eqb-true (extent_end e) next.page parts.0) here each.0, each.1))
      (λ (two : continues e next ≡ false). rw two (here, each))
      (cases_Bool (continues e next))

  pub each-merged : (extents : List Extent) → AllByRecursion P extents → AllByRecursion P (merged extents)
  unfolding merged
  each-merged [] each = tt
  each-merged (e ∷ extents) each = each-joined e (merged extents) each.0 (each-merged extents each.1)

-- two that continue each other are one before what follows
pub joined-joins : (e next : Extent) (extents : List Extent) → extent_end e ≡ next.page → e.rights ≡ next.rights → joined e (joined next extents) ≡ joined (both e next) extents
joined-joins e next [] ends same =
    rw (and_from (extent_end e == next.page) (e.rights == next.rights) (eq-eqb (extent_end e) next.page ends) (eq-eqb e.rights next.rights same)) refl
joined-joins e next (third ∷ extents) ends same =
    let first : continues e next ≡ true = and_from (extent_end e == next.page) (e.rights == next.rights) (eq-eqb (extent_end e) next.page ends) (eq-eqb e.rights next.rights same) in
    let at : extent_end (both e next) ≡ extent_end next = omega arith in
    let alike : continues (both e next) third ≡ continues next third =
    ap (λ n. n == third.page && e.rights == third.rights) at ∙ ap (λ r. extent_end next == third.page && r == third.rights) same in
    ⊎_elim
    (λ (one : continues next third ≡ true).
    rw (one, first, alike ∙ one) (ap (λ n. record { page = e.page; count = n; rights = e.rights } ∷ extents) (omega arith)))
    (λ (two : continues next third ≡ false). rw (two, first, alike ∙ two) refl)
    (cases_Bool (continues next third))

-- one that another doesn't continue stands alone
pub joined-apart : (e next : Extent) (extents : List Extent) → continues e next ≡ false → joined e (joined next extents) ≡ e ∷ joined next extents
joined-apart e next [] apart = rw apart refl
joined-apart e next (third ∷ extents) apart =
    ⊎_elim
    (λ (one : continues next third ≡ true). rw (one, apart) refl)
    (λ (two : continues next third ≡ false). rw (two, apart) refl)
    (cases_Bool (continues next third))

-- The pages that pass a test, each with its rights

module _ (test : ℕ → Bool) (rights : ℕ → ℕ) where
  abbrev pub single : ℕ → Extent
  single q = record { page = q; count = 1; rights = rights q }

  abbrev singles : ℕ → ℕ → List Extent
  singles page n = map single (filter test (range_with_len page n))

  AreRising-singles : (n page : ℕ) → AreRising page (singles page n)
  AreRising-singles zero page = tt
  AreRising-singles (suc n) page =
      ⊎_elim
      (λ (here : test page ≡ true). rw here (omega arith, omega arith, AreRising-singles n (page + 1)))
      (λ (other : test page ≡ false). rw other (AreRising-weaker page (page + 1) (singles (page + 1) n) (omega arith) (AreRising-singles n (page + 1))))
      (cases_Bool (test page))

  pub AreMaximal-merged : (page n : ℕ) → AreMaximal (merged (map single (filter test (range_with_len page n))))
  AreMaximal-merged page n = (merged-maximal page (singles page n) (AreRising-singles n page)).0

  rights_outside : (n page q : ℕ) → (q < page) ⊎ (page + n ≤ q) → extent_rights (singles page n) q ≡ None
  rights_outside zero page q outside = refl
  rights_outside (suc n) page q outside =
      let further : (q < page + 1) ⊎ (page + 1 + n ≤ q) = ⊎_elim (λ l. inl (omega arith)) (λ l. inr (omega arith)) outside in
      let rest = rights_outside n (page + 1) q further in
      let lacks : in_run page 1 q ≡ false = ⊎_elim (λ (l : q < page). in_run_before page 1 q l) (λ (l : page + suc n ≤ q). in_run_behind page 1 q (omega arith)) outside in
      ⊎_elim
      (λ (here : test page ≡ true). rw here (cond-false (in_run page 1 q) (Some (rights page)) _ lacks ∙ rest))
      (λ (other : test page ≡ false). rw other rest)
      (cases_Bool (test page))

  rights_inside : (n page q : ℕ) → page ≤ q → q < page + n → extent_rights (singles page n) q ≡ cond (test q) (Some (rights q)) None
  rights_inside zero page q above below = absurd (omega arith)
  rights_inside (suc n) page q above below =
      let within : page ≡ q → in_run page 1 q ≡ true = λ e. in_run_within page 1 q (omega arith) (omega arith) in
      let under : page ≡ q → (q < page + 1) ⊎ (page + 1 + n ≤ q) = λ e. inl (omega arith) in
      ⊎_elim
      (λ (e : page ≡ q).
      ⊎_elim
      (λ (here : test page ≡ true).
      rw here
      (cond-true (in_run page 1 q) (Some (rights page)) _ (within e)
      ∙ (ap (λ p. Some (rights p)) e ∙ sym (cond-true (test q) (Some (rights q)) None (subst (λ p. test p ≡ true) e here)))))
      (λ (other : test page ≡ false).
      rw other (rights_outside n (page + 1) q (under e) ∙ sym (cond-false (test q) (Some (rights q)) None (subst (λ p. test p ≡ false) e other))))
      (cases_Bool (test page)))
      (λ o. ⊎_elim
      (λ (l : page < q).
      let rest = rights_inside n (page + 1) q (omega arith) (omega arith) in
      let lacks : in_run page 1 q ≡ false = in_run_behind page 1 q (omega arith) in
      ⊎_elim
      (λ (here : test page ≡ true). rw here (cond-false (in_run page 1 q) (Some (rights page)) _ lacks ∙ rest))
      (λ (other : test page ≡ false). rw other rest)
      (cases_Bool (test page)))
      (λ (l : q < page). absurd (omega arith))
      o)
      (cases_order page q)

  -- where no page from the end of the range on passes the test
  pub extent_rights-merged : (n q : ℕ) → (n ≤ q → test q ≡ false) → extent_rights (merged (map single (filter test (range_with_len 0 n)))) q ≡ cond (test q) (Some (rights q)) None
  extent_rights-merged n q ends =
      regions.extent_rights-merged (singles 0 n) q
      ∙ ⊎_elim
      (λ (l : q < n). rights_inside n 0 q (omega arith) (omega arith))
      (λ (l : n ≤ q). rights_outside n 0 q (inr (omega arith)) ∙ sym (cond-false (test q) (Some (rights q)) None (ends l)))
      (cases_lt q n)

  pub sum_by-single : (xs : List ℕ) → sum_by (λ e. e.count) (map single xs) ≡ length xs
  sum_by-single [] = refl
  sum_by-single (x ∷ xs) = let rest = sum_by-single xs in sum_by-cons (λ e. e.count) (single x) (map single xs) ∙ omega arith

  -- what holds of each page that passes
  pub each-single : (P : Extent → Type 0) → ((q : ℕ) → test q ≡ true → P (single q)) → (n page : ℕ) → AllByRecursion P (map single (filter test (range_with_len page n)))
  each-single P holds zero page = tt
  each-single P holds (suc n) page =
      ⊎_elim
      (λ (here : test page ≡ true). rw here (holds page here, each-single P holds n (page + 1)))
      (λ (other : test page ≡ false). rw other (each-single P holds n (page + 1)))
      (cases_Bool (test page))

-- The extents of a maximal list rise.

AreFrom-each : (n : ℕ) (es : List Extent) → AreFrom n es → AreMaximal es → (j : ℕ) (d : Extent) → j < length es → n ≤ (get_or es j d).page
AreFrom-each n [] from maximal j d below = absurd (omega arith)
AreFrom-each n (e ∷ es) from maximal zero d below = from
AreFrom-each n (e ∷ es) from maximal (suc j) d below =
    let rest = AreFrom-each (extent_end e) es (AreFrom-before e es maximal.1) maximal.2 j d (omega arith) in omega (arith, rest, from)

pub PagesRise-maximal : (es : List Extent) → AreMaximal es → PagesRise es
PagesRise-maximal [] maximal i j d order below = absurd (omega arith)
PagesRise-maximal (e ∷ es) maximal zero zero d order below = omega arith
PagesRise-maximal (e ∷ es) maximal zero (suc j) d order below =
    let rest = AreFrom-each (extent_end e) es (AreFrom-before e es maximal.1) maximal.2 j d (omega arith) in omega (arith, rest)
PagesRise-maximal (e ∷ es) maximal (suc i) zero d order below = absurd (omega arith)
PagesRise-maximal (e ∷ es) maximal (suc i) (suc j) d order below = PagesRise-maximal es maximal.2 i j d (omega arith) (omega arith)
