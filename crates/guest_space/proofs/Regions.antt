-- Lists of extents: what joining them keeps, and that the maximal list with given rights is one.
use Rattle.std.proofs.Common.{◌≡◌, ℕ, ◌+◌, ◌<◌, ◌≤◌, ◌==◌, ◌&&◌, true, false, cond, List, [], ◌∷◌, refl, sym, ap, ◌∙◌, arith, Some, None, inl, inr}
use Rattle.std.proofs.lemmas.Bool.{cases_lt, cases_eq, eqb-true}
use Rattle.std.proofs.lemmas.Bool.Decides.{nat_tests}
use Rattle.std.proofs.lemmas.Option.{none-some, same_Some}
use Rattle.guest_space.specs.declared.Extent.{Extent}
use Rattle.guest_space.specs.Space.{in_run}
use Rattle.guest_space.proofs.Spaces.{both}
use Rattle.guest_space.specs.Regions.{extent_end, IsBefore, AreMaximal, extent_rights, joined, merged}

-- extents that have pages and rise from a page on
abbrev pub AreRising : ℕ → List Extent → Type 0
AreRising from [] = Unit {0}
AreRising from (e ∷ extents) = (from ≤ e.page) × (1 ≤ e.count) × AreRising (extent_end e) extents

-- extents of which the first begins at a page or later
abbrev pub AreFrom : ℕ → List Extent → Type 0
AreFrom from [] = Unit {0}
AreFrom from (e ∷ extents) = from ≤ e.page

pub AreRising-weaker : (m n : ℕ) (es : List Extent) → m ≤ n → AreRising n es → AreRising m es
AreRising-weaker m n [] h rising = tt
AreRising-weaker m n (e ∷ es) h rising = let low = rising.0 in (omega arith, rising.1, rising.2)

pub AreFrom-before : (e : Extent) (es : List Extent) → IsBefore e es → AreFrom (extent_end e) es
AreFrom-before e [] before = tt
AreFrom-before e (next ∷ es) before = before.0

pub AreFrom-zero : (es : List Extent) → AreFrom 0 es
AreFrom-zero [] = tt
AreFrom-zero (e ∷ es) = omega arith

-- ---- joining

-- two extents as one, before the others
IsBefore-two : (e next : Extent) (es : List Extent) → extent_end e ≡ next.page → e.rights ≡ next.rights → IsBefore next es →
    IsBefore (record { page = e.page; count = e.count + next.count; rights = e.rights }) es
IsBefore-two e next [] at same before = tt
IsBefore-two e next (f ∷ es) at same before =
    let low = before.0 in
    (omega arith, λ here rights. before.1 (omega arith) (sym same ∙ rights))

not_both : (a b c d : ℕ) → ((a == b) && (c == d)) ≡ false → a ≡ b → c ≡ d → ⊥
not_both a b c d is x y = grind (arith, nat_tests)

joined-maximal : (e : Extent) (es : List Extent) → 1 ≤ e.count → AreMaximal es → AreFrom (extent_end e) es → AreMaximal (joined e es) × AreFrom e.page (joined e es)
joined-maximal e [] some maximal from = ((some, tt, tt), omega arith)
joined-maximal e (next ∷ es) some maximal from =
    let two : Extent = record { page = e.page; count = e.count + next.count; rights = e.rights } in
    let Good : List Extent → Type 0 = λ xs. AreMaximal xs × AreFrom e.page xs in
    let t = (extent_end e == next.page) && (e.rights == next.rights) in
    elim t as (λ b. t ≡ b → Good (cond b (two ∷ es) (e ∷ next ∷ es))) [
      | true ↦ λ is.
          let parts = both (extent_end e == next.page) (e.rights == next.rights) is in
          let at = eqb-true (extent_end e) next.page parts.0 in
          let same = eqb-true e.rights next.rights parts.1 in
          ((omega arith, IsBefore-two e next es at same maximal.1, maximal.2), omega arith)
      | false ↦ λ is. ((some, (from, λ at same. not_both (extent_end e) next.page e.rights next.rights is at same), maximal), omega arith)
    ] refl

pub merged-maximal : (from : ℕ) (es : List Extent) → AreRising from es → AreMaximal (merged es) × AreFrom from (merged es)
unfolding merged
merged-maximal from [] rising = (tt, tt)
merged-maximal from (e ∷ es) rising =
    let rest = merged-maximal (extent_end e) es rising.2 in
    let made = joined-maximal e (merged es) rising.1 rest.0 rest.1 in
    (made.0, AreFrom-weaker from e.page (joined e (merged es)) rising.0 made.1)
  where
    AreFrom-weaker : (m n : ℕ) (xs : List Extent) → m ≤ n → AreFrom n xs → AreFrom m xs
    AreFrom-weaker m n [] h low = tt
    AreFrom-weaker m n (x ∷ xs) h low = omega arith

two_runs : {A : Type 0} (page m n q : ℕ) (x y : A) → cond (in_run page (m + n) q) x y ≡ cond (in_run page m q) x (cond (in_run (page + m) n q) x y)
two_runs page m n q x y = grind (arith, nat_tests)

extent_rights-joined : (e : Extent) (es : List Extent) (q : ℕ) → extent_rights (joined e es) q ≡ extent_rights (e ∷ es) q
extent_rights-joined e [] q = refl
extent_rights-joined e (next ∷ es) q =
    let two : Extent = record { page = e.page; count = e.count + next.count; rights = e.rights } in
    let t = (extent_end e == next.page) && (e.rights == next.rights) in
    elim t as (λ b. t ≡ b → extent_rights (cond b (two ∷ es) (e ∷ next ∷ es)) q ≡ extent_rights (e ∷ next ∷ es) q) [
      | true ↦ λ is.
          let parts = both (extent_end e == next.page) (e.rights == next.rights) is in
          two_runs e.page e.count next.count q (Some e.rights) (extent_rights es q)
          ∙ (λ i. cond (in_run e.page e.count q) (Some e.rights)
          (cond (in_run (eqb-true (extent_end e) next.page parts.0 i) next.count q) (Some (eqb-true e.rights next.rights parts.1 i)) (extent_rights es q)))
      | false ↦ λ is. refl
    ] refl

pub extent_rights-merged : (es : List Extent) (q : ℕ) → extent_rights (merged es) q ≡ extent_rights es q
unfolding merged
extent_rights-merged [] q = refl
extent_rights-merged (e ∷ es) q = extent_rights-joined e (merged es) q ∙ ap (cond (in_run e.page e.count q) (Some e.rights)) (extent_rights-merged es q)

-- ---- one list

pub in_run_within : (page count q : ℕ) → page ≤ q → q < page + count → in_run page count q ≡ true
in_run_within page count q low high = grind (arith, nat_tests)

pub in_run_before : (page count q : ℕ) → q < page → in_run page count q ≡ false
in_run_before page count q low = grind (arith, nat_tests)

pub in_run_behind : (page count q : ℕ) → page + count ≤ q → in_run page count q ≡ false
in_run_behind page count q high = grind (arith, nat_tests)

pub extent_rights_here : (e : Extent) (es : List Extent) (q : ℕ) → e.page ≤ q → q < extent_end e → extent_rights (e ∷ es) q ≡ Some e.rights
extent_rights_here e es q low high = ap (λ b. cond b (Some e.rights) (extent_rights es q)) (in_run_within e.page e.count q low high)

pub extent_rights_behind : (e : Extent) (es : List Extent) (q : ℕ) → extent_end e ≤ q → extent_rights (e ∷ es) q ≡ extent_rights es q
extent_rights_behind e es q high = ap (λ b. cond b (Some e.rights) (extent_rights es q)) (in_run_behind e.page e.count q high)

pub extent_rights_before : (from : ℕ) (es : List Extent) (q : ℕ) → AreMaximal es → AreFrom from es → q < from → extent_rights es q ≡ None
extent_rights_before from [] q maximal low h = refl
extent_rights_before from (e ∷ es) q maximal low h =
    ap (λ b. cond b (Some e.rights) (extent_rights es q)) (in_run_before e.page e.count q (omega arith))
    ∙ extent_rights_before (extent_end e) es q maximal.2 (AreFrom-before e es maximal.1) (omega arith)

-- the rights change behind an extent
not_continued : (e : Extent) (es : List Extent) → AreMaximal (e ∷ es) → extent_rights es (extent_end e) ≡ Some e.rights → ⊥
not_continued e [] maximal is = none-some e.rights is
not_continued e (next ∷ es) maximal is =
    let before = maximal.1 in
    let low = before.0 in
    elim (cases_eq (extent_end e) next.page) [
      | inl at ↦ before.1 at (sym (same_Some next.rights e.rights
          (sym (extent_rights_here next es (extent_end e) (omega arith) (let some = maximal.2 in let more = some.0 in omega arith)) ∙ is)))
      | inr ne ↦ none-some e.rights (sym (extent_rights_before next.page (next ∷ es) (extent_end e) maximal.2 (omega arith) (omega arith)) ∙ is)
    ]

-- an extent that begins where another does, with the same rights around, isn't shorter
not_shorter : (a b : Extent) (xs ys : List Extent) → AreMaximal (a ∷ xs) → a.page ≡ b.page → a.rights ≡ b.rights →
    ((q : ℕ) → extent_rights (a ∷ xs) q ≡ extent_rights (b ∷ ys) q) → b.count ≤ a.count
not_shorter a b xs ys maximal page rights same =
    elim (cases_lt a.count b.count) [
      | inr enough ↦ enough
      | inl short ↦
          absurd (not_continued a xs maximal
          (sym (extent_rights_behind a xs (extent_end a) (omega arith)) ∙ same (extent_end a)
          ∙ extent_rights_here b ys (extent_end a) (omega arith) (omega arith) ∙ ap Some (sym rights)))
    ]

not_later : (a b : Extent) (xs ys : List Extent) → AreMaximal (a ∷ xs) → AreMaximal (b ∷ ys) →
    ((q : ℕ) → extent_rights (a ∷ xs) q ≡ extent_rights (b ∷ ys) q) → b.page ≤ a.page
not_later a b xs ys first second same =
    elim (cases_lt a.page b.page) [
      | inr enough ↦ enough
      | inl low ↦
          let some = first.0 in
          absurd (none-some a.rights
          (sym (extent_rights_before b.page (b ∷ ys) a.page second (omega arith) low) ∙ sym (same a.page) ∙ extent_rights_here a xs a.page (omega arith) (omega arith)))
    ]

pub same_extents : (xs ys : List Extent) → AreMaximal xs → AreMaximal ys → ((q : ℕ) → extent_rights xs q ≡ extent_rights ys q) → xs ≡ ys
same_extents [] [] first second same = refl
same_extents [] (b ∷ ys) first second same =
    let some = second.0 in
    absurd (none-some b.rights (same b.page ∙ extent_rights_here b ys b.page (omega arith) (omega arith)))
same_extents (a ∷ xs) [] first second same =
    let some = first.0 in
    absurd (none-some a.rights (sym (same a.page) ∙ extent_rights_here a xs a.page (omega arith) (omega arith)))
same_extents (a ∷ xs) (b ∷ ys) first second same =
    let more_a = first.0 in
    let more_b = second.0 in
    let low = not_later a b xs ys first second same in
    let high = not_later b a ys xs second first (λ q. sym (same q)) in
    let page : a.page ≡ b.page = omega arith in
    let rights : a.rights ≡ b.rights =
    same_Some a.rights b.rights (sym (extent_rights_here a xs a.page (omega arith) (omega arith)) ∙ same a.page ∙ extent_rights_here b ys a.page (omega arith) (omega arith)) in
    let least = not_shorter a b xs ys first page rights same in
    let most = not_shorter b a ys xs second (sym page) (sym rights) (λ q. sym (same q)) in
    let count : a.count ≡ b.count = omega arith in
    let rest : xs ≡ ys = same_extents xs ys first.2 second.2 (λ q. elim (cases_lt q (extent_end a)) [
      | inl before ↦ extent_rights_before (extent_end a) xs q first.2 (AreFrom-before a xs first.1) before
          ∙ sym (extent_rights_before (extent_end b) ys q second.2 (AreFrom-before b ys second.1) (omega arith))
      | inr past ↦ sym (extent_rights_behind a xs q past) ∙ same q ∙ extent_rights_behind b ys q (omega arith)
    ]) in
    λ i. record { page = page i; count = count i; rights = rights i } ∷ rest i
