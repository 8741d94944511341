-- The regions of a space, and of one with more pages, fewer, or other rights.
use Rattle.std.proofs.Common.{◌≡◌, ℕ, ◌+◌, ◌-◌, ◌^◌, ◌<◌, ◌≤◌, min, max, Bool, true, false, cond, nat_lt, nat_le, T, List, [], ◌∷◌, ◌++◌, map, refl, sym, ap, ◌∙◌, subst, arith, Option, Some, None, inl, inr}
use Rattle.std.proofs.lemmas.Bool.{cases_lt}
use Rattle.std.proofs.lemmas.Bool.Decides.{nat_tests}
use Rattle.std.proofs.lemmas.List.Elements.{All-nil, All-cons}
use Rattle.std.proofs.lemmas.Option.{none-some, same_Some}
use Rattle.std.specs.List.{All}
use Rattle.std.specs.Option.{is_some, option_map, option_or}
use Rattle.std.specs.Ordering.{nat_cmp, eq_by_cmp, is_lt}
use Rattle.std.specs.FinMap.{get, entries, entries_sorted, get-entries}
use Rattle.std.specs.FinMap.Entries.{find, below_all, is_sorted}
use Rattle.rv_core.specs.Memory.{Memory}
use Rattle.guest_space.specs.declared.Extent.{Extent}
use Rattle.guest_space.specs.Space.{Space, Frame, IsSpace, in_run, page_rights, with_run, without_run, protected, with_memory}
use Rattle.guest_space.specs.Run.{first_missing, if_missing}
use Rattle.guest_space.specs.Regions.{extent_end, AreMaximal, AreRegions, IsExtentOfProcess, extent_rights, merged, page_extent, regions, pages_before, pages_from, with_extent, without_pages}
use Rattle.guest_space.proofs.Gets.{get-without_run}
use Rattle.guest_space.proofs.Spaces.{both}
use Rattle.guest_space.proofs.FirstSome.{first_some_none_at}
use Rattle.guest_space.proofs.Filling.{page_rights-with_run, page_rights-protected, page_rights-with_memory}
use Rattle.guest_space.proofs.Regions.{AreRising, AreRising-weaker, AreFrom, AreFrom-zero, AreFrom-before, extent_rights_here, extent_rights_before, extent_rights_behind, merged-maximal, extent_rights-merged, same_extents}

-- ---- the pages one by one

less_than : (a b : ℕ) → is_lt (nat_cmp a b) ≡ true → a < b
less_than a b is = grind (arith, nat_tests)

AreRising-entries : (k : ℕ) (es : List (ℕ × Frame)) → below_all nat_cmp k es ≡ true → is_sorted nat_cmp es ≡ true → AreRising (k + 1) (map page_extent es)
AreRising-entries k [] low sorted = tt
AreRising-entries k (e ∷ es) low sorted =
    let first = less_than k e.0 (both (is_lt (nat_cmp k e.0)) (below_all nat_cmp k es) low).0 in
    let rest = both (below_all nat_cmp e.0 es) (is_sorted nat_cmp es) sorted in
    (omega arith, omega arith, AreRising-entries e.0 es rest.0 rest.1)

AreRising-all : (es : List (ℕ × Frame)) → is_sorted nat_cmp es ≡ true → AreRising 0 (map page_extent es)
AreRising-all [] sorted = tt
AreRising-all (e ∷ es) sorted =
    let rest = both (below_all nat_cmp e.0 es) (is_sorted nat_cmp es) sorted in
    (omega arith, omega arith, AreRising-entries e.0 es rest.0 rest.1)

one_page : (page q : ℕ) → in_run page 1 q ≡ eq_by_cmp nat_cmp q page
one_page page q = grind (arith, nat_tests)

extent_rights-entries : (es : List (ℕ × Frame)) (q : ℕ) → extent_rights (map page_extent es) q ≡ option_map (λ (f : Frame). f.rights) (find nat_cmp q es)
extent_rights-entries [] q = refl
extent_rights-entries (e ∷ es) q =
    ap (cond (in_run e.0 1 q) (Some (e.1).rights)) (extent_rights-entries es q)
    ∙ ap (λ b. cond b (Some (e.1).rights) (option_map (λ (f : Frame). f.rights) (find nat_cmp q es))) (one_page e.0 q)
    ∙ moved (eq_by_cmp nat_cmp q e.0) e.1 (find nat_cmp q es)
  where
    moved : (b : Bool) (f : Frame) (o : Option Frame) → cond b (Some f.rights) (option_map (λ (g : Frame). g.rights) o) ≡ option_map (λ (g : Frame). g.rights) (cond b (Some f) o)
    moved true f o = refl
    moved false f o = refl

is_true : (b : Bool) → T b → b ≡ true
is_true true t = refl
is_true false t = absurd t

rising : (s : Space) → AreRising 0 (map page_extent (entries s))
rising s = AreRising-all (entries s) (is_true (is_sorted nat_cmp (entries s)) (entries_sorted s))

pub AreRegions-regions : (s : Space) → AreRegions s (regions s)
unfolding regions
AreRegions-regions s = record {
  maximal = (merged-maximal 0 (map page_extent (entries s)) (rising s)).0;
  rights = λ q. extent_rights-merged (map page_extent (entries s)) q
      ∙ extent_rights-entries (entries s) q
      ∙ ap (option_map (λ (f : Frame). f.rights)) (sym (get-entries s q));
}

-- the regions are the only such list
pub regions-unique : (s : Space) (extents : List Extent) → AreRegions s extents → extents ≡ regions s
regions-unique s extents are =
    let own = AreRegions-regions s in
    same_extents extents (regions s) are.maximal own.maximal (λ q. are.rights q ∙ sym (own.rights q))

-- extents that rise and have the rights of a space, joined
pub regions-merged : (s : Space) (extents : List Extent) → AreRising 0 extents → ((q : ℕ) → extent_rights extents q ≡ page_rights s q) → regions s ≡ merged extents
regions-merged s extents up same =
    sym (regions-unique s (merged extents) (record { maximal = (merged-maximal 0 extents up).0; rights = λ q. extent_rights-merged extents q ∙ same q }))

pub AreRising-maximal : (from : ℕ) (es : List Extent) → AreMaximal es → AreFrom from es → AreRising from es
AreRising-maximal from [] maximal low = tt
AreRising-maximal from (e ∷ []) maximal low = (low, maximal.0, tt)
AreRising-maximal from (e ∷ next ∷ es) maximal low = (low, maximal.0, AreRising-maximal (extent_end e) (next ∷ es) maximal.2 (let before = maximal.1 in before.0))

rising_regions : (s : Space) → AreRising 0 (regions s)
rising_regions s = AreRising-maximal 0 (regions s) (AreRegions-regions s).maximal (AreFrom-zero (regions s))

-- each region is of pages that a process may have
record IsRightOfProcess (q rights : ℕ) : Type 0 where
  above : 1 ≤ q
  below : q < 2 ^ 26
  small : rights < 8

All-extents : (es : List Extent) → AreMaximal es → ((q r : ℕ) → extent_rights es q ≡ Some r → IsRightOfProcess q r) → All IsExtentOfProcess es
All-extents [] maximal sound = All-nil IsExtentOfProcess
All-extents (e ∷ es) maximal sound =
    let some = maximal.0 in
    let last = e.page + e.count - 1 in
    let first = sound e.page e.rights (extent_rights_here e es e.page (omega arith) (omega arith)) in
    let end = sound last e.rights (extent_rights_here e es last (omega arith) (omega arith)) in
    let above = first.above in
    let below = end.below in
    All-cons IsExtentOfProcess e es (record { above = above; below = omega arith; rights = first.small })
    (All-extents es maximal.2 (λ q r is. elim (cases_lt q (extent_end e)) [
      | inl low ↦ absurd (none-some r (sym (extent_rights_before (extent_end e) es q maximal.2 (AreFrom-before e es maximal.1) low) ∙ is))
      | inr past ↦ sound q r (extent_rights_behind e es q past ∙ is)
    ]))

pub All-regions : (s : Space) → IsSpace s → All IsExtentOfProcess (regions s)
All-regions s sound =
    let own = AreRegions-regions s in
    All-extents (regions s) own.maximal (λ q r is. held q r (get s q) refl (sym (own.rights q) ∙ is))
  where
    held : (q r : ℕ) (o : Option Frame) → get s q ≡ o → option_map (λ (f : Frame). f.rights) o ≡ Some r → IsRightOfProcess q r
    held q r None is e = absurd (none-some r e)
    held q r (Some f) is e =
        let frame = sound.frames q f is in
        record { above = frame.above; below = frame.below; small = subst (λ n. n < 8) (same_Some f.rights r e) frame.rights }

-- ---- parts of regions

extent_rights-append : (xs ys : List Extent) (q : ℕ) → extent_rights (xs ++ ys) q ≡ option_or (extent_rights xs q) (extent_rights ys q)
extent_rights-append [] ys q = refl
extent_rights-append (x ∷ xs) ys q =
    ap (cond (in_run x.page x.count q) (Some x.rights)) (extent_rights-append xs ys q)
    ∙ first_of_two (in_run x.page x.count q) x.rights (extent_rights xs q) (extent_rights ys q)
  where
    first_of_two : (b : Bool) (r : ℕ) (o p : Option ℕ) → cond b (Some r) (option_or o p) ≡ option_or (cond b (Some r) o) p
    first_of_two true r o p = refl
    first_of_two false r o p = refl

is_less : (a b : ℕ) → a < b → nat_lt a b ≡ true
is_less a b h = grind (arith, nat_tests)

isnt_less : (a b : ℕ) → b ≤ a → nat_lt a b ≡ false
isnt_less a b h = grind (arith, nat_tests)

AreRising-before : (page from : ℕ) (es ys : List Extent) → from ≤ page → AreRising from es → AreRising page ys → AreRising from (pages_before page es ++ ys)
AreRising-before page from [] ys h up behind = AreRising-weaker from page ys h behind
AreRising-before page from (e ∷ es) ys h up behind =
    let part : Extent = record { page = e.page; count = min e.count (page - e.page); rights = e.rights } in
    let low = up.0 in
    let some = up.1 in
    elim (cases_lt e.page page) [
      | inl before ↦
          let rest = AreRising-before page (extent_end part) es ys (omega arith) (AreRising-weaker (extent_end part) (extent_end e) es (omega arith) up.2) behind in
          subst (λ b. AreRising from (cond b (part ∷ pages_before page es) (pages_before page es) ++ ys)) (sym (is_less e.page page before)) (low, omega arith, rest)
      | inr past ↦
          let rest = AreRising-before page from es ys h (AreRising-weaker from (extent_end e) es (omega arith) up.2) behind in
          subst (λ b. AreRising from (cond b (part ∷ pages_before page es) (pages_before page es) ++ ys)) (sym (isnt_less e.page page past)) rest
    ]

AreRising-from : (page from : ℕ) (es : List Extent) → AreRising from es → AreRising (max from page) (pages_from page es)
AreRising-from page from [] up = tt
AreRising-from page from (e ∷ es) up =
    let part : Extent = record { page = max page e.page; count = extent_end e - max page e.page; rights = e.rights } in
    let low = up.0 in
    let some = up.1 in
    let rest = AreRising-from page (extent_end e) es up.2 in
    elim (cases_lt page (extent_end e)) [
      | inl before ↦
          subst (λ b. AreRising (max from page) (cond b (part ∷ pages_from page es) (pages_from page es))) (sym (is_less page (extent_end e) before))
          (omega arith, omega arith, AreRising-weaker (extent_end part) (max (extent_end e) page) (pages_from page es) (omega arith) rest)
      | inr past ↦
          subst (λ b. AreRising (max from page) (cond b (part ∷ pages_from page es) (pages_from page es))) (sym (isnt_less page (extent_end e) past))
          (AreRising-weaker (max from page) (max (extent_end e) page) (pages_from page es) (omega arith) rest)
    ]

part_before : {A : Type 0} (page count limit q : ℕ) (x y : A) (z : A) →
    cond (nat_lt page limit) (cond (in_run page (min count (limit - page)) q) x (cond (nat_lt q limit) y z)) (cond (nat_lt q limit) y z) ≡ cond (nat_lt q limit) (cond (in_run page count q) x y) z
part_before page count limit q x y z = grind (arith, nat_tests)

part_from : {A : Type 0} (page count limit q : ℕ) (x y : A) (z : A) →
    cond (nat_lt limit (page + count)) (cond (in_run (max limit page) (page + count - max limit page) q) x (cond (nat_le limit q) y z)) (cond (nat_le limit q) y z) ≡ cond (nat_le limit q) (cond (in_run page count q) x y) z
part_from page count limit q x y z = grind (arith, nat_tests)

either : (b : Bool) (o : Option ℕ) → o ≡ cond b o o
either true o = refl
either false o = refl

chosen : (b : Bool) (e : Extent) (es : List Extent) (q : ℕ) → extent_rights (cond b (e ∷ es) es) q ≡ cond b (cond (in_run e.page e.count q) (Some e.rights) (extent_rights es q)) (extent_rights es q)
chosen true e es q = refl
chosen false e es q = refl

extent_rights-before : (page : ℕ) (es : List Extent) (q : ℕ) → extent_rights (pages_before page es) q ≡ cond (nat_lt q page) (extent_rights es q) None
extent_rights-before page [] q = either (nat_lt q page) None
extent_rights-before page (e ∷ es) q =
    chosen (nat_lt e.page page) (record { page = e.page; count = min e.count (page - e.page); rights = e.rights }) (pages_before page es) q
    ∙ ap (λ (o : Option ℕ). cond (nat_lt e.page page) (cond (in_run e.page (min e.count (page - e.page)) q) (Some e.rights) o) o) (extent_rights-before page es q)
    ∙ part_before e.page e.count page q (Some e.rights) (extent_rights es q) None

extent_rights-from : (page : ℕ) (es : List Extent) (q : ℕ) → extent_rights (pages_from page es) q ≡ cond (nat_le page q) (extent_rights es q) None
extent_rights-from page [] q = either (nat_le page q) None
extent_rights-from page (e ∷ es) q =
    chosen (nat_lt page (extent_end e)) (record { page = max page e.page; count = extent_end e - max page e.page; rights = e.rights }) (pages_from page es) q
    ∙ ap (λ (o : Option ℕ). cond (nat_lt page (extent_end e)) (cond (in_run (max page e.page) (extent_end e - max page e.page) q) (Some e.rights) o) o) (extent_rights-from page es q)
    ∙ part_from e.page e.count page q (Some e.rights) (extent_rights es q) None

-- ---- the changes

put_between : (page count q : ℕ) (x o : Option ℕ) →
    option_or (cond (nat_lt q page) o None) (cond (in_run page count q) x (cond (nat_le (page + count) q) o None)) ≡ cond (in_run page count q) x o
put_between page count q x None = grind (arith, nat_tests)
put_between page count q x (Some r) = grind (arith, nat_tests)

-- regions with an extent in place of what was there
pub regions-with_extent : (s t : Space) (e : Extent) → 1 ≤ e.count → ((q : ℕ) → page_rights t q ≡ cond (in_run e.page e.count q) (Some e.rights) (page_rights s q)) → regions t ≡ with_extent e (regions s)
regions-with_extent s t e some is =
    let own = AreRegions-regions s in
    let up = rising_regions s in
    let behind = pages_from (extent_end e) (regions s) in
    regions-merged t (pages_before e.page (regions s) ++ (e ∷ behind))
    (AreRising-before e.page 0 (regions s) (e ∷ behind) (omega arith) up
    (omega arith, some, AreRising-weaker (extent_end e) (max 0 (extent_end e)) behind (omega arith) (AreRising-from (extent_end e) 0 (regions s) up)))
    (λ q. extent_rights-append (pages_before e.page (regions s)) (e ∷ behind) q
    ∙ (λ i. option_or (extent_rights-before e.page (regions s) q i) (cond (in_run e.page e.count q) (Some e.rights) (extent_rights-from (extent_end e) (regions s) q i)))
    ∙ put_between e.page e.count q (Some e.rights) (extent_rights (regions s) q)
    ∙ ap (cond (in_run e.page e.count q) (Some e.rights)) (own.rights q)
    ∙ sym (is q))

pub regions-with_run : (s : Space) (page count rights : ℕ) → 1 ≤ count → regions (with_run s page count rights) ≡ with_extent (record { page = page; count = count; rights = rights }) (regions s)
regions-with_run s page count rights some =
    regions-with_extent s (with_run s page count rights) (record { page = page; count = count; rights = rights }) some (page_rights-with_run s page count rights)

-- a run whose pages are all there
changed_rights : (s : Space) (page count rights q : ℕ) → first_missing s page count ≡ None → option_map (λ old. cond (in_run page count q) rights old) (page_rights s q) ≡ cond (in_run page count q) (Some rights) (page_rights s q)
changed_rights s page count rights q there = at (get s q) refl (in_run page count q) refl
  where
    at : (o : Option Frame) → get s q ≡ o → (b : Bool) → in_run page count q ≡ b →
        option_map (λ old. cond b rights old) (option_map (λ (f : Frame). f.rights) o) ≡ cond b (Some rights) (option_map (λ (f : Frame). f.rights) o)
    at None is true within =
        let low : page ≤ q = grind (arith, nat_tests) in
        let high : q < page + count = grind (arith, nat_tests) in
        let none : Some q ≡ None = sym (ap (λ (o : Option Frame). cond (is_some o) None (Some q)) is) ∙ first_some_none_at (if_missing s) page count q there low high in
        absurd (cc)
    at None is false within = refl
    at (Some f) is true within = refl
    at (Some f) is false within = refl

pub regions-protected : (s : Space) (page count rights : ℕ) → 1 ≤ count → first_missing s page count ≡ None → regions (protected s page count rights) ≡ with_extent (record { page = page; count = count; rights = rights }) (regions s)
regions-protected s page count rights some there =
    regions-with_extent s (protected s page count rights) (record { page = page; count = count; rights = rights }) some
    (λ q. page_rights-protected s page count rights q ∙ changed_rights s page count rights q there)

pub regions-with_memory : (s : Space) (m : Memory) → regions (with_memory s m) ≡ regions s
regions-with_memory s m =
    let own = AreRegions-regions s in
    sym (regions-unique (with_memory s m) (regions s) (record { maximal = own.maximal; rights = λ q. own.rights q ∙ sym (page_rights-with_memory s m q) }))

pub page_rights-without_run : (s : Space) (page count q : ℕ) → page_rights (without_run s page count) q ≡ cond (in_run page count q) None (page_rights s q)
page_rights-without_run s page count q =
    ap (option_map (λ (f : Frame). f.rights)) (get-without_run s page count q) ∙ moved (in_run page count q) (get s q)
  where
    moved : (b : Bool) (o : Option Frame) → option_map (λ (f : Frame). f.rights) (cond b None o) ≡ cond b None (option_map (λ (f : Frame). f.rights) o)
    moved true o = refl
    moved false o = refl

left_out : (page count q : ℕ) (o : Option ℕ) →
    option_or (cond (nat_lt q page) o None) (cond (nat_le (page + count) q) o None) ≡ cond (in_run page count q) None o
left_out page count q None = grind (arith, nat_tests)
left_out page count q (Some r) = grind (arith, nat_tests)

pub regions-without_run : (s : Space) (page count : ℕ) → regions (without_run s page count) ≡ without_pages page count (regions s)
regions-without_run s page count =
    let own = AreRegions-regions s in
    let up = rising_regions s in
    let behind = pages_from (page + count) (regions s) in
    regions-merged (without_run s page count) (pages_before page (regions s) ++ behind)
    (AreRising-before page 0 (regions s) behind (omega arith) up
    (AreRising-weaker page (max 0 (page + count)) behind (omega arith) (AreRising-from (page + count) 0 (regions s) up)))
    (λ q. extent_rights-append (pages_before page (regions s)) behind q
    ∙ (λ i. option_or (extent_rights-before page (regions s) q i) (extent_rights-from (page + count) (regions s) q i))
    ∙ left_out page count q (extent_rights (regions s) q)
    ∙ ap (cond (in_run page count q) None) (own.rights q)
    ∙ sym (page_rights-without_run s page count q))
