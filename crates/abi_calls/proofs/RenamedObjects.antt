-- The objects under other numbers, by their look-ups and by how many pass a test.
use Rattle.std.specs.Prelude.{◌≡◌, ◌≢◌, ℕ, ◌+◌, ◌==◌, Bool, true, false, cond, ◌&&◌, ◌||◌, nat_lt, T, List, [], ◌∷◌, map, count_by}
use Rattle.std.specs.List.{list_any}
use Rattle.std.specs.Option.{option_map}
use Rattle.std.specs.Ordering.{nat_cmp, is_lt, is_eq}
use Rattle.std.specs.Cmp.{unsigned_tied, nat_cmp_total}
use Rattle.std.specs.FinMap.{FinMap, get, insert, entries, entries_sorted, from_entries, get-entries, get-from_entries, values}
use Rattle.std.specs.FinMap.Entries.{find, is_sorted, below_all}
use Rattle.std.specs.declared.cmp.Ordering.{Ordering}
use Rattle.std.specs.declared.cmp.Ordering.TheVariants.{Less, Equal, Greater}
use Rattle.std.specs.declared.option.Option.{Option}
use Rattle.std.specs.declared.option.Option.TheVariants.{None, Some}
use Rattle.std.proofs.Common.{arith, refl, sym, ap, ◌∙◌, subst, eqb-true, eq-eqb, ne_eqb, lt-ltb}
use Rattle.std.proofs.lemmas.List.Sums.{sum_by-cons}
use Rattle.abi_calls.specs.Objects.{Object, Objects, Live, object_at, with_object, some_object, number_of}
use Rattle.abi_calls.specs.Renaming.{Renaming, renamed_object, renamed_entry, renamed_live, renamed_objects}
use Rattle.bas_items.proofs.NumberMaps.{get-empty, get-insert, same_numbers}
use Rattle.abi_calls.proofs.Counts.{count_set_new}

-- a number is the new one of k exactly where the old one is k
abbrev is_back : ℕ → Option ℕ → Bool
is_back k None = false
is_back k (Some q) = q == k

-- what a look-up by the old number finds, renamed
abbrev at_back : (ℕ → ℕ) → (ℕ → Option Object) → Option ℕ → Option Object
at_back name look None = None
at_back name look (Some q) = option_map (renamed_object name) (look q)

parted : (a b : Bool) → T (a && b) → T a × T b
parted true b h = (tt, h)
parted false b h = absurd h

below_head : (r : Ordering) (x y : Option Object) → T (is_lt r) → cond (is_eq r) x y ≡ y
below_head Less x y below = refl
below_head Equal x y below = absurd below
below_head Greater x y below = absurd below

below_none : (k : ℕ) (es : List (ℕ × Object)) → T (below_all nat_cmp k es) → find nat_cmp k es ≡ None
below_none k [] below = refl
below_none k (e ∷ es) below =
    let parts = parted (is_lt (nat_cmp k e.0)) (below_all nat_cmp k es) below in
    below_head (nat_cmp k e.0) (Some e.1) (find nat_cmp k es) parts.0 ∙ below_none k es parts.1

from_own : (m : Live) → from_entries (entries m) ≡ m
from_own m = same_numbers _ m (λ q. get-from_entries nat_cmp_total (entries m) q ∙ sym (get-entries m q))

-- some element passes a test exactly where a count of them isn't 0
counted_by_head : (test : Object → Bool) (x : Object) (xs : List Object) → list_any test xs ≡ nat_lt 0 (count_by test xs) → (b : Bool) → test x ≡ b → (test x || list_any test xs) ≡ nat_lt 0 (count_by test (x ∷ xs))
counted_by_head test x xs rest true is =
    let count = sum_by-cons (λ y. cond (test y) 1 0) x xs in
    let one : ◌≡◌ {A = ℕ} (cond (test x) 1 0) 1 = ap (λ b. cond b 1 0) is in
    ap (λ b. b || list_any test xs) is ∙ sym (lt-ltb 0 (count_by test (x ∷ xs)) (omega (arith, count, one)))
counted_by_head test x xs rest false is =
    let count = sum_by-cons (λ y. cond (test y) 1 0) x xs in
    let none : ◌≡◌ {A = ℕ} (cond (test x) 1 0) 0 = ap (λ b. cond b 1 0) is in
    let same : count_by test xs ≡ count_by test (x ∷ xs) = omega (arith, count, none) in
    ap (λ b. b || list_any test xs) is ∙ rest ∙ ap (nat_lt 0) same

any_counted : (test : Object → Bool) (xs : List Object) → list_any test xs ≡ nat_lt 0 (count_by test xs)
any_counted test [] = refl
any_counted test (x ∷ xs) = counted_by_head test x xs (any_counted test xs) (test x) refl

module _ (ρ : Renaming) where
  same_back : (k u : ℕ) → u ≡ ρ.to k → ρ.back u ≡ Some k
  same_back k u is = ap ρ.back is ∙ ρ.there k

  test_some : (k u q : ℕ) → ρ.back u ≡ Some q → (b : Bool) → (q == k) ≡ b → (u == ρ.to k) ≡ b
  test_some k u q is true same = eq-eqb u (ρ.to k) (sym (ρ.again q u is) ∙ ap ρ.to (eqb-true q k same))
  test_some k u q is false other = ne_eqb u (ρ.to k) (λ at. let e : Some q ≡ Some k = sym is ∙ same_back k u at in let s : q ≡ k = cc in absurd (let t = eq-eqb q k s in cc))

  test_back : (k u : ℕ) (x : Option ℕ) → ρ.back u ≡ x → (u == ρ.to k) ≡ is_back k x
  test_back k u None is = ne_eqb u (ρ.to k) (λ at. absurd (let e = same_back k u at in cc))
  test_back k u (Some q) is = test_some k u q is (q == k) refl

  test-renamed : (k u : ℕ) → (u == ρ.to k) ≡ is_back k (ρ.back u)
  test-renamed k u = test_back k u (ρ.back u) refl

  at_none : (x : Option ℕ) → at_back ρ.to (λ q. None) x ≡ None
  at_none None = refl
  at_none (Some q) = refl

  mapped_if : (b : Bool) (v : Object) (x : Option Object) → cond b (Some (renamed_object ρ.to v)) (option_map (renamed_object ρ.to) x) ≡ option_map (renamed_object ρ.to) (cond b (Some v) x)
  mapped_if true v x = refl
  mapped_if false v x = refl

  at_cons : (k : ℕ) (v : Object) (look : ℕ → Option Object) (x : Option ℕ)
      → cond (is_back k x) (Some (renamed_object ρ.to v)) (at_back ρ.to look x) ≡ at_back ρ.to (λ q. cond (q == k) (Some v) (look q)) x
  at_cons k v look None = refl
  at_cons k v look (Some q) = mapped_if (q == k) v (look q)

  get_entries : (es : List (ℕ × Object)) (u : ℕ) → get {R = nat_cmp} (from_entries (map (renamed_entry ρ.to) es)) u ≡ at_back ρ.to (λ q. find nat_cmp q es) (ρ.back u)
  get_entries [] u = get-empty u ∙ sym (at_none (ρ.back u))
  get_entries (e ∷ es) u =
      get-insert (from_entries (map (renamed_entry ρ.to) es)) (ρ.to e.0) (renamed_object ρ.to e.1) u
      ∙ (λ i. cond (test-renamed e.0 u i) (Some (renamed_object ρ.to e.1)) (get_entries es u i))
      ∙ at_cons e.0 e.1 (λ q. find nat_cmp q es) (ρ.back u)
      ∙ ap (λ (look : ℕ → Option Object). at_back ρ.to look (ρ.back u)) (λ i q. cond (sym (unsigned_tied q e.0) i) (Some e.1) (find nat_cmp q es))

  get-renamed : (m : Live) (u : ℕ) → get {R = nat_cmp} (renamed_live ρ.to m) u ≡ at_back ρ.to (get {R = nat_cmp} m) (ρ.back u)
  unfolding renamed_live
  get-renamed m u = get_entries (entries m) u ∙ ap (λ (look : ℕ → Option Object). at_back ρ.to look (ρ.back u)) (λ i q. sym (get-entries m q) i)

  pub object_at-renamed : (o : Objects) (h : ℕ) → object_at (renamed_objects ρ.to o) (ρ.to h) ≡ option_map (renamed_object ρ.to) (object_at o h)
  object_at-renamed o h = get-renamed o.live (ρ.to h) ∙ ap (at_back ρ.to (get {R = nat_cmp} o.live)) (ρ.there h)

  insert-renamed : (m : Live) (k : ℕ) (v : Object) → insert (renamed_live ρ.to m) (ρ.to k) (renamed_object ρ.to v) ≡ renamed_live ρ.to (insert m k v)
  insert-renamed m k v = same_numbers _ _ (λ u.
      get-insert (renamed_live ρ.to m) (ρ.to k) (renamed_object ρ.to v) u
      ∙ (λ i. cond (test-renamed k u i) (Some (renamed_object ρ.to v)) (get-renamed m u i))
      ∙ at_cons k v (get {R = nat_cmp} m) (ρ.back u)
      ∙ ap (λ (look : ℕ → Option Object). at_back ρ.to look (ρ.back u)) (λ i q. sym (get-insert m k v q) i)
      ∙ sym (get-renamed (insert m k v) u))

  pub with_object-renamed : (o : Objects) (h : ℕ) (x : Object) → with_object (renamed_objects ρ.to o) (ρ.to h) (renamed_object ρ.to x) ≡ renamed_objects ρ.to (with_object o h x)
  with_object-renamed o h x = λ i. record (renamed_objects ρ.to o) { live = insert-renamed o.live h x i }

  -- as many pass a test that doesn't look at numbers
  module _ (test : Object → Bool) (same : (x : Object) → test (renamed_object ρ.to x) ≡ test x) where
    count_entries : (es : List (ℕ × Object)) → T (is_sorted nat_cmp es) →
        count_by test (values {R = nat_cmp} (from_entries (map (renamed_entry ρ.to) es))) ≡ count_by test (values {R = nat_cmp} (from_entries es))
    count_entries [] sorted = refl
    count_entries (e ∷ es) sorted =
        let parts = parted (below_all nat_cmp e.0 es) (is_sorted nat_cmp es) sorted in
        let none : find nat_cmp e.0 es ≡ None = below_none e.0 es parts.0 in
        let new : get {R = nat_cmp} (from_entries (map (renamed_entry ρ.to) es)) (ρ.to e.0) ≡ None =
        get_entries es (ρ.to e.0) ∙ ap (at_back ρ.to (λ q. find nat_cmp q es)) (ρ.there e.0) ∙ ap (option_map (renamed_object ρ.to)) none in
        let old : get {R = nat_cmp} (from_entries es) e.0 ≡ None = get-from_entries nat_cmp_total es e.0 ∙ none in
        count_set_new test (from_entries (map (renamed_entry ρ.to) es)) (ρ.to e.0) (renamed_object ρ.to e.1) new
        ∙ (λ i. count_entries es parts.1 i + cond (same e.1 i) 1 0)
        ∙ sym (count_set_new test (from_entries es) e.0 e.1 old)

    pub number_of-renamed : (m : Live) → number_of test (renamed_live ρ.to m) ≡ number_of test m
    unfolding renamed_live
    number_of-renamed m = count_entries (entries m) (entries_sorted m) ∙ ap (λ (x : Live). number_of test x) (from_own m)

    pub some_object-renamed : (m : Live) → some_object test (renamed_live ρ.to m) ≡ some_object test m
    some_object-renamed m = any_counted test (values (renamed_live ρ.to m)) ∙ ap (nat_lt 0) (number_of-renamed m) ∙ sym (any_counted test (values m))
