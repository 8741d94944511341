-- The map of a list of entries, by its look-ups.
use Rattle.std.specs.Prelude.{◌≡◌, ℕ, Bool, true, false, ◌==◌, ◌&&◌, ◌||◌, List, [], ◌∷◌, length, map}
use Rattle.std.specs.List.{AllByRecursion, list_any}
use Rattle.std.specs.List.Sorted.{IsStrictlySortedBy}
use Rattle.std.specs.declared.cmp.Ordering.TheVariants.{Less}
use Rattle.std.specs.Ordering.{nat_cmp, is_lt, eq_by_cmp}
use Rattle.std.specs.Cmp.{nat_cmp_total, eq_by_cmp_equiv, unsigned_tied}
use Rattle.std.specs.Map.{lookup}
use Rattle.std.specs.BTreeMap.{is_at}
use Rattle.std.specs.FinMap.Entries.{below_all}
use Rattle.std.specs.FinMap.{find, get, insert, remove, empty, from_entries, from_sorted, entries, is_sorted, entries-from_sorted, get-from_sorted, get-insert, get-remove, get-from_entries, same_map, nat_cmp-IsAntisymmetric}
use Rattle.std.specs.declared.option.Option.TheVariants.{None, Some}
use Rattle.std.proofs.Common.{refl, sym, ap, subst, ◌∙◌, cond, arith, T}
use Rattle.bas_items.proofs.NumberMaps.{get-empty, get-insert-same}

-- A number's place among numbers, by either test.
pub is_member_number : (xs : List ℕ) (q : ℕ) → list_any (eq_by_cmp nat_cmp q) xs ≡ list_any (λ k. k == q) xs
is_member_number [] q = refl
is_member_number (x ∷ xs) q =
    let head : eq_by_cmp nat_cmp q x ≡ (x == q) = (eq_by_cmp_equiv nat_cmp_total).symm q x ∙ unsigned_tied x q in
    ap (λ b. b || list_any (eq_by_cmp nat_cmp q) xs) head ∙ ap (λ b. (x == q) || b) (is_member_number xs q)

both : (a b : Bool) → T a → T b → T (a && b)
both true b p q = q
both false b p q = absurd p

module _ {X : Type 0} where
  find_number : (es : List (ℕ × X)) (q : ℕ) → find nat_cmp q es ≡ lookup (is_at (nat_cmp q)) es
  find_number [] q = refl
  find_number (e ∷ es) q = ap (cond (is_at (nat_cmp q) e.0) (Some e.1)) (find_number es q)

  pub get_entries : (es : List (ℕ × X)) (q : ℕ) → get (from_entries {R = nat_cmp} es) q ≡ lookup (is_at (nat_cmp q)) es
  get_entries es q = get-from_entries nat_cmp_total es q ∙ find_number es q

  pub entries_inserted : (es fs : List (ℕ × X)) (k : ℕ) (v : X) → ((q : ℕ) → lookup (is_at (nat_cmp q)) fs ≡ cond (is_at (nat_cmp k) q) (Some v) (lookup (is_at (nat_cmp q)) es)) → from_entries {R = nat_cmp} fs ≡ insert (from_entries es) k v
  entries_inserted es fs k v h = same_map nat_cmp_total nat_cmp-IsAntisymmetric _ _ (λ q.
      get_entries fs q ∙ h q ∙ ap (λ b. cond b (Some v) (lookup (is_at (nat_cmp q)) es)) ((eq_by_cmp_equiv nat_cmp_total).symm k q)
      ∙ sym (get-insert nat_cmp_total (from_entries es) k v q ∙ ap (cond (is_at (nat_cmp q) k) (Some v)) (get_entries es q)))

  pub entries_removed : (es fs : List (ℕ × X)) (k : ℕ) → ((q : ℕ) → lookup (is_at (nat_cmp q)) fs ≡ cond (is_at (nat_cmp k) q) None (lookup (is_at (nat_cmp q)) es)) → from_entries {R = nat_cmp} fs ≡ remove (from_entries es) k
  entries_removed es fs k h = same_map nat_cmp_total nat_cmp-IsAntisymmetric _ _ (λ q.
      get_entries fs q ∙ h q ∙ ap (λ b. cond b None (lookup (is_at (nat_cmp q)) es)) ((eq_by_cmp_equiv nat_cmp_total).symm k q)
      ∙ sym (get-remove nat_cmp_total (from_entries es) k q ∙ ap (cond (is_at (nat_cmp q) k) None) (get_entries es q)))

  pub no_entries : (es : List (ℕ × X)) → length es ≡ 0 → from_entries {R = nat_cmp} es ≡ empty
  no_entries [] none = refl
  no_entries (e ∷ es) none = absurd (omega arith)

  pub length-no_entries : (es : List (ℕ × X)) → from_entries {R = nat_cmp} es ≡ empty → length es ≡ 0
  length-no_entries [] none = refl
  length-no_entries (e ∷ es) none =
      let there : get (insert (from_entries {R = nat_cmp} es) e.0 e.1) e.0 ≡ Some e.1 = get-insert-same (from_entries es) e.0 e.1 in
      let gone : get {R = nat_cmp} (insert (from_entries es) e.0 e.1) e.0 ≡ None = ap (λ m. get m e.0) none ∙ get-empty e.0 in
      absurd (cc)

  -- ---- of entries by rising number
  below : (k : ℕ) (es : List (ℕ × X)) → AllByRecursion (λ q. nat_cmp k q ≡ Less) (map (λ e. e.0) es) → T (below_all nat_cmp k es)
  below k [] h = tt
  below k (e ∷ es) h = both _ _ (subst (λ o. T (is_lt o)) (sym h.0) tt) (below k es h.1)

  rising : (es : List (ℕ × X)) → IsStrictlySortedBy nat_cmp (map (λ e. e.0) es) → T (is_sorted nat_cmp es)
  unfolding IsStrictlySortedBy
  rising [] h = tt
  rising (e ∷ es) h = both _ _ (below e.0 es h.0) (rising es h.1)

  pub entries_of : (es : List (ℕ × X)) → IsStrictlySortedBy nat_cmp (map (λ e. e.0) es) → entries (from_entries {R = nat_cmp} es) ≡ es
  entries_of es h =
      let sorted : T (is_sorted nat_cmp es) = rising es h in
      let same : from_entries {R = nat_cmp} es ≡ from_sorted es = same_map nat_cmp_total nat_cmp-IsAntisymmetric _ _ (λ q. get-from_entries nat_cmp_total es q ∙ sym (get-from_sorted nat_cmp es q sorted)) in
      ap entries same ∙ entries-from_sorted nat_cmp es sorted
