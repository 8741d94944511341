-- A map of the program, from names to counts, as the users that it holds.
use Rattle.std.proofs.Common.{◌≡◌, ℕ, ◌-◌, ◌<◌, ◌≤◌, Bool, true, false, cond, List, [], ◌∷◌, map, refl, sym, ap, ◌∙◌}
use Rattle.std.proofs.lemmas.Bool.{cond-true, cond-false, le-leb, lt-leb}
use Rattle.std.specs.Prelude.{Option, Some, None, unwrap_or, is_some, Vec}
use Rattle.std.specs.Ordering.{is_eq, eq_by_cmp}
use Rattle.std.specs.declared.cmp.Ordering.{Ordering}
use Rattle.std.specs.Cmp.{eq_by_cmp_equiv}
use Rattle.std.specs.Cmp.Lexicographic.{nat_list_cmp_total}
use Rattle.std.specs.FinMap.{find, get, insert, remove, get-from_entries, get-insert, get-remove, same_map, slice_cmp-IsAntisymmetric, nat_cmp-IsAntisymmetric}
use Rattle.std.specs.BTreeMap.{BTreeMap, get_by, UpdatesBy, WritesThrough}
use Rattle.std.specs.Map.{lookup, IsKeyTest, AreApart, KeepsOthers}
use Rattle.bas_edge.proofs.FilesIn.{name_cmp, same_name, same_name-≡}
use Rattle.host_files.specs.Users.{Users, entry_of, users_in, user_count, without_user}

-- Users that answer alike are equal.
same_users : (m n : Users) → ((q : List ℕ) → get m q ≡ get n q) → m ≡ n
same_users m n h = same_map nat_list_cmp_total (slice_cmp-IsAntisymmetric nat_cmp-IsAntisymmetric) m n h

apart : (p q name : List ℕ) → same_name q p ≡ false → same_name p name ≡ true → same_name q name ≡ false
apart p q name n y =
    let laws = eq_by_cmp_equiv nat_list_cmp_total in
    laws.symm q name ∙ sym (laws.congr p name q y) ∙ laws.symm p q ∙ n

module _ {A : Type 0} where
  -- How the program's map looks a name up.
  abbrev pub asks : List ℕ → Vec ℕ A → Ordering
  asks p = λ name. name_cmp p name.items

  abbrev pub tree_cmp : Vec ℕ A → Vec ℕ A → Ordering
  tree_cmp = λ x y. name_cmp x.items y.items

  find-map_entries : (es : List (Vec ℕ A × ℕ)) (q : List ℕ) → find name_cmp q (map entry_of es) ≡ lookup (λ k. is_eq (asks q k)) es
  find-map_entries [] q = refl
  find-map_entries (e ∷ es) q =
      ap (cond (is_eq (asks q e.0)) (Some e.1)) (find-map_entries es q)

  pub get-users_in : (m : BTreeMap (Vec ℕ A) ℕ) (q : List ℕ) → get (users_in m) q ≡ get_by (asks q) m
  get-users_in m q = get-from_entries nat_list_cmp_total (map entry_of m.entries) q ∙ find-map_entries m.entries q

  other_entries : (test other : Vec ℕ A → Bool) (old new : List (Vec ℕ A × ℕ)) → KeepsOthers (eq_by_cmp tree_cmp) test old new
      → IsKeyTest (eq_by_cmp tree_cmp) other → AreApart test other → lookup other new ≡ lookup other old
  unfolding KeepsOthers
  other_entries test other old new h = h other

  -- The users after a change at one name.
  get-users_in-updates : (p : List ℕ) (m n : BTreeMap (Vec ℕ A) ℕ) (w : Option ℕ) → UpdatesBy tree_cmp (asks p) m n w
      → (q : List ℕ) → get (users_in n) q ≡ cond (same_name q p) w (get (users_in m) q)
  get-users_in-updates p m n w h q =
      elim (same_name q p) as (λ b. same_name q p ≡ b → get (users_in n) q ≡ cond b w (get (users_in m) q)) [
        | true ↦ λ e. ap (get (users_in n)) (same_name-≡ q p e) ∙ get-users_in n p ∙ h.1
        | false ↦ λ e.
            get-users_in n q
            ∙ other_entries _ (λ k. is_eq (asks q k)) m.entries n.entries h.3 (λ x y. (eq_by_cmp_equiv nat_list_cmp_total).congr q x.items y.items) (λ name. apart p q name.items e)
            ∙ sym (get-users_in m q)
      ] refl

  pub users_in-insert : (p : List ℕ) (m n : BTreeMap (Vec ℕ A) ℕ) (v : ℕ) → UpdatesBy tree_cmp (asks p) m n (Some v) → users_in n ≡ insert (users_in m) p v
  users_in-insert p m n v h = same_users _ _ (λ q. get-users_in-updates p m n (Some v) h q ∙ sym (get-insert nat_list_cmp_total (users_in m) p v q))

  pub users_in-remove : (p : List ℕ) (m n : BTreeMap (Vec ℕ A) ℕ) → UpdatesBy tree_cmp (asks p) m n None → users_in n ≡ remove (users_in m) p
  users_in-remove p m n h = same_users _ _ (λ q. get-users_in-updates p m n None h q ∙ sym (get-remove nat_list_cmp_total (users_in m) p q))

  -- What a look-up in the program's map finds is the count.
  pub count-found : (m : BTreeMap (Vec ℕ A) ℕ) (users : Users) (q : List ℕ) (found : Option ℕ) → users_in m ≡ users → found ≡ get_by (asks q) m
      → user_count users q ≡ unwrap_or found 0
  count-found m users q found e f = ap (λ o. unwrap_or o 0) (ap (λ n. get n q) (sym e) ∙ get-users_in m q ∙ sym f)

  -- A count is set under a name that is the other's copy.
  pub set_under : (m n : BTreeMap (Vec ℕ A) ℕ) (users : Users) (name copy : List ℕ) (count : ℕ) → users_in m ≡ users → copy ≡ name → UpdatesBy tree_cmp (asks copy) m n (Some count)
      → users_in n ≡ insert users name count
  set_under m n users name copy count e same h =
      users_in-insert copy m n count h ∙ ap (λ u. insert u copy count) e ∙ ap (λ q. insert users q count) same

  -- What a look-up finds in a map where the count is another: the entry is there.
  there : (m : BTreeMap (Vec ℕ A) ℕ) (q : List ℕ) (count : ℕ) → Some count ≡ get_by (asks q) m → is_some (get_by (asks q) m) ≡ true
  there m q count e = ap is_some (sym e)

  -- The last user goes with the entry.
  pub taken_last : (m n : BTreeMap (Vec ℕ A) ℕ) (users : Users) (q : List ℕ) → users_in m ≡ users → UpdatesBy tree_cmp (asks q) m n None → user_count users q ≤ 1
      → users_in n ≡ without_user q users
  taken_last m n users q e h last =
      users_in-remove q m n h ∙ ap (λ u. remove u q) e ∙ sym (cond-true _ _ _ (le-leb (user_count users q) 1 last))

  -- One of several users goes.
  pub taken_one : (m n : BTreeMap (Vec ℕ A) ℕ) (users : Users) (q : List ℕ) (count : ℕ) → users_in m ≡ users → Some count ≡ get_by (asks q) m → WritesThrough tree_cmp (asks q) m (count - 1) n
      → 1 < user_count users q → users_in n ≡ without_user q users
  taken_one m n users q count e f through more =
      users_in-insert q m n (count - 1) (through.3 (there m q count f)) ∙ ap (λ u. insert u q (count - 1)) e
      ∙ ap (λ k. insert users q (k - 1)) (sym (count-found m users q (Some count) e f))
      ∙ sym (cond-false _ _ _ (lt-leb (user_count users q) 1 more))
