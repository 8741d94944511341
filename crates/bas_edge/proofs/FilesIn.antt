-- A map of the program, from names to texts, as the files that it holds.
use Rattle.std.proofs.Common.{◌≡◌, ℕ, ◌+◌, ◌-◌, nat_eq, Bool, true, false, cond, List, [], ◌∷◌, ◌++◌, length, take, drop, replicate, map, refl, sym, ap, ◌∙◌}
use Rattle.std.proofs.lemmas.Bool.{false≢true}
use Rattle.std.specs.Prelude.{Option, Some, None, option_map, option_copied, Vec, is_some, IsSome, unwrap_or, bytes_eq}
use denote.Ref.{Bor}
use Rattle.std.specs.Ordering.{is_eq, nat_cmp, eq_by_cmp}
use Rattle.std.specs.declared.cmp.Ordering.{Ordering}
use Rattle.std.specs.Cmp.{eq_by_cmp_equiv}
use Rattle.std.specs.Cmp.Lexicographic.{slice_cmp, nat_list_cmp_total}
use Rattle.std.specs.FinMap.{find, get, insert, remove, get-from_entries, get-insert, get-remove, same_map, slice_cmp-IsAntisymmetric, nat_cmp-IsAntisymmetric}
use Rattle.std.specs.BTreeMap.{BTreeMap, get_by, UpdatesBy, WritesThrough}
use Rattle.std.specs.Map.{lookup, IsKeyTest, AreApart, KeepsOthers}
use Rattle.std.proofs.lemmas.Map.Text.{is_eq-slice_cmp}
use Rattle.std.proofs.lemmas.Slice.Eq.{bytes_eq-Decides}
use Rattle.bas_edge.specs.Files.{Files, HasFile, entry_of, file_bytes, files_in, overwritten, with_bytes_at, with_bytes_behind, with_renamed}
use Rattle.bas_edge.proofs.Texts.{overwritten-end}

-- the order of names, and whether it ties two of them
abbrev pub name_cmp : List ℕ → List ℕ → Ordering
name_cmp = slice_cmp nat_cmp

abbrev pub same_name : List ℕ → List ℕ → Bool
same_name = eq_by_cmp name_cmp

pub same_name-≡ : (p q : List ℕ) → same_name p q ≡ true → p ≡ q
same_name-≡ p q e = (bytes_eq-Decides p q).0 (sym (is_eq-slice_cmp p q) ∙ e)

pub same_name-refl : (p : List ℕ) → same_name p p ≡ true
same_name-refl p = (eq_by_cmp_equiv nat_list_cmp_total).refl p

same_name-apart : (p q name : List ℕ) → same_name q p ≡ false → same_name p name ≡ true → same_name q name ≡ false
same_name-apart p q name n y =
    let laws = eq_by_cmp_equiv nat_list_cmp_total in
    laws.symm q name ∙ sym (laws.congr p name q y) ∙ laws.symm p q ∙ n

-- files that answer alike are equal
pub same_files : (m n : Files) → ((q : List ℕ) → get m q ≡ get n q) → m ≡ n
same_files m n h = same_map nat_list_cmp_total (slice_cmp-IsAntisymmetric nat_cmp-IsAntisymmetric) m n h

pub get-insert_name : (m : Files) (p bytes q : List ℕ) → get (insert m p bytes) q ≡ cond (same_name q p) (Some bytes) (get m q)
get-insert_name m p bytes q = get-insert nat_list_cmp_total m p bytes q

pub get-remove_name : (m : Files) (p q : List ℕ) → get (remove m p) q ≡ cond (same_name q p) None (get m q)
get-remove_name m p q = get-remove nat_list_cmp_total m p q

-- a test of a name that a file has or hasn't
by_name : {X : Type 0} (f g : List ℕ → X) (p : List ℕ) (here : X) → g p ≡ here → ((q : List ℕ) → same_name q p ≡ false → g q ≡ f q) → (q : List ℕ) → g q ≡ cond (same_name q p) here (f q)
by_name f g p here at_p others q =
    elim (same_name q p) as (λ b. same_name q p ≡ b → g q ≡ cond b here (f q)) [
      | true ↦ λ e. ap g (same_name-≡ q p e) ∙ at_p
      | false ↦ λ e. others q e
    ] refl

-- to put what a file has already is to leave the files as they are
pub insert_same : (m : Files) (p bytes : List ℕ) → get m p ≡ Some bytes → insert m p bytes ≡ m
insert_same m p bytes has =
    same_files _ _ (λ q. get-insert_name m p bytes q ∙ sym (by_name (get m) (get m) p (Some bytes) has (λ _ _. refl) q))

is_some-option_map : {X Y : Type 0} (f : X → Y) (o : Option X) → is_some (option_map f o) ≡ is_some o
is_some-option_map f None = refl
is_some-option_map f (Some x) = refl

some_of : (o : Option (List ℕ)) → IsSome o → o ≡ Some (unwrap_or o [])
some_of None h = absurd (false≢true h)
some_of (Some x) h = refl

-- to put what a file has already is to leave the files as they are
pub insert_file_bytes : (files : Files) (p : List ℕ) → HasFile files p → insert files p (file_bytes files p) ≡ files
insert_file_bytes files p has = insert_same files p (file_bytes files p) (some_of (get files p) has)

-- bytes written into a file that is there
pub with_bytes_at-there : (files : Files) (p : List ℕ) (at : ℕ) (bytes : List ℕ) → HasFile files p
    → with_bytes_at p at bytes files ≡ insert files p (overwritten (file_bytes files p) at bytes)
with_bytes_at-there files p at bytes has =
    let old : List ℕ = file_bytes files p in
    let new : List ℕ = take at old ++ replicate (at - length old) 0 ++ bytes ++ drop (at + length bytes) old in
    elim (nat_eq (length bytes) 0) as (λ b. cond b files (insert files p (cond b old new)) ≡ insert files p (cond b old new)) [
      | true ↦ sym (insert_file_bytes files p has)
      | false ↦ refl
    ]

-- bytes written at the end of a file that is there
pub with_bytes_at_end : (files : Files) (p : List ℕ) (bytes : List ℕ) → HasFile files p
    → with_bytes_at p (length (file_bytes files p)) bytes files ≡ with_bytes_behind p bytes files
with_bytes_at_end files p bytes has =
    with_bytes_at-there files p (length (file_bytes files p)) bytes has ∙ ap (insert files p) (overwritten-end (file_bytes files p) bytes)

module _ {A : Type 0} where
  -- how the program's map looks a name up
  abbrev pub asks : List ℕ → Vec ℕ A → Ordering
  asks p = λ name. name_cmp p name.items

  abbrev pub tree_cmp : Vec ℕ A → Vec ℕ A → Ordering
  tree_cmp = λ x y. name_cmp x.items y.items

  find-map_entries : (es : List (Vec ℕ A × Vec ℕ A)) (q : List ℕ) → find name_cmp q (map entry_of es) ≡ option_map (λ v. v.items) (lookup (λ k. is_eq (asks q k)) es)
  find-map_entries [] q = refl
  find-map_entries (e ∷ es) q =
      elim (is_eq (asks q e.0)) as (λ b. cond b (Some e.1.items) (find name_cmp q (map entry_of es)) ≡ option_map (λ v. v.items) (cond b (Some e.1) (lookup (λ k. is_eq (asks q k)) es))) [
        | true ↦ refl
        | false ↦ find-map_entries es q
      ]

  pub get-files_in : (m : BTreeMap (Vec ℕ A) (Vec ℕ A)) (q : List ℕ) → get (files_in m) q ≡ option_map (λ v. v.items) (get_by (asks q) m)
  get-files_in m q = get-from_entries nat_list_cmp_total (map entry_of m.entries) q ∙ find-map_entries m.entries q

  -- what a look-up in the program's map shows of the files
  pub get-found : (m : BTreeMap (Vec ℕ A) (Vec ℕ A)) (files : Files) (q : List ℕ) (found : Option (Bor (Vec ℕ A))) → files_in m ≡ files → option_copied found ≡ get_by (asks q) m
      → get files q ≡ option_map (λ v. v.now.items) found
  get-found m files q None e f = ap (λ n. get n q) (sym e) ∙ get-files_in m q ∙ ap (option_map (λ v. v.items)) (sym f)
  get-found m files q (Some v) e f = ap (λ n. get n q) (sym e) ∙ get-files_in m q ∙ ap (option_map (λ v. v.items)) (sym f)

  other_entries : (test other : Vec ℕ A → Bool) (old new : List (Vec ℕ A × Vec ℕ A)) → KeepsOthers (eq_by_cmp tree_cmp) test old new
      → IsKeyTest (eq_by_cmp tree_cmp) other → AreApart test other → lookup other new ≡ lookup other old
  unfolding KeepsOthers
  other_entries test other old new h = h other

  -- the files after a change at one name
  pub get-files_in-updates : (p : List ℕ) (m n : BTreeMap (Vec ℕ A) (Vec ℕ A)) (w : Option (Vec ℕ A)) → UpdatesBy tree_cmp (asks p) m n w
      → (q : List ℕ) → get (files_in n) q ≡ cond (same_name q p) (option_map (λ v. v.items) w) (get (files_in m) q)
  get-files_in-updates p m n w h =
      by_name (get (files_in m)) (get (files_in n)) p (option_map (λ v. v.items) w) (get-files_in n p ∙ ap (option_map (λ v. v.items)) h.1) (λ q e.
      get-files_in n q
      ∙ ap (option_map (λ v. v.items)) (other_entries _ (λ k. is_eq (asks q k)) m.entries n.entries h.3 (λ x y. (eq_by_cmp_equiv nat_list_cmp_total).congr q x.items y.items) (λ name. same_name-apart p q name.items e))
      ∙ sym (get-files_in m q))

  pub files_in-insert : (p : List ℕ) (m n : BTreeMap (Vec ℕ A) (Vec ℕ A)) (v : Vec ℕ A) → UpdatesBy tree_cmp (asks p) m n (Some v) → files_in n ≡ insert (files_in m) p v.items
  files_in-insert p m n v h = same_files _ _ (λ q. get-files_in-updates p m n (Some v) h q ∙ sym (get-insert_name (files_in m) p v.items q))

  pub files_in-remove : (p : List ℕ) (m n : BTreeMap (Vec ℕ A) (Vec ℕ A)) → UpdatesBy tree_cmp (asks p) m n None → files_in n ≡ remove (files_in m) p
  files_in-remove p m n h = same_files _ _ (λ q. get-files_in-updates p m n None h q ∙ sym (get-remove_name (files_in m) p q))

  -- a file that is there is found in the program's map
  pub found_there : (m : BTreeMap (Vec ℕ A) (Vec ℕ A)) (files : Files) (q : List ℕ) → files_in m ≡ files → HasFile files q → IsSome (get_by (asks q) m)
  found_there m files q e has =
      sym (is_some-option_map (λ v. v.items) (get_by (asks q) m)) ∙ ap is_some (sym (get-files_in m q) ∙ ap (λ n. get n q) e) ∙ has

  pub missed_there : (m : BTreeMap (Vec ℕ A) (Vec ℕ A)) (files : Files) (q : List ℕ) → files_in m ≡ files → HasFile files q → None ≡ get_by (asks q) m → ⊥
  missed_there m files q e has none = false≢true (ap is_some none ∙ found_there m files q e has)

  -- the files after a text is written in its place
  pub files_in-written : (m n : BTreeMap (Vec ℕ A) (Vec ℕ A)) (files : Files) (q : List ℕ) (w : Vec ℕ A) → files_in m ≡ files → HasFile files q → WritesThrough tree_cmp (asks q) m w n
      → files_in n ≡ insert files q w.items
  files_in-written m n files q w e has through =
      files_in-insert q m n w (through.3 (found_there m files q e has)) ∙ ap (λ l. insert l q w.items) e

  -- what the map holds at a name is the file's bytes
  pub bytes_found : (m : BTreeMap (Vec ℕ A) (Vec ℕ A)) (files : Files) (q : List ℕ) (v : Vec ℕ A) → files_in m ≡ files → Some v ≡ get_by (asks q) m → v.items ≡ file_bytes files q
  bytes_found m files q v e f =
      sym (ap (λ o. unwrap_or o []) (ap (λ n. get n q) (sym e) ∙ get-files_in m q ∙ ap (option_map (λ v. v.items)) (sym f)))

  -- a text that is written in its place as it was
  pub files_in-rewritten : (m n : BTreeMap (Vec ℕ A) (Vec ℕ A)) (files : Files) (q : List ℕ) (v w : Vec ℕ A) → files_in m ≡ files → HasFile files q → Some v ≡ get_by (asks q) m
      → WritesThrough tree_cmp (asks q) m w n → w.items ≡ v.items → files_in n ≡ files
  files_in-rewritten m n files q v w e has f through same =
      files_in-written m n files q w e has through ∙ ap (insert files q) (same ∙ bytes_found m files q v e f) ∙ insert_file_bytes files q has

cond_cond : {X : Type 0} (b : Bool) (x y z : X) → cond b x (cond b y z) ≡ cond b x z
cond_cond true x y z = refl
cond_cond false x y z = refl

-- a file that is taken out and put back
insert-remove : (files : Files) (p bytes : List ℕ) → insert (remove files p) p bytes ≡ insert files p bytes
insert-remove files p bytes =
    same_files _ _ (λ q.
    get-insert_name (remove files p) p bytes q
    ∙ ap (cond (same_name q p) (Some bytes)) (get-remove_name files p q)
    ∙ cond_cond (same_name q p) _ _ _
    ∙ sym (get-insert_name files p bytes q))

-- to give a file the name that it has is to leave the files as they are
pub with_renamed-same : (files : Files) (from to : List ℕ) → from ≡ to → HasFile files from → with_renamed from to files ≡ files
with_renamed-same files from to e has =
    ap (λ name. insert (remove files from) name (file_bytes files from)) (sym e) ∙ insert-remove files from _ ∙ insert_file_bytes files from has

-- a name that differs is there as before, whatever was put under the other
pub file_of-insert_other : (files : Files) (p q bytes : List ℕ) → same_name q p ≡ false → get (insert files p bytes) q ≡ get files q
file_of-insert_other files p q bytes e = get-insert_name files p bytes q ∙ ap (λ b. cond b (Some bytes) (get files q)) e

pub file_of-insert_same : (files : Files) (p bytes : List ℕ) → get (insert files p bytes) p ≡ Some bytes
file_of-insert_same files p bytes = get-insert_name files p bytes p ∙ ap (λ b. cond b (Some bytes) (get files p)) (same_name-refl p)

pub file_of-remove_other : (files : Files) (p q : List ℕ) → same_name q p ≡ false → get (remove files p) q ≡ get files q
file_of-remove_other files p q e = get-remove_name files p q ∙ ap (λ b. cond b None (get files q)) e

three_tests : {X : Type 0} (a b : Bool) (v x y z : X) → cond a v (cond b x (cond a y z)) ≡ cond a v (cond b x z)
three_tests true b v x y z = refl
three_tests false b v x y z = refl

-- a name that is made first, and filled when the old one is gone
pub insert-remove-insert : (files : Files) (from to first bytes : List ℕ) → insert (remove (insert files to first) from) to bytes ≡ insert (remove files from) to bytes
insert-remove-insert files from to first bytes =
    same_files _ _ (λ q.
    get-insert_name (remove (insert files to first) from) to bytes q
    ∙ ap (cond (same_name q to) (Some bytes)) (get-remove_name (insert files to first) from q ∙ ap (cond (same_name q from) None) (get-insert_name files to first q))
    ∙ three_tests (same_name q to) (same_name q from) (Some bytes) None (Some first) (get files q)
    ∙ ap (cond (same_name q to) (Some bytes)) (sym (get-remove_name files from q))
    ∙ sym (get-insert_name (remove files from) to bytes q))

-- a new name is made, the old one's file is taken out, and its bytes are put under the new one
module _ (files made : Files) (from to name empty : List ℕ) (apart : bytes_eq from to ≡ false) (has : HasFile files from)
    (name_is : name ≡ to) (made_is' : made ≡ insert files name empty) where
  made_is : made ≡ insert files to empty
  made_is = made_is' ∙ ap (λ n. insert files n empty) name_is

  differs : same_name from to ≡ false
  differs = is_eq-slice_cmp from to ∙ apart

  turned : same_name to from ≡ false
  turned = (eq_by_cmp_equiv nat_list_cmp_total).symm to from ∙ differs

  old_bytes : get made from ≡ get files from
  old_bytes = ap (λ m. get m from) made_is ∙ file_of-insert_other files to from empty differs

  pub renamed-takes : HasFile made from
  renamed-takes = ap is_some old_bytes ∙ has

  module _ (taken : Files) (taken_is : taken ≡ remove made from) where
    pub renamed-sets : HasFile taken to
    renamed-sets =
        ap is_some (ap (λ m. get m to) taken_is ∙ file_of-remove_other made from to turned ∙ ap (λ m. get m to) made_is ∙ file_of-insert_same files to empty)

    pub renamed-ends : (done : Files) (bytes : List ℕ) → bytes ≡ file_bytes made from → done ≡ insert taken to bytes → done ≡ with_renamed from to files
    renamed-ends done bytes bytes_is done_is =
        done_is
        ∙ ap (λ m. insert m to bytes) (taken_is ∙ ap (λ m. remove m from) made_is)
        ∙ insert-remove-insert files from to empty bytes
        ∙ ap (insert (remove files from) to) (bytes_is ∙ ap (λ o. unwrap_or o []) old_bytes)
