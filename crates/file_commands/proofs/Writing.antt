-- A file that is emptied and written piece by piece.
use Rattle.std.proofs.Common.{◌≡◌, ◌⊎◌, inl, inr, ℕ, ◌+◌, ◌-◌, ◌<◌, ◌≤◌, ◌==◌, nat_lt, Bool, true, false, cond, List, [], ◌∷◌, ◌++◌, length, take, drop, replicate, arith, refl, sym, ap, subst, ◌∙◌, le-ltb, append-nil}
use Rattle.std.proofs.lemmas.List.{take_all, take-append-drop, length-take-le, length-drop, drop-drop}
use Rattle.std.proofs.Math.Seq.{take-add}
use Rattle.std.proofs.Math.Nat.{zero-sub}
use Rattle.std.specs.Prelude.{IsSome, unwrap_or}
use Rattle.std.specs.Option.{option_map}
use Rattle.std.specs.declared.option.Option.{Option}
use Rattle.std.specs.declared.option.Option.TheVariants.{None, Some}
use Rattle.std.specs.FinMap.{get, insert}
use Rattle.bas_edge.specs.Files.{Files, HasFile, file_of, file_bytes, resized, with_file, with_bytes_at, with_bytes_behind, with_length}
use Rattle.bas_edge.proofs.FilesIn.{same_name, same_files, get-insert_name, file_of-insert_same, insert_same, with_bytes_at_end}
use Rattle.abi_calls.specs.Objects.{Objects}
use Rattle.abi_calls.specs.Streams.{is_name, open_found}
use Rattle.abi_calls.specs.World.{Told}
use Rattle.file_commands.proofs.Rows.{opened_is}
use Rattle.file_commands.specs.Changes.{IsOn, changed, opened, IsOrIsNot, HasPart, IsPartly}

two_tests : (b : Bool) (x y z : Option (List ℕ)) → cond b x (cond b y z) ≡ cond b x z
two_tests true x y z = refl
two_tests false x y z = refl

insert_twice : (files : Files) (name first bytes : List ℕ) → insert (insert files name first) name bytes ≡ insert files name bytes
insert_twice files name first bytes =
    same_files _ _ (λ q.
    get-insert_name (insert files name first) name bytes q
    ∙ ap (cond (same_name q name) (Some bytes)) (get-insert_name files name first q)
    ∙ two_tests (same_name q name) (Some bytes) (Some first) (get files q)
    ∙ sym (get-insert_name files name bytes q))

one_map : (told : Option Files) (f g h : Files → Files) → ((files : Files) → g (f files) ≡ h files) → option_map g (option_map f told) ≡ option_map h told
one_map None f g h same = refl
one_map (Some files) f g h same = ap Some (same files)

-- One change behind another.
one_change : (told : Told) (f g : Files → Files) (h : Files → Files) → ((files : Files) → g (f files) ≡ h files) → changed g (changed f told) ≡ changed h told
one_change told f g h same = ap (λ files. record told { files = files }) (one_map told.files f g h same)

-- A file that is opened is as before, or is made.
found_is : (files : Files) (name : List ℕ) (found : Option (List ℕ)) → ((open_found files name true false found).1 ≡ files) ⊎ ((open_found files name true false found).1 ≡ insert files name [])
found_is files name None = inr refl
found_is files name (Some bytes) = inl refl

opened_or : (files : Files) (name : List ℕ) → is_name name ≡ true → (opened name files ≡ files) ⊎ (opened name files ≡ insert files name [])
opened_or files name e = elim (found_is files name (file_of files name)) as (λ _. (opened name files ≡ files) ⊎ (opened name files ≡ insert files name [])) [
  | inl p ↦ inl (opened_is files name e ∙ p)
  | inr p ↦ inr (opened_is files name e ∙ p)
]

told_or : (told : Told) (files : Option Files) (name : List ℕ) → is_name name ≡ true → (option_map (opened name) files ≡ files) ⊎ (option_map (opened name) files ≡ option_map (with_file name []) files)
told_or told None name e = inl refl
told_or told (Some files) name e = elim (opened_or files name e) as (λ _. (Some (opened name files) ≡ Some files) ⊎ (Some (opened name files) ≡ Some (with_file name [] files))) [
  | inl p ↦ inl (ap Some p)
  | inr p ↦ inr (ap Some p)
]

none_of : (old : List ℕ) → take 0 old ++ [] ≡ []
none_of [] = refl
none_of (x ∷ old) = refl

resized_none : (old : List ℕ) → resized old 0 ≡ []
resized_none old = ap (λ n. take 0 old ++ replicate n 0) (zero-sub (length old)) ∙ none_of old

-- A file that was opened and made empty has no bytes.
emptied : (name : List ℕ) → is_name name ≡ true → (files : Files) → with_length name 0 (opened name files) ≡ with_file name [] files
emptied name e files =
    ap (insert (opened name files) name) (resized_none (file_bytes (opened name files) name))
    ∙ elim (opened_or files name e) as (λ _. insert (opened name files) name [] ≡ insert files name []) [
      | inl p ↦ ap (λ f. insert f name []) p
      | inr p ↦ ap (λ f. insert f name []) p ∙ insert_twice files name [] []
    ]

no_bytes : (name bytes : List ℕ) (told told' : Told) → told' ≡ changed (with_file name []) told → HasPart name bytes told told'
no_bytes name bytes told told' e = record { part = []; rest = bytes; whole = refl; after = e }

-- Opening failed, or all was given up behind it.
after_open : (name bytes : List ℕ) (told told' : Told) → is_name name ≡ true → told' ≡ changed (opened name) told → IsPartly name bytes told told'
after_open name bytes told told' e is = elim (told_or told told.files name e) as (λ _. IsPartly name bytes told told') [
  | inl p ↦ inl (is ∙ ap (λ files. record told { files = files }) p)
  | inr p ↦ inr (no_bytes name bytes told told' (is ∙ ap (λ files. record told { files = files }) p))
]

pub left_open : (name bytes : List ℕ) (told told' : Told) → is_name name ≡ true → IsOrIsNot (opened name) told told' → IsPartly name bytes told told'
left_open name bytes told told' e (inl p) = inl p
left_open name bytes told told' e (inr p) = after_open name bytes told told' e p

pub left_empty : (name other bytes : List ℕ) (told told1 told' : Told) → is_name name ≡ true → other ≡ name → told1 ≡ changed (opened name) told → IsOrIsNot (with_length other 0) told1 told' → IsPartly name bytes told told'
left_empty name other bytes told told1 told' e same opens (inl p) = after_open name bytes told told' e (p ∙ opens)
left_empty name other bytes told told1 told' e same opens (inr p) =
    inr (no_bytes name bytes told told' (p ∙ ap (λ n. changed (with_length n 0) told1) same ∙ ap (changed (with_length name 0)) opens ∙ one_change told _ _ _ (emptied name e)))

-- ---- the loop over pieces

-- So many bytes stand in the file, and these are left; no fault was counted.
pub record Writes (other name bytes : List ℕ) (h : ℕ) (told : Told) (at : ℕ) (rest : List ℕ) (o : Objects) (told' : Told) (before now : ℕ) : Type 0 where
  pub same : other ≡ name
  pub on : IsOn other o h
  pub within : at ≤ length bytes
  pub behind : rest ≡ drop at bytes
  pub after : told' ≡ changed (with_file name (take at bytes)) told
  pub later : before ≤ now

pub writes_first : (other name bytes : List ℕ) (h : ℕ) (told told1 told2 : Told) (o o' : Objects) (before now : ℕ) → is_name name ≡ true → other ≡ name → IsOn other o h → o' ≡ o → told1 ≡ changed (opened name) told
    → told2 ≡ changed (with_length other 0) told1 → before ≤ now → Writes other name bytes h told 0 bytes o' told2 before now
writes_first other name bytes h told told1 told2 o o' before now e same on still opens empties later = record {
  same = same;
  on = subst (λ p. IsOn other p h) (sym still) on;
  within = omega arith;
  behind = refl;
  after = empties ∙ ap (λ n. changed (with_length n 0) told1) same ∙ ap (changed (with_length name 0)) opens ∙ one_change told _ _ _ (emptied name e);
  later = later;
}

piece_behind : (name bytes piece : List ℕ) (at n : ℕ) → at ≤ length bytes → piece ≡ take n (drop at bytes) → (files : Files)
    → with_bytes_at name at piece (with_file name (take at bytes) files) ≡ with_file name (take (at + n) bytes) files
piece_behind name bytes piece at n within is files =
    let old : List ℕ = take at bytes in
    let made : Files = insert files name old in
    let there : file_of made name ≡ Some old = file_of-insert_same files name old in
    let has : HasFile made name = subst (λ found. IsSome found) (sym there) refl in
    let old_is : file_bytes made name ≡ old = ap (λ found. unwrap_or found []) there in
    let end : length (file_bytes made name) ≡ at = ap length old_is ∙ length-take-le at bytes within in
    ap (λ k. with_bytes_at name k piece made) (sym end) ∙ with_bytes_at_end made name piece has
    ∙ ap (λ b. insert made name (b ++ piece)) old_is ∙ insert_twice files name old (old ++ piece)
    ∙ ap (insert files name) (ap (λ p. old ++ p) is ∙ sym (take-add at n bytes))

piece_size : (rest piece : List ℕ) (n : ℕ) → n ≤ length rest → piece ≡ take n rest → length piece ≡ n
piece_size rest piece n fits is = ap length is ∙ length-take-le n rest fits

pub writes_more : {other name bytes : List ℕ} {h : ℕ} {told : Told} {at : ℕ} {rest : List ℕ} {o : Objects} {told' : Told} {before now : ℕ} → Writes other name bytes h told at rest o told' before now
    → (n : ℕ) (piece behind : List ℕ) (o' : Objects) (told'' : Told) (later : ℕ) → n ≤ length rest → piece ≡ take n rest → behind ≡ drop n rest → o' ≡ o → told'' ≡ changed (with_bytes_at other at piece) told' → now ≤ later
    → Writes other name bytes h told (at + length piece) behind o' told'' before later
writes_more {other} {name} {bytes} {h} {told} {at} {rest} {o} {told'} {before} {now} w n piece behind o' told'' later fits is rest_is still writes late =
    let size : length piece ≡ n = piece_size rest piece n fits is in
    let left : length rest ≡ length bytes - at = ap length w.behind ∙ length-drop at bytes in
    record {
      same = w.same;
      on = subst (λ p. IsOn other p h) (sym still) w.on;
      within = omega (arith, size, left, fits, w.within);
      behind = rest_is ∙ ap (drop n) w.behind ∙ drop-drop n at bytes ∙ ap (λ k. drop (at + k) bytes) (sym size);
      after =
          writes ∙ ap (λ m. changed (with_bytes_at m at piece) told') w.same ∙ ap (changed (with_bytes_at name at piece)) w.after
          ∙ one_change told _ _ _ (piece_behind name bytes piece at n w.within (is ∙ ap (take n) w.behind))
          ∙ ap (λ k. changed (with_file name (take (at + k) bytes)) told) (sym size);
      later = omega (arith, w.later, late);
    }

pub writes_part : {other name bytes : List ℕ} {h : ℕ} {told : Told} {at : ℕ} {rest : List ℕ} {o : Objects} {told' : Told} {before now : ℕ} → Writes other name bytes h told at rest o told' before now
    → (told'' : Told) → told'' ≡ told' → IsPartly name bytes told told''
writes_part {bytes = bytes} {at = at} w told'' same = inr (record { part = take at bytes; rest = drop at bytes; whole = sym (take-append-drop at bytes); after = same ∙ w.after })

-- A write that failed wrote nothing, or its piece.
pub left_piece : {other name bytes : List ℕ} {h : ℕ} {told : Told} {at : ℕ} {rest : List ℕ} {o : Objects} {told' : Told} {before now : ℕ} → Writes other name bytes h told at rest o told' before now
    → (n : ℕ) (piece : List ℕ) (told'' : Told) → n ≤ length rest → piece ≡ take n rest → IsOrIsNot (with_bytes_at other at piece) told' told'' → IsPartly name bytes told told''
left_piece w n piece told'' fits is (inl e) = writes_part w told'' e
left_piece {other} {name} {bytes} {h} {told} {at} {rest} {o} {told'} {before} {now} w n piece told'' fits is (inr e) =
    writes_part (writes_more w n piece (drop n rest) o told'' now fits is refl refl e (omega arith)) told'' refl

pub writes_all : {other name bytes : List ℕ} {h : ℕ} {told : Told} {at : ℕ} {rest : List ℕ} {o : Objects} {told' : Told} {before now : ℕ} → Writes other name bytes h told at rest o told' before now
    → length rest ≡ 0 → (told'' : Told) → told'' ≡ told' → told'' ≡ changed (with_file name bytes) told
writes_all {name = name} {bytes = bytes} {told = told} {at = at} {rest = rest} w none told'' same =
    let left : length rest ≡ length bytes - at = ap length w.behind ∙ length-drop at bytes in
    let all : length bytes ≤ at = omega (arith, left, none, w.within) in
    same ∙ w.after ∙ ap (λ b. changed (with_file name b) told) (take_all at bytes all)
