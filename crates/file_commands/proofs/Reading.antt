-- A file that is read piece by piece.
use Rattle.std.proofs.Common.{◌≡◌, ℕ, ◌+◌, ◌-◌, ◌<◌, ◌≤◌, zero, suc, min, List, [], ◌∷◌, ◌++◌, length, take, drop, arith, refl, sym, ap, subst, ◌∙◌, append-nil, length-append}
use Rattle.std.proofs.lemmas.List.{take_all, length-take, length-drop}
use Rattle.std.proofs.Math.Seq.{take-add, take-nil}
use Rattle.std.specs.Option.{ForSome}
use Rattle.std.specs.declared.option.Option.{Option}
use Rattle.bas_edge.specs.Files.{Files, file_bytes}
use Rattle.abi_calls.specs.Objects.{Objects}
use Rattle.abi_calls.specs.World.{Told}
use Rattle.file_commands.specs.Changes.{IsOn}

-- The bytes are the first ones of the file, where it is told; nothing that is told has changed.
pub record Reads (name : List ℕ) (h : ℕ) (told : Told) (bytes : List ℕ) (o : Objects) (told' : Told) (before now : ℕ) : Type 0 where
  pub on : IsOn name o h
  pub same : told' ≡ told
  pub read : ForSome told.files (λ files. bytes ≡ take (length bytes) (file_bytes files name))
  pub later : before ≤ now

take_none : (xs : List ℕ) → [] ≡ take 0 xs
take_none [] = refl
take_none (x ∷ xs) = refl

pub reads_nothing : (name : List ℕ) (h : ℕ) (told : Told) (o : Objects) (faults : ℕ) → IsOn name o h → Reads name h told [] o told faults faults
reads_nothing name h told o faults on = record { on = on; same = refl; read = λ files is. take_none (file_bytes files name); later = omega arith }

abbrev no_bytes : List ℕ
no_bytes = []

-- A first part is as long as it says.
take_itself : (n : ℕ) (xs : List ℕ) → take n xs ≡ take (length (take n xs)) xs
take_itself zero xs = ap (λ k. take k xs) (sym (ap length (sym (take_none xs)))) ∙ refl
take_itself (suc n) [] = take-nil (suc n) ∙ sym (take-nil (length (take (suc n) no_bytes)))
take_itself (suc n) (x ∷ xs) = ap (λ l. x ∷ l) (take_itself n xs)

longer : (bytes piece file : List ℕ) (n : ℕ) → bytes ≡ take (length bytes) file → piece ≡ take n (drop (length bytes) file) → bytes ++ piece ≡ take (length (bytes ++ piece)) file
longer bytes piece file n front next =
    let all : bytes ++ piece ≡ take (length bytes + n) file = ap (λ b. b ++ piece) front ∙ ap (λ p. take (length bytes) file ++ p) next ∙ sym (take-add (length bytes) n file) in
    all ∙ take_itself (length bytes + n) file ∙ ap (λ (l : List ℕ). take (length l) file) (sym all)

pub reads_more : {name : List ℕ} {h : ℕ} {told : Told} {bytes : List ℕ} {o : Objects} {told' : Told} {before now : ℕ} → Reads name h told bytes o told' before now
    → (n : ℕ) (piece longer_bytes : List ℕ) (o' : Objects) (told'' : Told) (later : ℕ) → o' ≡ o → told'' ≡ told' → ForSome told'.files (λ files. piece ≡ take n (drop (length bytes) (file_bytes files name)))
    → longer_bytes ≡ bytes ++ piece → now ≤ later → Reads name h told longer_bytes o' told'' before later
reads_more {name} {h} {told} {bytes} {o} {told'} {before} {now} r n piece longer_bytes o' told'' later still same next is late = record {
  on = subst (λ p. IsOn name p h) (sym still) r.on;
  same = same ∙ r.same;
  read = λ files there. is ∙ longer bytes piece (file_bytes files name) n (r.read files there) (next files (ap (λ (t : Told). t.files) r.same ∙ there)) ∙ ap (λ (l : List ℕ). take (length l) (file_bytes files name)) (sym is);
  later = omega (arith, r.later, late);
}

whole : (bytes file : List ℕ) → length file ≤ length bytes → bytes ≡ take (length bytes) file → bytes ≡ file
whole bytes file long front = front ∙ take_all (length bytes) file long

-- All was read, as long as the file is.
pub reads_all : {name : List ℕ} {h : ℕ} {told : Told} {bytes : List ℕ} {o : Objects} {told' : Told} {before now : ℕ} → Reads name h told bytes o told' before now
    → (size : ℕ) → ForSome told.files (λ files. size ≡ length (file_bytes files name)) → size ≤ length bytes → ForSome told.files (λ files. bytes ≡ file_bytes files name)
reads_all {name} {bytes = bytes} r size long end = λ files is. let l = long files is in whole bytes (file_bytes files name) (omega (arith, l, end)) (r.read files is)

-- A piece without bytes is the end of the file.
pub reads_end : {name : List ℕ} {h : ℕ} {told : Told} {bytes : List ℕ} {o : Objects} {told' : Told} {before now : ℕ} → Reads name h told bytes o told' before now
    → (n : ℕ) (piece : List ℕ) → 1 ≤ n → ForSome told'.files (λ files. piece ≡ take n (drop (length bytes) (file_bytes files name))) → piece ≡ [] → ForSome told.files (λ files. bytes ≡ file_bytes files name)
reads_end {name} {bytes = bytes} r n piece some next none = λ files is.
    let file : List ℕ = file_bytes files name in
    let empty : 0 ≡ length (take n (drop (length bytes) file)) = ap length (sym none ∙ next files (ap (λ (t : Told). t.files) r.same ∙ is)) in
    whole bytes file (omega (arith, some, empty ∙ length-take n (drop (length bytes) file), length-drop (length bytes) file)) (r.read files is)

pub ruleset reading = (reads_nothing, reads_more, reads_all, reads_end)
