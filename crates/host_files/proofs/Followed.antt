-- From what a store answered to the row of a call.
use Rattle.std.specs.Prelude.{◌≡◌, ℕ, ◌<◌, ◌≤◌, ◌+◌, Bool, true, false, ◌&&◌, ◌||◌, List, [], ◌++◌, length, take, drop, replicate, Option, Some, None, option_map, unwrap_or, is_some, IfSome, Result, IfOk}
use Rattle.std.specs.Option.{ForSome}
use Rattle.std.specs.Ordering.{nat_cmp}
use Rattle.std.specs.Cmp.Lexicographic.{slice_cmp}
use Rattle.std.specs.FinMap.{empty, get-empty}
use Rattle.std.proofs.Common.{refl, sym, ap, ◌∙◌, subst, arith}
use Rattle.std.proofs.lemmas.Bool.{cond-true, cond-false, le-ltb, lt-ltb}
use Rattle.std.proofs.lemmas.List.{take_all, drop_at, length-replicate}
use Rattle.bas_edge.specs.Files.{Files, file_of, file_bytes, file_length, with_file, with_bytes_at, with_length, with_renamed, without_file}
use Rattle.bas_edge.proofs.FilesIn.{with_renamed-same, file_of-insert_same}
use Rattle.abi_calls.specs.declared.limits.TheConstants.{MOST_BYTES, LONGEST_FILE}
use Rattle.bas_edge.specs.declared.errors.EdgeError.{EdgeError}
use Rattle.abi_calls.specs.declared.call.Call.TheVariants.{StreamDelete, StreamRename, Share, Close}
use Rattle.abi_calls.specs.declared.reply.Reply.{Reply}
use Rattle.abi_calls.specs.declared.reply.Reply.TheVariants.{Done, Bytes, Count, Length, NotFound, Exists, Busy, TooBig}
use Rattle.abi_calls.specs.Streams.{named, open_found, delete_found, rename_found, file_open_row, file_length_row, file_set_length_row, file_delete_row, file_rename_row}
use Rattle.host_files.specs.Names.{IsRefusedName, IsFineName}
use Rattle.host_files.specs.Found.{HasLength, ReadsFile}
use Rattle.host_files.specs.Users.{Users, is_used}
use Rattle.host_files.specs.Rows.{FollowsRow, read_row, write_row, file_call_row}

-- Some files that are as told, with a fact.
pub record Known (told : Option Files) (P : Files → Type 0) : Type 0 where
  pub files : Files
  pub tells : IfSome told (λ x. x ≡ files)
  pub fact : P files

-- What holds of all files holds of those that are told.
known_all : (told : Option Files) (P : Files → Type 0) → ((files : Files) → P files) → Known told P
known_all None P all = record { files = empty; tells = tt; fact = all empty }
known_all (Some files) P all = record { files = files; tells = refl; fact = all files }

known_map : {told : Option Files} (P Q : Files → Type 0) → ((files : Files) → P files → Q files) → Known told P → Known told Q
known_map P Q f k = record { files = k.files; tells = k.tells; fact = f k.files k.fact }

-- A row that leaves the files follows from files that stay as told.
follows_same : {row : Files → Reply × Files} {told told' : Option Files} {reply : Reply} → Known told (λ files. row files ≡ (reply, files)) → told' ≡ told → FollowsRow row told reply told'
follows_same {row} {told} {told'} {reply} k e =
    subst (FollowsRow row told reply) (sym e) (record { before = k.files; after = k.files; was = k.tells; is = k.tells; stays = refl; answers = k.fact })

changed : (f : Files → Files) (told : Option Files) (files : Files) → IfSome told (λ x. x ≡ files) → IfSome (option_map f told) (λ x. x ≡ f files)
changed f None files e = tt
changed f (Some x) files e = ap f e

is_some-option_map : (f : Files → Files) (told : Option Files) → is_some (option_map f told) ≡ is_some told
is_some-option_map f None = refl
is_some-option_map f (Some x) = refl

-- A row that changes the files follows from files that are changed so.
follows_change : {row : Files → Reply × Files} {told told' : Option Files} {reply : Reply} (f : Files → Files) → Known told (λ files. row files ≡ (reply, f files)) → told' ≡ option_map f told
    → FollowsRow row told reply told'
follows_change {row} {told} {told'} {reply} f k e =
    subst (FollowsRow row told reply) (sym e)
    (record { before = k.files; after = f k.files; was = k.tells; is = changed f told k.files k.tells; stays = is_some-option_map f told; answers = k.fact })

-- ---- What a length says of the file.
none_of : {X Y : Type 0} (f : X → Y) (o : Option X) → option_map f o ≡ None → o ≡ None
none_of f None e = refl
none_of f (Some x) e = absurd (cc)

some_of : (files : Files) (name : List ℕ) (found : Option (List ℕ)) (n : ℕ) → file_of files name ≡ found → option_map length found ≡ Some n → (bytes : List ℕ) × (file_of files name ≡ Some bytes)
some_of files name None n is e = absurd (cc)
some_of files name (Some bytes) n is e = (bytes, is)

known_none : {told : Option Files} (name : List ℕ) {found : Option ℕ} → ForSome told (λ files. found ≡ file_length files name) → found ≡ None → Known told (λ files. file_of files name ≡ None)
known_none {told = None} name {found} f e = record { files = empty; tells = tt; fact = get-empty (slice_cmp nat_cmp) name }
known_none {told = Some files} name {found} f e = record { files = files; tells = refl; fact = none_of length (file_of files name) (sym (f files refl) ∙ e) }

known_some : {told : Option Files} (name : List ℕ) {found : Option ℕ} {n : ℕ} → ForSome told (λ files. found ≡ file_length files name) → found ≡ Some n
    → Known told (λ files. (bytes : List ℕ) × (file_of files name ≡ Some bytes))
known_some {told = None} name {found} {n} f e = record { files = with_file name [] empty; tells = tt; fact = ([], file_of-insert_same empty name []) }
known_some {told = Some files} name {found} {n} f e =
    record { files = files; tells = refl; fact = some_of files name (file_of files name) n refl (sym (f files refl) ∙ e) }

-- ---- A refused name.
pub follows_refused : {told told' : Option Files} {name : List ℕ} {reply : Reply} (rest : Files → Reply × Files) → IsRefusedName name reply → told' ≡ told
    → FollowsRow (λ files. named files name (rest files)) told reply told'
follows_refused {told} {told'} {name} {reply} rest refused e = follows_same (known_all told _ (λ files. refused.refuses files (rest files))) e

-- ---- StreamOpen
row_found : {name : List ℕ} (create exclusive : Bool) → IsFineName name → (files : Files) (o : Option (List ℕ)) → file_of files name ≡ o
    → file_open_row files name create exclusive ≡ open_found files name create exclusive o
row_found {name} create exclusive fine files o e = fine.goes_on files _ ∙ ap (open_found files name create exclusive) e

module _ {told told' : Option Files} {name : List ℕ} {found : Option ℕ} (create exclusive : Bool) (fine : IsFineName name) (f : ForSome told (λ files. found ≡ file_length files name)) where
  pub opens_missing : found ≡ None → create ≡ false → told' ≡ told → FollowsRow (λ files. file_open_row files name create exclusive) told NotFound told'
  opens_missing none off e =
      follows_same (known_map _ _ (λ files is. row_found create exclusive fine files None is ∙ cond-false _ _ _ off) (known_none _ f none)) e

  pub opens_new : found ≡ None → create ≡ true → told' ≡ option_map (with_file name []) told → FollowsRow (λ files. file_open_row files name create exclusive) told Done told'
  opens_new none on e =
      follows_change (with_file name []) (known_map _ _ (λ files is. row_found create exclusive fine files None is ∙ cond-true _ _ _ on) (known_none _ f none)) e

  pub opens_taken : {n : ℕ} → found ≡ Some n → create && exclusive ≡ true → told' ≡ told → FollowsRow (λ files. file_open_row files name create exclusive) told Exists told'
  opens_taken some both e =
      follows_same (known_map _ _ (λ files is. row_found create exclusive fine files (Some is.0) is.1 ∙ cond-true _ _ _ both) (known_some _ f some)) e

  pub opens_there : {n : ℕ} → found ≡ Some n → create && exclusive ≡ false → told' ≡ told → FollowsRow (λ files. file_open_row files name create exclusive) told Done told'
  opens_there some both e =
      follows_same (known_map _ _ (λ files is. row_found create exclusive fine files (Some is.0) is.1 ∙ cond-false _ _ _ both) (known_some _ f some)) e

-- ---- StreamDelete
row_deleted : {name : List ℕ} (in_use : Bool) → IsFineName name → (files : Files) (o : Option (List ℕ)) → file_of files name ≡ o
    → file_delete_row files name in_use ≡ delete_found files name in_use o
row_deleted {name} in_use fine files o e = fine.goes_on files _ ∙ ap (delete_found files name in_use) e

module _ {told told' : Option Files} {name : List ℕ} {found : Option ℕ} (in_use : Bool) (fine : IsFineName name) (f : ForSome told (λ files. found ≡ file_length files name)) where
  pub deletes_missing : found ≡ None → told' ≡ told → FollowsRow (λ files. file_delete_row files name in_use) told NotFound told'
  deletes_missing none e = follows_same (known_map _ _ (λ files is. row_deleted in_use fine files None is) (known_none _ f none)) e

  pub deletes_busy : {n : ℕ} → found ≡ Some n → in_use ≡ true → told' ≡ told → FollowsRow (λ files. file_delete_row files name in_use) told Busy told'
  deletes_busy some busy e = follows_same (known_map _ _ (λ files is. row_deleted in_use fine files (Some is.0) is.1 ∙ cond-true _ _ _ busy) (known_some _ f some)) e

  pub deletes_there : {n : ℕ} → found ≡ Some n → in_use ≡ false → told' ≡ option_map (without_file name) told → FollowsRow (λ files. file_delete_row files name in_use) told Done told'
  deletes_there some free e =
      follows_change (without_file name) (known_map _ _ (λ files is. row_deleted in_use fine files (Some is.0) is.1 ∙ cond-false _ _ _ free) (known_some _ f some)) e

-- ---- StreamRename
row_renamed : {from to : List ℕ} (in_use : Bool) → IsFineName from → IsFineName to → (files : Files) (o : Option (List ℕ)) → file_of files from ≡ o
    → file_rename_row files from to in_use ≡ rename_found files from to in_use o
row_renamed {from} {to} in_use fine fine_to files o e = fine.goes_on files _ ∙ fine_to.goes_on files _ ∙ ap (rename_found files from to in_use) e

module _ {told told' : Option Files} {from to : List ℕ} (in_use : Bool) (fine : IsFineName from) where
  pub renames_refused : {reply : Reply} → IsRefusedName to reply → told' ≡ told → FollowsRow (λ files. file_rename_row files from to in_use) told reply told'
  renames_refused refused e = follows_same (known_all told _ (λ files. fine.goes_on files _ ∙ refused.refuses files _)) e

  module _ {found : Option ℕ} (fine_to : IsFineName to) (f : ForSome told (λ files. found ≡ file_length files from)) where
    pub renames_missing : found ≡ None → told' ≡ told → FollowsRow (λ files. file_rename_row files from to in_use) told NotFound told'
    renames_missing none e = follows_same (known_map _ _ (λ files is. row_renamed in_use fine fine_to files None is) (known_none _ f none)) e

    pub renames_busy : {n : ℕ} → found ≡ Some n → in_use ≡ true → told' ≡ told → FollowsRow (λ files. file_rename_row files from to in_use) told Busy told'
    renames_busy some busy e = follows_same (known_map _ _ (λ files is. row_renamed in_use fine fine_to files (Some is.0) is.1 ∙ cond-true _ _ _ busy) (known_some _ f some)) e

    pub renames_there : {n : ℕ} → found ≡ Some n → in_use ≡ false → told' ≡ option_map (with_renamed from to) told → FollowsRow (λ files. file_rename_row files from to in_use) told Done told'
    renames_there some free e =
        follows_change (with_renamed from to) (known_map _ _ (λ files is. row_renamed in_use fine fine_to files (Some is.0) is.1 ∙ cond-false _ _ _ free) (known_some _ f some)) e

    -- Where the names are equal nothing changes.
    pub renames_same : {n : ℕ} → found ≡ Some n → in_use ≡ false → from ≡ to → told' ≡ told → FollowsRow (λ files. file_rename_row files from to in_use) told Done told'
    renames_same some free same e =
        follows_same (known_map _ _ (λ files is. row_renamed in_use fine fine_to files (Some is.0) is.1 ∙ cond-false _ _ _ free ∙ ap (λ x. (Done, x)) (with_renamed-same files from to same (ap is_some is.1))) (known_some _ f some)) e

-- ---- StreamRead
pub reads_too_much : {told told' : Option Files} (name : List ℕ) (offset count : ℕ) → MOST_BYTES < count → told' ≡ told → FollowsRow (read_row name offset count) told TooBig told'
reads_too_much {told} {told'} name offset count big e = follows_same (known_all told _ (λ files. cond-true _ _ _ (lt-ltb MOST_BYTES count big))) e

known_read : {told : Option Files} {name : List ℕ} {offset count : ℕ} {bytes : List ℕ} → ReadsFile told name offset count bytes → Known told (λ files. take count (drop offset (file_bytes files name)) ≡ bytes)
known_read {told = Some files} {name} {offset} {count} {bytes} r = record { files = files; tells = refl; fact = sym r.read }
known_read {told = None} {name} {offset} {count} {bytes} r = record {
  files = with_file name (replicate offset 0 ++ bytes) empty;
  tells = tt;
  fact = ap (λ o. take count (drop offset (unwrap_or o []))) (file_of-insert_same empty name (replicate offset 0 ++ bytes))
      ∙ ap (take count) (drop_at (replicate offset 0) bytes offset (length-replicate offset 0)) ∙ take_all count bytes r.within;
}

pub reads : {told told' : Option Files} {name : List ℕ} {offset count : ℕ} {bytes : List ℕ} → count ≤ MOST_BYTES → ReadsFile told name offset count bytes → told' ≡ told
    → FollowsRow (read_row name offset count) told (Bytes bytes) told'
reads {told} {told'} {name} {offset} {count} {bytes} small r e =
    follows_same (known_map _ _ (λ files is. cond-false _ _ _ (le-ltb MOST_BYTES count small) ∙ ap (λ x. (Bytes x, files)) is) (known_read r)) e

-- ---- StreamWrite
nothing_written : (files : Files) (name : List ℕ) (offset : ℕ) → offset ≤ LONGEST_FILE → write_row name offset [] files ≡ (Count 0, files)
nothing_written files name offset within = cond-false _ _ _ (le-ltb LONGEST_FILE (offset + 0) (omega arith))

row_written : (name : List ℕ) (offset : ℕ) (bytes : List ℕ) → length bytes ≤ MOST_BYTES → offset + length bytes ≤ LONGEST_FILE → (files : Files)
    → write_row name offset bytes files ≡ (Count (length bytes), with_bytes_at name offset bytes files)
row_written name offset bytes small within files = cond-false _ _ _ (le-ltb MOST_BYTES (length bytes) small) ∙ cond-false _ _ _ (le-ltb LONGEST_FILE (offset + length bytes) within)

module _ {told told' : Option Files} (name : List ℕ) (offset : ℕ) (bytes : List ℕ) where
  pub writes_too_much : MOST_BYTES < length bytes → told' ≡ told → FollowsRow (write_row name offset bytes) told TooBig told'
  writes_too_much big e = follows_same (known_all told _ (λ files. cond-true _ _ _ (lt-ltb MOST_BYTES (length bytes) big))) e

  pub writes_past : length bytes ≤ MOST_BYTES → LONGEST_FILE < offset + length bytes → told' ≡ told → FollowsRow (write_row name offset bytes) told TooBig told'
  writes_past small past e =
      follows_same (known_all told _ (λ files. cond-false _ _ _ (le-ltb MOST_BYTES (length bytes) small) ∙ cond-true _ _ _ (lt-ltb LONGEST_FILE (offset + length bytes) past))) e

  pub writes : length bytes ≤ MOST_BYTES → offset + length bytes ≤ LONGEST_FILE → told' ≡ option_map (with_bytes_at name offset bytes) told → FollowsRow (write_row name offset bytes) told (Count (length bytes)) told'
  writes small within e = follows_change (with_bytes_at name offset bytes) (known_all told _ (row_written name offset bytes small within)) e

  -- No bytes change nothing.
  pub writes_nothing : bytes ≡ [] → offset ≤ LONGEST_FILE → told' ≡ told → FollowsRow (write_row name offset bytes) told (Count 0) told'
  writes_nothing none within e =
      follows_same (known_all told _ (λ files. ap (λ b. write_row name offset b files) none ∙ nothing_written files name offset within)) e

-- ---- StreamLength
known_length : {told : Option Files} {name : List ℕ} {size : ℕ} → HasLength told name size → Known told (λ files. size ≡ length (file_bytes files name))
known_length {told = Some files} {name} {size} h = record { files = files; tells = refl; fact = h.is }
known_length {told = None} {name} {size} h = record {
  files = with_file name (replicate size 0) empty;
  tells = tt;
  fact = sym (ap (λ o. length (unwrap_or o [])) (file_of-insert_same empty name (replicate size 0)) ∙ length-replicate size 0);
}

pub measures : {told told' : Option Files} {name : List ℕ} {size : ℕ} → HasLength told name size → told' ≡ told → FollowsRow (λ files. file_length_row files name) told (Length size) told'
measures {told} {told'} {name} {size} h e = follows_same (known_map _ _ (λ files is. ap (λ n. (Length n, files)) (sym is)) (known_length h)) e

-- ---- StreamSetLength
module _ {told told' : Option Files} (name : List ℕ) (size : ℕ) where
  pub resizes_past : LONGEST_FILE < size → told' ≡ told → FollowsRow (λ files. file_set_length_row files name size) told TooBig told'
  resizes_past past e = follows_same (known_all told _ (λ files. cond-true _ _ _ (lt-ltb LONGEST_FILE size past))) e

  pub resizes : size ≤ LONGEST_FILE → told' ≡ option_map (with_length name size) told → FollowsRow (λ files. file_set_length_row files name size) told Done told'
  resizes within e = follows_change (with_length name size) (known_all told _ (λ files. cond-false _ _ _ (le-ltb LONGEST_FILE size within))) e

-- ---- Share and Close
pub shares : {told : Option Files} (users : Users) (stream : ℕ) (name : List ℕ) → FollowsRow (file_call_row users (Share stream) name) told Done told
shares {told} users stream name = follows_same (known_all told _ (λ files. refl)) refl

pub closes : {told : Option Files} (users : Users) (handle : ℕ) (name : List ℕ) → FollowsRow (file_call_row users (Close handle) name) told Done told
closes {told} users handle name = follows_same (known_all told _ (λ files. refl)) refl

-- ---- Whether a file is in use, as the users say.
module _ (told told' : Option Files) (result : Result Reply EdgeError) (users : Users) (name : List ℕ) where
  pub deletes : (file : List ℕ) {in_use : Bool} → in_use ≡ is_used users name
      → IfOk result (λ reply. FollowsRow (λ files. file_delete_row files name in_use) told reply told') → IfOk result (λ reply. FollowsRow (file_call_row users (StreamDelete file) name) told reply told')
  deletes file {in_use} e row = subst (λ b. IfOk result (λ reply. FollowsRow (λ files. file_delete_row files name b) told reply told')) e row

  pub renames : (from to : List ℕ) {a b : Bool} → a ≡ is_used users name → b ≡ is_used users to
      → IfOk result (λ reply. FollowsRow (λ files. file_rename_row files name to (a || b)) told reply told') → IfOk result (λ reply. FollowsRow (file_call_row users (StreamRename from to) name) told reply told')
  renames from to {a} {b} e f row =
      subst (λ x. IfOk result (λ reply. FollowsRow (λ files. file_rename_row files name to (is_used users name || x)) told reply told')) f
      (subst (λ x. IfOk result (λ reply. FollowsRow (λ files. file_rename_row files name to (x || b)) told reply told')) e row)
