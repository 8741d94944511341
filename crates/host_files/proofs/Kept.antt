-- Each file that has a user is there still after a call.
use Rattle.std.specs.Prelude.{◌≡◌, ◌⊎◌, ℕ, ◌+◌, ◌-◌, ◌==◌, Bool, true, false, ◌&&◌, ◌||◌, nat_lt, nat_le, List, [], length, Option, Some, None, option_map, unwrap_or, is_some, IfSome, cond}
use Rattle.std.specs.Ordering.{nat_cmp}
use Rattle.std.specs.Cmp.Lexicographic.{slice_cmp, nat_list_cmp_total}
use Rattle.std.specs.FinMap.{empty, get, insert, remove, get-empty, get-insert, get-remove}
use Rattle.std.proofs.Common.{refl, sym, ap, ◌∙◌, subst, inl, inr, arith, leb-true}
use Rattle.std.proofs.lemmas.Bool.{false≢true, lt-ltb, leb-false}
use Rattle.bas_edge.specs.Files.{Files, HasFile, file_of, file_bytes, overwritten, with_file, with_bytes_at, with_renamed, without_file}
use Rattle.bas_edge.proofs.FilesIn.{same_name, same_name-≡, get-insert_name, file_of-insert_same, file_of-remove_other}
use Rattle.abi_calls.specs.declared.call.Call.{Call}
use Rattle.abi_calls.specs.declared.call.Call.TheVariants.{StreamOpen, StreamRead, StreamWrite, StreamSetLength, StreamDelete, StreamRename, Share, Close}
use Rattle.abi_calls.specs.declared.limits.TheConstants.{LONGEST_NAME, LONGEST_FILE, MOST_BYTES}
use Rattle.abi_calls.specs.declared.reply.Reply.{Reply}
use Rattle.abi_calls.specs.declared.reply.Reply.TheVariants.{Done, Count, NotFound, Busy, TooBig}
use Rattle.abi_calls.specs.Streams.{named, open_found, delete_found, rename_found, file_open_row, file_write_row}
use Rattle.host_files.specs.Users.{Users, user_count, is_used, with_user, without_user}
use Rattle.host_files.specs.InUse.{AreThere}
use Rattle.host_files.specs.Rows.{FollowsRow, LeavesFiles, file_call_row, is_by_name, users_after}

-- ---- A file that is there, after a change of the files.
is_some-cond : {X : Type 0} (b : Bool) (x : X) (o : Option X) → is_some o ≡ true → is_some (cond b (Some x) o) ≡ true
is_some-cond true x o h = refl
is_some-cond false x o h = h

there-insert : (files : Files) (p bytes q : List ℕ) → HasFile files q → HasFile (insert files p bytes) q
there-insert files p bytes q h = ap is_some (get-insert_name files p bytes q) ∙ is_some-cond (same_name q p) bytes (file_of files q) h

there-remove : (files : Files) (p q : List ℕ) → same_name q p ≡ false → HasFile files q → HasFile (remove files p) q
there-remove files p q e h = ap is_some (file_of-remove_other files p q e) ∙ h

there-with_bytes_at : (files : Files) (p : List ℕ) (at : ℕ) (bytes q : List ℕ) → HasFile files q → HasFile (with_bytes_at p at bytes files) q
there-with_bytes_at files p at bytes q h =
    let text : List ℕ = overwritten (file_bytes files p) at bytes in
    let new : Files = insert files p text in
    elim (length bytes == 0) as (λ b. HasFile (cond b files new) q) [
      | true ↦ h
      | false ↦ there-insert files p text q h
    ]

-- A file with a user isn't the one without.
differs : (users : Users) (p q : List ℕ) → is_used users p ≡ true → is_used users q ≡ false → same_name p q ≡ false
differs users p q used free =
    elim (same_name p q) as (λ b. same_name p q ≡ b → same_name p q ≡ false) [
      | true ↦ λ e. absurd (false≢true (sym free ∙ ap (is_used users) (sym (same_name-≡ p q e)) ∙ used))
      | false ↦ λ e. e
    ] refl

-- ---- A file that is there, after a row.
abbrev Keeps : List ℕ → Reply × Files → Type 0
Keeps q answer = HasFile answer.1 q

keeps-cond : (b : Bool) (x y : Reply × Files) (q : List ℕ) → Keeps q x → Keeps q y → Keeps q (cond b x y)
keeps-cond true x y q h i = h
keeps-cond false x y q h i = i

keeps-named : (files : Files) (name : List ℕ) (answer : Reply × Files) (q : List ℕ) → HasFile files q → Keeps q answer → Keeps q (named files name answer)
keeps-named files name answer q h i = keeps-cond (nat_lt LONGEST_NAME (length name)) _ _ q h (keeps-cond (length name == 0) _ _ q h i)

keeps-open_found : (files : Files) (name : List ℕ) (create exclusive : Bool) (o : Option (List ℕ)) (q : List ℕ) → HasFile files q → Keeps q (open_found files name create exclusive o)
keeps-open_found files name create exclusive None q h = keeps-cond create _ _ q (there-insert files name [] q h) h
keeps-open_found files name create exclusive (Some bytes) q h = keeps-cond (create && exclusive) _ _ q h h

keeps-delete_found : (users : Users) (files : Files) (name : List ℕ) (o : Option (List ℕ)) (q : List ℕ) → is_used users q ≡ true → HasFile files q
    → Keeps q (delete_found files name (is_used users name) o)
keeps-delete_found users files name None q used h = h
keeps-delete_found users files name (Some bytes) q used h =
    elim (is_used users name) as (λ b. is_used users name ≡ b → Keeps q (cond b (Busy, files) (Done, without_file name files))) [
      | true ↦ λ e. h
      | false ↦ λ e. there-remove files name q (differs users q name used e) h
    ] refl

neither : (a b : Bool) → a || b ≡ false → (a ≡ false) × (b ≡ false)
neither false b e = (refl, e)
neither true b e = absurd (false≢true (sym e))

keeps-rename_found : (users : Users) (files : Files) (from to : List ℕ) (o : Option (List ℕ)) (q : List ℕ) → is_used users q ≡ true → HasFile files q
    → Keeps q (rename_found files from to (is_used users from || is_used users to) o)
keeps-rename_found users files from to None q used h = h
keeps-rename_found users files from to (Some bytes) q used h =
    let in_use : Bool = is_used users from || is_used users to in
    elim in_use as (λ b. in_use ≡ b → Keeps q (cond b (Busy, files) (Done, with_renamed from to files))) [
      | true ↦ λ e. h
      | false ↦ λ e. there-insert (remove files from) to (file_bytes files from) q
          (there-remove files from q (differs users q from used (neither (is_used users from) (is_used users to) e).0) h)
    ] refl

-- No call takes away a file that has a user.
keeps-row : (users : Users) (call : Call) (name : List ℕ) (files : Files) (q : List ℕ) → is_used users q ≡ true → HasFile files q → Keeps q (file_call_row users call name files)
keeps-row users (StreamOpen stream create exclusive) name files q used h =
    keeps-named files name _ q h (keeps-open_found files name create exclusive (file_of files name) q h)
keeps-row users (StreamRead stream offset count) name files q used h = keeps-cond _ _ _ q h h
keeps-row users (StreamWrite stream offset bytes) name files q used h =
    keeps-cond (nat_lt MOST_BYTES (length bytes)) (TooBig, files) (file_write_row files name offset bytes) q h
    (keeps-cond (nat_lt LONGEST_FILE (offset + length bytes)) (TooBig, files) (Count (length bytes), with_bytes_at name offset bytes files) q h
    (there-with_bytes_at files name offset bytes q h))
keeps-row users (StreamSetLength stream size) name files q used h = keeps-cond _ _ _ q h (there-insert files name _ q h)
keeps-row users (StreamDelete file) name files q used h =
    keeps-named files name _ q h (keeps-delete_found users files name (file_of files name) q used h)
keeps-row users (StreamRename from to) name files q used h =
    keeps-named files name _ q h (keeps-named files to _ q h (keeps-rename_found users files name to (file_of files name) q used h))
keeps-row users _ name files q used h = h

-- ---- What is opened is there.
done-named : (files : Files) (name : List ℕ) (answer : Reply × Files) → (answer.0 ≡ Done → Keeps name answer) → (named files name answer).0 ≡ Done → Keeps name (named files name answer)
done-named files name answer h =
    elim (nat_lt LONGEST_NAME (length name)) as (λ b. (cond b (TooBig, files) (cond (length name == 0) (NotFound, files) answer)).0 ≡ Done
    → Keeps name (cond b (TooBig, files) (cond (length name == 0) (NotFound, files) answer))) [
      | true ↦ λ e. absurd (cc)
      | false ↦ elim (length name == 0) as (λ b. (cond b (NotFound, files) answer).0 ≡ Done → Keeps name (cond b (NotFound, files) answer)) [
        | true ↦ λ e. absurd (cc)
        | false ↦ h
      ]
    ]

done-open_found : (files : Files) (name : List ℕ) (create exclusive : Bool) (o : Option (List ℕ)) → file_of files name ≡ o → (open_found files name create exclusive o).0 ≡ Done
    → Keeps name (open_found files name create exclusive o)
done-open_found files name create exclusive None is =
    elim create as (λ b. (cond {A = Reply × Files} b (Done, with_file name [] files) (NotFound, files)).0 ≡ Done → Keeps name (cond b (Done, with_file name [] files) (NotFound, files))) [
      | true ↦ λ e. ap is_some (file_of-insert_same files name [])
      | false ↦ λ e. absurd (cc)
    ]
done-open_found files name create exclusive (Some bytes) is = λ e. keeps-cond (create && exclusive) _ _ name (ap is_some is) (ap is_some is)

opened : (files : Files) (name : List ℕ) (create exclusive : Bool) → (file_open_row files name create exclusive).0 ≡ Done → Keeps name (file_open_row files name create exclusive)
opened files name create exclusive = done-named files name _ (done-open_found files name create exclusive (file_of files name) refl)

-- ---- The users after a call.
user_count-insert : (users : Users) (p : List ℕ) (n : ℕ) (q : List ℕ) → user_count (insert users p n) q ≡ unwrap_or (cond (same_name q p) (Some n) (get users q)) 0
user_count-insert users p n q = ap (λ o. unwrap_or o 0) (get-insert nat_list_cmp_total users p n q)

user_count-remove : (users : Users) (p q : List ℕ) → user_count (remove users p) q ≡ unwrap_or (cond (same_name q p) None (get users q)) 0
user_count-remove users p q = ap (λ o. unwrap_or o 0) (get-remove nat_list_cmp_total users p q)

pub user_count-with_user : (users : Users) (name q : List ℕ) → user_count (with_user name users) q ≡ cond (same_name q name) (user_count users name + 1) (user_count users q)
user_count-with_user users name q =
    let n : ℕ = user_count users name + 1 in
    user_count-insert users name n q
    ∙ elim (same_name q name) as (λ b. unwrap_or (cond b (Some n) (get users q)) 0 ≡ cond b n (user_count users q)) [ true ↦ refl | false ↦ refl ]

pub user_count-without_user : (users : Users) (name q : List ℕ) → user_count (without_user name users) q ≡ cond (same_name q name) (user_count users name - 1) (user_count users q)
user_count-without_user users name q =
    let n : ℕ = user_count users name in
    elim (nat_le n 1) as (λ b. nat_le n 1 ≡ b → user_count (cond b (remove users name) (insert users name (n - 1))) q ≡ cond (same_name q name) (n - 1) (user_count users q)) [
      | true ↦ λ e.
          let none : 0 ≡ n - 1 = omega (arith, leb-true n 1 e) in
          user_count-remove users name q ∙ elim (same_name q name) as (λ b. unwrap_or (cond b None (get users q)) 0 ≡ cond b (n - 1) (user_count users q)) [ true ↦ none | false ↦ refl ]
      | false ↦ λ e.
          user_count-insert users name (n - 1) q
          ∙ elim (same_name q name) as (λ b. unwrap_or (cond b (Some (n - 1)) (get users q)) 0 ≡ cond b (n - 1) (user_count users q)) [ true ↦ refl | false ↦ refl ]
    ] refl

-- What has a user after one more of a file was counted is that file, or had a user.
used-with_user : (users : Users) (name q : List ℕ) → is_used (with_user name users) q ≡ true → (q ≡ name) ⊎ (is_used users q ≡ true)
used-with_user users name q used =
    let n : ℕ = user_count users name + 1 in
    elim (same_name q name) as (λ b. same_name q name ≡ b → (q ≡ name) ⊎ (is_used users q ≡ true)) [
      | true ↦ λ e. inl (same_name-≡ q name e)
      | false ↦ λ e. inr (ap (nat_lt 0) (sym (user_count-insert users name n q ∙ ap (λ b. unwrap_or (cond b (Some n) (get users q)) 0) e)) ∙ used)
    ] refl

more-than_one : (n : ℕ) → nat_le n 1 ≡ false → nat_lt 0 n ≡ true
more-than_one n e = lt-ltb 0 n (omega (arith, leb-false n 1 e))

-- What has a user after one less of a file was counted had one.
used-without_user : (users : Users) (name q : List ℕ) → is_used (without_user name users) q ≡ true → is_used users q ≡ true
used-without_user users name q =
    let n : ℕ = user_count users name in
    elim (same_name q name) as (λ b. same_name q name ≡ b → is_used (without_user name users) q ≡ true → is_used users q ≡ true) [
      | true ↦ λ e.
          elim (nat_le n 1) as (λ b. nat_le n 1 ≡ b → is_used (cond b (remove users name) (insert users name (n - 1))) q ≡ true → is_used users q ≡ true) [
            | true ↦ λ f used. absurd (false≢true (ap (nat_lt 0) (sym (user_count-remove users name q ∙ ap (λ b. unwrap_or (cond b None (get users q)) 0) e)) ∙ used))
            | false ↦ λ f used. ap (is_used users) (same_name-≡ q name e) ∙ more-than_one n f
          ] refl
      | false ↦ λ e.
          elim (nat_le n 1) as (λ b. is_used (cond b (remove users name) (insert users name (n - 1))) q ≡ true → is_used users q ≡ true) [
            | true ↦ λ used. ap (nat_lt 0) (sym (user_count-remove users name q ∙ ap (λ b. unwrap_or (cond b None (get users q)) 0) e)) ∙ used
            | false ↦ λ used. ap (nat_lt 0) (sym (user_count-insert users name (n - 1) q ∙ ap (λ b. unwrap_or (cond b (Some (n - 1)) (get users q)) 0) e)) ∙ used
          ]
    ] refl

-- What has a user after a call had one, or was opened.
used-after : (users : Users) (call : Call) (name : List ℕ) (reply : Reply) (files : Files) (q : List ℕ)
    → (is_by_name call ≡ false → is_used users name ≡ true) → (file_call_row users call name files).0 ≡ reply → ((p : List ℕ) → is_used users p ≡ true → HasFile files p)
    → is_used (users_after users call name reply) q ≡ true → Keeps q (file_call_row users call name files)
used-after users (StreamOpen stream create exclusive) name Done files q user is there used =
    elim (used-with_user users name q used) [
      | inl e ↦ subst (λ p. Keeps p (file_open_row files name create exclusive)) (sym e) (opened files name create exclusive is)
      | inr before ↦ keeps-row users (StreamOpen stream create exclusive) name files q before (there q before)
    ]
used-after users (Share stream) name reply files q user is there used =
    elim (used-with_user users name q used) [
      | inl e ↦ subst (λ p. HasFile files p) (sym e) (there name (user refl))
      | inr before ↦ there q before
    ]
used-after users (Close handle) name reply files q user is there used = there q (used-without_user users name q used)
used-after users call name reply files q user is there used = keeps-row users call name files q used (there q used)

-- ---- Where the files are told.
told_before : {row : Files → Reply × Files} {told told' : Option Files} {reply : Reply} (f : FollowsRow row told reply told') (x : Files) → told' ≡ Some x
    → (told ≡ Some f.before) × (x ≡ f.after)
told_before {row} {told = None} {told'} {reply} f x e = absurd (false≢true (sym f.stays ∙ ap is_some e))
told_before {row} {told = Some files} {told'} {reply} f x e = (ap (λ y. Some y) f.was, subst (λ o. IfSome o (λ y. y ≡ f.after)) e f.is)

pub there_after : {told told' : Option Files} {users users' : Users} (call : Call) (name : List ℕ) {reply : Reply} → AreThere told users → (is_by_name call ≡ false → is_used users name ≡ true)
    → FollowsRow (file_call_row users call name) told reply told' → users' ≡ users_after users call name reply → AreThere told' users'
there_after {told} {told'} {users} {users'} call name {reply} a user f e = record {
  there = λ q used x is.
      let b = told_before f x is in
      let rest : Keeps q (file_call_row users call name f.before) =
      used-after users call name reply f.before q user (ap (λ answer. answer.0) f.answers) (λ p p_used. a.there p p_used f.before b.0) (ap (λ u. is_used u q) (sym e) ∙ used) in
      subst (λ files. HasFile files q) (ap (λ answer. answer.1) f.answers ∙ sym b.1) rest;
}

there_done : {told : Option Files} {users : Users} (call : Call) (name : List ℕ) → AreThere told users → AreThere (option_map (λ files. (file_call_row users call name files).1) told) users
there_done {told = None} {users} call name a = record { there = λ q used x is. absurd (cc) }
there_done {told = Some files} {users} call name a = record {
  there = λ q used x is.
      subst (λ f. HasFile f q) (ap (λ o. unwrap_or o files) is) (keeps-row users call name files q used (a.there q used files refl));
}

-- A call that failed takes away no file that has a user.
pub there_left : {told told' : Option Files} {users users' : Users} (call : Call) (name : List ℕ) → AreThere told users → LeavesFiles (file_call_row users call name) told told' → users' ≡ users
    → AreThere told' users'
there_left {told} {told'} {users} {users'} call name a left e =
    subst (AreThere told') (sym e) (elim left [
      | inl same ↦ subst (λ t. AreThere t users) (sym same) a
      | inr done ↦ subst (λ t. AreThere t users) (sym done) (there_done call name a)
    ])

-- At the start no file has a user.
pub there_unused : {users : Users} (told : Option Files) → users ≡ empty → AreThere told users
there_unused {users} told e = record {
  there = λ q used. absurd (false≢true (sym (ap (λ o. nat_lt 0 (unwrap_or o 0)) (get-empty (slice_cmp nat_cmp) q)) ∙ ap (λ u. is_used u q) (sym e) ∙ used));
}
