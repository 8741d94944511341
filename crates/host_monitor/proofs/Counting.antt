-- The users of files are counted as the handles that are open on them, before and after a call.
use Rattle.std.specs.Prelude.{◌≡◌, ℕ, ◌+◌, ◌-◌, ◌==◌, true, false, cond, List, [], unwrap_or}
use Rattle.std.specs.declared.option.Option.{Option}
use Rattle.std.specs.declared.option.Option.TheVariants.{None, Some}
use Rattle.std.specs.Ordering.{nat_cmp}
use Rattle.std.specs.Cmp.{eq_by_cmp_equiv}
use Rattle.std.specs.Cmp.Lexicographic.{slice_cmp, nat_list_cmp_total}
use Rattle.std.specs.FinMap.{empty, get-empty}
use Rattle.std.proofs.Common.{refl, sym, ap, ◌∙◌, subst, arith}
use Rattle.std.proofs.lemmas.Bool.{lt-ltb}
use Rattle.std.proofs.lemmas.Map.Text.{is_eq-slice_cmp}
use Rattle.bas_names.specs.declared.StreamName.TheVariants.{File}
use Rattle.bas_edge.proofs.FilesIn.{same_name, same_name-≡, same_name-refl}
use Rattle.abi_calls.specs.declared.call.Call.{Call}
use Rattle.abi_calls.specs.declared.call.Call.TheVariants.{StreamOpen, StreamRead, StreamWrite, StreamLength, StreamSetLength, StreamDelete, StreamRename, Share, Close}
use Rattle.abi_calls.specs.declared.object.Object.TheVariants.{Stream}
use Rattle.abi_calls.specs.declared.reply.Reply.{Reply}
use Rattle.abi_calls.specs.declared.reply.Reply.TheVariants.{Done, Handle}
use Rattle.abi_calls.specs.Objects.{Objects, object_at, with_object, without_handles, IsFresh}
use Rattle.abi_calls.specs.World.{world_of, some_contents}
use Rattle.abi_calls.specs.Streams.{is_open_on, open_handles, share_row, shared_object}
use Rattle.abi_calls.specs.Processes.{close_row}
use Rattle.abi_calls.specs.Abi.{IsFreeChoice, is_outside, takes_memory, new_number}
use Rattle.abi_calls.proofs.Counts.{count_empty}
use Rattle.host_files.specs.Users.{Users, user_count, is_used, with_user, without_user}
use Rattle.host_files.specs.Rows.{IsOnFile, is_by_name, users_after}
use Rattle.host_files.proofs.Kept.{user_count-with_user, user_count-without_user}
use Rattle.host_objects.specs.Objects.{untouched}
use Rattle.host_objects.specs.Rows.{Row}
use Rattle.host_objects.proofs.Rows.{row_in_world}
use Rattle.host_monitor.specs.Counted.{CountsUsers, IsUsedIn, file_at, file_of_call, opened_name, is_on_handle, is_done, users_on, users_without}
use Rattle.host_monitor.proofs.FileRows.{file_there, done_is}
use Rattle.host_monitor.proofs.OpenHandles.{here, handles-with_object, handles-ended, SameHandles-Abi, CountsUsers-same}

-- ---- The file of a call.
pub on_file : (o : Objects) (call : Call) {name : List ℕ} → file_of_call o call ≡ Some name → IsOnFile call name
on_file o (StreamOpen (File file) create exclusive) {name} at = ap (λ x. unwrap_or x []) at
on_file o (StreamRead stream offset count) {name} at = tt
on_file o (StreamWrite stream offset bytes) {name} at = tt
on_file o (StreamLength stream) {name} at = tt
on_file o (StreamSetLength stream size) {name} at = tt
on_file o (StreamDelete file) {name} at = ap (λ x. unwrap_or x []) at
on_file o (StreamRename from to) {name} at = ap (λ x. unwrap_or x []) at
on_file o (Share stream) {name} at = tt
on_file o (Close handle) {name} at = tt
on_file o call {name} at = absurd (cc)

-- ---- One handle more or less.
opened_here : (file q : List ℕ) → here q (Some (Stream (File file))) ≡ cond (same_name q file) 1 0
opened_here file q =
    let laws = eq_by_cmp_equiv nat_list_cmp_total in
    ap (λ b. cond b 1 0) (sym (is_eq-slice_cmp file q) ∙ laws.symm file q)

counted_more : {o o' : Objects} {users : Users} (file : List ℕ) → CountsUsers o users → ((q : List ℕ) → open_handles o' q ≡ open_handles o q + cond (same_name q file) 1 0) → CountsUsers o' (with_user file users)
counted_more {o} {o'} {users} file c more = record {
  counts = λ q. user_count-with_user users file q
      ∙ elim (same_name q file) as (λ b. same_name q file ≡ b → open_handles o' q ≡ open_handles o q + cond b 1 0 → cond b (user_count users file + 1) (user_count users q) ≡ open_handles o' q) [
        | true ↦ λ e h. omega (arith, h, c.counts file, ap (open_handles o) (same_name-≡ q file e))
        | false ↦ λ e h. omega (arith, h, c.counts q)
      ] refl (more q);
}

counted_less : {o o' : Objects} {users : Users} (file : List ℕ) → CountsUsers o users → ((q : List ℕ) → open_handles o' q + cond (same_name q file) 1 0 ≡ open_handles o q) → CountsUsers o' (without_user file users)
counted_less {o} {o'} {users} file c less = record {
  counts = λ q. user_count-without_user users file q
      ∙ elim (same_name q file) as (λ b. same_name q file ≡ b → open_handles o' q + cond b 1 0 ≡ open_handles o q → cond b (user_count users file - 1) (user_count users q) ≡ open_handles o' q) [
        | true ↦ λ e h. omega (arith, h, c.counts file, ap (open_handles o) (same_name-≡ q file e))
        | false ↦ λ e h. omega (arith, h, c.counts q)
      ] refl (less q);
}

handles_opened : (o : Objects) (h : ℕ) (file q : List ℕ) → IsFresh o h → open_handles (with_object o h (Stream (File file))) q ≡ open_handles o q + cond (same_name q file) 1 0
handles_opened o h file q fresh = omega (arith, handles-with_object o h (Stream (File file)) q, opened_here file q, ap (here q) fresh.free)

handles_closed : (o : Objects) (h : ℕ) (file q : List ℕ) → object_at o h ≡ Some (Stream (File file)) → open_handles (without_handles o (λ k. k == h)) q + cond (same_name q file) 1 0 ≡ open_handles o q
handles_closed o h file q is = omega (arith, handles-ended o h q, opened_here file q, ap (here q) is)

-- ---- A file on which a handle is open has a user.
used_at : {o : Objects} {users : Users} (h : ℕ) (name : List ℕ) → CountsUsers o users → file_at (object_at o h) ≡ Some name → is_used users name ≡ true
used_at {o} {users} h name c at =
    lt-ltb 0 (user_count users name)
    (omega (arith, c.counts name, handles_closed o h name name (file_there (object_at o h) name at), ap (λ b. cond {A = ℕ} b 1 0) (same_name-refl name)))

pub has_user : {o : Objects} {users : Users} (call : Call) {name : List ℕ} → CountsUsers o users → file_of_call o call ≡ Some name → is_by_name call ≡ false → is_used users name ≡ true
has_user {o} {users} (StreamRead stream offset count) {name} c at by = used_at stream name c at
has_user {o} {users} (StreamWrite stream offset bytes) {name} c at by = used_at stream name c at
has_user {o} {users} (StreamLength stream) {name} c at by = used_at stream name c at
has_user {o} {users} (StreamSetLength stream size) {name} c at by = used_at stream name c at
has_user {o} {users} (Share stream) {name} c at by = used_at stream name c at
has_user {o} {users} (Close handle) {name} c at by = used_at handle name c at
has_user {o} {users} call {name} c at by = absurd (cc)

-- ---- Nothing is open at the start.
pub CountsUsers-untouched : {o : Objects} {users : Users} → o ≡ untouched → users ≡ empty → CountsUsers o users
CountsUsers-untouched {o} {users} e f = record {
  counts = λ q. ap (λ u. user_count u q) f ∙ ap (λ x. unwrap_or x 0) (get-empty (slice_cmp nat_cmp) q) ∙ sym (ap (λ p. open_handles p q) e ∙ count_empty (is_open_on q));
}

-- ---- StreamOpen
pub users-opened : (users users' : Users) (call : Call) (file : List ℕ) (reply : Reply) → opened_name call ≡ Some (File file) → is_done reply ≡ true → users' ≡ users_after users call file reply → users' ≡ with_user file users
users-opened users users' (StreamOpen stream create exclusive) file reply opens done e = e ∙ ap (users_after users (StreamOpen stream create exclusive) file) (done_is reply done)
users-opened users users' call file reply opens done e = absurd (cc)

pub CountsUsers-opened : {o o' : Objects} {users users' : Users} (file : List ℕ) {h : ℕ} → CountsUsers o users → users' ≡ with_user file users → IsFresh o h → o' ≡ with_object o h (Stream (File file)) → CountsUsers o' users'
CountsUsers-opened {o} {o'} {users} {users'} file {h} c e fresh now =
    subst (λ p. CountsUsers p users') (sym now) (subst (CountsUsers (with_object o h (Stream (File file)))) (sym e) (counted_more file c (λ q. handles_opened o h file q fresh)))

-- The user of a handle that wasn't given is taken back.
pub CountsUsers-released : {o : Objects} {users : Users} (file : List ℕ) → CountsUsers o users → CountsUsers o (without_user file (with_user file users))
CountsUsers-released {o} {users} file c = record {
  counts = λ q. user_count-without_user (with_user file users) file q
      ∙ elim (same_name q file) as (λ b. same_name q file ≡ b → cond b (user_count (with_user file users) file - 1) (user_count (with_user file users) q) ≡ open_handles o q) [
        | true ↦ λ e. omega (arith, user_count-with_user users file file, ap (λ b. cond b (user_count users file + 1) (user_count users file)) (same_name-refl file), c.counts file, ap (open_handles o) (same_name-≡ q file e))
        | false ↦ λ e. omega (arith, user_count-with_user users file q, ap (λ b. cond b (user_count users file + 1) (user_count users q)) e, c.counts q)
      ] refl;
}

pub used-with_user : (users : Users) (file : List ℕ) → is_used (with_user file users) file ≡ true
used-with_user users file =
    lt-ltb 0 (user_count (with_user file users) file)
    (omega (arith, user_count-with_user users file file, ap (λ b. cond b (user_count users file + 1) (user_count users file)) (same_name-refl file)))

-- ---- Calls that are answered from the objects alone.
pub CountsUsers-aside : {o o' : Objects} {users : Users} {call : Call} {reply : Reply} → CountsUsers o users → is_outside o call ≡ false → file_of_call o call ≡ None → Row o call reply o' → CountsUsers o' users
CountsUsers-aside {o} {o'} {users} {call} {reply} c inside none row =
    let x = some_contents (record { files = None; input = None; output = None; errors = None }) in
    CountsUsers-same c (SameHandles-Abi (world_of o x) (world_of o' x) call reply none (row_in_world o o' call reply inside row x))

-- Share of a file's handle gives a fresh one, and Close ends one.
shared_counts : {o o' : Objects} {users : Users} (s : ℕ) (reply : Reply) (name : List ℕ) → CountsUsers o users → object_at o s ≡ Some (Stream (File name)) → Row o (Share s) reply o' → CountsUsers o' (with_user name users)
shared_counts {o} {o'} {users} s reply name c is row =
    let h : ℕ = new_number reply in
    let gives : (Handle h, with_object o h (Stream (File name))) ≡ (reply, o') = sym (ap (λ x. share_row o (shared_object x) h) is) ∙ row.row in
    let free = row.choice (some_contents (record { files = None; input = None; output = None; errors = None })) in
    let fresh : IsFresh o h = subst (λ r. IsFreeChoice (world_of o (some_contents (record { files = None; input = None; output = None; errors = None }))) (Share s) r) (sym (ap (λ (p : Reply × Objects). p.0) gives)) free in
    subst (λ p. CountsUsers p (with_user name users)) (ap (λ (p : Reply × Objects). p.1) gives) (counted_more name c (λ q. handles_opened o h name q fresh))

closed_counts : {o o' : Objects} {users : Users} (h : ℕ) (reply : Reply) (name : List ℕ) → CountsUsers o users → object_at o h ≡ Some (Stream (File name)) → Row o (Close h) reply o' → CountsUsers o' (without_user name users)
closed_counts {o} {o'} {users} h reply name c is row =
    let ends : (Done, without_handles o (λ k. k == h)) ≡ (reply, o') = sym (ap (close_row o h) is) ∙ row.row in
    subst (λ p. CountsUsers p (without_user name users)) (ap (λ (p : Reply × Objects). p.1) ends) (counted_less name c (λ q. handles_closed o h name q is))

on_handle : {o o' : Objects} {users : Users} (call : Call) (reply : Reply) (x : Option (List ℕ)) → file_of_call o call ≡ x → is_on_handle call ≡ true → CountsUsers o users → Row o call reply o' → CountsUsers o' (users_on x users call)
on_handle {o} {o'} {users} (Share stream) reply None at on c row = CountsUsers-aside c refl at row
on_handle {o} {o'} {users} (Share stream) reply (Some name) at on c row = shared_counts stream reply name c (file_there (object_at o stream) name at) row
on_handle {o} {o'} {users} (Close handle) reply None at on c row = CountsUsers-aside c refl at row
on_handle {o} {o'} {users} (Close handle) reply (Some name) at on c row = closed_counts handle reply name c (file_there (object_at o handle) name at) row
on_handle {o} {o'} {users} call reply x at on c row = absurd (cc)

pub CountsUsers-on_handle : {o o' : Objects} {users users' : Users} {call : Call} {reply : Reply} → is_on_handle call ≡ true → CountsUsers o users → Row o call reply o' → users' ≡ users_on (file_of_call o call) users call → CountsUsers o' users'
CountsUsers-on_handle {o} {o'} {users} {users'} {call} {reply} on c row e = subst (CountsUsers o') (sym e) (on_handle call reply (file_of_call o call) refl on c row)

-- A Share that had no memory is taken back.
uncounted : {o : Objects} {users : Users} (call : Call) (x : Option (List ℕ)) → is_on_handle call ≡ true → takes_memory call ≡ true → CountsUsers o users → CountsUsers o (users_without x (users_on x users call))
uncounted {o} {users} (Share stream) None on memory c = c
uncounted {o} {users} (Share stream) (Some name) on memory c = CountsUsers-released name c
uncounted {o} {users} call x on memory c = absurd (cc)

pub CountsUsers-uncounted : {o : Objects} {users users' users'' : Users} (call : Call) → is_on_handle call ≡ true → takes_memory call ≡ true → CountsUsers o users → users' ≡ users_on (file_of_call o call) users call → users'' ≡ users_without (file_of_call o call) users'
    → CountsUsers o users''
CountsUsers-uncounted {o} {users} {users'} {users''} call on memory c e f =
    subst (CountsUsers o) (sym (f ∙ ap (users_without (file_of_call o call)) e)) (uncounted call (file_of_call o call) on memory c)

used_counted : (users : Users) (call : Call) (x : Option (List ℕ)) → is_on_handle call ≡ true → takes_memory call ≡ true → IsUsedIn x (users_on x users call)
used_counted users (Share stream) None on memory = tt
used_counted users (Share stream) (Some name) on memory = used-with_user users name
used_counted users call x on memory = absurd (cc)

pub IsUsedIn-counted : (o : Objects) (users users' : Users) (call : Call) → is_on_handle call ≡ true → takes_memory call ≡ true → users' ≡ users_on (file_of_call o call) users call → IsUsedIn (file_of_call o call) users'
IsUsedIn-counted o users users' call on memory e = subst (IsUsedIn (file_of_call o call)) (sym e) (used_counted users call (file_of_call o call) on memory)
