-- From what the files answered to the answer of a call's row, and to what a failed call leaves.
use Rattle.std.specs.Prelude.{◌≡◌, ℕ, ◌+◌, ◌==◌, Bool, true, false, cond, ◌||◌, nat_lt, List, [], length, option_map, unwrap_or, is_some, IfSome}
use Rattle.std.specs.declared.option.Option.{Option}
use Rattle.std.specs.declared.option.Option.TheVariants.{None, Some}
use Rattle.std.proofs.Common.{refl, sym, ap, ◌∙◌, subst, inl, inr}
use Rattle.bas_names.specs.declared.StreamName.{StreamName}
use Rattle.bas_names.specs.declared.StreamName.TheVariants.{File}
use Rattle.bas_edge.specs.Files.{Files, file_of}
use Rattle.abi_calls.specs.declared.limits.TheConstants.{LONGEST_NAME, LONGEST_FILE, MOST_BYTES}
use Rattle.abi_calls.specs.declared.call.Call.{Call}
use Rattle.abi_calls.specs.declared.call.Call.TheVariants.{StreamOpen, StreamRead, StreamWrite, StreamLength, StreamSetLength, StreamDelete, StreamRename, Share, Close}
use Rattle.abi_calls.specs.declared.object.Object.TheVariants.{Stream}
use Rattle.abi_calls.specs.declared.reply.Reply.{Reply}
use Rattle.abi_calls.specs.declared.reply.Reply.TheVariants.{Done, Handle, TooBig}
use Rattle.abi_calls.specs.Objects.{Object, Objects, object_at, with_object, IsFresh}
use Rattle.abi_calls.specs.World.{World, Contents, Told, Tells, world_of, on_contents, on_files, some_contents}
use Rattle.abi_calls.specs.Streams.{named, open_found, delete_found, rename_found, file_read_row, file_write_row, file_delete_row, file_rename_row, open_answer, stream_open_row, stream_read_row, stream_write_row, stream_length_row, stream_set_length_row, stream_delete_row, is_open}
use Rattle.abi_calls.specs.Abi.{Abi, Answers, IsFreeChoice, answer, new_number}
use Rattle.abi_calls.specs.Failing.{IsPartWritten, IsPartTaken, Leaves}
use Rattle.abi_calls.specs.Failing.Leaves.{Nothing, Part}
use Rattle.abi_calls.specs.Sound.{IsSound}
use Rattle.host_files.specs.Users.{Users, is_used}
use Rattle.host_files.specs.Rows.{FollowsRow, LeavesFiles, file_call_row}
use Rattle.host_monitor.specs.Counted.{CountsUsers, file_at, file_of_call, opened_name, keeps_handles, is_done}
use Rattle.host_monitor.proofs.Pieces.{with_text-nothing, without_front-nothing}
use Rattle.host_monitor.proofs.Contents.{tells_or}
use Rattle.host_monitor.proofs.OpenHandles.{some_fresh}

-- ---- Contents with the files that a call was on.
abbrev contents_with : Told → Files → Contents
contents_with told files = record (some_contents told) { files = files }

tells_with : (t : Told) (told : Option Files) (files : Files) → IfSome told (λ x. x ≡ files) → Tells (record t { files = told }) (contents_with t files)
tells_with t told files tells = record { files = tells; input = tells_or t.input []; output = tells_or t.output []; errors = tells_or t.errors [] }

-- A call is answered between the files that a row leads from and to.
answers_between : {o o' : Objects} {told told' : Told} {call : Call} {reply said : Reply} {row : Files → Reply × Files} (f : FollowsRow row told.files said told'.files) → told' ≡ record told { files = told'.files }
    → Abi (world_of o (contents_with told f.before)) call reply (world_of o' (contents_with told f.after)) → Answers o told call reply o' told'
answers_between {o} {o'} {told} {told'} {call} {reply} {said} {row} f e abi = record {
  before = contents_with told f.before;
  after = contents_with told f.after;
  was = tells_with told told.files f.before f.was;
  is = subst (λ t. Tells t (contents_with told f.after)) (sym e) (tells_with told told'.files f.after f.is);
  stays = record { files = f.stays; input = ap (λ t. is_some t.input) e; output = ap (λ t. is_some t.output) e; errors = ap (λ t. is_some t.errors) e };
  abi = abi;
}

-- ---- Replies that give no handle.
abbrev is_handle : Reply → Bool
is_handle (Handle h) = true
is_handle _ = false

free_choice : (w : World) (call : Call) (reply : Reply) → is_handle reply ≡ false → IsFreeChoice w call reply
free_choice w call (Handle h) none = absurd (cc)
free_choice w call _ none = tt

abbrev NoHandle : Reply × Files → Type 0
NoHandle answer = is_handle answer.0 ≡ false

no_handle-cond : (b : Bool) (x y : Reply × Files) → NoHandle x → NoHandle y → NoHandle (cond b x y)
no_handle-cond true x y h i = h
no_handle-cond false x y h i = i

no_handle-named : (files : Files) (name : List ℕ) (answer : Reply × Files) → NoHandle answer → NoHandle (named files name answer)
no_handle-named files name answer h = no_handle-cond (nat_lt LONGEST_NAME (length name)) _ _ refl (no_handle-cond (length name == 0) _ _ refl h)

no_handle-delete_found : (files : Files) (name : List ℕ) (in_use : Bool) (o : Option (List ℕ)) → NoHandle (delete_found files name in_use o)
no_handle-delete_found files name in_use None = refl
no_handle-delete_found files name in_use (Some bytes) = no_handle-cond in_use _ _ refl refl

no_handle-rename_found : (files : Files) (from to : List ℕ) (in_use : Bool) (o : Option (List ℕ)) → NoHandle (rename_found files from to in_use o)
no_handle-rename_found files from to in_use None = refl
no_handle-rename_found files from to in_use (Some bytes) = no_handle-cond in_use _ _ refl refl

no_handle-row : (users : Users) (call : Call) (name : List ℕ) (files : Files) → keeps_handles call ≡ true → NoHandle (file_call_row users call name files)
no_handle-row users (StreamOpen stream create exclusive) name files keeps = absurd (cc)
no_handle-row users (StreamRead stream offset count) name files keeps = no_handle-cond (nat_lt MOST_BYTES count) _ _ refl refl
no_handle-row users (StreamWrite stream offset bytes) name files keeps =
    no_handle-cond (nat_lt MOST_BYTES (length bytes)) _ _ refl (no_handle-cond (nat_lt LONGEST_FILE (offset + length bytes)) _ _ refl refl)
no_handle-row users (StreamSetLength stream size) name files keeps = no_handle-cond (nat_lt LONGEST_FILE size) _ _ refl refl
no_handle-row users (StreamDelete file) name files keeps = no_handle-named files name _ (no_handle-delete_found files name (is_used users name) (file_of files name))
no_handle-row users (StreamRename from to) name files keeps =
    no_handle-named files name _ (no_handle-named files to _ (no_handle-rename_found files name to (is_used users name || is_used users to) (file_of files name)))
no_handle-row users _ name files keeps = refl

-- ---- Calls on a file after which the same handles are open.
pub file_there : (x : Option Object) (name : List ℕ) → file_at x ≡ Some name → x ≡ Some (Stream (File name))
file_there (Some (Stream (File file))) name at = ap (option_map (λ n. Stream (File n))) at
file_there _ name at = absurd (cc)

used_open : {o : Objects} {users : Users} → CountsUsers o users → (name : List ℕ) → is_used users name ≡ is_open o name
used_open c name = ap (nat_lt 0) (c.counts name)

bounded_row : (w : World) (count : ℕ) (answer : Reply × Files) → cond (nat_lt MOST_BYTES count) (TooBig, w) (on_contents w (on_files w.contents answer)) ≡ on_contents w (on_files w.contents (cond (nat_lt MOST_BYTES count) (TooBig, w.contents.files) answer))
bounded_row w count answer =
    elim (nat_lt MOST_BYTES count) as (λ b. cond b (TooBig, w) (on_contents w (on_files w.contents answer)) ≡ on_contents w (on_files w.contents (cond b (TooBig, w.contents.files) answer))) [ true ↦ refl | false ↦ refl ]

answer-on_file : (w : World) (users : Users) (call : Call) (reply : Reply) (name : List ℕ) → CountsUsers w.objects users → file_of_call w.objects call ≡ Some name → keeps_handles call ≡ true
    → answer w call reply ≡ on_contents w (on_files w.contents (file_call_row users call name w.contents.files))
answer-on_file w users (StreamOpen stream create exclusive) reply name c at keeps = absurd (cc)
answer-on_file w users (Share stream) reply name c at keeps = absurd (cc)
answer-on_file w users (Close handle) reply name c at keeps = absurd (cc)
answer-on_file w users (StreamRead stream offset count) reply name c at keeps =
    ap (stream_read_row w offset count reply) (file_there (object_at w.objects stream) name at) ∙ bounded_row w count (file_read_row w.contents.files name offset count)
answer-on_file w users (StreamWrite stream offset bytes) reply name c at keeps =
    ap (stream_write_row w offset bytes reply) (file_there (object_at w.objects stream) name at) ∙ bounded_row w (length bytes) (file_write_row w.contents.files name offset bytes)
answer-on_file w users (StreamLength stream) reply name c at keeps = ap (stream_length_row w) (file_there (object_at w.objects stream) name at)
answer-on_file w users (StreamSetLength stream size) reply name c at keeps = ap (stream_set_length_row w size) (file_there (object_at w.objects stream) name at)
answer-on_file w users (StreamDelete file) reply name c at keeps =
    ap (λ o. stream_delete_row w (unwrap_or o [])) at ∙ ap (λ b. on_contents w (on_files w.contents (file_delete_row w.contents.files name b))) (sym (used_open c name))
answer-on_file w users (StreamRename from to) reply name c at keeps =
    ap (λ o. on_contents w (on_files w.contents (file_rename_row w.contents.files (unwrap_or o []) to (is_open w.objects (unwrap_or o []) || is_open w.objects to)))) at
    ∙ ap (λ b. on_contents w (on_files w.contents (file_rename_row w.contents.files name to (b || is_open w.objects to)))) (sym (used_open c name))
    ∙ ap (λ b. on_contents w (on_files w.contents (file_rename_row w.contents.files name to (is_used users name || b)))) (sym (used_open c to))
answer-on_file w users _ reply name c at keeps = absurd (cc)

pub file_answers : {o : Objects} {told told' : Told} {users : Users} {call : Call} {name : List ℕ} {reply : Reply} → CountsUsers o users → file_of_call o call ≡ Some name → keeps_handles call ≡ true
    → FollowsRow (file_call_row users call name) told.files reply told'.files → told' ≡ record told { files = told'.files } → Answers o told call reply o told'
file_answers {o} {told} {told'} {users} {call} {name} {reply} c at keeps f e =
    let x = contents_with told f.before in
    let w = world_of o x in
    answers_between f e (record {
      choice = free_choice w call reply (sym (ap (λ answer. is_handle answer.0) f.answers) ∙ no_handle-row users call name f.before keeps);
      row = answer-on_file w users call reply name c at keeps ∙ ap (λ answer. on_contents w (on_files x answer)) f.answers;
    })

-- ---- StreamOpen
-- An open that isn't done leaves the files, and gives no handle.
abbrev Refuses : Files → Reply × Files → Type 0
Refuses files answer = is_done answer.0 ≡ false → (answer.1 ≡ files) × (is_handle answer.0 ≡ false)

refuses-cond : (files : Files) (b : Bool) (x y : Reply × Files) → Refuses files x → Refuses files y → Refuses files (cond b x y)
refuses-cond files true x y h i = h
refuses-cond files false x y h i = i

refuses-open_found : (files : Files) (name : List ℕ) (create exclusive : Bool) (o : Option (List ℕ)) → Refuses files (open_found files name create exclusive o)
refuses-open_found files name create exclusive None = refuses-cond files create _ _ (λ e. absurd (cc)) (λ _. (refl, refl))
refuses-open_found files name create exclusive (Some bytes) = refuses-cond files _ _ _ (λ _. (refl, refl)) (λ _. (refl, refl))

refuses-row : (users : Users) (call : Call) (file : List ℕ) (files : Files) → opened_name call ≡ Some (File file) → Refuses files (file_call_row users call file files)
refuses-row users (StreamOpen stream create exclusive) file files opens =
    refuses-cond files (nat_lt LONGEST_NAME (length file)) _ _ (λ _. (refl, refl))
    (refuses-cond files (length file == 0) _ _ (λ _. (refl, refl)) (refuses-open_found files file create exclusive (file_of files file)))
refuses-row users _ file files opens = absurd (cc)

open_answer-refused : (w : World) (name : StreamName) (h : ℕ) (files : Files) (reply : Reply) → is_done reply ≡ false → open_answer w name h files reply ≡ (reply, w)
open_answer-refused w name h files Done refused = absurd (cc)
open_answer-refused w name h files _ refused = refl

pub done_is : (reply : Reply) → is_done reply ≡ true → reply ≡ Done
done_is Done e = refl
done_is _ e = absurd (cc)

-- The row of an open, from that of its file.
answer-open : (w : World) (users : Users) (call : Call) (file : List ℕ) (reply : Reply) → opened_name call ≡ Some (File file)
    → answer w call reply ≡ open_answer w (File file) (new_number reply) (file_call_row users call file w.contents.files).1 (file_call_row users call file w.contents.files).0
answer-open w users (StreamOpen stream create exclusive) file reply opens = ap (λ o. stream_open_row w (unwrap_or o stream) create exclusive (new_number reply)) opens
answer-open w users _ file reply opens = absurd (cc)

pub open_answers : {o o' : Objects} {told told' : Told} (users : Users) {call : Call} {file : List ℕ} {h : ℕ} → opened_name call ≡ Some (File file)
    → FollowsRow (file_call_row users call file) told.files Done told'.files → told' ≡ record told { files = told'.files } → IsFresh o h → o' ≡ with_object o h (Stream (File file)) → Answers o told call (Handle h) o' told'
open_answers {o} {o'} {told} {told'} users {call} {file} {h} opens f e fresh now =
    subst (λ p. Answers o told call (Handle h) p told') (sym now)
    (let w = world_of o (contents_with told f.before) in
    answers_between f e (record {
      choice = fresh;
      row = answer-open w users call file (Handle h) opens ∙ ap (λ (answer : Reply × Files). open_answer w (File file) h answer.1 answer.0) f.answers;
    }))

pub refusal_answers : {o : Objects} {told told' : Told} (users : Users) {call : Call} {file : List ℕ} {reply : Reply} → opened_name call ≡ Some (File file) → is_done reply ≡ false
    → FollowsRow (file_call_row users call file) told.files reply told'.files → told' ≡ record told { files = told'.files } → Answers o told call reply o told'
refusal_answers {o} {told} {told'} users {call} {file} {reply} opens refused f e =
    let w = world_of o (contents_with told f.before) in
    let still = refuses-row users call file f.before opens (ap (λ (answer : Reply × Files). is_done answer.0) f.answers ∙ refused) in
    let same : f.after ≡ f.before = sym (ap (λ (answer : Reply × Files). answer.1) f.answers) ∙ still.0 in
    answers_between f e (record {
      choice = free_choice w call reply (sym (ap (λ (answer : Reply × Files). is_handle answer.0) f.answers) ∙ still.1);
      row = answer-open w users call file reply opens ∙ ap (λ (answer : Reply × Files). open_answer w (File file) (new_number reply) answer.1 answer.0) f.answers
          ∙ open_answer-refused w (File file) (new_number reply) f.after reply refused
          ∙ ap (λ files. (reply, world_of o (contents_with told files))) (sym same);
    })

-- ---- What a call leaves.
written_same : {old now : Option (List ℕ)} → now ≡ old → IsPartWritten old now now
written_same {old} {now} e = record { written = []; is = e ∙ with_text-nothing old; missing = []; then = with_text-nothing now }

taken_same : {old now : Option (List ℕ)} → now ≡ old → IsPartTaken old now now
taken_same {old} {now} e = record { taken = 0; is = e ∙ without_front-nothing old; missing = 0; then = without_front-nothing now }

-- A call that was answered, or could have been, did a part of what its row does.
pub leaves_answered : {o o' : Objects} {told told' : Told} {call : Call} {reply : Reply} → Answers o told call reply o' told' → told' ≡ record told { files = told'.files } → Leaves o call told told'
leaves_answered {o} {o'} {told} {told'} {call} {reply} answers e = Part (record {
  reply = reply;
  objects = o';
  whole = told';
  answers = answers;
  part = record {
    output = written_same (ap (λ t. t.output) e);
    errors = written_same (ap (λ t. t.errors) e);
    input = taken_same (ap (λ t. t.input) e);
    files = inr refl;
  };
})

pub leaves_opened : {o : Objects} {told told' : Told} (users : Users) {call : Call} {file : List ℕ} → IsSound o → opened_name call ≡ Some (File file)
    → FollowsRow (file_call_row users call file) told.files Done told'.files → told' ≡ record told { files = told'.files } → Leaves o call told told'
leaves_opened {o} {told} {told'} users {call} {file} sound opens f e =
    let new = some_fresh o sound in
    leaves_answered (open_answers users opens f e new.1 refl) e

leaves_row : {o : Objects} {told told' : Told} (users : Users) {call : Call} {file : List ℕ} → IsSound o → opened_name call ≡ Some (File file) → told' ≡ record told { files = told'.files }
    → (x : Option Files) → told.files ≡ x → told'.files ≡ option_map (λ files. (file_call_row users call file files).1) x → Leaves o call told told'
leaves_row {o} {told} {told'} users {call} {file} sound opens e None is done = Nothing (e ∙ ap (λ x. record told { files = x }) (done ∙ sym is))
leaves_row {o} {told} {told'} users {call} {file} sound opens e (Some files) is done =
    let row = file_call_row users call file files in
    elim (is_done row.0) as (λ b. is_done row.0 ≡ b → Leaves o call told told') [
      | true ↦ λ does. leaves_opened users sound opens (record {
        before = files;
        after = row.1;
        was = subst (λ x. IfSome x (λ y. y ≡ files)) (sym is) refl;
        is = subst (λ x. IfSome x (λ y. y ≡ row.1)) (sym done) refl;
        stays = ap is_some done ∙ sym (ap is_some is);
        answers = ap (λ reply. (reply, row.1)) (done_is row.0 does);
      }) e
      | false ↦ λ refused. Nothing (e ∙ ap (λ x. record told { files = x }) (done ∙ ap (λ y. Some y) (refuses-row users call file files opens refused).0 ∙ sym is))
    ] refl

pub leaves_failed_open : {o : Objects} {told told' : Told} (users : Users) {call : Call} {file : List ℕ} → IsSound o → opened_name call ≡ Some (File file)
    → LeavesFiles (file_call_row users call file) told.files told'.files → told' ≡ record told { files = told'.files } → Leaves o call told told'
leaves_failed_open {o} {told} {told'} users {call} {file} sound opens left e =
    elim left [
      | inl same ↦ Nothing (e ∙ ap (λ x. record told { files = x }) same)
      | inr done ↦ leaves_row users sound opens e told.files refl done
    ]

-- ---- Where a row leaves the files, they stay as told.
same_options : (a b : Option Files) (u v : Files) → is_some b ≡ is_some a → IfSome a (λ x. x ≡ u) → IfSome b (λ y. y ≡ v) → u ≡ v → b ≡ a
same_options None None u v stays x y e = refl
same_options (Some a) (Some b) u v stays x y e = ap (λ z. Some z) (y ∙ sym e ∙ sym x)
same_options None (Some b) u v stays x y e = absurd (cc)
same_options (Some a) None u v stays x y e = absurd (cc)

pub same_closed : {told told' : Told} {reply : Reply} → FollowsRow (λ files. (Done, files)) told.files reply told'.files → told' ≡ record told { files = told'.files } → told' ≡ told
same_closed {told} {told'} {reply} f e =
    e ∙ ap (λ x. record told { files = x }) (same_options told.files told'.files f.before f.after f.stays f.was f.is (ap (λ (answer : Reply × Files). answer.1) f.answers))

pub same_left : {told told' : Told} → told'.files ≡ told.files → told' ≡ record told { files = told'.files } → told' ≡ told
same_left {told} {told'} same e = e ∙ ap (λ x. record told { files = x }) same
