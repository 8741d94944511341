-- From what the outside gave to the answer of a call's row, and to what a failed call leaves.
use Rattle.std.specs.Prelude.{◌≡◌, ℕ, ◌<◌, ◌≤◌, ◌⊎◌, true, false, List, [], ◌++◌, length, take, drop, option_map, unwrap_or, is_some, IfSome, Result, Ok, Err, IfOk, OnErr}
use Rattle.std.specs.declared.option.Option.{Option}
use Rattle.std.specs.declared.option.Option.TheVariants.{None, Some}
use Rattle.std.specs.FinMap.{empty}
use Rattle.std.proofs.Common.{refl, sym, ap, ◌∙◌, subst, inl, inr}
use Rattle.std.proofs.lemmas.Bool.{cond-true, cond-false, le-ltb, lt-ltb}
use Rattle.bas_names.specs.declared.StreamName.{StreamName}
use Rattle.bas_names.specs.declared.StreamName.TheVariants.{File, ConIn, ConOut, ConErr}
use Rattle.abi_calls.specs.declared.limits.TheConstants.{MOST_BYTES}
use Rattle.abi_calls.specs.declared.call.Call.{Call}
use Rattle.abi_calls.specs.declared.call.Call.TheVariants.{StreamOpen, StreamRead, StreamWrite, StreamLength, StreamSetLength}
use Rattle.abi_calls.specs.declared.object.Object.TheVariants.{Stream}
use Rattle.abi_calls.specs.declared.reply.Reply.{Reply}
use Rattle.abi_calls.specs.declared.reply.Reply.TheVariants.{Handle, Bytes, Count, BadHandle, NoAccess, TooBig}
use Rattle.abi_calls.specs.Objects.{Object, Objects, object_at, with_object, IsFresh}
use Rattle.abi_calls.specs.World.{World, Contents, Told, Tells, world_of, on_contents, some_contents}
use Rattle.abi_calls.specs.Streams.{stream_of, stream_open_row, read_row, stream_read_row, write_row, stream_write_row, stream_length_row, stream_set_length_row}
use Rattle.abi_calls.specs.Abi.{Abi, Answers, answer, is_outside, is_file}
use Rattle.abi_calls.specs.Failing.{IsPartWritten, IsPartTaken, Leaves, with_text, without_front}
use Rattle.abi_calls.specs.Failing.Leaves.{Nothing, Part}
use Rattle.host_files.specs.Users.{Users}
use Rattle.host_files.specs.Rows.{FollowsRow, file_call_row, may_make_file}
use Rattle.host_objects.specs.Rows.{Row}
use Rattle.host_objects.proofs.Rows.{row_in_world}
use Rattle.host_monitor.specs.Answers.{IsAnswered}
use Rattle.host_monitor.specs.Answers.IsAnswered.{By}
use Rattle.host_monitor.specs.Counted.{CountsUsers, file_at, file_of_call, opened_name, keeps_handles}
use Rattle.host_monitor.specs.Edges.{TakesAsked}
use Rattle.host_monitor.proofs.FileRows.{file_answers, leaves_answered, same_left}
use Rattle.host_monitor.proofs.OpenHandles.{CountsUsers-same, same_fresh}
use Rattle.host_monitor.proofs.Pieces.{with_text-nothing, without_front-nothing}
use Rattle.host_monitor.proofs.Contents.{tells_or, Tells-some_contents, StaysTold-same, tells_with_text, is_some-with_text, tells_without_front, is_some-without_front, take-asked}

-- Contents that are as told stay, and the call is answered.
answered_same : {o o' : Objects} {told told' : Told} {call : Call} {reply : Reply} (x : Contents) → Tells told x → told' ≡ told → Abi (world_of o x) call reply (world_of o' x) → IsAnswered o told call reply o' told'
answered_same {o} {o'} {told} {told'} {call} {reply} x tells e abi =
    subst (IsAnswered o told call reply o') (sym e) (By (record { before = x; after = x; was = tells; is = tells; stays = StaysTold-same told; abi = abi }))

-- A call that is answered from the objects alone.
pub row_answered : {o o' : Objects} {told told' : Told} {call : Call} {reply : Reply} → Row o call reply o' → is_outside o call ≡ false → told' ≡ told → IsAnswered o told call reply o' told'
row_answered {o} {o'} {told} {told'} {call} {reply} row inside e = answered_same (some_contents told) (Tells-some_contents told) e (row_in_world o o' call reply inside row (some_contents told))

-- ---- streams
stream_at : {name : StreamName} (x : Option Object) → stream_of x ≡ Some name → x ≡ Some (Stream name)
stream_at {name} (Some (Stream other)) is = ap (option_map Stream) is
stream_at {name} _ is = absurd (cc)

none_at : (w : World) (x : Option Object) (offset count : ℕ) → stream_of x ≡ None → stream_read_row w offset count BadHandle x ≡ (BadHandle, w)
none_at w (Some (Stream name)) offset count none = absurd (cc)
none_at w _ offset count none = refl

read_past : (w : World) (x : Option Object) (offset count : ℕ) → is_some (stream_of x) ≡ true → MOST_BYTES < count → stream_read_row w offset count TooBig x ≡ (TooBig, w)
read_past w (Some (Stream name)) offset count there big = cond-true _ _ _ (lt-ltb MOST_BYTES count big)
read_past w _ offset count there big = absurd (cc)

none_written_at : (w : World) (x : Option Object) (offset : ℕ) (bytes : List ℕ) → stream_of x ≡ None → stream_write_row w offset bytes BadHandle x ≡ (BadHandle, w)
none_written_at w (Some (Stream name)) offset bytes none = absurd (cc)
none_written_at w _ offset bytes none = refl

written_past : (w : World) (x : Option Object) (offset : ℕ) (bytes : List ℕ) → is_some (stream_of x) ≡ true → MOST_BYTES < length bytes → stream_write_row w offset bytes TooBig x ≡ (TooBig, w)
written_past w (Some (Stream name)) offset bytes there big = cond-true _ _ _ (lt-ltb MOST_BYTES (length bytes) big)
written_past w _ offset bytes there big = absurd (cc)

none_measured_at : (w : World) (x : Option Object) → stream_of x ≡ None → stream_length_row w x ≡ (BadHandle, w)
none_measured_at w (Some (Stream name)) none = absurd (cc)
none_measured_at w _ none = refl

-- ---- StreamRead
pub read_bad : {o : Objects} {told told' : Told} {stream offset count : ℕ} → stream_of (object_at o stream) ≡ None → told' ≡ told → IsAnswered o told (StreamRead stream offset count) BadHandle o told'
read_bad {o} {told} {told'} {stream} {offset} {count} none e =
    let x = some_contents told in
    answered_same x (Tells-some_contents told) e (record { choice = tt; row = none_at (world_of o x) (object_at o stream) offset count none })

pub read_too_big : {o : Objects} {told told' : Told} {stream offset count : ℕ} → is_some (stream_of (object_at o stream)) ≡ true → MOST_BYTES < count → told' ≡ told
    → IsAnswered o told (StreamRead stream offset count) TooBig o told'
read_too_big {o} {told} {told'} {stream} {offset} {count} there big e =
    let x = some_contents told in
    answered_same x (Tells-some_contents told) e (record {
      choice = tt;
      row = read_past (world_of o x) (object_at o stream) offset count there big;
    })

read_answer : (w : World) (stream offset count : ℕ) (reply : Reply) (name : StreamName) → stream_of (object_at w.objects stream) ≡ Some name → count ≤ MOST_BYTES
    → answer w (StreamRead stream offset count) reply ≡ on_contents w (read_row w.contents offset count name)
read_answer w stream offset count reply name is small =
    ap (stream_read_row w offset count reply) (stream_at (object_at w.objects stream) is) ∙ cond-false _ _ _ (le-ltb MOST_BYTES count small)

input_answers : (o : Objects) (told : Told) (stream offset count : ℕ) (input : List ℕ) → IfSome told.input (λ x. x ≡ input) → stream_of (object_at o stream) ≡ Some ConIn → count ≤ MOST_BYTES
    → Answers o told (StreamRead stream offset count) (Bytes (take count input)) o (record told { input = without_front told.input count })
input_answers o told stream offset count input tells is small = record {
  before = record (some_contents told) { input = input };
  after = record (some_contents told) { input = drop count input };
  was = record { files = tells_or told.files empty; input = tells; output = tells_or told.output []; errors = tells_or told.errors [] };
  is = record { files = tells_or told.files empty; input = tells_without_front told.input count input tells; output = tells_or told.output []; errors = tells_or told.errors [] };
  stays = record { files = refl; input = is_some-without_front told.input count; output = refl; errors = refl };
  abi = record { choice = tt; row = read_answer (world_of o (record (some_contents told) { input = input })) stream offset count (Bytes (take count input)) ConIn is small };
}

pub read_input : {o : Objects} {told told' : Told} {stream offset count : ℕ} {bytes : List ℕ} → stream_of (object_at o stream) ≡ Some ConIn
    → count ≤ MOST_BYTES → TakesAsked told.input count bytes told'.input → told' ≡ record told { input = told'.input } → IsAnswered o told (StreamRead stream offset count) (Bytes bytes) o told'
read_input {o} {told} {told'} {stream} {offset} {count} {bytes} is small asked e =
    By (let same : told' ≡ record told { input = without_front told.input count } = e ∙ ap (λ x. record told { input = x }) asked.rest in
    subst (Answers o told (StreamRead stream offset count) (Bytes bytes) o) (sym same)
    (subst (λ b. Answers o told (StreamRead stream offset count) (Bytes b) o (record told { input = without_front told.input count })) (take-asked asked)
    (input_answers o told stream offset count (unwrap_or told.input bytes) (tells_or told.input bytes) is small)))

-- The console's output and errors aren't read.
pub read_output : {o : Objects} {told told' : Told} {stream offset count : ℕ} → stream_of (object_at o stream) ≡ Some ConOut → count ≤ MOST_BYTES → told' ≡ told → IsAnswered o told (StreamRead stream offset count) NoAccess o told'
read_output {o} {told} {told'} {stream} {offset} {count} is small e =
    let x = some_contents told in
    answered_same x (Tells-some_contents told) e (record { choice = tt; row = read_answer (world_of o x) stream offset count NoAccess ConOut is small })

pub read_errors : {o : Objects} {told told' : Told} {stream offset count : ℕ} → stream_of (object_at o stream) ≡ Some ConErr → count ≤ MOST_BYTES → told' ≡ told → IsAnswered o told (StreamRead stream offset count) NoAccess o told'
read_errors {o} {told} {told'} {stream} {offset} {count} is small e =
    let x = some_contents told in
    answered_same x (Tells-some_contents told) e (record { choice = tt; row = read_answer (world_of o x) stream offset count NoAccess ConErr is small })

-- ---- StreamWrite
pub write_bad : {o : Objects} {told told' : Told} {stream offset : ℕ} {bytes : List ℕ} → stream_of (object_at o stream) ≡ None → told' ≡ told → IsAnswered o told (StreamWrite stream offset bytes) BadHandle o told'
write_bad {o} {told} {told'} {stream} {offset} {bytes} none e =
    let x = some_contents told in
    answered_same x (Tells-some_contents told) e (record { choice = tt; row = none_written_at (world_of o x) (object_at o stream) offset bytes none })

pub write_too_big : {o : Objects} {told told' : Told} {stream offset : ℕ} {bytes : List ℕ} → is_some (stream_of (object_at o stream)) ≡ true → MOST_BYTES < length bytes → told' ≡ told
    → IsAnswered o told (StreamWrite stream offset bytes) TooBig o told'
write_too_big {o} {told} {told'} {stream} {offset} {bytes} there big e =
    let x = some_contents told in
    answered_same x (Tells-some_contents told) e (record {
      choice = tt;
      row = written_past (world_of o x) (object_at o stream) offset bytes there big;
    })

write_answer : (w : World) (stream offset : ℕ) (bytes : List ℕ) (reply : Reply) (name : StreamName) → stream_of (object_at w.objects stream) ≡ Some name → length bytes ≤ MOST_BYTES
    → answer w (StreamWrite stream offset bytes) reply ≡ on_contents w (write_row w.contents offset bytes name)
write_answer w stream offset bytes reply name is small =
    ap (stream_write_row w offset bytes reply) (stream_at (object_at w.objects stream) is) ∙ cond-false _ _ _ (le-ltb MOST_BYTES (length bytes) small)

-- The console's input isn't written.
pub write_no_access : {o : Objects} {told told' : Told} {stream offset : ℕ} {bytes : List ℕ} → stream_of (object_at o stream) ≡ Some ConIn → length bytes ≤ MOST_BYTES
    → told' ≡ told → IsAnswered o told (StreamWrite stream offset bytes) NoAccess o told'
write_no_access {o} {told} {told'} {stream} {offset} {bytes} is small e =
    let x = some_contents told in
    answered_same x (Tells-some_contents told) e (record { choice = tt; row = write_answer (world_of o x) stream offset bytes NoAccess ConIn is small })

output_answers : (o : Objects) (told : Told) (stream offset : ℕ) (bytes : List ℕ) → stream_of (object_at o stream) ≡ Some ConOut → length bytes ≤ MOST_BYTES
    → Answers o told (StreamWrite stream offset bytes) (Count (length bytes)) o (record told { output = with_text told.output bytes })
output_answers o told stream offset bytes is small = record {
  before = some_contents told;
  after = record (some_contents told) { output = unwrap_or told.output [] ++ bytes };
  was = Tells-some_contents told;
  is = record { files = tells_or told.files empty; input = tells_or told.input []; output = tells_with_text told.output bytes; errors = tells_or told.errors [] };
  stays = record { files = refl; input = refl; output = is_some-with_text told.output bytes; errors = refl };
  abi = record { choice = tt; row = write_answer (world_of o (some_contents told)) stream offset bytes (Count (length bytes)) ConOut is small };
}

errors_answers : (o : Objects) (told : Told) (stream offset : ℕ) (bytes : List ℕ) → stream_of (object_at o stream) ≡ Some ConErr → length bytes ≤ MOST_BYTES
    → Answers o told (StreamWrite stream offset bytes) (Count (length bytes)) o (record told { errors = with_text told.errors bytes })
errors_answers o told stream offset bytes is small = record {
  before = some_contents told;
  after = record (some_contents told) { errors = unwrap_or told.errors [] ++ bytes };
  was = Tells-some_contents told;
  is = record { files = tells_or told.files empty; input = tells_or told.input []; output = tells_or told.output []; errors = tells_with_text told.errors bytes };
  stays = record { files = refl; input = refl; output = refl; errors = is_some-with_text told.errors bytes };
  abi = record { choice = tt; row = write_answer (world_of o (some_contents told)) stream offset bytes (Count (length bytes)) ConErr is small };
}

pub write_output : {o : Objects} {told told' : Told} {stream offset : ℕ} {bytes : List ℕ} → stream_of (object_at o stream) ≡ Some ConOut → length bytes ≤ MOST_BYTES
    → told' ≡ record told { output = with_text told.output bytes } → IsAnswered o told (StreamWrite stream offset bytes) (Count (length bytes)) o told'
write_output {o} {told} {told'} {stream} {offset} {bytes} is small e = By (subst (Answers o told (StreamWrite stream offset bytes) (Count (length bytes)) o) (sym e) (output_answers o told stream offset bytes is small))

pub write_errors : {o : Objects} {told told' : Told} {stream offset : ℕ} {bytes : List ℕ} → stream_of (object_at o stream) ≡ Some ConErr → length bytes ≤ MOST_BYTES
    → told' ≡ record told { errors = with_text told.errors bytes } → IsAnswered o told (StreamWrite stream offset bytes) (Count (length bytes)) o told'
write_errors {o} {told} {told'} {stream} {offset} {bytes} is small e = By (subst (Answers o told (StreamWrite stream offset bytes) (Count (length bytes)) o) (sym e) (errors_answers o told stream offset bytes is small))

-- What is opened on a file is a file.
pub is_file-stream : (x : Option Object) {file : List ℕ} → stream_of x ≡ Some (File file) → is_file x ≡ true
is_file-stream x is = ap is_file (stream_at x is)

-- ---- StreamLength and StreamSetLength
console_measured_at : (w : World) (x : Option Object) → is_some (stream_of x) ≡ true → is_file x ≡ false → stream_length_row w x ≡ (NoAccess, w)
console_measured_at w (Some (Stream (File name))) there other = absurd (cc)
console_measured_at w (Some (Stream _)) there other = refl
console_measured_at w _ there other = absurd (cc)

pub length_bad : {o : Objects} {stream : ℕ} (told : Told) → stream_of (object_at o stream) ≡ None → IsAnswered o told (StreamLength stream) BadHandle o told
length_bad {o} {stream} told none =
    let x = some_contents told in
    answered_same x (Tells-some_contents told) refl (record { choice = tt; row = none_measured_at (world_of o x) (object_at o stream) none })

pub length_of_console : {o : Objects} {stream : ℕ} (told : Told) → is_some (stream_of (object_at o stream)) ≡ true → is_file (object_at o stream) ≡ false → IsAnswered o told (StreamLength stream) NoAccess o told
length_of_console {o} {stream} told there other =
    let x = some_contents told in
    answered_same x (Tells-some_contents told) refl (record { choice = tt; row = console_measured_at (world_of o x) (object_at o stream) there other })

none_resized_at : (w : World) (x : Option Object) (size : ℕ) → stream_of x ≡ None → stream_set_length_row w size x ≡ (BadHandle, w)
none_resized_at w (Some (Stream name)) size none = absurd (cc)
none_resized_at w _ size none = refl

console_resized_at : (w : World) (x : Option Object) (size : ℕ) → is_some (stream_of x) ≡ true → is_file x ≡ false → stream_set_length_row w size x ≡ (NoAccess, w)
console_resized_at w (Some (Stream (File name))) size there other = absurd (cc)
console_resized_at w (Some (Stream _)) size there other = refl
console_resized_at w _ size there other = absurd (cc)

pub resize_bad : {o : Objects} {stream size : ℕ} (told : Told) → stream_of (object_at o stream) ≡ None → IsAnswered o told (StreamSetLength stream size) BadHandle o told
resize_bad {o} {stream} {size} told none =
    let x = some_contents told in
    answered_same x (Tells-some_contents told) refl (record { choice = tt; row = none_resized_at (world_of o x) (object_at o stream) size none })

pub resize_of_console : {o : Objects} {stream size : ℕ} (told : Told) → is_some (stream_of (object_at o stream)) ≡ true → is_file (object_at o stream) ≡ false → IsAnswered o told (StreamSetLength stream size) NoAccess o told
resize_of_console {o} {stream} {size} told there other =
    let x = some_contents told in
    answered_same x (Tells-some_contents told) refl (record { choice = tt; row = console_resized_at (world_of o x) (object_at o stream) size there other })

-- ---- StreamOpen
-- Two functions of a name that agree at the name that it is.
at_name : {X : Type 0} {name kind : StreamName} → name ≡ kind → (f g : StreamName → X) → f kind ≡ g kind → f name ≡ g name
at_name is f g same = ap f is ∙ same ∙ ap g (sym is)

-- What opens an end of the console gets a new number.
answer-console : (w : World) (call : Call) (name : StreamName) (h : ℕ) → opened_name call ≡ Some name → (name ≡ ConIn) ⊎ ((name ≡ ConOut) ⊎ (name ≡ ConErr)) → answer w call (Handle h) ≡ (Handle h, world_of (with_object w.objects h (Stream name)) w.contents)
answer-console w (StreamOpen stream create exclusive) name h opens kind =
    let new : StreamName → Reply × World = λ n. (Handle h, world_of (with_object w.objects h (Stream n)) w.contents) in
    let row : StreamName → Reply × World = λ n. stream_open_row w n create exclusive h in
    ap (λ o. row (unwrap_or o stream)) opens ∙ elim kind as (λ _. row name ≡ new name) [
      | inl is ↦ at_name is row new refl
      | inr rest ↦ elim rest as (λ _. row name ≡ new name) [ inl is ↦ at_name is row new refl | inr is ↦ at_name is row new refl ]
    ]
answer-console w _ name h opens kind = absurd (cc)

pub open_console : {o o' : Objects} {told told' : Told} {call : Call} {name : StreamName} {h : ℕ} → opened_name call ≡ Some name → (name ≡ ConIn) ⊎ ((name ≡ ConOut) ⊎ (name ≡ ConErr)) → IsFresh o h → o' ≡ with_object o h (Stream name)
    → told' ≡ told → IsAnswered o told call (Handle h) o' told'
open_console {o} {o'} {told} {told'} {call} {name} {h} opens kind fresh now e =
    let x = some_contents told in
    subst (λ p. IsAnswered o told call (Handle h) p told') (sym now)
    (answered_same x (Tells-some_contents told) e (record { choice = fresh; row = answer-console (world_of o x) call name h opens kind }))

pub CountsUsers-console : {o o' : Objects} {users users' : Users} {name : StreamName} {h : ℕ} → CountsUsers o users → (name ≡ ConIn) ⊎ ((name ≡ ConOut) ⊎ (name ≡ ConErr)) → IsFresh o h → o' ≡ with_object o h (Stream name) → users' ≡ users
    → CountsUsers o' users'
CountsUsers-console {o} {o'} {users} {users'} {name} {h} c kind fresh now e =
    let none : file_at (Some (Stream name)) ≡ None = elim kind as (λ _. file_at (Some (Stream name)) ≡ None) [
      | inl is ↦ ap (λ n. file_at (Some (Stream n))) is
      | inr rest ↦ elim rest as (λ _. file_at (Some (Stream name)) ≡ None) [ inl is ↦ ap (λ n. file_at (Some (Stream n))) is | inr is ↦ ap (λ n. file_at (Some (Stream n))) is ]
    ] in
    subst (λ p. CountsUsers p users') (sym now) (subst (CountsUsers (with_object o h (Stream name))) (sym e) (CountsUsers-same c (same_fresh o h (Stream name) fresh none)))

-- ---- what a failed call leaves
pub leaves_same : {o : Objects} {call : Call} {told told' : Told} → told' ≡ told → Leaves o call told told'
leaves_same {o} {call} {told} {told'} e = Nothing e

-- Where nothing is written, nothing of it was; and so with what is taken.
none_written : {old now : Option (List ℕ)} → now ≡ old → IsPartWritten old now old
none_written {old} {now} e = record {
  written = [];
  is = e ∙ with_text-nothing old;
  missing = [];
  then = with_text-nothing old ∙ ap (λ t. with_text t []) (sym e);
}

none_taken : {old now : Option (List ℕ)} → now ≡ old → IsPartTaken old now old
none_taken {old} {now} e = record {
  taken = 0;
  is = e ∙ without_front-nothing old;
  missing = 0;
  then = without_front-nothing old ∙ ap (λ t. without_front t 0) (sym e);
}

pub leaves_output : {o : Objects} {told told' : Told} {stream offset : ℕ} {bytes : List ℕ} → stream_of (object_at o stream) ≡ Some ConOut → length bytes ≤ MOST_BYTES
    → IsPartWritten told.output told'.output (with_text told.output bytes) → told' ≡ record told { output = told'.output } → Leaves o (StreamWrite stream offset bytes) told told'
leaves_output {o} {told} {told'} {stream} {offset} {bytes} is small part e = Part (record {
  reply = Count (length bytes);
  objects = o;
  whole = record told { output = with_text told.output bytes };
  answers = output_answers o told stream offset bytes is small;
  part = record {
    output = part;
    errors = none_written (ap (λ t. t.errors) e);
    input = none_taken (ap (λ t. t.input) e);
    files = inl (ap (λ t. t.files) e);
  };
})

pub leaves_errors : {o : Objects} {told told' : Told} {stream offset : ℕ} {bytes : List ℕ} → stream_of (object_at o stream) ≡ Some ConErr → length bytes ≤ MOST_BYTES
    → IsPartWritten told.errors told'.errors (with_text told.errors bytes) → told' ≡ record told { errors = told'.errors } → Leaves o (StreamWrite stream offset bytes) told told'
leaves_errors {o} {told} {told'} {stream} {offset} {bytes} is small part e = Part (record {
  reply = Count (length bytes);
  objects = o;
  whole = record told { errors = with_text told.errors bytes };
  answers = errors_answers o told stream offset bytes is small;
  part = record {
    output = none_written (ap (λ t. t.output) e);
    errors = part;
    input = none_taken (ap (λ t. t.input) e);
    files = inl (ap (λ t. t.files) e);
  };
})

pub leaves_input : {o : Objects} {told told' : Told} {stream offset count : ℕ} → stream_of (object_at o stream) ≡ Some ConIn → count ≤ MOST_BYTES
    → IsPartTaken told.input told'.input (without_front told.input count) → told' ≡ record told { input = told'.input } → Leaves o (StreamRead stream offset count) told told'
leaves_input {o} {told} {told'} {stream} {offset} {count} is small part e = Part (record {
  reply = Bytes (take count (unwrap_or told.input []));
  objects = o;
  whole = record told { input = without_front told.input count };
  answers = input_answers o told stream offset count (unwrap_or told.input []) (tells_or told.input []) is small;
  part = record {
    output = none_written (ap (λ t. t.output) e);
    errors = none_written (ap (λ t. t.errors) e);
    input = part;
    files = inl (ap (λ t. t.files) e);
  };
})

-- ---- Calls on a file after which the same handles are open.
pub file_answered : {E : Type 0} {o : Objects} (told told' : Told) (users : Users) (call : Call) (name : List ℕ) (r : Result Reply E) → CountsUsers o users → file_of_call o call ≡ Some name → keeps_handles call ≡ true
    → told' ≡ record told { files = told'.files } → IfOk r (λ reply. FollowsRow (file_call_row users call name) told.files reply told'.files) → IfOk r (λ reply. IsAnswered o told call reply o told')
file_answered {E} {o} told told' users call name (Ok reply) c at keeps e row = By (file_answers c at keeps row e)
file_answered {E} {o} told told' users call name (Err error) c at keeps e row = tt

makes_no_file : (call : Call) → keeps_handles call ≡ true → may_make_file call ≡ false
makes_no_file (StreamOpen name create exclusive) keeps = absurd (cc)
makes_no_file _ keeps = refl

pub file_left : {E : Type 0} {o : Objects} (told told' : Told) (users : Users) (call : Call) (name : List ℕ) (r : Result Reply E) → CountsUsers o users → file_of_call o call ≡ Some name → keeps_handles call ≡ true
    → told' ≡ record told { files = told'.files } → IfOk r (λ reply. FollowsRow (file_call_row users call name) told.files reply told'.files) → OnErr r (may_make_file call ≡ false → told'.files ≡ told.files) → Leaves o call told told'
file_left {E} {o} told told' users call name (Ok reply) c at keeps e row same = leaves_answered (file_answers c at keeps row e) e
file_left {E} {o} told told' users call name (Err error) c at keeps e row same = Nothing (same_left (same (makes_no_file call keeps)) e)

-- What is no file is an end of the console.
pub console_name : (name : StreamName) → ((file : List ℕ) → name ≡ File file → ⊥) → (name ≡ ConIn) ⊎ ((name ≡ ConOut) ⊎ (name ≡ ConErr))
console_name (File file) other = absurd (other file refl)
console_name ConIn other = inl refl
console_name ConOut other = inr (inl refl)
console_name ConErr other = inr (inr refl)

pub ruleset reads = (read_bad, read_too_big, read_input, read_output, read_errors, is_file-stream, leaves_same, leaves_input)

pub ruleset writes = (write_bad, write_too_big, write_no_access, write_output, write_errors, is_file-stream, leaves_same, leaves_output, leaves_errors)

pub ruleset measures = (length_bad, length_of_console)

pub ruleset resizes = (resize_bad, resize_of_console)

pub ruleset rows = (row_answered, leaves_same)
