-- Rows of calls that make or end an object.
use Rattle.std.specs.Prelude.{◌≡◌, ℕ, nat_le, Bool, true, false, not, ◌==◌, ◌||◌, List, [], is_some, Result, Ok, Err, IfOk, OnErr}
use Rattle.std.specs.FinMap.{empty, get, insert, remove, retain_keys}
use Rattle.std.specs.declared.option.Option.{Option}
use Rattle.std.specs.declared.option.Option.TheVariants.{None, Some}
use Rattle.std.proofs.Common.{refl, sym, ap, subst, ◌∙◌}
use Rattle.std.proofs.lemmas.Bool.{cond-false}
use Rattle.rv_core.specs.declared.context.Context.{Context}
use Rattle.guest_space.specs.Space.{Space}
use Rattle.bas_names.specs.declared.StreamName.{StreamName}
use Rattle.turn_sched.specs.Lists.{Lists, with_suspended, mentions_number, without_numbers}
use Rattle.turn_sched.specs.Schedules.{is_listed, without_thread}
use Rattle.abi_calls.specs.declared.object.Object.TheVariants.{Process, Thread, Event, Stream}
use Rattle.abi_calls.specs.declared.call.Call.{Call}
use Rattle.abi_calls.specs.declared.call.Call.TheVariants.{ThreadCreate, ThreadExit, EventCreate, StreamOpen, StreamRead, StreamWrite, StreamLength, StreamSetLength, StreamDelete, StreamRename, Share, Close, ProcessCreate}
use Rattle.abi_calls.specs.declared.reply.Reply.{Reply}
use Rattle.abi_calls.specs.declared.reply.Reply.TheVariants.{Handle, Done, BadHandle, Busy}
use Rattle.abi_calls.specs.Objects.{Object, Objects, Live, Pipes, IsFresh, object_at, running, number_of, is_thread, is_some_thread, is_process, without_handles, has_end}
use Rattle.abi_calls.specs.Threads.{thread_create_row, thread_exit_row}
use Rattle.abi_calls.specs.Streams.{stream_read_row, stream_write_row, stream_length_row, stream_set_length_row, shared_object, share_row}
use Rattle.abi_calls.specs.Processes.{close_row, is_running}
use Rattle.abi_calls.specs.World.{Contents, world_of}
use Rattle.abi_calls.specs.Abi.{Abi, answer, object_row, is_outside, is_stream}
use Rattle.abi_calls.specs.Sound.{IsSound, HasBytes, is_sound_name}
use Rattle.bas_items.proofs.NumberMaps.{get-empty, retain_keys-all, retain_keys-others}
use Rattle.abi_calls.proofs.Facts.{fresh_number}
use Rattle.abi_calls.proofs.Sounds.{IsSound-Abi, IsSound-with_stream}
use Rattle.host_objects.specs.Handles.{Adds}
use Rattle.host_objects.specs.System.{world_lists}
use Rattle.host_objects.specs.Rows.{Row}
use Rattle.host_objects.proofs.Lists.{without_numbers-one, mentions_number-world}

-- ---- what is new
-- A number that is added is fresh, and stands in no list.
pub fresh_added : (o : Objects) (live' : Live) (x : Object) (h : ℕ) → IsSound o → Adds o.live x live' h → IsFresh o h
fresh_added o live' x h sound adds = fresh_number o h sound adds.positive adds.free

pub fresh_if_added : {E : Type 0} (o : Objects) (live' : Live) (x : Object) (r : Result ℕ E) → IsSound o → IfOk r (Adds o.live x live') → IfOk r (IsFresh o)
fresh_if_added o live' x (Ok h) sound adds = fresh_added o live' x h sound adds
fresh_if_added o live' x (Err e) sound adds = tt

pub unlisted_added : (o : Objects) (live' : Live) (x : Object) (h : ℕ) (l : Lists ℕ) → o.lists ≡ world_lists l → IsSound o → Adds o.live x live' h → is_listed l h ≡ false
unlisted_added o live' x h l e sound adds =
    sym (mentions_number-world l h) ∙ ap (λ ls. mentions_number ls h) (sym e) ∙ (fresh_added o live' x h sound adds).unlisted

row_new : (o o' : Objects) (call : Call) (h : ℕ) → IsFresh o h → object_row o call (Handle h) ≡ (Handle h, o') → Row o call (Handle h) o'
row_new o o' call h fresh row = record { choice = λ x. fresh; row = row }

pub event_row : (o o' : Objects) (live' : Live) (h : ℕ) → IsSound o → Adds o.live (Event false) live' h → o' ≡ record o { live = live' } → Row o EventCreate (Handle h) o'
event_row o o' live' h sound adds e =
    row_new o o' EventCreate h (fresh_added o live' _ h sound adds)
    (sym (ap {A = Objects} (λ p. (Handle h, p)) e ∙ ap {A = Live} (λ m. (Handle h, record o { live = m })) adds.now))

thread_made : (o : Objects) (p : ℕ) (context : Context) (h : ℕ) (memory : Option Space) → is_some memory ≡ true → nat_le 64 (number_of is_thread o.live) ≡ false → thread_create_row o p context memory h ≡ (Handle h, record o { live = insert o.live h (Thread p context); lists = with_suspended o.lists h })
thread_made o p context h None runs few = absurd (cc)
thread_made o p context h (Some s) runs few = cond-false _ _ _ few

-- Share adds what its handle names.
pub share_added : (o o' : Objects) (live' : Live) (s h : ℕ) (x : Object) → IsSound o → shared_object (object_at o s) ≡ Some x → Adds o.live x live' h → o' ≡ record o { live = live' } → Row o (Share s) (Handle h) o'
share_added o o' live' s h x sound is adds e =
    row_new o o' (Share s) h (fresh_added o live' x h sound adds)
    (ap (λ z. share_row o z h) is
    ∙ sym (ap {A = Objects} (λ p. (Handle h, p)) e ∙ ap {A = Live} (λ m. (Handle h, record o { live = m })) adds.now))

pub thread_row : (o o' : Objects) (live' : Live) (p : ℕ) (context : Context) (h : ℕ) → IsSound o → is_some (running (object_at o p)) ≡ true → nat_le 64 (number_of is_thread o.live) ≡ false → Adds o.live (Thread p context) live' h → o' ≡ record o { live = live'; lists = with_suspended o.lists h } → Row o (ThreadCreate p context) (Handle h) o'
thread_row o o' live' p context h sound runs few adds e =
    row_new o o' (ThreadCreate p context) h (fresh_added o live' _ h sound adds)
    (thread_made o p context h (running (object_at o p)) runs few
    ∙ sym (ap {A = Objects} (λ q. (Handle h, q)) e ∙ ap {A = Live} (λ m. (Handle h, record o { live = m; lists = with_suspended o.lists h })) adds.now))

pub process_row : (o o' : Objects) (live' : Live) (s : Space) (h : ℕ) → IsSound o → nat_le 16 (number_of is_process o.live) ≡ false → s ≡ empty → Adds o.live (Process s None) live' h → o' ≡ record o { live = live' } → Row o ProcessCreate (Handle h) o'
process_row o o' live' s h sound few none adds e =
    row_new o o' ProcessCreate h (fresh_added o live' _ h sound adds)
    (cond-false _ _ _ few
    ∙ sym (ap {A = Objects} (λ q. (Handle h, q)) e ∙ ap {A = Live} (λ m. (Handle h, record o { live = m })) adds.now
    ∙ ap {A = Space} (λ m. (Handle h, record o { live = insert o.live h (Process m None) })) none))

-- ---- what ends
-- Where there is no pipe, none ends.
pub no_pipes : (pipes : Pipes) (keeps : ℕ → Bool) → pipes ≡ empty → retain_keys pipes keeps ≡ pipes
no_pipes pipes keeps none = retain_keys-all pipes keeps (λ q bytes there. absurd (let gone : get pipes q ≡ None = ap (λ m. get m q) none ∙ get-empty q in cc))

-- A handle ends, and leaves every list.
pub ended_objects : (o o' : Objects) (h : ℕ) (l : Lists ℕ) → o.pipes ≡ empty → o.lists ≡ world_lists l → o' ≡ record o { live = remove o.live h; lists = world_lists (without_thread l h) } → without_handles o (λ k. k == h) ≡ o'
ended_objects o o' h l none lists e =
    let left = ap (without_numbers (λ k. k == h)) lists ∙ without_numbers-one l h in
    (λ i. record {
      live = retain_keys-others o.live h i;
      pipes = no_pipes o.pipes (has_end (retain_keys o.live (λ k. not (k == h)))) none i;
      lists = left i;
      positions = o.positions;
      settings = o.settings;
    }) ∙ sym e

-- ThreadExit ends a thread.
thread_exit_row-thread : (o : Objects) (t : ℕ) (x : Option Object) → is_some_thread x ≡ true → thread_exit_row o t x ≡ (Done, without_handles o (λ k. k == t))
thread_exit_row-thread o t (Some (Thread p context)) thread = refl
thread_exit_row-thread o t _ thread = absurd (cc)

pub thread_ended_row : (o o' : Objects) (t : ℕ) (l : Lists ℕ) → is_some_thread (object_at o t) ≡ true → o.pipes ≡ empty → o.lists ≡ world_lists l → o' ≡ record o { live = remove o.live t; lists = world_lists (without_thread l t) } → Row o (ThreadExit t) Done o'
thread_ended_row o o' t l thread none lists e = record {
  choice = λ y. tt;
  row = thread_exit_row-thread o t (object_at o t) thread ∙ ap {A = Objects} (λ q. (Done, q)) (ended_objects o o' t l none lists e);
}

-- Close ends what is no thread and no running process.
close_row-busy : (o : Objects) (h : ℕ) (x : Object) → (is_thread x || is_running x) ≡ true → close_row o h (Some x) ≡ (Busy, o)
close_row-busy o h (Process memory None) busy = refl
close_row-busy o h (Thread process context) busy = refl
close_row-busy o h _ busy = absurd (cc)

close_row-ended : (o : Objects) (h : ℕ) (x : Object) → (is_thread x || is_running x) ≡ false → close_row o h (Some x) ≡ (Done, without_handles o (λ k. k == h))
close_row-ended o h (Process memory None) idle = absurd (cc)
close_row-ended o h (Thread process context) idle = absurd (cc)
close_row-ended o h _ idle = refl

pub busy_row : (o o' : Objects) (h : ℕ) (x : Object) → object_at o h ≡ Some x → (is_thread x || is_running x) ≡ true → o' ≡ o → Row o (Close h) Busy o'
busy_row o o' h x at busy same = record {
  choice = λ y. tt;
  row = ap (close_row o h) at ∙ close_row-busy o h x busy ∙ ap {A = Objects} (λ q. (Busy, q)) (sym same);
}

pub closed_row : (o o' : Objects) (h : ℕ) (l : Lists ℕ) (x : Object) → object_at o h ≡ Some x → (is_thread x || is_running x) ≡ false → o.pipes ≡ empty → o.lists ≡ world_lists l → o' ≡ record o { live = remove o.live h; lists = world_lists (without_thread l h) } → Row o (Close h) Done o'
closed_row o o' h l x at idle none lists e = record {
  choice = λ y. tt;
  row = ap (close_row o h) at ∙ close_row-ended o h x idle ∙ ap {A = Objects} (λ q. (Done, q)) (ended_objects o o' h l none lists e);
}

-- ---- rows in a world
-- What is no stream answers as the objects do.
read_inside : (o : Objects) (x : Contents) (offset count : ℕ) (r : Reply) (y : Option Object) → is_stream y ≡ false → stream_read_row (world_of o x) offset count r y ≡ (BadHandle, world_of o x)
read_inside o x offset count r (Some (Stream name)) inside = absurd (cc)
read_inside o x offset count r _ inside = refl

write_inside : (o : Objects) (x : Contents) (offset : ℕ) (bytes : List ℕ) (r : Reply) (y : Option Object) → is_stream y ≡ false → stream_write_row (world_of o x) offset bytes r y ≡ (BadHandle, world_of o x)
write_inside o x offset bytes r (Some (Stream name)) inside = absurd (cc)
write_inside o x offset bytes r _ inside = refl

length_inside : (o : Objects) (x : Contents) (y : Option Object) → is_stream y ≡ false → stream_length_row (world_of o x) y ≡ (BadHandle, world_of o x)
length_inside o x (Some (Stream name)) inside = absurd (cc)
length_inside o x _ inside = refl

set_length_inside : (o : Objects) (x : Contents) (size : ℕ) (y : Option Object) → is_stream y ≡ false → stream_set_length_row (world_of o x) size y ≡ (BadHandle, world_of o x)
set_length_inside o x size (Some (Stream name)) inside = absurd (cc)
set_length_inside o x size _ inside = refl

pub answer-inside : (o : Objects) (x : Contents) (call : Call) (r : Reply) → is_outside o call ≡ false → answer (world_of o x) call r ≡ ((object_row o call r).0, world_of (object_row o call r).1 x)
answer-inside o x (StreamOpen name create exclusive) r inside = absurd (cc)
answer-inside o x (StreamRead stream offset count) r inside = read_inside o x offset count r (object_at o stream) inside
answer-inside o x (StreamWrite stream offset bytes) r inside = write_inside o x offset bytes r (object_at o stream) inside
answer-inside o x (StreamLength stream) r inside = length_inside o x (object_at o stream) inside
answer-inside o x (StreamSetLength stream size) r inside = set_length_inside o x size (object_at o stream) inside
answer-inside o x (StreamDelete name) r inside = absurd (cc)
answer-inside o x (StreamRename from to) r inside = absurd (cc)
answer-inside o x _ r inside = refl

-- A row on the objects is one of the world, whatever its contents are.
pub row_in_world : (o o' : Objects) (call : Call) (r : Reply) → is_outside o call ≡ false → Row o call r o' → (x : Contents) → Abi (world_of o x) call r (world_of o' x)
row_in_world o o' call r inside row x = record {
  choice = row.choice x;
  row = answer-inside o x call r inside ∙ ap {A = Reply × Objects} (λ a. (a.0, world_of a.1 x)) row.row;
}

-- ---- soundness
pub row_sound : (o o' : Objects) (call : Call) (r : Reply) → IsSound o → HasBytes call → is_outside o call ≡ false → Row o call r o' → IsSound o'
row_sound o o' call r sound bytes inside row =
    let none : Contents = record { files = empty; input = []; output = []; errors = [] } in
    IsSound-Abi (world_of o none) (world_of o' none) call r sound bytes (row_in_world o o' call r inside row none)

pub call_sound : {E : Type 0} (o o' : Objects) (call : Call) (r : Result Reply E) → IsSound o → HasBytes call → is_outside o call ≡ false → IfOk r (λ reply. Row o call reply o') → OnErr r (o' ≡ o) → IsSound o'
call_sound o o' call (Ok reply) sound bytes inside row same = row_sound o o' call reply sound bytes inside row
call_sound o o' call (Err e) sound bytes inside row same = subst IsSound (sym same) sound

pub stream_sound : {E : Type 0} (o : Objects) (live' : Live) (name : StreamName) (r : Result ℕ E) → IsSound o → is_sound_name name ≡ true → IfOk r (Adds o.live (Stream name) live') → OnErr r (live' ≡ o.live) → IsSound (record o { live = live' })
stream_sound o live' name (Ok h) sound named adds same = subst {A = Live} (λ m. IsSound (record o { live = m })) (sym adds.now) (IsSound-with_stream o h name sound (fresh_added o live' _ h sound adds) named)
stream_sound o live' name (Err e) sound named adds same = subst {A = Live} (λ m. IsSound (record o { live = m })) (sym same) sound
