-- A turn: waiting threads are woken, one ready thread is picked, and it does its instructions.
use Rattle.std.specs.Prelude.{ℕ, Bool, true, false, ◌||◌, not, if◌then◌else◌, nat_lt, List, [], length, is_some, slice_get}
use Rattle.std.specs.List.{list_any}
use Rattle.std.specs.declared.option.Option.{Option}
use Rattle.std.specs.declared.option.Option.TheVariants.{None, Some}
use Rattle.rv_core.specs.declared.context.Context.{Context}
use Rattle.guest_space.specs.Space.{Space}
use Rattle.guest_space.specs.Running.{Ran as Run, run_space}
use Rattle.turn_sched.specs.Lists.{Waiting, with_woken, with_ready, picked_place, without_place}
use Rattle.turn_sched.specs.Clock.{after_idle, after_pick, time_at, is_past, pick_word_at}
use Rattle.abi_calls.specs.declared.limits.TheConstants.{PIPE_BYTES}
use Rattle.abi_calls.specs.declared.object.Object.TheVariants.{Process, Thread, Event, ReadEnd, WriteEnd}
use Rattle.abi_calls.specs.declared.threads.Turned.{Turned}
use Rattle.abi_calls.specs.declared.threads.Turned.TheVariants.{Ran, Idle, Stuck, Exception}
use Rattle.abi_calls.specs.Objects.{Object, Objects, object_at, running, some_object, is_read_end, is_write_end, pipe_bytes, with_object, with_lists}

abbrev pub is_no_byte : List ℕ → Bool
is_no_byte [] = true
is_no_byte _ = false

-- What a thread may wait for is signalled: an object that is gone; an exited process; an event that
-- is set; the read end of a pipe that holds a byte or has no write end; the write end of one that
-- has room or no read end.
abbrev pub is_signalled_object : Objects → Option Object → Bool
is_signalled_object o None = true
is_signalled_object o (Some (Process memory code)) = is_some code
is_signalled_object o (Some (Event set)) = set
is_signalled_object o (Some (ReadEnd pipe)) =
    not (is_no_byte (pipe_bytes o pipe)) || not (some_object (is_write_end pipe) o.live)
is_signalled_object o (Some (WriteEnd pipe)) =
    nat_lt (length (pipe_bytes o pipe)) PIPE_BYTES || not (some_object (is_read_end pipe) o.live)
is_signalled_object o _ = false

abbrev pub is_signalled : Objects → ℕ → Bool
is_signalled o h = is_signalled_object o (object_at o h)

-- The time, in nanoseconds.
abbrev pub time_of : Objects → ℕ
time_of o = time_at o.settings o.positions

-- A waiting thread goes on where an object that it waits for is signalled, or its time has come.
abbrev pub is_due : Objects → Waiting → Bool
is_due o w = list_any (is_signalled o) w.handles || is_past (time_of o) w.deadline

-- First: waiting threads that are due join the end of the ready list, in waiting order.
abbrev pub with_due_ready : Objects → Objects
with_due_ready o = with_lists o (with_woken (λ w. w.thread) (is_due o) o.lists)

abbrev pub with_turn : Objects → Objects
with_turn o = record o { positions = after_idle o.positions }

-- Second: where no thread is ready, time passes if one waits for a time, and else nothing will
-- happen.
abbrev pub idle_turn : Objects → Turned × Objects
idle_turn o =
    if list_any (λ w. is_some w.deadline) o.lists.waiting then (Idle, with_turn o) else (Stuck, o)

-- Third: the next word of the tape, 0 past its end, picks a place of the ready list, modulo how
-- many are ready.
abbrev pub pick_word : Objects → ℕ
pick_word o = pick_word_at o.settings o.positions

abbrev pub pick_of : Objects → ℕ
pick_of o = picked_place (pick_word o) o.lists

-- The thread at a place leaves the ready list, and both positions rise.
abbrev pub with_pick : Objects → ℕ → Objects
with_pick o place = record o {
  lists = without_place o.lists place;
  positions = after_pick o.positions;
}

-- Fourth: a thread did its instructions and joins the end of the ready list, or trapped and is
-- current.
abbrev pub run_end : Objects → ℕ → ℕ → Context → Option (ℕ × ℕ) → Turned × Objects
run_end o t p context None = (Ran, with_lists o (with_ready o.lists t))
run_end o t p context (Some trap) = (
  Exception (record { process = p; thread = t; cause = trap.0; value = trap.1; context = context }),
  with_lists o (record o.lists { current = Some t }),
)

abbrev pub with_run_of : Objects → ℕ → ℕ → Run → Objects
with_run_of o t p run =
    with_object (with_object o p (Process run.space None)) t (Thread p run.context)

abbrev pub run_answer : Objects → ℕ → ℕ → Run → Turned × Objects
run_answer o t p run = run_end (with_run_of o t p run) t p run.context run.trap

-- A thread runs in the memory of its process. Objects that are sound have both.
abbrev pub run_in : Objects → ℕ → ℕ → Context → Option Space → Turned × Objects
run_in o t p context (Some s) = run_answer o t p (run_space o.settings.slice context s)
run_in o t p context None = (Stuck, o)

abbrev pub run_thread : Objects → ℕ → Option Object → Turned × Objects
run_thread o t (Some (Thread p context)) = run_in o t p context (running (object_at o p))
run_thread o t _ = (Stuck, o)

-- Where no thread is ready, nothing stands at any place of the ready list.
abbrev pub turn_of_pick : Objects → ℕ → Option ℕ → Turned × Objects
turn_of_pick o place (Some t) = run_thread (with_pick o place) t (object_at o t)
turn_of_pick o place None = idle_turn o

-- A turn of the world.
abbrev pub world_turn : Objects → Turned × Objects
world_turn o =
    let awake = with_due_ready o in
    turn_of_pick awake (pick_of awake) (slice_get awake.lists.ready (pick_of awake))
