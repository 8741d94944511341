-- The calls on threads and events: ThreadCreate, ThreadResume, ThreadExit, ThreadContext,
-- EventCreate.
use Rattle.std.specs.Prelude.{ℕ, ◌==◌, false, if◌then◌else◌, nat_le}
use Rattle.std.specs.declared.option.Option.{Option}
use Rattle.std.specs.declared.option.Option.TheVariants.{None, Some}
use Rattle.rv_core.specs.declared.context.Context.{Context}
use Rattle.guest_space.specs.Space.{Space}
use Rattle.turn_sched.specs.Lists.{is_resting, with_suspended, with_resumed}
use Rattle.abi_calls.specs.declared.limits.TheConstants.{MOST_THREADS}
use Rattle.abi_calls.specs.declared.object.Object.TheVariants.{Thread, Event}
use Rattle.abi_calls.specs.declared.reply.Reply.{Reply}
use Rattle.abi_calls.specs.declared.reply.Reply.TheVariants.{Done, Handle, BadHandle, Busy, NoRoom}
use Rattle.abi_calls.specs.Objects.{Object, Objects, number_of, is_thread, with_object, with_lists, without_handles}

-- The objects with a new thread, the last of the suspended ones.
abbrev pub with_thread : Objects → ℕ → ℕ → Context → Objects
with_thread o h p context =
    with_lists (with_object o h (Thread p context)) (with_suspended o.lists h)

-- ThreadCreate: a suspended thread of a running process; 64 live threads at most.
abbrev pub thread_create_row : Objects → ℕ → Context → Option Space → ℕ → Reply × Objects
thread_create_row o p context None h = (BadHandle, o)
thread_create_row o p context (Some s) h =
    if nat_le MOST_THREADS (number_of is_thread o.live) then (NoRoom, o)
    else (Handle h, with_thread o h p context)

-- ThreadResume: a thread that rests joins the end of the ready list.
abbrev pub thread_resume_row : Objects → ℕ → Option Object → Reply × Objects
thread_resume_row o t (Some (Thread p context)) =
    if is_resting o.lists t then (Done, with_lists o (with_resumed o.lists t)) else (Busy, o)
thread_resume_row o t _ = (BadHandle, o)

-- ThreadExit: a thread leaves its list, and its handle ends.
abbrev pub thread_exit_row : Objects → ℕ → Option Object → Reply × Objects
thread_exit_row o t (Some (Thread p context)) = (Done, without_handles o (λ k. k == t))
thread_exit_row o t _ = (BadHandle, o)

-- ThreadContext: other registers for a thread that rests.
abbrev pub thread_context_row : Objects → ℕ → Context → Option Object → Reply × Objects
thread_context_row o t context (Some (Thread p old)) =
    if is_resting o.lists t then (Done, with_object o t (Thread p context)) else (Busy, o)
thread_context_row o t context _ = (BadHandle, o)

-- EventCreate: an event that isn't set.
abbrev pub event_create_row : Objects → ℕ → Reply × Objects
event_create_row o h = (Handle h, with_object o h (Event false))
