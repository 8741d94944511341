-- The calls on processes and on the whole: Close, ProcessCreate, ProcessExit, ProcessStatus,
-- Configure, Positions.
use Rattle.std.specs.Prelude.{ℕ, ◌==◌, Bool, ◌||◌, ◌&&◌, not, if◌then◌else◌, nat_lt, nat_le, length, is_some}
use Rattle.std.specs.FinMap.{empty}
use Rattle.std.specs.declared.option.Option.{Option}
use Rattle.std.specs.declared.option.Option.TheVariants.{None, Some}
use Rattle.guest_space.specs.Space.{Space}
use Rattle.abi_calls.specs.declared.limits.TheConstants.{MOST_PROCESSES, MOST_SLICE, MOST_WORDS}
use Rattle.abi_calls.specs.declared.object.Object.TheVariants.{Process, Thread}
use Rattle.turn_sched.specs.declared.settings.Positions.{Positions}
use Rattle.turn_sched.specs.declared.settings.Settings.{Settings}
use Rattle.abi_calls.specs.declared.reply.Reply.{Reply}
use Rattle.abi_calls.specs.declared.reply.Reply.TheVariants.{Done, Handle, Running, Exited, Places, BadHandle, Busy, NoRoom, TooBig}
use Rattle.abi_calls.specs.Objects.{Object, Objects, running, number_of, is_process, is_thread_of, object_at, with_object, without_handles}

-- Close: the handle of an event, a stream or a process that has exited ends.
abbrev pub close_row : Objects → ℕ → Option Object → Reply × Objects
close_row o h None = (BadHandle, o)
close_row o h (Some (Process memory None)) = (Busy, o)
close_row o h (Some (Thread process context)) = (Busy, o)
close_row o h (Some _) = (Done, without_handles o (λ k. k == h))

-- ProcessCreate: a process without memory; 16 processes whose handle is live at most.
abbrev pub process_create_row : Objects → ℕ → Reply × Objects
process_create_row o h =
    if nat_le MOST_PROCESSES (number_of is_process o.live) then (NoRoom, o)
    else (Handle h, with_object o h (Process empty None))

-- The threads of a process end.
abbrev pub without_threads : Objects → ℕ → Objects
without_threads o p = without_handles o (λ k. is_thread_of p (object_at o k))

-- ProcessExit: the memory and the threads of a running process end.
abbrev pub process_exit_row : Objects → ℕ → ℕ → Option Space → Reply × Objects
process_exit_row o p code None = (BadHandle, o)
process_exit_row o p code (Some s) =
    (Done, with_object (without_threads o p) p (Process empty (Some code)))

-- ProcessStatus: a process runs, or has exited with this code.
abbrev pub process_status_row : Objects → Option Object → Reply × Objects
process_status_row o (Some (Process memory None)) = (Running, o)
process_status_row o (Some (Process memory (Some code))) = (Exited code, o)
process_status_row o _ = (BadHandle, o)

abbrev pub is_running : Object → Bool
is_running x = is_some (running (Some x))

-- Settings that a host takes.
abbrev pub is_acceptable : Settings → Bool
is_acceptable s =
    nat_lt 0 s.slice && (nat_le s.slice MOST_SLICE &&
    (nat_le (length s.picks) MOST_WORDS && nat_le (length s.randoms) MOST_WORDS))

-- Configure: before the first turn, and while no process runs.
abbrev pub configure_row : Objects → Settings → Positions → Reply × Objects
configure_row o settings positions =
    if not (is_acceptable settings) then (TooBig, o)
    else (if not (o.positions.turns == 0) || nat_lt 0 (number_of is_running o.live) then (Busy, o)
    else (Done, record o { settings = settings; positions = positions }))

-- Positions.
abbrev pub positions_row : Objects → Reply × Objects
positions_row o = (Places o.positions, o)
