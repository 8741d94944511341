-- Turns of the machine, and its runs.
use Rattle.std.specs.Prelude.{ℕ, zero, suc, Bool, true, false, ◌&&◌, ◌||◌, not, if◌then◌else◌, List, [], ◌∷◌, is_some}
use Rattle.std.specs.List.{list_any}
use Rattle.std.specs.declared.option.Option.{Option}
use Rattle.std.specs.declared.option.Option.TheVariants.{None, Some}
use Rattle.rv_core.specs.declared.context.Context.{Context}
use Rattle.guest_space.specs.Running.{Ran, run_space}
use Rattle.turn_sched.specs.Lists.{with_woken, picked_place, picked_by, without_place}
use Rattle.turn_sched.specs.Clock.{after_idle, after_pick, time_at, is_past, pick_word_at}
use Rattle.mono_model.specs.Machine.{Mono, Thread, Target, Opened, Exits, Wakes, Gone, Waiter, process_at, thread_at, with_memory_in, with_context, made_ready, exit_code, is_woken}
use Rattle.mono_model.specs.Written.{Written, nothing, and_then}
use Rattle.mono_model.specs.Calls.{Trap, Served, silently, memory_at}
use Rattle.mono_model.specs.SystemCalls.{served}

-- A target has come: a process has exited, a thread was woken, or what was waited for has gone. No
-- open description can be waited for yet.
abbrev pub has_come : Mono → Target → Bool
has_come m (Opened d) = false
has_come m (Exits p) = is_some (exit_code m p)
has_come m (Wakes t) = is_woken (thread_at m t)
has_come m Gone = true

-- The time, in nanoseconds.
abbrev pub time_of : Mono → ℕ
time_of m = time_at m.settings m.positions

abbrev pub is_due : Mono → Waiter → Bool
is_due m w = list_any (has_come m) w.targets || is_past (time_of m) w.deadline

-- First: waiting threads that are due become ready, in waiting order.
abbrev pub awoken : Mono → Mono
awoken m = record m { lists = with_woken (λ w. w.thread) (is_due m) m.lists }

abbrev pub waits_for_time : Mono → Bool
waits_for_time m = list_any (λ w. is_some w.deadline) m.lists.waiting

abbrev pub with_turn : Mono → Mono
with_turn m = record m { positions = after_idle m.positions }

-- Second: where no thread is ready, time passes if one waits for a time, and else nothing will
-- happen.
abbrev pub idle_turn : Mono → Mono
idle_turn m = if waits_for_time m then with_turn m else m

abbrev pub is_nobody : List ℕ → Bool
is_nobody [] = true
is_nobody (t ∷ ts) = false

-- No thread is ready, or will be.
abbrev pub is_stuck : Mono → Bool
is_stuck m = is_nobody (awoken m).lists.ready && not (waits_for_time (awoken m))

-- Third: the next word of the tape, 0 past its end, picks a place of the ready list, modulo how
-- many are ready.
abbrev pub pick_word : Mono → ℕ
pick_word m = pick_word_at m.settings m.positions

-- The thread at a place leaves the ready list, and both positions rise.
abbrev pub with_pick : Mono → ℕ → Mono
with_pick m place = record m {
  lists = without_place m.lists place;
  positions = after_pick m.positions;
}

-- Fourth: the registers and the memory that the thread's instructions left.
abbrev pub with_run_of : Mono → ℕ → ℕ → Ran → Mono
with_run_of m t p run =
    with_context (with_memory_in m p run.space (process_at m p)) t p run.context

-- Without a trap the thread is ready again; with one it is served.
abbrev pub after_run : Mono → ℕ → ℕ → Context → Option Trap → Served
after_run m t p context None = silently (made_ready m t)
after_run m t p context (Some trap) =
    served m (record { thread = t; process = p; context = context }) trap

abbrev pub run_thread : Mono → ℕ → Option Thread → Served
run_thread m t None = silently m
run_thread m t (Some thread) =
    let run = run_space m.settings.slice thread.context (memory_at m thread.process) in
    after_run (with_run_of m t thread.process run) t thread.process run.context run.trap

abbrev pub turn_of_pick : Mono → Option ℕ → Served
turn_of_pick m None = silently (idle_turn m)
turn_of_pick m (Some t) =
    run_thread (with_pick m (picked_place (pick_word m) m.lists)) t (thread_at m t)

-- A turn: those that are due become ready, one ready thread is picked, does its instructions, and
-- its trap is served whole.
unfoldable pub turn_of : Mono → Served
turn_of m = turn_of_pick (awoken m) (picked_by (pick_word (awoken m)) (awoken m).lists)

-- How a run ends: process 1 exits, the turns are made, or nothing can happen any more.
pub data End : Type 0 where
  Exited : ℕ → End
  Bound : End
  Stuck : End

-- How a run ended, its last state, and all that it wrote.
pub record Ending : Type 0 where
  pub end : End
  pub last : Mono
  pub written : Written

abbrev pub ends_as : End → Mono → Ending
ends_as end m = record { end = end; last = m; written = nothing }

-- A run that wrote something before.
abbrev pub behind : Written → Ending → Ending
behind first ending = record ending { written = and_then first ending.written }

-- With no turn left the run ends.
abbrev pub run_stopped : Mono → Option ℕ → Ending
run_stopped m (Some code) = ends_as (Exited code) m
run_stopped m None = ends_as Bound m

-- With a turn left it ends where process 1 has exited or the machine is stuck, and else goes on
-- after a turn.
abbrev pub run_on : Mono → Option ℕ → Bool → (Mono → Ending) → Ending
run_on m (Some code) stuck go = ends_as (Exited code) m
run_on m None true go = ends_as Stuck m
run_on m None false go = behind (turn_of m).1 (go (turn_of m).0)

-- A run of n turns at most.
unfoldable pub run_of : ℕ → Mono → Ending
run_of zero m = run_stopped m (exit_code m 1)
run_of (suc n) m = run_on m (exit_code m 1) (is_stuck m) (λ (next : Mono). run_of n next)
