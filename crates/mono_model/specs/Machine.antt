-- The monolithic machine: processes, threads and open descriptions by their ids, where its threads
-- stand, the files and the input, and the lists of rules that a file's name passes. It has no
-- output: what is written is what a turn answers.
use Rattle.std.specs.Prelude.{ℕ, ◌+◌, ◌-◌, ◌%◌, ◌^◌, ◌==◌, Bool, false, List, slice_index, slice_set}
use Rattle.std.specs.Ordering.{nat_cmp}
use Rattle.std.specs.FinMap.{FinMap, get, insert, empty}
use Rattle.std.specs.declared.option.Option.{Option}
use Rattle.std.specs.declared.option.Option.TheVariants.{None, Some}
use Rattle.rv_core.specs.declared.context.Context.{Context}
use Rattle.guest_space.specs.Space.{Space}
use Rattle.bas_edge.specs.Files.{Files}
use Rattle.bas_names.specs.declared.Rule.{Rule}
use Rattle.bas_names.specs.declared.StreamName.{StreamName}
use Rattle.turn_sched.specs.Lists.{Lists, with_ready}
use Rattle.turn_sched.specs.declared.settings.Positions.{Positions}
use Rattle.turn_sched.specs.declared.settings.Settings.{Settings}

-- An open description: what it is open on, its access (1 to read, 2 to write, added up), whether
-- each write goes to the end of its file, and its position in it.
pub record Description : Type 0 where
  pub stream : StreamName
  pub access : ℕ
  pub append : Bool
  pub position : ℕ

-- A process: its memory, its parent and its handler of faults (0 where it has none), where its
-- break stood at first and where it stands, its exit code once it has exited, and its descriptors,
-- each naming a description.
pub record Process : Type 0 where
  pub memory : Space
  pub parent : ℕ
  pub break_start : ℕ
  pub break_now : ℕ
  pub handler : ℕ
  pub code : Option ℕ
  pub descriptors : FinMap nat_cmp ℕ

-- A thread of a process, with its registers, whether it was woken, and the registers at the fault
-- that a handler is handling.
pub record Thread : Type 0 where
  pub process : ℕ
  pub context : Context
  pub woken : Bool
  pub saved : Option Context

-- What a thread can wait for: an open description, the exit of a process, that a thread is woken,
-- or what has gone since.
pub data Target : Type 0 where
  Opened : (description : ℕ) → Target
  Exits : (process : ℕ) → Target
  Wakes : (thread : ℕ) → Target
  Gone : Target

-- A thread that waits for one of several targets, or until a time.
pub record Waiter : Type 0 where
  pub thread : ℕ
  pub targets : List Target
  pub deadline : Option ℕ

-- A thread that is to be woken at an address.
pub record Queued : Type 0 where
  pub thread : ℕ
  pub address : ℕ

-- Threads are ready or wait, or stand still; none is kept as suspended or current. The queue has
-- those that are to be woken, in the order in which they came.
pub record Mono : Type 0 where
  pub processes : FinMap nat_cmp Process
  pub threads : FinMap nat_cmp Thread
  pub descriptions : FinMap nat_cmp Description
  pub lists : Lists Waiter
  pub queue : List Queued
  pub rules : List (List Rule)
  pub files : Files
  pub input : List ℕ
  pub next_id : ℕ
  pub positions : Positions
  pub settings : Settings

abbrev pub process_at : Mono → ℕ → Option Process
process_at m p = get {R = nat_cmp} m.processes p

abbrev pub thread_at : Mono → ℕ → Option Thread
thread_at m t = get {R = nat_cmp} m.threads t

abbrev pub with_process : Mono → ℕ → Process → Mono
with_process m p process = record m { processes = insert m.processes p process }

-- The process has these pages.
abbrev pub with_memory_in : Mono → ℕ → Space → Option Process → Mono
with_memory_in m p s None = m
with_memory_in m p s (Some process) = with_process m p (record process { memory = s })

-- The process has its break at an address.
abbrev pub with_break_in : Mono → ℕ → ℕ → Option Process → Mono
with_break_in m p address None = m
with_break_in m p address (Some process) =
    with_process m p (record process { break_now = address })

abbrev pub with_thread : Mono → ℕ → Thread → Mono
with_thread m t thread = record m { threads = insert m.threads t thread }

-- The exit code of a process that has exited.
abbrev pub code_in : Option Process → Option ℕ
code_in None = None
code_in (Some process) = process.code

abbrev pub exit_code : Mono → ℕ → Option ℕ
exit_code m p = code_in (process_at m p)

-- A process that has exited has its code, no memory and no descriptors; all else is kept.
abbrev pub exited : Process → ℕ → Process
exited process code = record process { memory = empty; code = Some code; descriptors = empty }

-- Whether a thread was woken.
abbrev pub is_woken : Option Thread → Bool
is_woken None = false
is_woken (Some thread) = thread.woken

-- The registers at the fault that a handler is handling.
abbrev pub saved_in : Option Thread → Option Context
saved_in None = None
saved_in (Some thread) = thread.saved

-- A thread of a process.
abbrev pub is_of_process : ℕ → Option Thread → Bool
is_of_process p None = false
is_of_process p (Some thread) = thread.process == p

abbrev pub is_thread_in : Mono → ℕ → ℕ → Bool
is_thread_in m p t = is_of_process p (thread_at m t)

-- Register n, of 1 to 31.
abbrev pub register : Context → ℕ → ℕ
register cx n = slice_index cx.x (n - 1)

-- The registers behind a system call: its result in a0, and the next instruction.
abbrev pub returned : Context → ℕ → Context
returned cx result = record { pc = (cx.pc + 4) % 2 ^ 64; x = slice_set cx.x 9 result }

-- A thread joins the end of the ready list.
abbrev pub made_ready : Mono → ℕ → Mono
made_ready m t = record m { lists = with_ready m.lists t }

-- A thread of process p with these registers; it stays woken if it was, and in its handler.
abbrev pub with_registers : Context → Option Thread → ℕ → Thread
with_registers context thread p = record {
  process = p;
  context = context;
  woken = is_woken thread;
  saved = saved_in thread;
}

abbrev pub with_context : Mono → ℕ → ℕ → Context → Mono
with_context m t p context = with_thread m t (with_registers context (thread_at m t) p)

-- A thread gets these registers and joins the end of the ready list.
abbrev pub resumed : Mono → ℕ → ℕ → Context → Mono
resumed m t p context = made_ready (with_context m t p context) t
