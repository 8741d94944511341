-- Where a thread stands in the lists of a scheduler, which keeps threads by their numbers alone.
use Rattle.std.specs.Prelude.{ℕ, Bool, ◌||◌, [], ◌∷◌, ◌++◌}
use Rattle.std.specs.declared.option.Option.TheVariants.{None, Some}
use Rattle.turn_sched.specs.Lists.{Lists, contains, without, is_at, other_than, with_ready, without_place}

-- A thread stands in one of the lists, or is current.
abbrev pub is_listed : Lists ℕ → ℕ → Bool
is_listed l t =
    contains l.ready t || (contains l.waiting t || (contains l.suspended t || is_at t l.current))

-- The lists without a thread, wherever it stood.
abbrev pub without_thread : Lists ℕ → ℕ → Lists ℕ
without_thread l t = record {
  ready = without l.ready t;
  waiting = without l.waiting t;
  suspended = without l.suspended t;
  current = other_than t l.current;
}

-- The current thread waits: it is the last to do so.
abbrev pub with_current_waiting : Lists ℕ → ℕ → Lists ℕ
with_current_waiting l t = record l { waiting = l.waiting ++ t ∷ []; current = None }

-- A waiting thread waits no more: it joins the end of the ready list.
abbrev pub with_woken_thread : Lists ℕ → ℕ → Lists ℕ
with_woken_thread l t = with_ready (record l { waiting = without l.waiting t }) t

-- The ready thread at a place is current.
abbrev pub with_picked : Lists ℕ → ℕ → ℕ → Lists ℕ
with_picked l place t = record (without_place l place) { current = Some t }

-- The current thread joins the end of the ready list.
abbrev pub with_current_ready : Lists ℕ → ℕ → Lists ℕ
with_current_ready l t = with_ready (record l { current = None }) t
