-- Where threads stand, by their numbers: the lists of a scheduler.
use Rattle.std.specs.Prelude.{ℕ, ◌+◌, ◌==◌, ◌%◌, ◌≤◌, Bool, false, not, ◌||◌, if◌then◌else◌, List, [], ◌∷◌, ◌++◌, map, filter, length, count_by, slice_get, remove as remove_at}
use Rattle.std.specs.List.{list_any}
use Rattle.std.specs.Option.{option_map}
use Rattle.std.specs.declared.option.Option.{Option}
use Rattle.std.specs.declared.option.Option.TheVariants.{None, Some}

-- A thread that waits for one of several numbers, 0 standing for one that is gone, or until a time.
pub record Waiting : Type 0 where
  pub thread : ℕ
  pub handles : List ℕ
  pub deadline : Option ℕ

-- Each thread is ready, waits or is suspended, in the order of each list, or it is the current one.
-- W is what is known of a thread that waits.
pub record Lists (W : Type 0) : Type 0 where
  pub ready : List ℕ
  pub waiting : List W
  pub suspended : List ℕ
  pub current : Option ℕ

abbrev pub no_threads : {W : Type 0} → Lists W
no_threads = record { ready = []; waiting = []; suspended = []; current = None }

abbrev pub contains : List ℕ → ℕ → Bool
contains xs t = list_any (λ x. x == t) xs

-- The list without a number.
abbrev pub without : List ℕ → ℕ → List ℕ
without xs t = filter (λ x. not (x == t)) xs

abbrev pub is_at : ℕ → Option ℕ → Bool
is_at t None = false
is_at t (Some k) = k == t

-- The current thread, unless it is the one that goes.
abbrev pub other_than : ℕ → Option ℕ → Option ℕ
other_than t None = None
other_than t (Some k) = if k == t then None else Some k

-- The current thread, unless it ends.
abbrev pub unless_ended : (ℕ → Bool) → Option ℕ → Option ℕ
unless_ended ends None = None
unless_ended ends (Some k) = if ends k then None else Some k

-- How many threads are current.
abbrev pub count_of : Option ℕ → ℕ
count_of None = 0
count_of (Some k) = 1

-- A thread that rests is suspended or current.
abbrev pub is_resting : {W : Type 0} → Lists W → ℕ → Bool
is_resting l t = contains l.suspended t || is_at t l.current

-- A thread joins the end of the ready list, or of the suspended ones.
abbrev pub with_ready : {W : Type 0} → Lists W → ℕ → Lists W
with_ready l t = record l { ready = l.ready ++ t ∷ [] }

abbrev pub with_suspended : {W : Type 0} → Lists W → ℕ → Lists W
with_suspended l t = record l { suspended = l.suspended ++ t ∷ [] }

-- A thread rests no more.
abbrev pub without_resting : {W : Type 0} → Lists W → ℕ → Lists W
without_resting l t =
    record l { suspended = without l.suspended t; current = other_than t l.current }

-- A thread that rests joins the end of the ready list.
abbrev pub with_resumed : {W : Type 0} → Lists W → ℕ → Lists W
with_resumed l t = with_ready (without_resting l t) t

-- Waiting threads that are due join the end of the ready list, in waiting order.
abbrev pub with_woken : {W : Type 0} → (W → ℕ) → (W → Bool) → Lists W → Lists W
with_woken thread_of is_due l = record l {
  ready = l.ready ++ map thread_of (filter is_due l.waiting);
  waiting = filter (λ w. not (is_due w)) l.waiting;
}

-- The place of the ready thread that a word picks: the word modulo how many are ready.
abbrev pub picked_place : {W : Type 0} → ℕ → Lists W → ℕ
picked_place word l = word % length l.ready

-- The ready thread that a word picks, if one is ready.
abbrev pub picked_by : {W : Type 0} → ℕ → Lists W → Option ℕ
picked_by word l = slice_get l.ready (picked_place word l)

-- The ready thread at a place leaves its list.
abbrev pub without_place : {W : Type 0} → Lists W → ℕ → Lists W
without_place l place = record l { ready = remove_at l.ready place }

-- A number that ends is 0 where a thread waits for it.
abbrev pub with_gone : (ℕ → Bool) → Waiting → Waiting
with_gone ends w = record w { handles = map (λ h. if ends h then 0 else h) w.handles }

-- The numbers that end leave every list, and are gone where a thread waits for them.
abbrev pub without_numbers : (ℕ → Bool) → Lists Waiting → Lists Waiting
without_numbers ends l = record {
  ready = filter (λ t. not (ends t)) l.ready;
  waiting = map (with_gone ends) (filter (λ w. not (ends w.thread)) l.waiting);
  suspended = filter (λ t. not (ends t)) l.suspended;
  current = unless_ended ends l.current;
}

-- A waiting thread is this number, or waits for it.
abbrev pub is_waiting_with : ℕ → Waiting → Bool
is_waiting_with h w = w.thread == h || contains w.handles h

-- A list mentions a number.
abbrev pub mentions_number : Lists Waiting → ℕ → Bool
mentions_number l h =
    contains l.ready h || (list_any (is_waiting_with h) l.waiting ||
    (contains l.suspended h || is_at h l.current))

-- How often a number stands in a list.
abbrev pub times : ℕ → List ℕ → ℕ
times t xs = count_by (λ x. x == t) xs

abbrev pub option_list : Option ℕ → List ℕ
option_list None = []
option_list (Some t) = t ∷ []

-- The threads that wait.
abbrev pub waiting_threads : Lists Waiting → List ℕ
waiting_threads l = map (λ w. w.thread) l.waiting

-- How often a thread stands anywhere.
abbrev pub standings : Lists Waiting → ℕ → ℕ
standings l t =
    times t l.ready + (times t (waiting_threads l) +
    (times t l.suspended + times t (option_list l.current)))

-- The same lists where each number has another name.
abbrev pub renamed_waiting : (ℕ → ℕ) → Waiting → Waiting
renamed_waiting name w =
    record { thread = name w.thread; handles = map name w.handles; deadline = w.deadline }

abbrev pub renamed_lists : (ℕ → ℕ) → Lists Waiting → Lists Waiting
renamed_lists name l = record {
  ready = map name l.ready;
  waiting = map (renamed_waiting name) l.waiting;
  suspended = map name l.suspended;
  current = option_map name l.current;
}

-- What a scheduler keeps: the lists, by numbers alone, and how many more threads can be added
-- without taking memory.
pub record Scheduled : Type 0 where
  pub lists : Lists ℕ
  pub spare : ℕ

-- Each of three lists has room for so many threads.
pub record HasRoom (threads ready waiting suspended : ℕ) : Type 0 where
  pub for_ready : threads ≤ ready
  pub for_waiting : threads ≤ waiting
  pub for_suspended : threads ≤ suspended
