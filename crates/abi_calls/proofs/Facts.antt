-- What hosts and their callers need of objects that are sound.
use Rattle.std.specs.Prelude.{◌≡◌, ◌≢◌, ℕ, zero, suc, ◌≤◌, ◌==◌, Bool, true, false, not, ◌||◌, cond, nat_le, length, is_some, slice_get}
use Rattle.std.specs.List.{list_all}
use Rattle.std.specs.FinMap.{empty, get}
use Rattle.std.specs.Ordering.{nat_cmp}
use Rattle.std.specs.declared.option.Option.{Option}
use Rattle.std.specs.declared.option.Option.TheVariants.{None, Some}
use Rattle.std.proofs.Common.{arith, refl, ap, ◌∙◌}
use Rattle.std.proofs.lemmas.Bool.{and_parts, or_from, ne_eqb}
use Rattle.rv_core.specs.declared.context.Context.{Context}
use Rattle.guest_space.specs.Space.{Space}
use Rattle.turn_sched.specs.Lists.{Waiting, contains, standings}
use Rattle.turn_sched.proofs.ThreadLists.{list_all-weaker, contains-failing, times-at, mentions_number-none, AreEmpty, AreEmpty-nowhere}
use Rattle.abi_calls.specs.declared.limits.TheConstants.{MOST_WAITS}
use Rattle.abi_calls.specs.declared.object.Object.TheVariants.{Process, Thread, Event, Stream, ReadEnd, WriteEnd}
use Rattle.abi_calls.specs.Objects.{Object, Objects, object_at, running, is_some_thread, mentions, IsFresh}
use Rattle.abi_calls.specs.Sound.{IsSound, is_sound_wait, can_be_awaited}
use Rattle.bas_items.proofs.NumberMaps.{get-empty}

-- A thread with its process, which runs.
pub record RunsIn (o : Objects) (t p : ℕ) (context : Context) (space : Space) : Type 0 where
  pub thread : object_at o t ≡ Some (Thread p context)
  pub process : running (object_at o p) ≡ Some space

pub record Home (o : Objects) (t : ℕ) : Type 0 where
  pub process : ℕ
  pub context : Context
  pub space : Space
  pub runs : RunsIn o t process context space

home_in : (o : Objects) (t p : ℕ) (context : Context) → object_at o t ≡ Some (Thread p context) → (memory : Option Space) → running (object_at o p) ≡ memory → is_some memory ≡ true → Home o t
home_in o t p context thread None is runs = absurd (cc)
home_in o t p context thread (Some space) is runs = record { process = p; context = context; space = space; runs = record { thread = thread; process = is } }

-- A live thread has a process that runs.
pub home_of : (o : Objects) (t : ℕ) → IsSound o → (x : Option Object) → object_at o t ≡ x → is_some_thread x ≡ true → Home o t
home_of o t sound (Some (Thread p context)) is thread = home_in o t p context is (running (object_at o p)) refl (sound.objects t (Thread p context) is)
home_of o t sound (Some (Process memory code)) is thread = absurd (cc)
home_of o t sound (Some (Event set)) is thread = absurd (cc)
home_of o t sound (Some (Stream name)) is thread = absurd (cc)
home_of o t sound (Some (ReadEnd pipe)) is thread = absurd (cc)
home_of o t sound (Some (WriteEnd pipe)) is thread = absurd (cc)
home_of o t sound None is thread = absurd (cc)

-- What stands somewhere is a live thread.
pub thread-standing : (o : Objects) (t : ℕ) → IsSound o → 1 ≤ standings o.lists t → is_some_thread (object_at o t) ≡ true
thread-standing o t sound some = is_there (is_some_thread (object_at o t)) refl
  where
    is_there : (b : Bool) → is_some_thread (object_at o t) ≡ b → is_some_thread (object_at o t) ≡ true
    is_there true is = is
    is_there false is = absurd (let none : standings o.lists t ≡ 0 = sound.standing t ∙ ap (λ b. cond b 1 0) is in omega arith)

pub standings-no_thread : (o : Objects) (t : ℕ) → IsSound o → is_some_thread (object_at o t) ≡ false → standings o.lists t ≡ 0
standings-no_thread o t sound is = sound.standing t ∙ ap (λ b. cond b 1 0) is

-- A thread in the ready list, and the current one, have a process that runs.
pub ready_thread : (o : Objects) (place t : ℕ) → IsSound o → slice_get o.lists.ready place ≡ Some t → Home o t
ready_thread o place t sound at =
    home_of o t sound (object_at o t) refl (thread-standing o t sound (let some = times-at o.lists.ready place t at in omega arith))

-- ---- numbers that are fresh

-- A number of no object that isn't 0 is in no list.
pub mentions-free : (o : Objects) (h : ℕ) → IsSound o → 1 ≤ h → object_at o h ≡ None → mentions o h ≡ false
mentions-free o h sound positive free =
    let awaited : ℕ → Bool = λ k. k == 0 || can_be_awaited (object_at o k) in
    let unawaited : awaited h ≡ false = or_from _ _ (ne_eqb h 0 (λ zero. absurd (omega arith))) (ap can_be_awaited free) in
    mentions_number-none o.lists h (standings-no_thread o h sound (ap is_some_thread free))
    (list_all-weaker (is_sound_wait o) (λ (w : Waiting). not (contains w.handles h))
    (λ w is. ap not (contains-failing awaited h w.handles (and_parts (list_all awaited w.handles) (nat_le (length w.handles) MOST_WAITS) is).0 unawaited)) o.lists.waiting sound.waits)

-- So a number of at least 1 that names no object is fresh.
pub fresh_number : (o : Objects) (h : ℕ) → IsSound o → 1 ≤ h → object_at o h ≡ None → IsFresh o h
fresh_number o h sound positive free = record { positive = positive; free = free; unlisted = mentions-free o h sound positive free }

-- An object's number is at least 1.
pub live_positive : (o : Objects) (h : ℕ) → IsSound o → object_at o h ≢ None → 1 ≤ h
live_positive o zero sound live = absurd (live sound.positive)
live_positive o (suc h) sound live = omega arith

-- Without objects nothing stands anywhere.
pub AreEmpty-no_objects : (o : Objects) → IsSound o → o.live ≡ empty → AreEmpty o.lists
AreEmpty-no_objects o sound none = AreEmpty-nowhere o.lists (λ t. standings-no_thread o t sound (ap (λ m. is_some_thread (get {R = nat_cmp} m t)) none ∙ ap is_some_thread (get-empty t)))
