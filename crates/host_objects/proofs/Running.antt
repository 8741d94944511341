-- A run in the pages of a process, where they stand among the objects.
use Rattle.std.specs.Prelude.{◌≡◌, ℕ, true, is_some}
use Rattle.std.specs.FinMap.{get, insert}
use Rattle.std.specs.declared.option.Option.{Option}
use Rattle.std.specs.declared.option.Option.TheVariants.{None, Some}
use Rattle.std.proofs.Common.{refl, sym, ap, ◌∙◌}
use Rattle.rv_core.specs.declared.context.Context.{Context}
use Rattle.rv_core.specs.declared.context.Ended.{Ended}
use Rattle.guest_space.specs.Space.{Space}
use Rattle.bas_items.proofs.NumberMaps.{get-insert-other}
use Rattle.abi_calls.specs.declared.object.Object.TheVariants.{Process, Thread, Event, Stream, ReadEnd, WriteEnd}
use Rattle.abi_calls.specs.Objects.{Live, Object, Objects, object_at, running, is_some_thread}
use Rattle.host_objects.specs.Running.{RunsIn, RunsObject, with_registers, SetsRegisters}
use Rattle.host_objects.specs.Turns.{HasHome}

-- What runs is there.
pub runs_there : (x : Option Object) (s : Space) → running x ≡ Some s → is_some x ≡ true
runs_there None s e = absurd cc
runs_there (Some x) s e = refl

-- The process of a thread runs.
pub home_runs : (o : Objects) (t p : ℕ) (context : Context) → HasHome o t → object_at o t ≡ Some (Thread p context) → is_some (running (object_at o p)) ≡ true
home_runs o t p context home at =
    let threads : Some (Thread home.process home.context) ≡ Some (Thread p context) = sym home.is ∙ at in
    let same : home.process ≡ p = cc in
    ap (λ q. is_some (running (object_at o q))) (sym same) ∙ ap is_some home.runs

-- A run of an object is one among the objects, where it is put in its place.
pub runs_in : (live live' : Live) (p most : ℕ) (x x' : Object) (context : Context) (ended : Ended) (context' : Context) → get live p ≡ Some x → live' ≡ insert live p x'
    → RunsObject most x context ended x' context' → RunsIn live p most context ended live' context'
runs_in live live' p most x x' context ended context' at set runs = record {
  memory = runs.memory;
  space = runs.space;
  runs = ap running at ∙ ap (λ y. running (Some y)) runs.was;
  led = runs.led;
  now = set ∙ ap {A = Object} (insert live p) runs.now;
}

-- ---- the registers of a thread, where it stands
pub thread_there : (x : Option Object) → is_some_thread x ≡ true → is_some x ≡ true
thread_there None is = absurd cc
thread_there (Some x) is = refl

pub sets_registers : (live live' : Live) (t : ℕ) (x x' : Object) (context : Context) → get live t ≡ Some x → is_some_thread (Some x) ≡ true → x' ≡ with_registers x context
    → live' ≡ insert live t x' → SetsRegisters live t context live'
sets_registers live live' t (Thread p before) x' context at is registers set = record { process = p; before = before; was = at; now = set ∙ ap {A = Object} (insert live t) registers }
sets_registers live live' t (Process memory code) x' context at is registers set = absurd cc
sets_registers live live' t (Event set_) x' context at is registers set = absurd cc
sets_registers live live' t (Stream name) x' context at is registers set = absurd cc
sets_registers live live' t (ReadEnd pipe) x' context at is registers set = absurd cc
sets_registers live live' t (WriteEnd pipe) x' context at is registers set = absurd cc

-- A thread stays as it is when its process changes.
pub thread_stays : (live live' : Live) (t p : ℕ) (context : Context) (s memory : Space) → get live t ≡ Some (Thread p context) → running (get live p) ≡ Some memory
    → live' ≡ insert live p (Process s None) → get live' t ≡ Some (Thread p context)
thread_stays live live' t p context s memory is runs set =
    ap {A = Live} (λ m. get m t) set ∙ get-insert-other live p (Process s None) t (λ same.
    let none : running (get live p) ≡ None = sym (ap (λ q. running (get live q)) same) ∙ ap running is in
    absurd cc) ∙ is
