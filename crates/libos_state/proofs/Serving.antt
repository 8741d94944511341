-- The trap that a service serves.
use Rattle.std.specs.Prelude.{◌≡◌, ℕ, ◌≤◌, ◌==◌, true, false, not, ◌&&◌, List, [], ◌∷◌, length}
use Rattle.std.specs.declared.option.Option.{Option}
use Rattle.std.specs.declared.option.Option.TheVariants.{None, Some}
use Rattle.std.proofs.Common.{refl, sym, ap, subst, ◌∙◌, arith, eq-eqb}
use Rattle.std.proofs.lemmas.Bool.{and_parts, and_from, or_right}
use Rattle.turn_sched.specs.Lists.{is_resting, is_at, contains}
use Rattle.abi_calls.specs.declared.threads.Upcall.{Upcall}
use Rattle.abi_calls.specs.Objects.{Objects}
use Rattle.mono_model.specs.Machine.{register}
use Rattle.mono_model.specs.Calls.{is_exit}
use Rattle.libos_state.specs.declared.cont.Cont.{Cont}
use Rattle.libos_state.specs.declared.cont.Event.{Event}
use Rattle.libos_state.specs.declared.cont.Event.TheVariants as event
use Rattle.libos_state.specs.declared.cont.Stage.{Stage}
use Rattle.libos_state.specs.declared.cont.Stage.TheVariants.{SetContext, StoreBytes, CloseStream}
use Rattle.libos_state.specs.declared.state.LibOs.{LibOs}
use Rattle.libos_state.specs.Pending.{upcall_in}
use Rattle.libos_state.specs.Named.{Named, named_as, kept_names}
use Rattle.libos_state.specs.Answered.{bare, goes_on, service_with_result, service_storing}
use Rattle.libos_state.specs.Fits.{most_stored, FitsRecords, FitsObjects, FitsStage, FitsEvent, FitsTrap, FitsKept, FitsMade, AreNames, HasHandles, ending_at, keeps_names, numbers_at, comes_to, is_of_start, is_recorded, returns, is_exit_call, counted}
use Rattle.libos_state.proofs.Going.{with_service, FitsRecords-with_service, FitsObjects-with_service}

-- The event of a stage that starts nothing is a trap.
pub trap_of : (os : LibOs) (o : Objects) (e : Event) (stage : Stage) → is_of_start stage ≡ false → FitsEvent os o e stage → FitsTrap os o (upcall_in e) stage
trap_of os o (event.Up u) stage serves fits = fits
trap_of os o (event.Boot program args) stage serves fits = absurd (let e : true ≡ false = sym fits.starts ∙ serves in cc)

-- The same trap at another stage.
pub on_trap : (os os' : LibOs) (o o' : Objects) (e : Event) (stage stage' : Stage) → is_of_start stage ≡ false → FitsEvent os o e stage
    → FitsTrap os' o' (upcall_in e) stage' → FitsEvent os' o' e stage'
on_trap os os' o o' (event.Up u) stage stage' serves fits trap = trap
on_trap os os' o o' (event.Boot program args) stage stage' serves fits trap = absurd (let e : true ≡ false = sym fits.starts ∙ serves in cc)

pub named_as-no_kinds : (hs : List ℕ) → named_as hs [] ≡ []
named_as-no_kinds [] = refl
named_as-no_kinds (h ∷ hs) = refl

-- A thread that is current rests.
pub current_rests : (o : Objects) (t : ℕ) → o.lists.current ≡ Some t → is_resting o.lists t ≡ true
current_rests o t is = or_right (contains o.lists.suspended t) (is_at t o.lists.current) (ap (is_at t) is ∙ eq-eqb t t refl)

-- A call that its thread goes on behind has a thread that is recorded.
pub returns-recorded : (os : LibOs) (u : Upcall) → returns os u ≡ true → is_recorded os u ≡ true
returns-recorded os u is = (and_parts (not (is_exit_call u)) (is_recorded os u) (and_parts (u.cause == 8) (not (is_exit_call u) && is_recorded os u) is).1).1

-- A call that isn't an exit goes on behind itself.
pub returns-call : (os : LibOs) (u : Upcall) → (u.cause == 8) ≡ true → is_exit (register u.context 17) ≡ false → is_recorded os u ≡ true → returns os u ≡ true
returns-call os u call other recorded =
    let stays : not (is_exit_call u) ≡ true = λ i. not (call i && other i) in
    and_from (u.cause == 8) (not (is_exit_call u) && is_recorded os u) call (and_from (not (is_exit_call u)) (is_recorded os u) stays recorded)

-- The trap doesn't hang on the service in progress.
pub FitsTrap-with_service : (os : LibOs) (cont : Option Cont) (o : Objects) (u : Upcall) (stage stage' : Stage) → FitsTrap os o u stage → comes_to os u stage' ≡ true
    → FitsTrap (with_service os os.boot cont) o u stage'
FitsTrap-with_service os cont o u stage stage' fits comes = record {
  up = fits.up;
  first = fits.first;
  current = fits.current;
  home = fits.home;
  comes = comes;
}

-- All records count at a stage that keeps no handle.
counted-none : (os : LibOs) (c : Cont) (stage : Stage) → HasHandles stage [] → counted os c stage ≡ os
counted-none os c CloseStream none = absurd (omega arith)
counted-none os c stage none = refl

-- A stage of a trap that keeps numbers alone, names nothing, and at which no process ends.
pub numbers_fit : (os : LibOs) (o : Objects) (c : Cont) (stage : Stage) (numbers : List ℕ) →
    let next = record (bare c stage) { numbers = numbers } in
    FitsRecords os → FitsObjects os o [] None → FitsEvent (goes_on os next) o c.event stage → ◌≡◌ {A = List Named × Option ℕ} (kept_names (goes_on os next) next stage, ending_at next stage) ([], None) → keeps_names stage ≡ false →
    HasHandles stage [] → length numbers ≡ numbers_at stage → FitsKept (goes_on os next) next stage → FitsMade o next stage → FitsStage (goes_on os next) o next stage
numbers_fit os o c stage numbers records objects event ends unnamed handles count kept made =
    let next = record (bare c stage) { numbers = numbers } in
    let all = sym (counted-none (goes_on os next) next stage handles) in
    let fits = FitsObjects-with_service os os.boot (Some next) o [] None objects in
    record {
      records = FitsRecords-with_service os os.boot (Some next) records;
      objects = subst (λ counts. FitsObjects counts o (kept_names (goes_on os next) next stage) (ending_at next stage)) all
          (subst (λ (x : List Named × Option ℕ). FitsObjects (goes_on os next) o x.0 x.1) (sym ends) fits);
      event = event;
      lists = record {
        next = λ keeps. refl;
        names = λ keeps. refl;
        bytes = λ keeps. refl;
        handles = handles;
        later = refl;
        numbers = count;
      };
      names = subst (AreNames next) (sym unnamed) tt;
      kept = kept;
      made = made;
    }

-- A result that is known: the thread gets it next.
pub result_fits : (os : LibOs) (o : Objects) (c : Cont) (result : ℕ) → FitsRecords os → FitsObjects os o [] None
    → FitsEvent (goes_on os (service_with_result c result)) o c.event SetContext
    → FitsStage (goes_on os (service_with_result c result)) o (service_with_result c result) SetContext
result_fits os o c result records objects fits = record {
  records = FitsRecords-with_service os os.boot (Some (service_with_result c result)) records;
  objects = FitsObjects-with_service os os.boot (Some (service_with_result c result)) o [] None objects;
  event = fits;
  lists = record {
    next = λ keeps. absurd (cc);
    names = λ keeps. refl;
    bytes = λ keeps. refl;
    handles = refl;
    later = refl;
    numbers = refl;
  };
  names = tt;
  kept = tt;
  made = tt;
}

-- Bytes that go to the caller's memory next.
pub storing_fits : (os : LibOs) (o : Objects) (c : Cont) (address : ℕ) (bytes : List ℕ) (result : ℕ) →
    let next = service_storing c address bytes result in
    FitsRecords os → FitsObjects os o [] None → FitsEvent (goes_on os next) o c.event StoreBytes → length bytes ≤ most_stored (upcall_in c.event)
    → FitsStage (goes_on os next) o next StoreBytes
storing_fits os o c address bytes result records objects event few =
    let next = service_storing c address bytes result in
    record {
      records = FitsRecords-with_service os os.boot (Some next) records;
      objects = FitsObjects-with_service os os.boot (Some next) o [] None objects;
      event = event;
      lists = record { next = λ keeps. refl; names = λ keeps. refl; bytes = λ keeps. absurd (cc); handles = refl; later = refl; numbers = refl };
      names = tt;
      kept = few;
      made = tt;
    }
