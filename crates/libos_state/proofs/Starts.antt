-- What a start keeps while it goes on: its event, its names, and that nothing is recorded.
use Rattle.std.specs.Prelude.{◌≡◌, ℕ, Bool, true, false, List, [], length}
use Rattle.std.specs.declared.option.Option.TheVariants.{None, Some}
use Rattle.std.proofs.Common.{refl, sym, subst}
use Rattle.abi_calls.specs.declared.threads.Upcall.{Upcall}
use Rattle.abi_calls.specs.Objects.{Objects}
use Rattle.libos_state.specs.declared.cont.Cont.{Cont}
use Rattle.libos_state.specs.declared.cont.Event.{Event}
use Rattle.libos_state.specs.declared.cont.Event.TheVariants as event
use Rattle.libos_state.specs.declared.cont.Stage.{Stage}
use Rattle.libos_state.specs.declared.cont.Stage.TheVariants.{SetContext, Resume, CloseEvent, ExitThread, CloseHandles, ExitProcess, ReadBuffer, WriteStream, ReadStream, StoreBytes, AppendLength, FileLength, SetFileLength, AllocatePages, FreePages, ProtectPages, CloseStream}
use Rattle.libos_state.specs.declared.state.Boot.{Boot}
use Rattle.libos_state.specs.declared.state.LibOs.{LibOs}
use Rattle.libos_state.specs.Answered.{goes_on, starting}
use Rattle.libos_state.specs.Named.{kept_names, named_as, consoles}
use Rattle.libos_state.specs.Fits.{FitsNone, FitsStage, FitsStart, FitsEvent, FitsObjects, FitsKept, FitsMade, FitsNames, AreNames, HasHandles, comes_to, counted, ending_at, is_of_start, keeps_bytes, keeps_next, keeps_names, numbers_at}
use Rattle.libos_state.proofs.Going.{with_service, FitsRecords-with_service, FitsObjects-with_service}

-- No trap comes to a stage of a start.
comes_to-start : (os : LibOs) (u : Upcall) (stage : Stage) → is_of_start stage ≡ true
    → comes_to os u stage ≡ false
comes_to-start os u SetContext starts = absurd (cc)
comes_to-start os u Resume starts = absurd (cc)
comes_to-start os u CloseStream starts = absurd (cc)
comes_to-start os u CloseEvent starts = absurd (cc)
comes_to-start os u ExitThread starts = absurd (cc)
comes_to-start os u CloseHandles starts = absurd (cc)
comes_to-start os u ExitProcess starts = absurd (cc)
comes_to-start os u ReadStream starts = absurd (cc)
comes_to-start os u StoreBytes starts = absurd (cc)
comes_to-start os u ReadBuffer starts = absurd (cc)
comes_to-start os u AppendLength starts = absurd (cc)
comes_to-start os u WriteStream starts = absurd (cc)
comes_to-start os u FileLength starts = absurd (cc)
comes_to-start os u SetFileLength starts = absurd (cc)
comes_to-start os u AllocatePages starts = absurd (cc)
comes_to-start os u FreePages starts = absurd (cc)
comes_to-start os u ProtectPages starts = absurd (cc)
comes_to-start os u _ starts = refl

keeps_next-start : (stage : Stage) → is_of_start stage ≡ true → keeps_next stage ≡ false
keeps_next-start SetContext starts = absurd (cc)
keeps_next-start Resume starts = absurd (cc)
keeps_next-start CloseStream starts = absurd (cc)
keeps_next-start _ starts = refl

counted-start : (os : LibOs) (c : Cont) (stage : Stage) → is_of_start stage ≡ true → counted os c stage ≡ os
counted-start os c CloseStream starts = absurd (cc)
counted-start os c _ starts = refl

kept_names-start : (os os' : LibOs) (c : Cont) (stage : Stage) → is_of_start stage ≡ true → kept_names os c stage ≡ kept_names os' c stage
kept_names-start os os' c CloseStream starts = absurd (cc)
kept_names-start os os' c _ starts = refl

ending_at-start : (c : Cont) (stage : Stage) → is_of_start stage ≡ true → ending_at c stage ≡ None
ending_at-start c CloseHandles starts = absurd (cc)
ending_at-start c ExitProcess starts = absurd (cc)
ending_at-start c _ starts = refl

names_where : (c : Cont) (kept : Bool) → kept ≡ true → AreNames c kept → FitsNames c
names_where c true is names = names
names_where c false is names = absurd (cc)

-- What a stage of a start serves is a start.
pub FitsStart-event : (os : LibOs) (o : Objects) (e : Event) (stage : Stage)
    → is_of_start stage ≡ true → FitsEvent os o e stage → FitsStart os o stage
FitsStart-event os o (event.Boot program args) stage starts fits = fits
FitsStart-event os o (event.Up u) stage starts fits =
    absurd (let e = fits.comes in let none = comes_to-start os u stage starts in cc)

FitsEvent-start : (os os' : LibOs) (o o' : Objects) (e : Event) (stage next : Stage)
    → is_of_start stage ≡ true → FitsEvent os o e stage → FitsStart os' o' next
    → FitsEvent os' o' e next
FitsEvent-start os os' o o' (event.Boot program args) stage next starts fits start = start
FitsEvent-start os os' o o' (event.Up u) stage next starts fits start =
    absurd (let e = fits.comes in let none = comes_to-start os u stage starts in cc)

module _ (os : LibOs) (o : Objects) (c : Cont) (stage : Stage) (starts : is_of_start stage ≡ true)
    (fits : FitsStage os o c stage) where
  pub start_of : FitsStart os o stage
  start_of = FitsStart-event os o c.event stage starts fits.event

  pub names_of : FitsNames c
  names_of = names_where c (keeps_names stage) starts fits.names

  -- The start goes on at another stage, over objects that it fits.
  pub start_goes_on : (o' : Objects) (next : Stage) (bytes handles numbers : List ℕ)
      → is_of_start next ≡ true → o'.lists.current ≡ None
      → FitsObjects os o' (kept_names os (starting c next bytes handles numbers) next) None
      → (keeps_bytes next ≡ false → bytes ≡ []) → HasHandles next handles
      → length numbers ≡ numbers_at next
      → FitsKept (goes_on os (starting c next bytes handles numbers))
      (starting c next bytes handles numbers) next
      → FitsMade o' (starting c next bytes handles numbers) next
      → FitsStage (goes_on os (starting c next bytes handles numbers)) o'
      (starting c next bytes handles numbers) next
  start_goes_on o' next bytes handles numbers onward current objects read held many kept made =
      let c' = starting c next bytes handles numbers in
      let os' = goes_on os c' in
      record {
        records = FitsRecords-with_service os os.boot (Some c') fits.records;
        objects = subst (λ counts. FitsObjects counts o' (kept_names os' c' next) (ending_at c' next)) (sym (counted-start os' c' next onward))
            (subst (FitsObjects os' o' (kept_names os' c' next)) (sym (ending_at-start c' next onward))
            (subst (λ names. FitsObjects os' o' names None) (kept_names-start os os' c' next onward)
            (FitsObjects-with_service os os.boot (Some c') o' (kept_names os c' next) None objects)));
        event = FitsEvent-start os os' o o' c.event stage next starts fits.event (record {
          going = start_of.going;
          next_id = start_of.next_id;
          processes = start_of.processes;
          threads = start_of.threads;
          descriptions = start_of.descriptions;
          queue = start_of.queue;
          current = current;
          starts = onward;
        });
        lists = record {
          next = λ _. fits.lists.next (keeps_next-start stage starts);
          names = λ none. absurd (cc);
          bytes = read;
          handles = held;
          later = fits.lists.later;
          numbers = many;
        };
        names = subst (AreNames c') (sym onward) (record { some = names_of.some; named = names_of.named; short = names_of.short; few = names_of.few; args = names_of.args });
        kept = kept;
        made = made;
      }

  -- The start ends without a program, with the ends of the console open.
  pub start_stops : (o' : Objects) (boot : Boot) (handles : List ℕ)
      → o'.lists.current ≡ None → length handles ≡ length consoles
      → FitsObjects os o' (named_as handles consoles) None
      → FitsNone (with_service os boot None) o'
  start_stops o' boot handles current held objects = record {
    processes = start_of.processes;
    threads = start_of.threads;
    descriptions = start_of.descriptions;
    queue = start_of.queue;
    next_id = start_of.next_id;
    handles = handles;
    all = held;
    objects = FitsObjects-with_service os boot None o' (named_as handles consoles) None objects;
    current = current;
  }
