-- The stages of a process that ends: its handles are closed, and it exits.
use Rattle.std.specs.Prelude.{◌≡◌, ◌≢◌, ℕ, zero, suc, ◌≤◌, ◌%◌, ◌==◌, ◌<◌, Bool, true, false, not, cond, ◌&&◌, List, [], ◌∷◌, ◌++◌, map, drop, length, slice_index, is_some}
use Rattle.std.specs.List.{list_all}
use Rattle.std.specs.Ordering.{nat_cmp}
use Rattle.std.specs.FinMap.{get, empty}
use Rattle.std.specs.declared.option.Option.{Option}
use Rattle.std.specs.declared.option.Option.TheVariants.{None, Some}
use Rattle.std.proofs.Common.{refl, sym, ap, subst, ◌∙◌, arith, eq-eqb, eqb-true, ne_eqb}
use Rattle.std.proofs.lemmas.Bool.{cond-true, cond-false, and_parts, eqb-false}
use Rattle.turn_sched.specs.Lists.{is_at, unless_ended}
use Rattle.guest_space.specs.Space.{Space}
use Rattle.libos_state.specs.declared.notes.Kind.{Kind}
use Rattle.abi_calls.specs.declared.object.Object.TheVariants.{Process, Thread, Event, Stream, ReadEnd, WriteEnd}
use Rattle.abi_calls.specs.declared.reply.Reply.{Reply}
use Rattle.abi_calls.specs.declared.reply.Reply.TheVariants.{Done}
use Rattle.abi_calls.specs.declared.threads.Upcall.{Upcall}
use Rattle.abi_calls.specs.Objects.{Object, Objects, object_at, running, is_thread_of, with_object, without_handles}
use Rattle.abi_calls.specs.Processes.{close_row, process_exit_row, without_threads}
use Rattle.abi_calls.specs.Sound.{IsSound}
use Rattle.abi_calls.proofs.SoundChanges.{object_at-without_handles, object_at-left}
use Rattle.bas_items.proofs.NumberMaps.{get-insert, get-insert-same, get-insert-other}
use Rattle.mono_model.specs.Starting.{Runs}
use Rattle.libos_state.specs.declared.cont.Cont.{Cont}
use Rattle.libos_state.specs.declared.cont.Stage.TheVariants.{CloseHandles, ExitProcess}
use Rattle.libos_state.specs.declared.notes.Description.{Description}
use Rattle.libos_state.specs.declared.notes.ProcessNote.{ProcessNote}
use Rattle.libos_state.specs.declared.notes.ThreadNote.{ThreadNote}
use Rattle.libos_state.specs.declared.state.LibOs.{LibOs}
use Rattle.libos_state.specs.Records.{View, Visible, visible, with_visible, base, process_named, process_with, thread_named, process_if, process_seen, thread_seen, file_seen, description_named, description_seen, memory_of_object, context_of, is_set}
use Rattle.libos_state.specs.Pending.{asked, upcall_in, handle, number}
use Rattle.libos_state.specs.Answered.{goes_on, ends, service_closing}
use Rattle.libos_state.specs.Meaning.{settles, meaning, meant_settled}
use Rattle.libos_state.specs.Named.{Named, ObjectKind, AProcess, AThread, AnEvent, AStreamOf, AStream, ToClose, is_of, recorded, times_named}
use Rattle.libos_state.specs.Fits.{FitsRecords, FitsObjects, FitsStage, FitsCont, FitsUp, FitsBoot, FitsEvent, FitsTrap, KeepsCode, is_to_name, is_code, has_code, handle_in, is_home, is_ended_with}
use Rattle.libos_state.proofs.Holds.{Holds}
use Rattle.libos_state.proofs.Rows.{Stands, by_row}
use Rattle.libos_state.proofs.Going.{FitsRecords-with_service, FitsObjects-with_service}
use Rattle.libos_state.proofs.Naming.{is_named, find-passes, list_all-find, list_all-counted, list_all-except, eqb-flipped, times_recorded, times_named-recorded, times_named-append, times_recorded-most, KindsRecorded, kinds-lists, process_with-found, kinds-kept, unrecorded-kept, unrecorded-free, times_named-cons, FitsObjects-closed, ThreadOf, thread_of, RunningOf, running_of}
use Rattle.libos_state.proofs.Bases.{processes_of-kept, threads_of-kept, descriptions_of-kept, description_seen-kept, base-without_handles}
use Rattle.libos_state.proofs.Serving.{trap_of, on_trap, named_as-no_kinds, FitsTrap-with_service}
use Rattle.libos_state.proofs.Views.{AnswersAs, on_objects}

-- What is kept to be closed.
abbrev pub to_close : List ℕ → List Named
to_close hs = map (λ h. (h, ToClose)) hs

-- ---- the process that ends goes on so

module _ (os : LibOs) (o : Objects) (c : Cont) (records : FitsRecords os) (event : FitsEvent os o c.event CloseHandles) (kept : KeepsCode os c) where
  closing_event : (cont : Option Cont) → FitsEvent (record os { cont = cont }) o c.event CloseHandles
  closing_event cont =
      let trap = trap_of os o c.event CloseHandles refl event in
      on_trap os (record os { cont = cont }) o o c.event CloseHandles CloseHandles refl event (FitsTrap-with_service os cont o (upcall_in c.event) CloseHandles CloseHandles trap trap.comes)

  exiting_event : (cont : Option Cont) → FitsEvent (record os { cont = cont }) o c.event ExitProcess
  exiting_event cont =
      let trap = trap_of os o c.event CloseHandles refl event in
      on_trap os (record os { cont = cont }) o o c.event CloseHandles ExitProcess refl event (FitsTrap-with_service os cont o (upcall_in c.event) CloseHandles ExitProcess trap trap.comes)

  pub closing_fits : (hs : List ℕ) → FitsObjects os o (to_close hs) (Some (upcall_in c.event).process)
      → FitsCont (goes_on os (service_closing c hs)) o (Some (service_closing c hs))
  closing_fits [] objects =
      let c' = service_closing c [] in
      record {
        records = FitsRecords-with_service os os.boot (Some c') records;
        objects = FitsObjects-with_service os os.boot (Some c') o [] (Some (upcall_in c.event).process) objects;
        event = exiting_event (Some c');
        lists = record { next = λ keeps. refl; names = λ keeps. refl; bytes = λ keeps. refl; handles = refl; later = refl; numbers = ap length kept.kept };
        names = tt;
        kept = record { code = kept.code; kept = kept.kept; byte = kept.byte; ended = kept.ended };
        made = tt;
      }
  closing_fits (h ∷ hs) objects =
      let c' = service_closing c (h ∷ hs) in
      record {
        records = FitsRecords-with_service os os.boot (Some c') records;
        objects = FitsObjects-with_service os os.boot (Some c') o (to_close (h ∷ hs)) (Some (upcall_in c.event).process) objects;
        event = closing_event (Some c');
        lists = record { next = λ keeps. refl; names = λ keeps. refl; bytes = λ keeps. refl; handles = omega arith; later = refl; numbers = ap length kept.kept };
        names = tt;
        kept = record { code = kept.code; kept = kept.kept; byte = kept.byte; ended = kept.ended };
        made = tt;
      }

-- Closing stands for the machine of the records.
pub closing_means : (os : LibOs) (v : Visible) (c : Cont) (hs : List ℕ) → meaning (goes_on os (service_closing c hs)) v ≡ settles (Runs (base os v))
closing_means os v c [] = refl
closing_means os v c (h ∷ hs) = refl

-- ---- a handle is closed

-- What can be closed, and is no thread.
pub record ClosableOf (o : Objects) (h : ℕ) : Type 0 where
  pub row : close_row o h (object_at o h) ≡ (Done, without_handles o (λ k. k == h))
  pub no_thread : (p : ℕ) → is_thread_of p (object_at o h) ≡ false

closable_of : (o : Objects) (h : ℕ) (x : Option Object) → object_at o h ≡ x → is_of ToClose x ≡ true → ClosableOf o h
closable_of o h None at is = absurd (cc)
closable_of o h (Some (Process memory code)) at is = absurd (cc)
closable_of o h (Some (Thread p context)) at is = absurd (cc)
closable_of o h (Some (Event set)) at is = record { row = ap (close_row o h) at; no_thread = λ p. ap (is_thread_of p) at }
closable_of o h (Some (Stream name)) at is = record { row = ap (close_row o h) at; no_thread = λ p. ap (is_thread_of p) at }
closable_of o h (Some (ReadEnd pipe)) at is = absurd (cc)
closable_of o h (Some (WriteEnd pipe)) at is = absurd (cc)

module _ (os : LibOs) (c : Cont) (v : Visible) (h : ℕ) (hs : List ℕ) (are : c.handles ≡ h ∷ hs) (fits : FitsStage os v.objects c CloseHandles) (sound : IsSound v.objects) where
  abbrev u : Upcall
  u = upcall_in c.event

  abbrev o' : Objects
  o' = without_handles v.objects (λ k. k == h)

  kept_is : FitsObjects os v.objects (to_close (h ∷ hs)) (Some u.process)
  kept_is = subst (λ xs. FitsObjects os v.objects (to_close xs) (Some u.process)) are fits.objects

  pub closable : ClosableOf v.objects h
  closable = closable_of v.objects h (object_at v.objects h) refl
      (and_parts (is_of ToClose (object_at v.objects h)) (list_all (is_named v.objects) (to_close hs)) (kinds-kept os v.objects (to_close (h ∷ hs)) (Some u.process) kept_is)).0

  h_unrecorded : times_named h (recorded os) ≡ 0
  h_unrecorded = unrecorded-kept os v.objects (to_close (h ∷ hs)) (Some u.process) kept_is h
      (let one : cond (h == h) 1 0 ≡ suc zero = ap (λ b. cond b 1 0) (eq-eqb h h refl) in omega (arith, one, times_named-cons h h ToClose (to_close hs)))

  abbrev trap : FitsTrap os v.objects u CloseHandles
  trap = trap_of os v.objects c.event CloseHandles refl fits.event

  apart : (u.thread == h) ≡ false
  apart = ne_eqb u.thread h (λ same. absurd (let e : true ≡ false = sym trap.home ∙ ap (λ k. is_thread_of u.process (object_at v.objects k)) same ∙ closable.no_thread u.process in cc))

  closed_trap : FitsTrap os o' u CloseHandles
  closed_trap = record {
    up = trap.up;
    first = trap.first;
    current = ap (unless_ended (λ k. k == h)) trap.current ∙ cond-false (u.thread == h) None (Some u.thread) apart;
    home = ap (is_thread_of u.process) (object_at-left v.objects (λ k. k == h) u.thread apart) ∙ trap.home;
    comes = trap.comes;
  }

  pub closed_fits : FitsCont (goes_on os (service_closing c hs)) o' (Some (service_closing c hs))
  closed_fits = closing_fits os o' c fits.records (on_trap os os v.objects o' c.event CloseHandles CloseHandles refl fits.event closed_trap) fits.kept hs
      (FitsObjects-closed os v.objects h ToClose [] (to_close hs) (Some u.process) kept_is)

  pub closed_base : base os (with_visible v o') ≡ base os v
  closed_base = base-without_handles os (λ k. k == h)
      (λ q same. ap (λ k. times_named k (recorded os)) (eqb-true q h same) ∙ h_unrecorded) v
      (unrecorded-free os v.objects (to_close (h ∷ hs)) (Some u.process) kept_is 0 sound.positive)

closes : (os : LibOs) (c : Cont) (w w' : View) (r : Reply) (hs : List ℕ) → c.handles ≡ hs → FitsStage os w.objects c CloseHandles → IsSound w.objects → AnswersAs w (asked os c CloseHandles) r w' → Holds os c CloseHandles w r w'
closes os c w w' r [] are fits sound abi = absurd (let some = fits.lists.handles in let none = ap length are in omega (arith, some, none))
closes os c w w' r (h ∷ hs) are fits sound abi =
    let v : Visible = visible w in
    let first : handle c 0 ≡ h = ap (λ xs. slice_index xs 0) are in
    let row = ap (on_objects w) (ap (λ k. close_row w.objects k (object_at w.objects k)) first ∙ (closable os c v h hs are fits sound).row) in
    by_row os c CloseHandles w w' r Done (o' os c v h hs are fits sound) abi row
    (subst (λ xs. Stands (goes_on os (service_closing c xs)) (with_visible v (o' os c v h hs are fits sound)) (settles (Runs (base os v)))) (sym (ap (drop 1) are))
    (record {
      fits = closed_fits os c v h hs are fits sound;
      means = closing_means os (with_visible v (o' os c v h hs are fits sound)) c hs ∙ ap (λ m. settles (Runs m)) (closed_base os c v h hs are fits sound);
    }))

pub keeps_close_handles : (os : LibOs) (c : Cont) (w w' : View) (r : Reply) → FitsStage os w.objects c CloseHandles → IsSound w.objects → AnswersAs w (asked os c CloseHandles) r w' → Holds os c CloseHandles w r w'
keeps_close_handles os c w w' r fits sound abi = closes os c w w' r c.handles refl fits sound abi

-- ---- the process exits

-- A process that exits is one still, and nothing else.
no_console : (kind : Kind) (memory : Space) → is_of (AStreamOf kind) (Some (Process memory None)) ≡ true → ⊥
no_console kind memory is = cc

exited_kind : (kind : ObjectKind) (memory : Space) (code : ℕ) → is_of kind (Some (Process memory None)) ≡ true → is_of kind (Some (Process empty (Some code))) ≡ true
exited_kind AProcess memory code is = refl
exited_kind AThread memory code is = absurd (cc)
exited_kind AnEvent memory code is = absurd (cc)
exited_kind (AStreamOf kind) memory code is = absurd (no_console kind memory is)
exited_kind AStream memory code is = absurd (cc)
exited_kind ToClose memory code is = absurd (cc)

-- What has the code of a record is no thread.
code_no_thread : (p : ℕ) (code : Option ℕ) (x : Option Object) → is_code code x ≡ true → is_thread_of p x ≡ false
code_no_thread p None None is = refl
code_no_thread p None (Some (Thread q context)) is = absurd (cc)
code_no_thread p None (Some (Process memory code)) is = refl
code_no_thread p None (Some (Event set)) is = refl
code_no_thread p None (Some (Stream name)) is = refl
code_no_thread p None (Some (ReadEnd pipe)) is = refl
code_no_thread p None (Some (WriteEnd pipe)) is = refl
code_no_thread p (Some code) None is = refl
code_no_thread p (Some code) (Some (Thread q context)) is = absurd (cc)
code_no_thread p (Some code) (Some (Process memory exited)) is = refl
code_no_thread p (Some code) (Some (Event set)) is = refl
code_no_thread p (Some code) (Some (Stream name)) is = refl
code_no_thread p (Some code) (Some (ReadEnd pipe)) is = refl
code_no_thread p (Some code) (Some (WriteEnd pipe)) is = refl

code_is : (code : ℕ) (x : Option ℕ) → is_at code x ≡ true → x ≡ Some code
code_is code None is = absurd (cc)
code_is code (Some k) is = ap Some (eqb-true k code is)

no_more : (b : Bool) → (b && false) ≡ false
no_more true = refl
no_more false = refl

-- A thread of the process that ends isn't to be named, and all else as where none ends.
pub unnamed : (p : ℕ) (x : Option Object) → is_thread_of p x ≡ true → is_to_name (Some p) x ≡ false
unnamed p x ends = ap (λ b. is_some x && not b) ends ∙ no_more (is_some x)

pub named_alike : (p : ℕ) (x : Option Object) → is_thread_of p x ≡ false → is_to_name (Some p) x ≡ is_to_name None x
named_alike p x stays = ap (λ b. is_some x && not b) stays

module _ (os : LibOs) (c : Cont) (v : Visible) (fits : FitsStage os v.objects c ExitProcess) (sound : IsSound v.objects) where
  abbrev exit_u : Upcall
  exit_u = upcall_in c.event

  abbrev p : ℕ
  p = exit_u.process

  abbrev exit_trap : FitsTrap os v.objects exit_u ExitProcess
  exit_trap = trap_of os v.objects c.event ExitProcess refl fits.event

  abbrev thread : ThreadOf (object_at v.objects exit_u.thread) p
  thread = thread_of p (object_at v.objects exit_u.thread) exit_trap.home

  -- its process runs still
  pub runs : RunningOf (object_at v.objects p)
  runs = running_of (object_at v.objects p) (sound.objects exit_u.thread (Thread p thread.context) thread.is)

  abbrev code : ℕ
  code = fits.kept.code

  abbrev left : Objects
  left = without_threads v.objects p

  abbrev exited : Objects
  exited = with_object left p (Process empty (Some (number c 0 % 256)))

  code_asked : number c 0 % 256 ≡ code
  code_asked = let byte : code < 256 = fits.kept.byte in ap (λ ns. slice_index ns 0 % 256) fits.kept.kept ∙ omega (arith, byte)

  objects_are : FitsObjects os v.objects [] (Some p)
  objects_are = subst (λ kept. FitsObjects os v.objects kept (Some p)) (named_as-no_kinds c.handles) fits.objects

  -- the objects, number by number
  at_p : object_at exited p ≡ Some (Process empty (Some code))
  at_p = get-insert-same left.live p (Process empty (Some (number c 0 % 256))) ∙ ap (λ n. Some (Process empty (Some n))) code_asked

  at_other : (q : ℕ) → (q == p) ≡ false → is_thread_of p (object_at v.objects q) ≡ false → object_at exited q ≡ object_at v.objects q
  at_other q other stays = get-insert left.live p (Process empty (Some (number c 0 % 256))) q
      ∙ cond-false (q == p) _ (object_at left q) other
      ∙ object_at-left v.objects (λ k. is_thread_of p (object_at v.objects k)) q stays

  at_thread : (q : ℕ) → (q == p) ≡ false → is_thread_of p (object_at v.objects q) ≡ true → object_at exited q ≡ None
  at_thread q other ends = get-insert left.live p (Process empty (Some (number c 0 % 256))) q
      ∙ cond-false (q == p) _ (object_at left q) other
      ∙ object_at-without_handles v.objects (λ k. is_thread_of p (object_at v.objects k)) q
      ∙ ap (λ b. cond (not b) (object_at v.objects q) None) ends

  -- a thread that ends has no record
  ends_unrecorded : (q : ℕ) → is_thread_of p (object_at v.objects q) ≡ true → times_named q (recorded os ++ []) ≡ 0
  ends_unrecorded q ends = objects_are.once q ∙ ap (λ b. cond b 1 0) (unnamed p (object_at v.objects q) ends)

  counted_stays : (q : ℕ) → 1 ≤ times_named q (recorded os ++ []) → (b : Bool) → is_thread_of p (object_at v.objects q) ≡ b → is_thread_of p (object_at v.objects q) ≡ false
  counted_stays q counted true ends = absurd (let none = ends_unrecorded q ends in omega (arith, none, counted))
  counted_stays q counted false stays = stays

  abbrev times : ℕ → ℕ
  times q = times_named q (recorded os ++ [])

  abbrev count : Bool → ℕ
  count b = cond b 1 0

  exited_once : (q : ℕ) → times q ≡ count (is_to_name None (object_at exited q))
  exited_once q = elim (q == p) as (λ b. (q == p) ≡ b → times q ≡ count (is_to_name None (object_at exited q))) [
    | true ↦ λ same. objects_are.once q
        ∙ ap (λ k. count (is_to_name (Some p) (object_at v.objects k))) (eqb-true q p same)
        ∙ ap (λ x. count (is_to_name (Some p) x)) runs.is
        ∙ sym (ap (λ k. count (is_to_name None (object_at exited k))) (eqb-true q p same) ∙ ap (λ x. count (is_to_name None x)) at_p)
    | false ↦ λ other. elim (is_thread_of p (object_at v.objects q)) as (λ b. is_thread_of p (object_at v.objects q) ≡ b → times q ≡ count (is_to_name None (object_at exited q))) [
      | true ↦ λ ends. ends_unrecorded q ends ∙ sym (ap (λ x. count (is_to_name None x)) (at_thread q other ends))
      | false ↦ λ stays. objects_are.once q ∙ ap count (named_alike p (object_at v.objects q) stays) ∙ sym (ap (λ x. count (is_to_name None x)) (at_other q other stays))
    ] refl
  ] refl

  exited_is_of : (k : ObjectKind) (q : ℕ) → 1 ≤ times q → is_of k (object_at v.objects q) ≡ true → is_of k (object_at exited q) ≡ true
  exited_is_of k q counted is = elim (q == p) as (λ b. (q == p) ≡ b → is_of k (object_at exited q) ≡ true) [
    | true ↦ λ same. ap (λ j. is_of k (object_at exited j)) (eqb-true q p same) ∙ ap (is_of k) at_p
        ∙ exited_kind k runs.memory code (sym (ap (λ j. is_of k (object_at v.objects j)) (eqb-true q p same) ∙ ap (is_of k) runs.is) ∙ is)
    | false ↦ λ other. ap (is_of k) (at_other q other (counted_stays q counted (is_thread_of p (object_at v.objects q)) refl)) ∙ is
  ] refl

  exited_home : (h q : ℕ) → 1 ≤ times q → is_thread_of h (object_at v.objects q) ≡ true → is_thread_of h (object_at exited q) ≡ true
  exited_home h q counted is = elim (q == p) as (λ b. (q == p) ≡ b → is_thread_of h (object_at exited q) ≡ true) [
    | true ↦ λ same. absurd (let e : false ≡ true = sym (ap (λ j. is_thread_of h (object_at v.objects j)) (eqb-true q p same) ∙ ap (is_thread_of h) runs.is) ∙ is in cc)
    | false ↦ λ other. ap (is_thread_of h) (at_other q other (counted_stays q counted (is_thread_of p (object_at v.objects q)) refl)) ∙ is
  ] refl

  recorded_times : (q : ℕ) → 1 ≤ times_recorded q os → 1 ≤ times q
  recorded_times q counted = omega (arith, counted, times_named-recorded q os, times_named-append q (recorded os) [])

  -- the record of the process that exits has its code
  ended_code : (n : ProcessNote) → process_with p os.processes ≡ Some n → n.code ≡ Some code
  ended_code n found = code_is code n.code (sym (ap (λ x. is_ended_with x code) found) ∙ fits.kept.ended)

  exited_code : (n : ProcessNote) → process_with p os.processes ≡ Some n → is_code n.code (object_at exited n.handle) ≡ true
  exited_code n found =
      let same : n.handle ≡ p = eqb-true n.handle p (find-passes (λ m. m.handle == p) os.processes n found) in
      let there : object_at exited n.handle ≡ Some (Process empty (Some code)) = ap (object_at exited) same ∙ at_p in
      (λ i. is_code (ended_code n found i) (there i)) ∙ eq-eqb code code refl

  other_code : (n : ProcessNote) → (n.handle == p) ≡ false → has_code (Some p) n (object_at v.objects n.handle) ≡ true → is_code n.code (object_at exited n.handle) ≡ true
  other_code n other is =
      let x = object_at v.objects n.handle in
      let before : is_code n.code x ≡ true = sym (cond-false (p == n.handle) (is_some (running x)) (is_code n.code x) (eqb-flipped p n.handle ∙ other)) ∙ is in
      ap (is_code n.code) (at_other n.handle other (code_no_thread p n.code x before)) ∙ before

  exited_objects : FitsObjects os exited [] None
  exited_objects = record {
    once = exited_once;
    kinds = list_all-counted (λ (n : Named). n.0) (is_named v.objects) (is_named exited) (recorded os ++ []) (λ n counted is. exited_is_of n.1 n.0 counted is) objects_are.kinds;
    homes = list_all-counted (λ (n : ThreadNote). n.handle) (is_home os v.objects) (is_home os exited) os.threads
        (λ n counted is. exited_home (handle_in (process_named n.pid os.processes)) n.handle (recorded_times n.handle (omega (arith, counted))) is) objects_are.homes;
    codes = list_all-except (λ (n : ProcessNote). n.handle == p) (λ n. has_code (Some p) n (object_at v.objects n.handle)) (λ n. has_code None n (object_at exited n.handle)) os.processes
        (omega (arith, times_recorded-most os v.objects [] (Some p) objects_are p)) (λ n found is. exited_code n found) other_code objects_are.codes;
  }

  pub exited_up : FitsUp (ends os) exited
  exited_up = record {
    records = FitsRecords-with_service os os.boot None fits.records;
    first = exit_trap.first;
    objects = FitsObjects-with_service os os.boot None exited [] None exited_objects;
    current = ap (unless_ended (λ k. is_thread_of p (object_at v.objects k))) exit_trap.current
        ∙ cond-true (is_thread_of p (object_at v.objects exit_u.thread)) None (Some exit_u.thread) exit_trap.home;
  }

  -- the machine of the records is the same: the process had its code, and its threads had no record
  abbrev kinds : KindsRecorded os v.objects
  kinds = kinds-lists os v.objects [] (Some p) fits.records objects_are

  stays_seen : (q : ℕ) → q ≢ p → get {R = nat_cmp} exited.live q ≡ get {R = nat_cmp} left.live q
  stays_seen q other = get-insert-other left.live p (Process empty (Some (number c 0 % 256))) q other

  no_process : (k : ObjectKind) (q : ℕ) → is_of k (Some (Process runs.memory None)) ≡ false → is_of k (object_at v.objects q) ≡ true → q ≢ p
  no_process k q none is same = let e : false ≡ true = sym (ap (λ j. is_of k (object_at v.objects j)) same ∙ ap (is_of k) runs.is ∙ none) ∙ is in absurd (cc)

  process_same : (q : ℕ) (n : ProcessNote) → process_named q os.processes ≡ Some n → process_seen exited.live n ≡ process_seen left.live n
  process_same q n named =
      let was = memory_of_object (get {R = nat_cmp} left.live n.handle) in
      let now = memory_of_object (get {R = nat_cmp} exited.live n.handle) in
      elim (n.handle == p) as (λ b. (n.handle == p) ≡ b → process_seen exited.live n ≡ process_seen left.live n) [
        | true ↦ λ same.
            let found = process_with-found os v.objects [] (Some p) fits.records objects_are (λ m. m.pid == q) n named in
            let coded : n.code ≡ Some code = ended_code n (ap (λ h. process_with h os.processes) (sym (eqb-true n.handle p same)) ∙ found) in
            ap (process_if n now) coded ∙ sym (ap (process_if n was) coded)
        | false ↦ λ other. ap (λ x. process_if n (memory_of_object x) n.code) (stays_seen n.handle (eqb-false n.handle p other))
      ] refl

  thread_same : (q : ℕ) (n : ThreadNote) → thread_named q os.threads ≡ Some n → thread_seen exited.live n ≡ thread_seen left.live n
  thread_same q n named =
      let handle_stays = stays_seen n.handle (no_process AThread n.handle refl (list_all-find (λ (m : ThreadNote). is_of AThread (object_at v.objects m.handle)) (λ m. m.tid == q) os.threads n kinds.threads named)) in
      let event_stays = stays_seen n.event (no_process AnEvent n.event refl (list_all-find (λ (m : ThreadNote). is_of AnEvent (object_at v.objects m.event)) (λ m. m.tid == q) os.threads n kinds.events named)) in
      λ i. record { process = n.pid; context = context_of (handle_stays i); woken = is_set (event_stays i); saved = n.saved }

  description_same : (q : ℕ) (d : Description) → description_named q os.descriptions ≡ Some d → description_seen exited.live d ≡ description_seen left.live d
  description_same q d named =
      let stays = stays_seen d.handle (no_process (AStreamOf d.kind) d.handle refl (list_all-find (λ (e : Description). is_of (AStreamOf e.kind) (object_at v.objects e.handle)) (λ e. e.id == q) os.descriptions d kinds.descriptions named)) in
      description_seen-kept left.live exited.live d (ap file_seen stays)

  pub exited_base : base os (with_visible v exited) ≡ base os v
  exited_base =
      let ps = processes_of-kept os.processes left.live exited.live process_same in
      let ts = threads_of-kept os.threads left.live exited.live thread_same in
      let ds = descriptions_of-kept os.descriptions left.live exited.live description_same in
      (λ i. record (base os (with_visible v left)) { processes = ps i; threads = ts i; descriptions = ds i })
      ∙ base-without_handles os (λ k. is_thread_of p (object_at v.objects k))
      (λ q ends. omega (arith, ends_unrecorded q ends, times_named-append q (recorded os) [])) v
      (unrecorded-free os v.objects [] (Some p) objects_are 0 sound.positive)

pub keeps_exit_process : (os : LibOs) (c : Cont) (w w' : View) (r : Reply) → FitsStage os w.objects c ExitProcess → IsSound w.objects → AnswersAs w (asked os c ExitProcess) r w' → Holds os c ExitProcess w r w'
keeps_exit_process os c w w' r fits sound abi =
    let v : Visible = visible w in
    let trap = trap_of os w.objects c.event ExitProcess refl fits.event in
    let after : Objects = exited os c v fits sound in
    let row = ap (λ x. on_objects w (process_exit_row w.objects (upcall_in c.event).process (number c 0 % 256) x)) (ap running (runs os c v fits sound).is) in
    by_row os c ExitProcess w w' r Done after abi row (record {
      fits = subst (FitsBoot (ends os) after) (sym trap.up) (exited_up os c v fits sound);
      means = ap (λ b. settles (meant_settled (ends os) (with_visible v after) b)) trap.up ∙ ap (λ m. settles (Runs m)) (exited_base os c v fits sound);
    })
