-- The stage that closes the stream of a description: the description goes with its descriptors.
use Rattle.std.specs.Prelude.{◌≡◌, ℕ, zero, suc, ◌==◌, Bool, true, false, cond, not, ◌&&◌, ◌||◌, List, [], ◌∷◌, map, filter, find, length, slice_index, is_some}
use Rattle.std.specs.List.{list_all, list_any}
use Rattle.std.specs.Option.{option_map}
use Rattle.std.specs.declared.option.Option.{Option}
use Rattle.std.specs.declared.option.Option.TheVariants.{None, Some}
use Rattle.std.proofs.Common.{refl, sym, ap, subst, ◌∙◌, arith, eq-eqb, eqb-true, ne_eqb}
use Rattle.std.proofs.lemmas.Bool.{and_parts, and_from, cond-false}
use Rattle.turn_sched.specs.Lists.{unless_ended}
use Rattle.turn_sched.proofs.Renamed.{list_any-map}
use Rattle.turn_sched.proofs.ThreadLists.{list_all-filter, list_all-weaker}
use Rattle.abi_calls.specs.declared.object.Object.TheVariants.{Process, Thread, Event, Stream, ReadEnd, WriteEnd}
use Rattle.abi_calls.specs.declared.reply.Reply.{Reply}
use Rattle.abi_calls.specs.declared.reply.Reply.TheVariants.{Done}
use Rattle.abi_calls.specs.declared.threads.Upcall.{Upcall}
use Rattle.abi_calls.specs.Objects.{Object, Objects, object_at, is_thread_of, without_handles}
use Rattle.abi_calls.specs.Processes.{close_row}
use Rattle.abi_calls.specs.Sound.{IsSound}
use Rattle.abi_calls.proofs.SoundChanges.{object_at-left}
use Rattle.mono_model.specs.Machine.{register, resumed}
use Rattle.mono_model.specs.Calls.{CLOSE, DUP3, is_exit}
use Rattle.mono_model.specs.Starting.{Runs}
use Rattle.libos_state.specs.declared.cont.Cont.{Cont}
use Rattle.libos_state.specs.declared.cont.Stage.TheVariants.{SetContext, CloseStream}
use Rattle.libos_state.specs.declared.notes.Description.{Description}
use Rattle.libos_state.specs.declared.notes.DescriptorNote.{DescriptorNote}
use Rattle.libos_state.specs.declared.notes.ProcessNote.{ProcessNote}
use Rattle.libos_state.specs.declared.state.LibOs.{LibOs}
use Rattle.libos_state.specs.declared.step.Change.TheVariants.{Closes, Replaces}
use Rattle.libos_state.specs.Records.{View, Visible, visible, with_visible, base, process_named, process_with, thread_with, description_with, description_named, descriptor_named, described, described_in, description_behind, tid_of, pid_of, pid_with}
use Rattle.libos_state.specs.Descriptors.{redescribed, joined_in, with_descriptor, naming_others, without_description, without_stream}
use Rattle.libos_state.specs.Pending.{asked, upcall_in, handle}
use Rattle.libos_state.specs.Answered.{bare, goes_on, duplicated, with_change, closing_change}
use Rattle.libos_state.specs.Meaning.{caller_of, settles}
use Rattle.libos_state.specs.Named.{is_of, kind_described, closed_name, recorded, times_named}
use Rattle.libos_state.specs.Fits.{FitsRecords, FitsObjects, FitsStage, FitsTrap, are_distinct, is_fit_process, is_fit_access, is_fit_append, is_described, is_recorded, is_call, is_exit_call, is_handle_of, closes_one, returns}
use Rattle.libos_state.proofs.Holds.{Holds}
use Rattle.libos_state.proofs.Rows.{by_row}
use Rattle.libos_state.proofs.Going.{FitsRecords-with_service, FitsObjects-with_service}
use Rattle.libos_state.proofs.Distinct.{some_of, find-counted, are_distinct-filter, list_any-found, find-key}
use Rattle.libos_state.proofs.Filtered.{kept_if, find-filter, count_by-distinct, list_any-weaker}
use Rattle.libos_state.proofs.Naming.{find-passes, list_all-find, count_by-found, times_named-recorded, kinds-kept, unrecorded-kept, unrecorded-free, times_named-cons, FitsObjects-closed, Trapped, trapped}
use Rattle.libos_state.proofs.Bases.{base-without_handles}
use Rattle.libos_state.proofs.Ending.{ClosableOf}
use Rattle.libos_state.proofs.Serving.{trap_of, on_trap}
use Rattle.libos_state.proofs.Views.{AnswersAs, on_objects}
use Rattle.libos_state.proofs.Keyed.{list_any-among, find-there, find-kept}
use Rattle.libos_state.proofs.Descriptors.{SameProcesses, same_processes, same_after, SameProcesses-redone, FitsObjects-redescribed, FitsRecords-redone, recorded-redescribed, process_with-redescribed, numbers_distinct, left_fit, names_it, FitsRecords-without_descriptor, FitsRecords-with_descriptor}

-- ---- a description goes with its descriptors

module _ (os : LibOs) (gone : Description) (records : FitsRecords os) where
  abbrev keeps : Description → Bool
  keeps d = not (d.id == gone.id)

  abbrev after : LibOs
  after = without_description os (Some gone)

  -- what is named by a descriptor that stays is there still
  opened_still : (d : DescriptorNote) → not (d.description == gone.id) ≡ true → is_some (description_named d.description os.descriptions) ≡ true
      → is_some (description_named d.description after.descriptions) ≡ true
  opened_still d stays opened = ap is_some (find-kept keeps (λ j. j.id == d.description) os.descriptions
      (λ j is. ap (λ k. not (k == gone.id)) (eqb-true j.id d.description is) ∙ stays)) ∙ opened

  names_still : (i : ℕ) → not (i == gone.id) ≡ true → (n : ProcessNote) → list_any (names_it i) n.descriptors ≡ true → list_any (names_it i) (naming_others gone.id n) ≡ true
  names_still i stays n some =
      let d = some_of (find (names_it i) n.descriptors) (find-there (names_it i) n.descriptors some) in
      let it = find-passes (names_it i) n.descriptors d.0 d.1 in
      list_any-among (λ j. not (j.description == gone.id)) (names_it i) n.descriptors
      ∙ list_any-found (λ (j : DescriptorNote). j.number) (names_it i) (λ j. not (j.description == gone.id) && names_it i j) n.descriptors d.0 d.1
      (and_from _ _ (ap (λ k. not (k == gone.id)) (eqb-true d.0.description i it) ∙ stays) it)

  described_still : (d : Description) → keeps d ≡ true → is_described os d.id ≡ true → is_described after d.id ≡ true
  described_still d stays is =
      let names : ProcessNote → Bool = λ n. list_any (names_it d.id) n.descriptors in
      list_any-map (redescribed (naming_others gone.id)) names (λ n. list_any (names_it d.id) (naming_others gone.id n)) (λ _. refl) os.processes
      ∙ list_any-weaker names (λ n. list_any (names_it d.id) (naming_others gone.id n)) (names_still d.id stays) os.processes is

  pub FitsRecords-without_gone : FitsRecords (without_description os (Some gone))
  FitsRecords-without_gone = FitsRecords-redone os (naming_others gone.id) (filter (λ d. not (d.id == gone.id)) os.descriptions) records (record {
    ids = are_distinct-filter (λ (d : Description). d.id) keeps os.descriptions records.ids;
    access = list_all-filter keeps (λ d. is_fit_access d.kind d.access) (λ d. is_fit_access d.kind d.access) (λ d _ is. is) os.descriptions records.access;
    append = list_all-filter keeps (λ d. is_fit_append d.kind d.append) (λ d. is_fit_append d.kind d.append) (λ d _ is. is) os.descriptions records.append;
    processes = list_all-weaker (is_fit_process os) (λ n. is_fit_process after (redescribed (naming_others gone.id) n))
        (λ n fit. left_fit os after (λ d. not (d.description == gone.id)) n opened_still fit) os.processes records.processes;
    described = list_all-filter keeps (λ d. is_described os d.id) (λ d. is_described after d.id) described_still os.descriptions records.described;
  })

pub FitsRecords-without_description : (os : LibOs) (x : Option Description) → FitsRecords os → FitsRecords (without_description os x)
FitsRecords-without_description os None records = records
FitsRecords-without_description os (Some d) records = FitsRecords-without_gone os d records

pub SameProcesses-without_description : (os : LibOs) (x : Option Description) → SameProcesses os (without_description os x)
SameProcesses-without_description os None = same_processes os
SameProcesses-without_description os (Some d) = SameProcesses-redone os (naming_others d.id) (filter (λ j. not (j.id == d.id)) os.descriptions)

-- It doesn't hang on the service in progress.
pub without_description-service : (os : LibOs) (cont : Option Cont) (x : Option Description) → without_description (record os { cont = cont }) x ≡ record (without_description os x) { cont = cont }
without_description-service os cont None = refl
without_description-service os cont (Some d) = refl

-- ---- what closes a stream leaves records that fit

-- A description behind a descriptor is there.
behind_there : (ds : List Description) (x : Option DescriptorNote) (d : Description) → described ds x ≡ Some d → description_named d.id ds ≡ Some d
behind_there ds None d is = absurd (cc)
behind_there ds (Some j) d is = ap (λ k. description_named k ds) (eqb-true d.id j.description (find-passes (λ k. k.id == j.description) ds d is)) ∙ is

described_there : (os : LibOs) (fd : ℕ) (x : Option ProcessNote) (d : Description) → described_in os fd x ≡ Some d → description_named d.id os.descriptions ≡ Some d
described_there os fd None d is = absurd (cc)
described_there os fd (Some n) d is = behind_there os.descriptions (descriptor_named fd n.descriptors) d is

pub description_behind-there : (os : LibOs) (h fd : ℕ) (d : Description) → description_behind os h fd ≡ Some d → description_named d.id os.descriptions ≡ Some d
description_behind-there os h fd d is = described_there os fd (process_with h os.processes) d is

-- What a record was before its descriptors changed.
pub record Before (f : ProcessNote → List DescriptorNote) (x : Option ProcessNote) (n : ProcessNote) : Type 0 where
  pub note : ProcessNote
  pub is : x ≡ Some note
  pub now : redescribed f note ≡ n

before : (f : ProcessNote → List DescriptorNote) (x : Option ProcessNote) (n : ProcessNote) → option_map (redescribed f) x ≡ Some n → Before f x n
before f None n is = absurd (cc)
before f (Some m) n is = record { note = m; is = refl; now = cc }

all_true : (ds : List DescriptorNote) → list_all (λ _. true) ds ≡ true
all_true [] = refl
all_true (d ∷ ds) = all_true ds

if_kept : {N : Type 0} (keeps : N → Bool) (x : Option N) (n : N) → kept_if keeps x ≡ Some n → x ≡ Some n
if_kept keeps None n some = absurd (cc)
if_kept keeps (Some m) n some = elim (keeps m) as (λ b. cond b (Some m) None ≡ Some n → Some m ≡ Some n) [
  | true ↦ λ same. same
  | false ↦ λ none. absurd (cc)
] some

-- The descriptor that named it is closed with it.
module _ (os : LibOs) (h fd : ℕ) (gone : Description) (process : ProcessNote) (records : FitsRecords os) (behind : process_with h os.processes ≡ Some process)
    (was : description_behind os h fd ≡ Some gone) where
  abbrev other : DescriptorNote → Bool
  other d = not (d.description == gone.id)

  distinct : are_distinct (map (λ d. d.number) process.descriptors) ≡ true
  distinct = numbers_distinct os process (list_all-find (is_fit_process os) (λ m. m.handle == h) os.processes process records.processes behind)

  names_gone : (d : DescriptorNote) → descriptor_named fd process.descriptors ≡ Some d → (d.description == gone.id) ≡ true
  names_gone d is =
      let named : description_named d.description os.descriptions ≡ Some gone =
      sym (ap (described os.descriptions) is) ∙ sym (ap (described_in os fd) behind) ∙ was in
      eq-eqb d.description gone.id (sym (eqb-true gone.id d.description (find-passes (λ k. k.id == d.description) os.descriptions gone named)))

  pub closed_with : (d : DescriptorNote) → descriptor_named fd (naming_others gone.id process) ≡ Some d → ⊥
  closed_with d found =
      let stays = list_all-find other (λ j. j.number == fd) (filter other process.descriptors) d
      (list_all-filter other (λ _. true) other (λ j keeps _. keeps) process.descriptors (all_true process.descriptors)) found in
      let kept = find-filter other (λ j. j.number == fd) process.descriptors (count_by-distinct (λ (j : DescriptorNote). j.number) process.descriptors fd distinct) in
      let names = names_gone d (if_kept other (descriptor_named fd process.descriptors) d (sym kept ∙ found)) in
      let e : false ≡ true = sym (ap not names) ∙ stays in cc

-- What the records are after a stream was closed, against those before, and those that count.
pub record Leaves (os counts new : LibOs) : Type 0 where
  pub records : FitsRecords new
  pub same : SameProcesses os new
  pub names : recorded new ≡ recorded counts
  pub objects : (o : Objects) → FitsObjects counts o [] None → FitsObjects new o [] None

plain : (os : LibOs) (x : Option Description) → FitsRecords os → Leaves os (without_description os x) (without_description os x)
plain os x records = record {
  records = FitsRecords-without_description os x records;
  same = SameProcesses-without_description os x;
  names = refl;
  objects = λ o fits. fits;
}

pub record HandledOf (x : Option Description) (h : ℕ) : Type 0 where
  pub description : Description
  pub is : x ≡ Some description
  pub handle : description.handle ≡ h

handled_of : (x : Option Description) (h : ℕ) → is_handle_of x h ≡ true → HandledOf x h
handled_of None h is = absurd (cc)
handled_of (Some d) h is = record { description = d; is = refl; handle = eqb-true d.handle h is }

module _ (os : LibOs) (o : Objects) (u : Upcall) (h : ℕ) (records : FitsRecords os) (free : times_named h (recorded (without_stream os h)) ≡ 0) (at : Trapped (without_stream os h) o u) where
  abbrev left : LibOs
  left = without_stream os h

  abbrev p : ℕ
  p = pid_with left u.process

  left_fits : FitsRecords left
  left_fits = FitsRecords-without_description os (description_with h os.descriptions) records

  found : process_with u.process left.processes ≡ Some at.links.process
  found = ap (λ k. process_with k left.processes) at.process ∙ at.links.behind

  there : process_named p left.processes ≡ Some at.links.process
  there = ap (λ q. process_named q left.processes) (ap pid_of found)
      ∙ find-key (λ (m : ProcessNote). m.pid) (λ m. m.handle == u.process) left.processes at.links.process left_fits.pids found

  -- the one with the handle is the one that goes
  goes : (g d : Description) → description_with h os.descriptions ≡ Some g → description_named d.id os.descriptions ≡ Some d → d.handle ≡ h → g ≡ d
  goes g d with_h named handle = elim (d.id == g.id) as (λ b. (d.id == g.id) ≡ b → g ≡ d) [
    | true ↦ λ same.
        let by_id = find-key (λ (j : Description). j.id) (λ j. j.handle == h) os.descriptions g records.ids with_h in
        let two : Some g ≡ Some d = sym by_id ∙ ap (λ k. description_named k os.descriptions) (sym (eqb-true d.id g.id same)) ∙ named in cc
    | false ↦ λ apart.
        let others : Description → Bool = λ j. not (j.id == g.id) in
        let stays : description_named d.id (filter others os.descriptions) ≡ Some d =
        find-kept others (λ j. j.id == d.id) os.descriptions (λ j is. ap (λ k. not (k == g.id)) (eqb-true j.id d.id is) ∙ ap not apart) ∙ named in
        let one = count_by-found (λ (j : Description). j.id == d.id) (λ j. j.handle == h) (filter others os.descriptions) d stays (eq-eqb d.handle h handle) in
        let none : times_named h (recorded (without_description os (Some g))) ≡ 0 = ap (λ x. times_named h (recorded (without_description os x))) (sym with_h) ∙ free in
        absurd (omega (arith, one, none, times_named-recorded h (without_description os (Some g))))
  ] refl

  gone_is : (d : Description) → description_named d.id os.descriptions ≡ Some d → d.handle ≡ h → (x : Option Description) → description_with h os.descriptions ≡ x → x ≡ Some d
  gone_is d named handle None none =
      let one = count_by-found (λ (j : Description). j.id == d.id) (λ j. j.handle == h) os.descriptions d named (eq-eqb d.handle h handle) in
      let some = find-counted (λ (j : Description). j.handle == h) os.descriptions one in
      absurd (let e : false ≡ true = sym (ap is_some none) ∙ some in cc)
  gone_is d named handle (Some g) with_h = ap Some (goes g d with_h named handle)

  module _ (old new : ℕ) (d : Description) (was : description_behind os u.process new ≡ Some d) (handle : d.handle ≡ h) where
    is_gone : description_with h os.descriptions ≡ Some d
    is_gone = gone_is d (description_behind-there os u.process new d was) handle (description_with h os.descriptions) refl

    -- the new descriptor was closed with it
    closed : (j : DescriptorNote) → descriptor_named new at.links.process.descriptors ≡ Some j → ⊥
    closed j some =
        let same : left ≡ without_description os (Some d) = ap (without_description os) is_gone in
        let now : option_map (redescribed (naming_others d.id)) (process_with u.process os.processes) ≡ Some at.links.process =
        sym (process_with-redescribed (naming_others d.id) u.process os.processes) ∙ ap (λ (l : LibOs). process_with u.process l.processes) (sym same) ∙ found in
        let b = before (naming_others d.id) (process_with u.process os.processes) at.links.process now in
        closed_with os u.process new d b.note records b.is was j (ap (λ (n : ProcessNote). descriptor_named new n.descriptors) b.now ∙ some)

    renamed : (x : Option Description) → description_behind left u.process old ≡ x → Leaves os left (duplicated left p new x)
    renamed None none = plain os (description_with h os.descriptions) records
    renamed (Some e) some =
        let opened = ap is_some (description_behind-there left u.process old e some) in
        let fits = FitsRecords-with_descriptor left p new e.id at.links.process left_fits there at.links.code opened
        (FitsRecords-without_descriptor left p new at.links.process left_fits there (λ j named. absurd (closed j named))) in
        let f = joined_in p new e.id in
        record {
          records = fits;
          same = same_after os left (with_descriptor left p new e.id) (SameProcesses-without_description os (description_with h os.descriptions)) (SameProcesses-redone left f left.descriptions);
          names = recorded-redescribed left f;
          objects = λ o fits. FitsObjects-redescribed left f o [] None fits;
        }

  -- what the call's change makes
  pub closing_leaves : (replaces : Bool) → (not replaces || is_handle_of (description_behind os u.process (register u.context 11)) h) ≡ true
      → Leaves os left (with_change os (cond replaces (Replaces h u.process (register u.context 10) (register u.context 11)) (Closes h)))
  closing_leaves false fit = plain os (description_with h os.descriptions) records
  closing_leaves true fit =
      let d = handled_of (description_behind os u.process (register u.context 11)) h fit in
      renamed (register u.context 10) (register u.context 11) d.description d.is d.handle (description_behind left u.process (register u.context 10)) refl

-- ---- the stage

one_item : (hs : List ℕ) → length hs ≡ 1 → hs ≡ slice_index hs 0 ∷ []
one_item [] one = absurd (omega arith)
one_item (h ∷ []) one = refl
one_item (h ∷ k ∷ hs) one = absurd (omega arith)

closable_stream : (o : Objects) (h : ℕ) (d : Option Description) (x : Option Object) → object_at o h ≡ x → is_of (kind_described d) x ≡ true → ClosableOf o h
closable_stream o h None None at is = absurd (cc)
closable_stream o h None (Some (Process memory code)) at is = absurd (cc)
closable_stream o h None (Some (Thread p context)) at is = absurd (cc)
closable_stream o h None (Some (Event set)) at is = absurd (cc)
closable_stream o h None (Some (Stream name)) at is = record { row = ap (close_row o h) at; no_thread = λ p. ap (is_thread_of p) at }
closable_stream o h None (Some (ReadEnd pipe)) at is = record { row = ap (close_row o h) at; no_thread = λ p. ap (is_thread_of p) at }
closable_stream o h None (Some (WriteEnd pipe)) at is = record { row = ap (close_row o h) at; no_thread = λ p. ap (is_thread_of p) at }
closable_stream o h (Some d) None at is = absurd (cc)
closable_stream o h (Some d) (Some (Process memory code)) at is = absurd (cc)
closable_stream o h (Some d) (Some (Thread p context)) at is = absurd (cc)
closable_stream o h (Some d) (Some (Event set)) at is = absurd (cc)
closable_stream o h (Some d) (Some (Stream name)) at is = record { row = ap (close_row o h) at; no_thread = λ p. ap (is_thread_of p) at }
closable_stream o h (Some d) (Some (ReadEnd pipe)) at is = absurd (cc)
closable_stream o h (Some d) (Some (WriteEnd pipe)) at is = absurd (cc)

-- The thread goes on behind a call that closes a descriptor.
pub closes_returns : (os : LibOs) (u : Upcall) → closes_one os u ≡ true → returns os u ≡ true
closes_returns os u is =
    let parts = and_parts (is_call u CLOSE || is_call u DUP3) (is_recorded os u) is in
    let call = either (u.cause == 8) (register u.context 17) parts.0 in
    and_from (u.cause == 8) (not (is_exit_call u) && is_recorded os u) call.0
    (and_from (not (is_exit_call u)) (is_recorded os u) (λ i. not (call.0 i && call.1 i)) parts.1)
  where
    either : (b : Bool) (number : ℕ) → ((b && number == CLOSE) || (b && number == DUP3)) ≡ true → (b ≡ true) × (is_exit number ≡ false)
    either true number is = (
      refl,
      elim (number == CLOSE) as (λ x. (number == CLOSE) ≡ x → (x || number == DUP3) ≡ true → is_exit number ≡ false) [
        | true ↦ λ same _. ap is_exit (eqb-true number CLOSE same)
        | false ↦ λ _ same. ap is_exit (eqb-true number DUP3 same)
      ] refl is,
    )
    either false number is = absurd (cc)

-- The same threads and processes have the same ids.
pub caller_same : (os os' : LibOs) (u : Upcall) → SameProcesses os os' → caller_of os' u ≡ caller_of os u
caller_same os os' u same = λ i. record { thread = tid_of (thread_with u.thread (same.threads i)); process = same.pid u.process i; context = u.context }

module _ (os : LibOs) (c : Cont) (v : Visible) (fits : FitsStage os v.objects c CloseStream) (sound : IsSound v.objects) where
  abbrev u : Upcall
  u = upcall_in c.event

  abbrev h : ℕ
  h = handle c 0

  abbrev counts : LibOs
  counts = without_stream os h

  abbrev o' : Objects
  o' = without_handles v.objects (λ k. k == h)

  objects_are : FitsObjects counts v.objects (closed_name os h ∷ []) None
  objects_are = subst (λ hs. FitsObjects counts v.objects (map (closed_name os) hs) None) (one_item c.handles fits.lists.handles) fits.objects

  pub closable : ClosableOf v.objects h
  closable = closable_stream v.objects h (description_with h os.descriptions) (object_at v.objects h) refl
      (and_parts (is_of (kind_described (description_with h os.descriptions)) (object_at v.objects h)) true (kinds-kept counts v.objects (closed_name os h ∷ []) None objects_are)).0

  h_unrecorded : times_named h (recorded counts) ≡ 0
  h_unrecorded = unrecorded-kept counts v.objects (closed_name os h ∷ []) None objects_are h
      (let one : cond (h == h) 1 0 ≡ suc zero = ap (λ b. cond b 1 0) (eq-eqb h h refl) in
      omega (arith, one, times_named-cons h h (kind_described (description_with h os.descriptions)) []))

  abbrev trap : FitsTrap os v.objects u CloseStream
  trap = trap_of os v.objects c.event CloseStream refl fits.event

  abbrev same_left : SameProcesses os counts
  same_left = SameProcesses-without_description os (description_with h os.descriptions)

  recorded_there : is_recorded os u ≡ true
  recorded_there = (and_parts (is_call u CLOSE || is_call u DUP3) (is_recorded os u) trap.comes).1

  at : Trapped counts v.objects u
  at = trapped counts v.objects u (closed_name os h ∷ []) None (FitsRecords-without_description os (description_with h os.descriptions) fits.records) objects_are trap.home
      (ap (λ ts. is_some (thread_with u.thread ts)) same_left.threads ∙ recorded_there)

  abbrev new : LibOs
  new = with_change os (closing_change c)

  pub leaves : Leaves os counts new
  leaves = closing_leaves os v.objects u h fits.records h_unrecorded at (is_call u DUP3) fits.kept

  abbrev resuming : Cont
  resuming = record (bare c SetContext) { next = c.next }

  apart : (u.thread == h) ≡ false
  apart = ne_eqb u.thread h (λ same. absurd (let e : true ≡ false = sym trap.home ∙ ap (λ k. is_thread_of u.process (object_at v.objects k)) same ∙ closable.no_thread u.process in cc))

  resumed_trap : FitsTrap (goes_on new resuming) o' u SetContext
  resumed_trap = record {
    up = leaves.same.boot ∙ trap.up;
    first = leaves.same.there 1 ∙ trap.first;
    current = ap (unless_ended (λ k. k == h)) trap.current ∙ cond-false (u.thread == h) None (Some u.thread) apart;
    home = ap (is_thread_of u.process) (object_at-left v.objects (λ k. k == h) u.thread apart) ∙ trap.home;
    comes = ap (λ ts. (u.cause == 8) && (not (is_exit_call u) && is_some (thread_with u.thread ts))) leaves.same.threads ∙ closes_returns os u trap.comes;
  }

  pub resumed_fits : FitsStage (goes_on new resuming) o' resuming SetContext
  resumed_fits = record {
    records = FitsRecords-with_service new new.boot (Some resuming) leaves.records;
    objects = FitsObjects-with_service new new.boot (Some resuming) o' [] None
        (leaves.objects o' (FitsObjects-closed counts v.objects h (kind_described (description_with h os.descriptions)) [] [] None objects_are));
    event = on_trap os (goes_on new resuming) v.objects o' c.event CloseStream SetContext refl fits.event resumed_trap;
    lists = record { next = λ keeps. absurd (cc); names = λ keeps. refl; bytes = λ keeps. refl; handles = refl; later = refl; numbers = refl };
    names = tt;
    kept = tt;
    made = tt;
  }

  pub closed_base : base new (with_visible v o') ≡ base new v
  closed_base = base-without_handles new (λ k. k == h)
      (λ q same. ap (times_named q) leaves.names ∙ ap (λ k. times_named k (recorded counts)) (eqb-true q h same) ∙ h_unrecorded) v
      (ap (times_named 0) leaves.names ∙ unrecorded-free counts v.objects (closed_name os h ∷ []) None objects_are 0 sound.positive)

pub keeps_close_stream : (os : LibOs) (c : Cont) (w w' : View) (r : Reply) → FitsStage os w.objects c CloseStream → IsSound w.objects → AnswersAs w (asked os c CloseStream) r w' → Holds os c CloseStream w r w'
keeps_close_stream os c w w' r fits sound abi =
    let v : Visible = visible w in
    let after : Objects = o' os c v fits sound in
    let row = ap (on_objects w) (closable os c v fits sound).row in
    by_row os c CloseStream w w' r Done after abi row (record {
      fits = resumed_fits os c v fits sound;
      means = (λ i. settles (Runs (resumed (closed_base os c v fits sound i)
          (caller_same os (new os c v fits sound) (upcall_in c.event) (leaves os c v fits sound).same i).thread
          (caller_same os (new os c v fits sound) (upcall_in c.event) (leaves os c v fits sound).same i).process c.next)));
    })
