-- The library OS begins to serve a call on descriptors: it stands for the machine that has served it.
use Rattle.std.specs.Prelude.{◌≡◌, ℕ, zero, suc, ◌+◌, ◌≤◌, ◌==◌, Bool, true, false, cond, not, ◌&&◌, ◌||◌, nat_lt, List, [], ◌∷◌, ◌++◌, map, filter, find, count_by, is_some}
use Rattle.std.specs.List.{list_all, list_any}
use Rattle.std.specs.FinMap.{insert, remove}
use Rattle.std.specs.Option.{option_map, option_or}
use Rattle.std.specs.declared.option.Option.{Option}
use Rattle.std.specs.declared.option.Option.TheVariants.{None, Some}
use Rattle.std.proofs.Common.{refl, sym, ap, subst, ◌∙◌, arith, eq-eqb, eqb-true}
use Rattle.std.proofs.lemmas.Bool.{and_parts, and_from, cond-true, cond-false}
use Rattle.std.proofs.lemmas.List.Folds as folds
use Rattle.std.proofs.lemmas.List.Folds.{list_all-append}
use Rattle.guest_space.specs.First.{first_some}
use Rattle.guest_space.proofs.FirstSome.{first_some-zero, first_some-suc}
use Rattle.bas_items.proofs.NumberMaps.{get-insert-same, insert-insert, insert-remove}
use Rattle.turn_sched.proofs.Renamed.{list_any-map}
use Rattle.turn_sched.proofs.ThreadLists.{list_all-filter, list_all-weaker}
use Rattle.abi_calls.specs.declared.threads.Upcall.{Upcall}
use Rattle.abi_calls.specs.Objects.{Objects, object_at}
use Rattle.rv_core.specs.declared.context.Context.{Context}
use Rattle.mono_model.specs.Machine.{Mono, Process, process_at, with_process, register, resumed, returned}
use Rattle.mono_model.specs.Descriptors as machine
use Rattle.mono_model.specs.Descriptors.{DESCRIPTORS, descriptors_at, with_descriptors_in, named_by, is_named, ends_unnamed, closed_if, with_closed}
use Rattle.mono_model.specs.Calls as calls
use Rattle.mono_model.specs.Calls.{Caller, DUP, DUP3, CLOSE, EBADF, EINVAL, EMFILE, error, silently, finished, close_open, dup_to, dup_open, dup3_known, dup3_open, unless_known}
use Rattle.mono_model.specs.Starting.{Runs}
use Rattle.libos_state.specs.declared.cont.Cont.{Cont}
use Rattle.libos_state.specs.declared.cont.Stage.TheVariants.{SetContext}
use Rattle.libos_state.specs.declared.notes.Description.{Description}
use Rattle.libos_state.specs.declared.notes.DescriptorNote.{DescriptorNote}
use Rattle.libos_state.specs.declared.notes.ProcessNote.{ProcessNote}
use Rattle.libos_state.specs.declared.notes.ThreadNote.{ThreadNote}
use Rattle.libos_state.specs.declared.state.LibOs.{LibOs}
use Rattle.libos_state.specs.declared.state.Boot.TheVariants.{Up}
use Rattle.libos_state.specs.declared.step.Change.TheVariants.{Closes, Replaces}
use Rattle.libos_state.specs.Records.{Visible, base, process_named, process_with, thread_with, description_with, description_named, descriptor_named, described, described_in, description_behind, pid_with}
use Rattle.libos_state.specs.Descriptors.{redescribed, with_descriptors, left_by, without_descriptor, joined_in, with_descriptor, naming_others, without_description, without_stream}
use Rattle.libos_state.specs.Pending.{upcall_in, handle}
use Rattle.libos_state.specs.Answered.{goes_on, duplicated, with_duplicate, with_change, closing_change}
use Rattle.libos_state.specs.Entered as entered
use Rattle.libos_state.specs.Entered.{entered_with, result_of, service_with_stream, is_last, close_entered, dup_entered, dup3_over, dup3_unless, descriptors_in, if_free_descriptor, least_free}
use Rattle.libos_state.specs.Meaning.{caller_of, leads_to, settles}
use Rattle.libos_state.specs.Named.{Named, AProcess, AThread, AnEvent, AStreamOf, is_of, kind_described, closed_name, recorded, times_named}
use Rattle.libos_state.specs.Fits.{FitsRecords, FitsObjects, FitsTrap, are_distinct, is_fit_process, is_described, is_call, is_exit_call, is_handle_of, closes_new, closes_one, returns}
use Rattle.libos_state.specs.Turned.{FitsTrapped}
use Rattle.libos_state.proofs.Rows.{Stands}
use Rattle.libos_state.proofs.Going.{FitsRecords-with_service, FitsObjects-with_service}
use Rattle.libos_state.proofs.Distinct.{some_of, find-key, map-keys, list_any-found}
use Rattle.libos_state.proofs.Filtered.{kept_if, find-filter, count_by-distinct}
use Rattle.libos_state.proofs.Naming.{find-passes, list_all-find, find-alone, count_by-found, is_named as names_it_is, times_named-append, times_named-cons, times_named-recorded, times_recorded-most, KindsRecorded, kinds_recorded, kinds-recorded, Trapped, trapped}
use Rattle.libos_state.proofs.Closing.{count_by-filter, count_by-parted, count_by-unfound, process_found, process_there}
use Rattle.libos_state.proofs.Serving.{result_fits}
use Rattle.libos_state.proofs.Keyed.{list_any-among, find-kept, filter-keyed, map-keyed}
use Rattle.libos_state.proofs.Descriptors.{SameProcesses, same_processes, SameProcesses-redone, process_named-redescribed, process_with-redescribed, left_fit, FitsObjects-redescribed, recorded-redescribed, closed_is, names_it, numbers_distinct, FitsRecords-without_descriptor, FitsRecords-with_descriptor}
use Rattle.libos_state.proofs.DescriptorBases.{named_by-found, least_free-found, base-without_descriptor, base-with_descriptor, is_numbered, numbered_fit, is_named-base, base-without_description}
use Rattle.libos_state.proofs.StreamClosing.{without_description-service, description_behind-there, closes_returns, caller_same}

-- ---- a stream that has a description is kept in its place

module _ (os : LibOs) (o : Objects) (d : Description) (h : ℕ) (ids : are_distinct (map (λ d. d.id) os.descriptions) ≡ true) (found : description_with h os.descriptions ≡ Some d)
    (fits : FitsObjects os o [] None) where
  abbrev others : Description → Bool
  others j = not (j.id == d.id)

  abbrev left : LibOs
  left = record os { descriptions = filter (λ j. not (j.id == d.id)) os.descriptions }

  abbrev handled : ℕ → Description → Bool
  handled q j = j.handle == q

  handle_is : d.handle ≡ h
  handle_is = eqb-true d.handle h (find-passes (λ j. j.handle == h) os.descriptions d found)

  abbrev goes : ℕ → Description → Bool
  goes q j = not (others j) && handled q j

  goes_at : (q : ℕ) (x : Option Description) → find (goes q) os.descriptions ≡ x → (h == q) ≡ false → count_by (goes q) os.descriptions ≡ 0
  goes_at q None none apart = count_by-unfound (goes q) os.descriptions none
  goes_at q (Some j) some apart =
      let parts = and_parts (not (others j)) (handled q j) (find-passes (goes q) os.descriptions j some) in
      let id : j.id ≡ d.id = eqb-true j.id d.id (twice (j.id == d.id) parts.0) in
      let two : Some j ≡ Some d = sym (find-key (λ (k : Description). k.id) (goes q) os.descriptions j ids some)
      ∙ ap (λ k. description_named k os.descriptions) id ∙ find-key (λ (k : Description). k.id) (λ k. k.handle == h) os.descriptions d ids found in
      let same : j ≡ d = cc in
      let e : true ≡ false = sym parts.1 ∙ ap (λ k. k == q) (ap (λ (k : Description). k.handle) same ∙ handle_is) ∙ apart in absurd (cc)
    where
      twice : (b : Bool) → not (not b) ≡ true → b ≡ true
      twice true is = refl
      twice false is = absurd (cc)

  gone_once : (q : ℕ) → count_by (handled q) (filter others os.descriptions) + cond (h == q) 1 0 ≡ count_by (handled q) os.descriptions
  gone_once q =
      let sum = count_by-parted others (handled q) os.descriptions in
      let rest = count_by-filter (λ j. not (others j)) (handled q) os.descriptions in
      let most = times_recorded-most os o [] None fits q in
      elim (h == q) as (λ b. (h == q) ≡ b → count_by (handled q) (filter others os.descriptions) + cond b 1 0 ≡ count_by (handled q) os.descriptions) [
        | true ↦ λ same.
            let passes : goes q d ≡ true = and_from _ _ (ap (λ b. not (not b)) (eq-eqb d.id d.id refl)) (eq-eqb d.handle q (handle_is ∙ eqb-true h q same)) in
            let one = count_by-found (λ (j : Description). j.handle == h) (goes q) os.descriptions d found passes in
            omega (arith, sum, rest, most, one)
        | false ↦ λ apart.
            let none = goes_at q (find (goes q) os.descriptions) refl apart in
            omega (arith, sum, rest, none)
      ] refl

  abbrev kept : List Named
  kept = (h, AStreamOf d.kind) ∷ []

  abbrev kinds : KindsRecorded os o
  kinds = kinds_recorded os o (kinds-recorded os o [] None fits)

  kinds_left : list_all (names_it_is o) (recorded left ++ kept) ≡ true
  kinds_left =
      let test : Named → Bool = names_it_is o in
      let all : List Named → Type 0 = λ names. list_all test names ≡ true in
      let join : (xs ys : List Named) → all xs → all ys → all (xs ++ ys) = λ xs ys first second. list_all-append test xs ys ∙ and_from (list_all test xs) (list_all test ys) first second in
      let processes : all (map (λ n. (n.handle, AProcess)) os.processes) = folds.list_all-map test (λ (n : ProcessNote). (n.handle, AProcess)) os.processes ∙ kinds.processes in
      let threads : all (map (λ n. (n.handle, AThread)) os.threads) = folds.list_all-map test (λ (n : ThreadNote). (n.handle, AThread)) os.threads ∙ kinds.threads in
      let events : all (map (λ n. (n.event, AnEvent)) os.threads) = folds.list_all-map test (λ (n : ThreadNote). (n.event, AnEvent)) os.threads ∙ kinds.events in
      let descriptions : all (map (λ d. (d.handle, AStreamOf d.kind)) left.descriptions) = folds.list_all-map test (λ (j : Description). (j.handle, AStreamOf j.kind)) left.descriptions
      ∙ list_all-filter others (λ j. is_of (AStreamOf j.kind) (object_at o j.handle)) (λ j. is_of (AStreamOf j.kind) (object_at o j.handle)) (λ j _ is. is) os.descriptions kinds.descriptions in
      let it : all kept = and_from _ true (ap (λ k. is_of (AStreamOf d.kind) (object_at o k)) (sym handle_is)
      ∙ list_all-find (λ (j : Description). is_of (AStreamOf j.kind) (object_at o j.handle)) (λ j. j.handle == h) os.descriptions d kinds.descriptions found) refl in
      join (recorded left) kept
      (join (map (λ n. (n.handle, AProcess)) os.processes) (map (λ n. (n.handle, AThread)) os.threads ++ (map (λ n. (n.event, AnEvent)) os.threads ++ map (λ j. (j.handle, AStreamOf j.kind)) left.descriptions)) processes
      (join (map (λ n. (n.handle, AThread)) os.threads) (map (λ n. (n.event, AnEvent)) os.threads ++ map (λ j. (j.handle, AStreamOf j.kind)) left.descriptions) threads
      (join (map (λ n. (n.event, AnEvent)) os.threads) (map (λ j. (j.handle, AStreamOf j.kind)) left.descriptions) events descriptions))) it

  pub FitsObjects-withdrawn : FitsObjects left o ((h, AStreamOf d.kind) ∷ []) None
  FitsObjects-withdrawn = record {
    once = λ q.
        let same : times_named q (recorded left ++ kept) ≡ times_named q (recorded os ++ []) = omega (
          arith,
          times_named-append q (recorded left) kept,
          times_named-cons q h (AStreamOf d.kind) [],
          times_named-recorded q left,
          times_named-append q (recorded os) [],
          times_named-recorded q os,
          gone_once q,
        ) in
        same ∙ fits.once q;
    kinds = kinds_left;
    homes = fits.homes;
    codes = fits.codes;
  }

-- ---- what changes doesn't hang on the service in progress

duplicated-service : (os : LibOs) (cont : Option Cont) (p new : ℕ) (x : Option Description) → duplicated (record os { cont = cont }) p new x ≡ record (duplicated os p new x) { cont = cont }
duplicated-service os cont p new None = refl
duplicated-service os cont p new (Some d) = refl

pub closes-service : (os : LibOs) (cont : Option Cont) (h : ℕ) → with_change (record os { cont = cont }) (Closes h) ≡ record (with_change os (Closes h)) { cont = cont }
closes-service os cont h = without_description-service os cont (description_with h os.descriptions)

pub replaces-service : (os : LibOs) (cont : Option Cont) (h process old new : ℕ) → with_change (record os { cont = cont }) (Replaces h process old new) ≡ record (with_change os (Replaces h process old new)) { cont = cont }
replaces-service os cont h process old new =
    let left = without_stream os h in
    ap (λ (l : LibOs). with_duplicate l process old new) (closes-service os cont h)
    ∙ duplicated-service left cont (pid_with left process) new (description_behind left process old)

changed-service : (os : LibOs) (c : Cont) (cont : Option Cont) → with_change (record os { cont = cont }) (closing_change c) ≡ record (with_change os (closing_change c)) { cont = cont }
changed-service os c cont =
    let u = upcall_in c.event in
    let h = handle c 0 in
    elim (is_call u DUP3) as (λ b. with_change (record os { cont = cont }) (cond b (Replaces h u.process (register u.context 10) (register u.context 11)) (Closes h))
    ≡ record (with_change os (cond b (Replaces h u.process (register u.context 10) (register u.context 11)) (Closes h))) { cont = cont }) [
      | true ↦ replaces-service os cont h u.process (register u.context 10) (register u.context 11)
      | false ↦ closes-service os cont h
    ]

-- ---- descriptors in the machine, and in a record

-- A descriptor names a description as well after what it named was closed.
named_again : (m : Mono) (p fd id : ℕ) → machine.with_descriptor (machine.without_descriptor m p fd) p fd id ≡ machine.with_descriptor m p fd id
named_again m p fd id = by_process (process_at m p) refl
  where
    by_process : (x : Option Process) → process_at m p ≡ x → machine.with_descriptor (machine.without_descriptor m p fd) p fd id ≡ machine.with_descriptor m p fd id
    by_process None is =
        let closed : machine.without_descriptor m p fd ≡ m = ap (with_descriptors_in m p (remove (descriptors_at m p) fd)) is in
        ap (λ n. machine.with_descriptor n p fd id) closed
    by_process (Some process) is =
        let after = record process { descriptors = remove process.descriptors fd } in
        let now = record process { descriptors = insert process.descriptors fd id } in
        let closed : machine.without_descriptor m p fd ≡ with_process m p after = ap (λ x. with_descriptors_in m p (remove (machine.descriptors_in x) fd) x) is in
        let there : process_at (with_process m p after) p ≡ Some after = get-insert-same m.processes p after in
        ap (λ n. machine.with_descriptor n p fd id) closed
        ∙ ap (λ x. with_descriptors_in (with_process m p after) p (insert (machine.descriptors_in x) fd id) x) there
        ∙ ap (λ ds. with_process (with_process m p after) p (record process { descriptors = ds })) (insert-remove process.descriptors fd id)
        ∙ ap (λ ps. record m { processes = ps }) (insert-insert m.processes p after now)
        ∙ sym (ap (λ x. with_descriptors_in m p (insert (machine.descriptors_in x) fd id) x) is)

-- What is found first is one that is free.
first_found : (f : ℕ → Option ℕ) (at n x : ℕ) → first_some f at n ≡ Some x → (a : ℕ) × (f a ≡ Some x)
first_found f at zero x is = absurd (let e : None ≡ Some x = sym (first_some-zero f at) ∙ is in cc)
first_found f at (suc n) x is = elim (f at) as (λ y. f at ≡ y → option_or y (first_some f (at + 1) n) ≡ Some x → (a : ℕ) × (f a ≡ Some x)) [
  | None ↦ λ none found. first_found f (at + 1) n x found
  | Some y ↦ λ some found. (at, some ∙ found)
] refl (sym (first_some-suc f at n) ∙ is)

free_if : (ds : List DescriptorNote) (a fd : ℕ) (x : Option DescriptorNote) → descriptor_named a ds ≡ x → cond (is_some x) None (Some a) ≡ Some fd → descriptor_named fd ds ≡ None
free_if ds a fd None free is = let same : a ≡ fd = cc in ap (λ k. descriptor_named k ds) (sym same) ∙ free
free_if ds a fd (Some d) named is = absurd (cc)

least_free-free : (ds : List DescriptorNote) (fd : ℕ) → least_free ds ≡ Some fd → descriptor_named fd ds ≡ None
least_free-free ds fd is =
    let at = first_found (if_free_descriptor ds) 0 DESCRIPTORS fd is in
    free_if ds at.0 fd (descriptor_named at.0 ds) refl at.1

-- dup3 goes on only where its descriptors differ.
dup3_differ : (cx : Context) → dup3_known cx ≡ None → (register cx 10 == register cx 11) ≡ false
dup3_differ cx none = asks (not (register cx 12 == 0 || register cx 12 == 0x80000)) (register cx 10 == register cx 11) none
  where
    asks : (flags same : Bool) → cond (flags || same) (Some (error EINVAL)) None ≡ None → same ≡ false
    asks true same none = absurd (cc)
    asks false true none = absurd (cc)
    asks false false none = refl

-- ---- a call on descriptors

module _ (os : LibOs) (v : Visible) (u : Upcall) (up : os.boot ≡ Up) (fits : FitsTrapped os v.objects u) where
  abbrev m : Mono
  m = base os v

  abbrev who : Caller
  who = caller_of os u

  abbrev p : ℕ
  p = pid_with os u.process

  home : Trapped os v.objects u
  home = trapped os v.objects u [] None fits.records fits.objects fits.home fits.recorded

  abbrev process : ProcessNote
  process = home.links.process

  behind : process_with u.process os.processes ≡ Some process
  behind = process_found os v.objects u home 0 fits.records fits.objects

  there : process_named p os.processes ≡ Some process
  there = process_there os v.objects u home 0 fits.records fits.objects

  abbrev alive : process.code ≡ None
  alive = home.links.code

  fit : is_fit_process os process ≡ true
  fit = list_all-find (is_fit_process os) (λ n. n.handle == u.process) os.processes process fits.records.processes behind

  once : (h : ℕ) → times_named h (recorded os) ≤ 1
  once h = omega (arith, times_recorded-most os v.objects [] None fits.objects h, times_named-recorded h os)

  -- what a descriptor names
  named_open : (d : DescriptorNote) (fd : ℕ) → descriptor_named fd process.descriptors ≡ Some d → is_some (description_named d.description os.descriptions) ≡ true
  named_open d fd named =
      let parts = and_parts (are_distinct (map (λ j. j.number) process.descriptors)) _ fit in
      let all = and_parts (list_all (λ j. is_some (description_named j.description os.descriptions)) process.descriptors) _ parts.1 in
      list_all-find (λ j. is_some (description_named j.description os.descriptions)) (λ j. j.number == fd) process.descriptors d all.0 named

  described_as : (fd : ℕ) (x : Option DescriptorNote) → descriptor_named fd process.descriptors ≡ x → option_map (λ d. d.description) x ≡ option_map (λ d. d.id) (described os.descriptions x)
  described_as fd None is = refl
  described_as fd (Some j) is =
      let d = some_of (description_named j.description os.descriptions) (named_open j fd is) in
      ap Some (sym (eqb-true d.0.id j.description (find-passes (λ k. k.id == j.description) os.descriptions d.0 d.1))) ∙ sym (ap (option_map (λ k. k.id)) d.1)

  behind_is : (fd : ℕ) → description_behind os u.process fd ≡ described os.descriptions (descriptor_named fd process.descriptors)
  behind_is fd = ap (described_in os fd) behind

  named_is : (fd : ℕ) → named_by m p fd ≡ option_map (λ d. d.id) (description_behind os u.process fd)
  named_is fd = named_by-found os v p process there alive fd ∙ described_as fd (descriptor_named fd process.descriptors) refl
      ∙ sym (ap (option_map (λ d. d.id)) (behind_is fd))

  names_described : (fd : ℕ) (d : Description) → description_behind os u.process fd ≡ Some d → (j : DescriptorNote) → descriptor_named fd process.descriptors ≡ Some j → j.description ≡ d.id
  names_described fd d is j named =
      let found : description_named j.description os.descriptions ≡ Some d = sym (ap (described os.descriptions) named) ∙ sym (behind_is fd) ∙ is in
      sym (eqb-true d.id j.description (find-passes (λ k. k.id == j.description) os.descriptions d found))

  -- ---- what follows
  trap_with : (new : LibOs) (cont : Option Cont) → SameProcesses os new → returns os u ≡ true → FitsTrap (record new { cont = cont }) v.objects u SetContext
  trap_with new cont same goes = record {
    up = same.boot ∙ up;
    first = same.there 1 ∙ fits.first;
    current = fits.current;
    home = fits.home;
    comes = ap (λ ts. (u.cause == 8) && (not (is_exit_call u) && is_some (thread_with u.thread ts))) same.threads ∙ goes;
  }

  -- records that changed, and a result
  changed_result : (new : LibOs) (n : Mono) (result : ℕ) → SameProcesses os new → FitsRecords new → FitsObjects new v.objects [] None → base new v ≡ n → returns os u ≡ true
      → Stands (result_of new u result) v (leads_to (silently (finished n who result)))
  changed_result new n result same records objects is goes = record {
    fits = result_fits new v.objects (entered_with u) result records objects (trap_with new (result_of new u result).cont same goes);
    means = λ i. settles (Runs (resumed (is i) (caller_same os new u same i).thread (caller_same os new u same i).process (returned u.context result)));
  }

  plain_result : (result : ℕ) → returns os u ≡ true → Stands (result_of os u result) v (leads_to (silently (finished m who result)))
  plain_result result goes = changed_result os m result (same_processes os) fits.records fits.objects refl goes

  -- the stream of a description is closed first
  closing_stage : (d : Description) (n : Mono) (result : ℕ) → description_with d.handle os.descriptions ≡ Some d → closes_one os u ≡ true
      → closes_new os (service_with_stream (entered_with u) d.handle result) ≡ true
      → base (with_change os (closing_change (service_with_stream (entered_with u) d.handle result))) v ≡ n
      → Stands (goes_on os (service_with_stream (entered_with u) d.handle result)) v (leads_to (silently (finished n who result)))
  closing_stage d n result found comes replaces is =
      let c = service_with_stream (entered_with u) d.handle result in
      let os1 = with_descriptors os (naming_others d.id) in
      let objects = FitsObjects-withdrawn os1 v.objects d d.handle fits.records.ids found (FitsObjects-redescribed os (naming_others d.id) v.objects [] None fits.objects) in
      let left = without_description os (Some d) in
      let counts : without_stream (goes_on os c) d.handle ≡ record left { cont = Some c } =
      without_description-service os (Some c) (description_with d.handle os.descriptions) ∙ ap (λ x. record (without_description os x) { cont = Some c }) found in
      let names : ◌≡◌ {A = List Named} ((d.handle, AStreamOf d.kind) ∷ []) (closed_name os d.handle ∷ []) =
      ap (λ x. (d.handle, kind_described x) ∷ []) (sym found) in
      record {
        fits = record {
          records = FitsRecords-with_service os os.boot (Some c) fits.records;
          objects = subst (λ l. FitsObjects l v.objects (closed_name os d.handle ∷ []) None) (sym counts)
              (subst (λ names. FitsObjects (record left { cont = Some c }) v.objects names None) names
              (FitsObjects-with_service left left.boot (Some c) v.objects ((d.handle, AStreamOf d.kind) ∷ []) None objects));
          event = record { up = up; first = fits.first; current = fits.current; home = fits.home; comes = comes };
          lists = record { next = λ keeps. absurd (cc); names = λ keeps. refl; bytes = λ keeps. refl; handles = refl; later = refl; numbers = refl };
          names = tt;
          kept = replaces;
          made = tt;
        };
        means = ap (λ (l : LibOs). settles (Runs (resumed (base l v) who.thread who.process (returned u.context result)))) (changed-service os c (Some c))
            ∙ ap (λ (n : Mono). settles (Runs (resumed n who.thread who.process (returned u.context result)))) is;
      }

  handle_found : (fd : ℕ) (d : Description) → description_behind os u.process fd ≡ Some d → description_with d.handle os.descriptions ≡ Some d
  handle_found fd d is = find-alone (λ (j : Description). j.id == d.id) (λ j. j.handle == d.handle) os.descriptions d (description_behind-there os u.process fd d is) (eq-eqb d.handle d.handle refl)
      (omega (arith, times_recorded-most os v.objects [] None fits.objects d.handle))

  -- ---- a descriptor is closed in the machine
  module _ (fd : ℕ) (d : Description) (is : description_behind os u.process fd ≡ Some d) where
    abbrev without : LibOs
    without = without_descriptor os p fd

    named_there : is_named (base without v) d.id ≡ is_described without d.id
    named_there = is_named-base without v d.id os fits.records
        (ap are_distinct (map-keys (λ (n : ProcessNote). n.pid) (redescribed (left_by p fd)) (λ n. refl) os.processes) ∙ fits.records.pids)
        (folds.list_all-map is_numbered (redescribed (left_by p fd)) os.processes
        ∙ list_all-weaker (is_fit_process os) (λ n. is_numbered (redescribed (left_by p fd) n))
        (λ n fit. numbered_fit os (redescribed (left_by p fd) n) (left_fit os os (λ j. not (n.pid == p && j.number == fd)) n (λ j keeps is. is) fit))
        os.processes fits.records.processes)

    machine_closed : with_closed m p fd ≡ cond (is_described without d.id) (base without v) (machine.without_description (base without v) d.id)
    machine_closed =
        ap (closed_if m p fd) (named_is fd ∙ ap (option_map (λ (k : Description). k.id)) is)
        ∙ ap (λ (n : Mono). ends_unnamed n d.id) (sym (base-without_descriptor os v p process there alive fd))
        ∙ ap (λ b. cond b (base without v) (machine.without_description (base without v) d.id)) named_there

    -- another descriptor names the description
    shared_closed : is_described without d.id ≡ true → with_closed m p fd ≡ base without v
    shared_closed shared = machine_closed ∙ cond-true (is_described without d.id) (base without v) (machine.without_description (base without v) d.id) shared

    still_named : is_described without d.id ≡ true → (j : DescriptorNote) → descriptor_named fd process.descriptors ≡ Some j → is_described without j.description ≡ true
    still_named shared j named = ap (is_described without) (names_described fd d is j named) ∙ shared

    shared_fits : is_described without d.id ≡ true → FitsRecords without
    shared_fits shared = FitsRecords-without_descriptor os p fd process fits.records there (still_named shared)

    -- none does: the description goes with the descriptor
    module _ (last : is_described without d.id ≡ false) where
      stays_apart : (n : ProcessNote) → process_named n.pid os.processes ≡ Some n → (j : DescriptorNote) → descriptor_named j.number n.descriptors ≡ Some j
          → (j.description == d.id) ≡ true → (n.pid == p && j.number == fd) ≡ true
      stays_apart n found j named it = elim (n.pid == p && j.number == fd) as (λ b. (n.pid == p && j.number == fd) ≡ b → b ≡ true) [
        | true ↦ λ _. refl
        | false ↦ λ stays.
            let names : ProcessNote → Bool = λ k. list_any (names_it d.id) k.descriptors in
            let left : ProcessNote → Bool = λ k. list_any (names_it d.id) (left_by p fd k) in
            let here : left n ≡ true = list_any-among (λ k. not (n.pid == p && k.number == fd)) (names_it d.id) n.descriptors
            ∙ list_any-found (λ (k : DescriptorNote). k.number) (λ k. k.number == j.number) (λ k. not (n.pid == p && k.number == fd) && names_it d.id k) n.descriptors j named (and_from _ _ (ap not stays) it) in
            let e : true ≡ false = sym (list_any-map (redescribed (left_by p fd)) names left (λ _. refl) os.processes
            ∙ list_any-found (λ (k : ProcessNote). k.pid) (λ k. k.pid == n.pid) left os.processes n found here) ∙ last in
            absurd (cc)
      ] refl

      goes_with : (n : ProcessNote) → process_named n.pid os.processes ≡ Some n → (j : DescriptorNote) → descriptor_named j.number n.descriptors ≡ Some j
          → (n.pid == p && j.number == fd) ≡ true → (j.description == d.id) ≡ true
      goes_with n found j named closed = eq-eqb j.description d.id (names_described fd d is j (closed_is os p fd process fits.records there n j found named closed))

      alike : (a b : Bool) → (a ≡ true → b ≡ true) → (b ≡ true → a ≡ true) → a ≡ b
      alike true b so back = sym (so refl)
      alike false true so back = back refl
      alike false false so back = refl

      same_left : (n : ProcessNote) → process_named n.pid os.processes ≡ Some n → redescribed (naming_others d.id) n ≡ redescribed (left_by p fd) n
      same_left n found =
          let fit = list_all-find (is_fit_process os) (λ k. k.pid == n.pid) os.processes n fits.records.processes found in
          ap (λ ds. record n { descriptors = ds }) (filter-keyed (λ (j : DescriptorNote). j.number) (λ j. not (j.description == d.id)) (λ j. not (n.pid == p && j.number == fd)) n.descriptors (numbers_distinct os n fit)
          (λ j named. ap not (alike (j.description == d.id) (n.pid == p && j.number == fd) (stays_apart n found j named) (goes_with n found j named))))

      last_closed : base (without_stream os d.handle) v ≡ with_closed m p fd
      last_closed =
          let gone = filter (λ k. not (k.id == d.id)) os.descriptions in
          ap (λ x. base (without_description os x) v) (handle_found fd d is)
          ∙ ap (λ ps. base (record os { processes = ps; descriptions = gone }) v) (map-keyed (λ (n : ProcessNote). n.pid) (redescribed (naming_others d.id)) (redescribed (left_by p fd)) os.processes fits.records.pids same_left)
          ∙ base-without_description without v d.id (λ h. subst (λ names. times_named h names ≤ 1) (sym (recorded-redescribed os (left_by p fd))) (once h))
          ∙ sym (machine_closed ∙ cond-false (is_described without d.id) (base without v) (machine.without_description (base without v) d.id) last)

  -- ---- close
  abbrev fd0 : ℕ
  fd0 = register u.context 10

  close_open_stands : (d : Description) → description_behind os u.process fd0 ≡ Some d → closes_one os u ≡ true → is_call u DUP3 ≡ false → (named : Bool) → is_described (without_descriptor os p fd0) d.id ≡ named
      → Stands (cond (not named) (goes_on os (service_with_stream (entered_with u) d.handle 0)) (result_of (without_descriptor os p fd0) u 0)) v (leads_to (silently (finished (with_closed m p fd0) who 0)))
  close_open_stands d is comes other true shared = changed_result (without_descriptor os p fd0) (with_closed m p fd0) 0 (SameProcesses-redone os (left_by p fd0) os.descriptions) (shared_fits fd0 d is shared)
      (FitsObjects-redescribed os (left_by p fd0) v.objects [] None fits.objects) (sym (shared_closed fd0 d is shared)) (closes_returns os u comes)
  close_open_stands d is comes other false last = closing_stage d (with_closed m p fd0) 0 (handle_found fd0 d is) comes
      (ap (λ b. not b || is_handle_of (description_behind os u.process (register u.context 11)) d.handle) other)
      (ap (λ b. base (with_change os (cond b (Replaces d.handle u.process (register u.context 10) (register u.context 11)) (Closes d.handle))) v) other ∙ last_closed fd0 d is last)

  close_stands_at : (x : Option Description) → description_behind os u.process fd0 ≡ x → closes_one os u ≡ true → is_call u DUP3 ≡ false
      → Stands (close_entered os u x) v (leads_to (silently (close_open m who (option_map (λ d. d.id) x))))
  close_stands_at None is comes other = plain_result (error EBADF) (closes_returns os u comes)
  close_stands_at (Some d) is comes other = close_open_stands d is comes other (is_described (without_descriptor os p fd0) d.id) refl

  pub close_stands : closes_one os u ≡ true → is_call u DUP3 ≡ false → Stands (close_entered os u (description_behind os u.process fd0)) v (leads_to (silently (calls.close m who)))
  close_stands comes other = subst (λ x. Stands (close_entered os u (description_behind os u.process fd0)) v (leads_to (silently (close_open m who x)))) (sym (named_is fd0))
      (close_stands_at (description_behind os u.process fd0) refl comes other)

  -- ---- dup
  -- a descriptor that is free names a description
  module _ (fd : ℕ) (d : Description) (opened : is_some (description_named d.id os.descriptions) ≡ true) where
    free_fits : descriptor_named fd process.descriptors ≡ None → FitsRecords (with_descriptor os p fd d.id)
    free_fits free = FitsRecords-with_descriptor os p fd d.id process fits.records there alive opened
        (FitsRecords-without_descriptor os p fd process fits.records there (λ j some. absurd (let e : None ≡ Some j = sym free ∙ some in cc)))

    -- it names it after what it named before was closed, if something else names that still
    named_stands : (n : Mono) → FitsRecords (with_descriptor os p fd d.id) → machine.with_descriptor m p fd d.id ≡ n → returns os u ≡ true
        → Stands (result_of (with_descriptor os p fd d.id) u fd) v (leads_to (silently (finished n who fd)))
    named_stands n records is goes = changed_result (with_descriptor os p fd d.id) n fd (SameProcesses-redone os (joined_in p fd d.id) os.descriptions) records
        (FitsObjects-redescribed os (joined_in p fd d.id) v.objects [] None fits.objects) (base-with_descriptor os v p process there alive fd d.id ∙ is) goes

  -- the least free descriptor is free
  dup_to_stands : (d : Description) → is_some (description_named d.id os.descriptions) ≡ true → returns os u ≡ true → (x : Option ℕ) → least_free process.descriptors ≡ x
      → Stands (entered.dup_to os u d.id x) v (leads_to (silently (calls.dup_to m who d.id x)))
  dup_to_stands d opened goes None is = plain_result (error EMFILE) goes
  dup_to_stands d opened goes (Some fd) is =
      named_stands fd d opened (machine.with_descriptor m p fd d.id) (free_fits fd d opened (least_free-free process.descriptors fd is)) refl goes

  dup_stands_at : (x : Option Description) → description_behind os u.process fd0 ≡ x → returns os u ≡ true
      → Stands (dup_entered os u x) v (leads_to (silently (dup_open m who (option_map (λ d. d.id) x))))
  dup_stands_at None is goes = plain_result (error EBADF) goes
  dup_stands_at (Some d) is goes =
      let opened = ap is_some (description_behind-there os u.process fd0 d is) in
      let mine : least_free (descriptors_in (process_with u.process os.processes)) ≡ least_free process.descriptors = ap (λ n. least_free (descriptors_in n)) behind in
      let its : machine.least_free (machine.descriptors_at m p) ≡ least_free process.descriptors = least_free-found os v p process there alive in
      subst (λ x. Stands (entered.dup_to os u d.id x) v (leads_to (silently (calls.dup_to m who d.id (machine.least_free (machine.descriptors_at m p)))))) (sym mine)
      (subst (λ x. Stands (entered.dup_to os u d.id (least_free process.descriptors)) v (leads_to (silently (calls.dup_to m who d.id x)))) (sym its)
      (dup_to_stands d opened goes (least_free process.descriptors) refl))

  pub dup_stands : returns os u ≡ true → Stands (dup_entered os u (description_behind os u.process fd0)) v (leads_to (silently (calls.dup m who)))
  dup_stands goes = subst (λ x. Stands (dup_entered os u (description_behind os u.process fd0)) v (leads_to (silently (dup_open m who x)))) (sym (named_is fd0))
      (dup_stands_at (description_behind os u.process fd0) refl goes)

  -- ---- dup3
  abbrev new : ℕ
  new = register u.context 11

  -- what the new descriptor named goes with it, and the old one names what it did
  module _ (d e : Description) (old_is : description_behind os u.process fd0 ≡ Some d) (new_is : description_behind os u.process new ≡ Some e) (differ : (fd0 == new) ≡ false)
      (last : is_described (without_descriptor os p new) e.id ≡ false) where
    abbrev gone : LibOs
    gone = without_description os (Some e)

    old_named : (x : Option DescriptorNote) → descriptor_named fd0 process.descriptors ≡ x → description_behind gone u.process fd0 ≡ Some d
    old_named None none = absurd (let e : None ≡ Some d = sym (ap (described os.descriptions) none) ∙ sym (behind_is fd0) ∙ old_is in cc)
    old_named (Some j) named =
        let number : j.number ≡ fd0 = eqb-true j.number fd0 (find-passes (λ k. k.number == fd0) process.descriptors j named) in
        let apart : (j.description == e.id) ≡ false = elim (j.description == e.id) as (λ b. (j.description == e.id) ≡ b → b ≡ false) [
          | true ↦ λ it.
              let by_number : descriptor_named j.number process.descriptors ≡ Some j = ap (λ k. descriptor_named k process.descriptors) number ∙ named in
              let by_pid : process_named process.pid os.processes ≡ Some process = find-key (λ (n : ProcessNote). n.pid) (λ n. n.handle == u.process) os.processes process fits.records.pids behind in
              let closed = and_parts (process.pid == p) (j.number == new) (stays_apart new e new_is last process by_pid j by_number it) in
              let no : true ≡ false = sym closed.1 ∙ ap (λ k. k == new) number ∙ differ in absurd (cc)
          | false ↦ λ _. refl
        ] refl in
        let kept : descriptor_named fd0 (naming_others e.id process) ≡ Some j =
        find-filter (λ k. not (k.description == e.id)) (λ k. k.number == fd0) process.descriptors (count_by-distinct (λ (k : DescriptorNote). k.number) process.descriptors fd0 (numbers_distinct os process fit))
        ∙ ap (kept_if (λ k. not (k.description == e.id))) named ∙ cond-true (not (j.description == e.id)) (Some j) None (ap not apart) in
        let was : description_named j.description os.descriptions ≡ Some d = sym (ap (described os.descriptions) named) ∙ sym (behind_is fd0) ∙ old_is in
        let still : description_named j.description gone.descriptions ≡ Some d =
        find-kept (λ k. not (k.id == e.id)) (λ k. k.id == j.description) os.descriptions (λ k is. ap (λ i. not (i == e.id)) (eqb-true k.id j.description is) ∙ ap not apart) ∙ was in
        ap (described_in gone fd0) (process_with-redescribed (naming_others e.id) u.process os.processes ∙ ap (option_map (redescribed (naming_others e.id))) behind)
        ∙ ap (described gone.descriptions) kept ∙ still

    gone_there : process_named p gone.processes ≡ Some (redescribed (naming_others e.id) process)
    gone_there = process_named-redescribed (naming_others e.id) p os.processes ∙ ap (option_map (redescribed (naming_others e.id))) there

    replaced : base (with_duplicate (without_stream os e.handle) u.process fd0 new) v ≡ machine.with_descriptor (with_closed m p new) p new d.id
    replaced =
        ap (λ x. base (with_duplicate (without_description os x) u.process fd0 new) v) (handle_found new e new_is)
        ∙ ap (λ q. base (duplicated gone q new (description_behind gone u.process fd0)) v) ((SameProcesses-redone os (naming_others e.id) gone.descriptions).pid u.process)
        ∙ ap (λ x. base (duplicated gone p new x) v) (old_named (descriptor_named fd0 process.descriptors) refl)
        ∙ base-with_descriptor gone v p (redescribed (naming_others e.id) process) gone_there alive new d.id
        ∙ ap (λ n. machine.with_descriptor n p new d.id) (sym (ap (λ x. base (without_description os x) v) (handle_found new e new_is)) ∙ last_closed new e new_is last)

  dup3_last : (d e : Description) → description_behind os u.process fd0 ≡ Some d → description_behind os u.process new ≡ Some e → (fd0 == new) ≡ false → closes_one os u ≡ true → is_call u DUP3 ≡ true
      → (named : Bool) → is_described (without_descriptor os p new) e.id ≡ named
      → Stands (cond (not named) (goes_on os (service_with_stream (entered_with u) e.handle new)) (result_of (with_descriptor os p new d.id) u new)) v
      (leads_to (silently (finished (machine.with_descriptor (with_closed m p new) p new d.id) who new)))
  dup3_last d e old_is new_is differ comes call true shared =
      let opened = ap is_some (description_behind-there os u.process fd0 d old_is) in
      let records = FitsRecords-with_descriptor os p new d.id process fits.records there alive opened (shared_fits new e new_is shared) in
      let same = sym (named_again m p new d.id) ∙ ap (λ n. machine.with_descriptor n p new d.id) (sym (base-without_descriptor os v p process there alive new) ∙ sym (shared_closed new e new_is shared)) in
      named_stands new d opened (machine.with_descriptor (with_closed m p new) p new d.id) records same (closes_returns os u comes)
  dup3_last d e old_is new_is differ comes call false last =
      closing_stage e (machine.with_descriptor (with_closed m p new) p new d.id) new (handle_found new e new_is) comes
      ((λ i. not (call i) || is_handle_of (new_is i) e.handle) ∙ eq-eqb e.handle e.handle refl)
      (ap (λ b. base (with_change os (cond b (Replaces e.handle u.process fd0 new) (Closes e.handle))) v) call ∙ replaced d e old_is new_is differ last)

  dup3_over_stands : (d : Description) → description_behind os u.process fd0 ≡ Some d → (fd0 == new) ≡ false → closes_one os u ≡ true → is_call u DUP3 ≡ true
      → (x : Option Description) → description_behind os u.process new ≡ x
      → Stands (dup3_over os u new d.id x) v (leads_to (silently (finished (machine.with_descriptor (with_closed m p new) p new d.id) who new)))
  dup3_over_stands d old_is differ comes call None none =
      let opened = ap is_some (description_behind-there os u.process fd0 d old_is) in
      let closed : with_closed m p new ≡ m = ap (closed_if m p new) (named_is new ∙ ap (option_map (λ (k : Description). k.id)) none) in
      named_stands new d opened (machine.with_descriptor (with_closed m p new) p new d.id) (free_fits new d opened (free_where (descriptor_named new process.descriptors) refl))
      (ap (λ n. machine.with_descriptor n p new d.id) (sym closed)) (closes_returns os u comes)
    where
      free_where : (x : Option DescriptorNote) → descriptor_named new process.descriptors ≡ x → descriptor_named new process.descriptors ≡ None
      free_where None free = free
      free_where (Some j) named =
          let some : is_some (described os.descriptions (Some j)) ≡ true = named_open j new named in
          let e : false ≡ true = sym (ap is_some (sym (ap (described os.descriptions) named) ∙ sym (behind_is new) ∙ none)) ∙ some in absurd (cc)
  dup3_over_stands d old_is differ comes call (Some e) new_is = dup3_last d e old_is new_is differ comes call (is_described (without_descriptor os p new) e.id) refl

  dup3_open_stands : (fd0 == new) ≡ false → closes_one os u ≡ true → is_call u DUP3 ≡ true → (x : Option Description) → description_behind os u.process fd0 ≡ x
      → Stands (entered.dup3_open os u new x) v (leads_to (silently (dup3_open m who new (option_map (λ d. d.id) x))))
  dup3_open_stands differ comes call None is = plain_result (error EBADF) (closes_returns os u comes)
  dup3_open_stands differ comes call (Some d) is = elim (nat_lt new DESCRIPTORS) as (λ b.
      Stands (cond b (dup3_over os u new d.id (description_behind os u.process new)) (result_of os u (error EBADF))) v
      (leads_to (silently (cond b (finished (machine.with_descriptor (with_closed m p new) p new d.id) who new) (finished m who (error EBADF)))))) [
        | true ↦ dup3_over_stands d is differ comes call (description_behind os u.process new) refl
        | false ↦ plain_result (error EBADF) (closes_returns os u comes)
      ]

  dup3_unless_stands : closes_one os u ≡ true → is_call u DUP3 ≡ true → (x : Option ℕ) → dup3_known u.context ≡ x
      → Stands (dup3_unless os u x) v (leads_to (silently (unless_known m who x (dup3_open m who new (named_by m p fd0)))))
  dup3_unless_stands comes call (Some result) is = plain_result result (closes_returns os u comes)
  dup3_unless_stands comes call None is =
      subst (λ x. Stands (dup3_unless os u None) v (leads_to (silently (dup3_open m who new x)))) (sym (named_is fd0))
      (dup3_open_stands (dup3_differ u.context is) comes call (description_behind os u.process fd0) refl)

  pub dup3_stands : closes_one os u ≡ true → is_call u DUP3 ≡ true → Stands (dup3_unless os u (dup3_known u.context)) v (leads_to (silently (calls.dup3 m who)))
  dup3_stands comes call = dup3_unless_stands comes call (dup3_known u.context) refl
