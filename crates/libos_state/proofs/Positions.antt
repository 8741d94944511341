-- A description at another position: the records fit and name as before, and the machine of the records has it there.
use Rattle.std.specs.Prelude.{◌≡◌, ℕ, ◌==◌, Bool, true, false, cond, not, ◌&&◌, ◌||◌, List, [], ◌∷◌, ◌++◌, map, filter_map, count_by, is_some}
use Rattle.std.specs.List.{list_all}
use Rattle.std.specs.Ordering.{nat_cmp}
use Rattle.std.specs.FinMap.{FinMap, get, insert}
use Rattle.std.specs.Option.{option_map}
use Rattle.std.specs.declared.option.Option.{Option}
use Rattle.std.specs.declared.option.Option.TheVariants.{None, Some}
use Rattle.std.proofs.Common.{refl, sym, ap, subst, ◌∙◌, eqb-true}
use Rattle.std.proofs.lemmas.Bool.{cond-true, cond-false}
use Rattle.std.proofs.lemmas.List.Folds as folds
use Rattle.turn_sched.specs.Lists.{Waiting}
use Rattle.abi_calls.specs.Objects.{Objects, object_at}
use Rattle.bas_items.proofs.NumberMaps.{get-insert, same_numbers}
use Rattle.mono_model.specs.Machine as mono
use Rattle.mono_model.specs.Machine.{Mono}
use Rattle.mono_model.specs.Descriptors as machine
use Rattle.mono_model.specs.Descriptors.{with_position_in}
use Rattle.libos_state.specs.declared.notes.Description.{Description}
use Rattle.libos_state.specs.declared.notes.DescriptorNote.{DescriptorNote}
use Rattle.libos_state.specs.declared.notes.ProcessNote.{ProcessNote}
use Rattle.libos_state.specs.declared.notes.ThreadNote.{ThreadNote}
use Rattle.libos_state.specs.declared.state.LibOs.{LibOs}
use Rattle.libos_state.specs.Records.{Visible, base, description_with, description_named, description_seen, descriptions_of, process_with, thread_with, thread_woken_by, lists_of, target_of, target_by, waiter_of}
use Rattle.libos_state.specs.Descriptors.{note_at, with_position}
use Rattle.libos_state.specs.Named.{Named, AProcess, AThread, AnEvent, AStreamOf, is_of, recorded}
use Rattle.libos_state.specs.Fits.{FitsRecords, FitsObjects, are_distinct, is_none, is_to_name, is_fit_process, is_described, is_fit_access, is_fit_append}
use Rattle.libos_state.proofs.Naming.{find-passes}
use Rattle.libos_state.proofs.Bases.{get-mapped}
use Rattle.libos_state.proofs.Distinct.{find-map}

module _ (os : LibOs) (id position : ℕ) where
  abbrev moved : LibOs
  moved = with_position os id position

  abbrev note : Description → Description
  note = note_at id position

  named-moved : (q : ℕ) → description_named q moved.descriptions ≡ option_map note (description_named q os.descriptions)
  named-moved q = find-map note (λ (d : Description). d.id == q) os.descriptions

  with-moved : (h : ℕ) → description_with h moved.descriptions ≡ option_map note (description_with h os.descriptions)
  with-moved h = find-map note (λ (d : Description). d.handle == h) os.descriptions

  there_still : (x : Option Description) → is_some (option_map note x) ≡ is_some x
  there_still None = refl
  there_still (Some d) = refl

  -- what doesn't hang on a position is as it was
  keys-moved : {X : Type 0} (key : Description → X) → ((d : Description) → key (note d) ≡ key d) → (ds : List Description) → map key (map note ds) ≡ map key ds
  keys-moved key same [] = refl
  keys-moved key same (d ∷ ds) = λ i. same d i ∷ keys-moved key same ds i

  all-moved : (test : Description → Bool) → ((d : Description) → test (note d) ≡ test d) → (ds : List Description) → list_all test (map note ds) ≡ list_all test ds
  all-moved test same ds = folds.list_all-map test note ds ∙ (λ i. list_all (λ d. same d i) ds)

  pub FitsRecords-with_position : FitsRecords os → FitsRecords moved
  FitsRecords-with_position fits = record {
    pids = fits.pids;
    tids = fits.tids;
    ids = ap are_distinct (keys-moved (λ d. d.id) (λ d. refl) os.descriptions) ∙ fits.ids;
    given_pids = fits.given_pids;
    given_tids = fits.given_tids;
    processes = (λ i. list_all (λ n. fit n i) os.processes) ∙ fits.processes;
    threads = fits.threads;
    described = all-moved (λ d. is_described os d.id) (λ d. refl) os.descriptions ∙ fits.described;
    access = all-moved (λ d. is_fit_access d.kind d.access) (λ d. refl) os.descriptions ∙ fits.access;
    append = all-moved (λ d. is_fit_append d.kind d.append) (λ d. refl) os.descriptions ∙ fits.append;
    parents = fits.parents;
    queued = fits.queued;
    waits_once = fits.waits_once;
    few_ids = fits.few_ids;
  }
    where
      named : (n : DescriptorNote) → is_some (description_named n.description moved.descriptions) ≡ is_some (description_named n.description os.descriptions)
      named n = ap is_some (named-moved n.description) ∙ there_still (description_named n.description os.descriptions)

      fit : (n : ProcessNote) → is_fit_process moved n ≡ is_fit_process os n
      fit n = λ i. are_distinct (map (λ d. d.number) n.descriptors) && (list_all (λ d. named d i) n.descriptors && (not (is_some n.code) || is_none n.descriptors))

  recorded-moved : recorded moved ≡ recorded os
  recorded-moved = ap (λ (names : List Named). map (λ n. (n.handle, AProcess)) os.processes ++ (map (λ n. (n.handle, AThread)) os.threads ++ (map (λ n. (n.event, AnEvent)) os.threads ++ names)))
      (keys-moved (λ d. (d.handle, AStreamOf d.kind)) (λ d. refl) os.descriptions)

  pub FitsObjects-with_position : (o : Objects) (kept : List Named) (ending : Option ℕ) → FitsObjects os o kept ending → FitsObjects moved o kept ending
  FitsObjects-with_position o kept ending fits = record {
    once = λ q. subst (λ (names : List Named). count_by (λ n. n.0 == q) (names ++ kept) ≡ cond (is_to_name ending (object_at o q)) 1 0) (sym recorded-moved) (fits.once q);
    kinds = subst (λ (names : List Named). list_all (λ n. is_of n.1 (object_at o n.0)) (names ++ kept) ≡ true) (sym recorded-moved) fits.kinds;
    homes = fits.homes;
    codes = fits.codes;
  }

  -- ---- the machine

  target_same : (d : Option Description) (n : Option ProcessNote) (t : Option ThreadNote) → target_by (option_map note d) n t ≡ target_by d n t
  target_same (Some d) n t = refl
  target_same None (Some n) t = refl
  target_same None None (Some n) = refl
  target_same None None None = refl

  target_of-moved : (h : ℕ) → target_of moved h ≡ target_of os h
  target_of-moved h =
      ap (λ d. target_by d (process_with h os.processes) (thread_woken_by h os.threads)) (with-moved h)
      ∙ target_same (description_with h os.descriptions) (process_with h os.processes) (thread_woken_by h os.threads)

  waiting-moved : (ws : List Waiting) → filter_map (waiter_of moved) ws ≡ filter_map (waiter_of os) ws
  waiting-moved ws = λ i. filter_map
      (λ w. option_map (λ n. record { thread = n.tid; targets = map (λ h. target_of-moved h i) w.handles; deadline = w.deadline }) (thread_with w.thread os.threads)) ws

  module _ (v : Visible) (d : Description) (there : description_named id os.descriptions ≡ Some d) where
    abbrev seen : Description → mono.Description
    seen = description_seen v.objects.live

    abbrev before : FinMap nat_cmp mono.Description
    before = descriptions_of os.descriptions v.objects.live

    abbrev now : mono.Description
    now = record (seen d) { position = position }

    own : (d.id == id) ≡ true
    own = find-passes (λ (e : Description). e.id == id) os.descriptions d there

    seen_other : (q : ℕ) → (q == id) ≡ false → (x : Option Description) → description_named q os.descriptions ≡ x → option_map seen (option_map note x) ≡ option_map seen x
    seen_other q other None is = refl
    seen_other q other (Some e) is =
        let at : e.id ≡ q = eqb-true e.id q (find-passes (λ (j : Description). j.id == q) os.descriptions e is) in
        ap (λ p. Some (record (seen e) { position = p })) (cond-false (e.id == id) position e.position (ap (λ k. k == id) at ∙ other))

    descriptions-moved : descriptions_of moved.descriptions v.objects.live ≡ insert before id now
    descriptions-moved = same_numbers _ _ (λ q. get-mapped (λ e. e.id) seen moved.descriptions q
        ∙ ap (option_map seen) (named-moved q)
        ∙ elim (q == id) as (λ b. (q == id) ≡ b → option_map seen (option_map note (description_named q os.descriptions)) ≡ cond b (Some now) (get before q)) [
          | true ↦ λ same. ap (λ k. option_map seen (option_map note (description_named k os.descriptions))) (eqb-true q id same)
              ∙ ap (λ x. option_map seen (option_map note x)) there
              ∙ ap (λ p. Some (record (seen d) { position = p })) (cond-true (d.id == id) position d.position own)
          | false ↦ λ other. seen_other q other (description_named q os.descriptions) refl ∙ sym (get-mapped (λ e. e.id) seen os.descriptions q)
        ] refl ∙ sym (get-insert before id now q))

    pub base-with_position : base moved v ≡ machine.with_position (base os v) id position
    base-with_position =
        let found : get before id ≡ Some (seen d) = get-mapped (λ e. e.id) seen os.descriptions id ∙ ap (option_map seen) there in
        (λ i. record (base os v) { descriptions = descriptions-moved i; lists = record (lists_of os v.objects.lists) { waiting = waiting-moved v.objects.lists.waiting i } })
        ∙ sym (ap (with_position_in (base os v) id position) found)
