-- The records without a process that ends fit by themselves as before.
use Rattle.std.specs.Prelude.{◌≡◌, ℕ, ◌==◌, Bool, true, false, cond, not, ◌&&◌, ◌||◌, nat_lt, List, [], map, find, is_some}
use Rattle.std.specs.List.{list_all, list_any}
use Rattle.std.specs.Option.{option_map}
use Rattle.std.specs.declared.option.Option.{Option}
use Rattle.std.specs.declared.option.Option.TheVariants.{None, Some}
use Rattle.std.proofs.Common.{refl, ap, ◌∙◌, eq-eqb, eqb-true}
use Rattle.std.proofs.lemmas.Bool.{and_parts, and_from, cond-true, cond-false, not-true}
use Rattle.std.proofs.lemmas.List.Folds.{list_all-map}
use Rattle.turn_sched.proofs.Renamed.{list_any-map}
use Rattle.turn_sched.proofs.ThreadLists.{list_all-filter}
use Rattle.libos_state.specs.declared.notes.Description.{Description}
use Rattle.libos_state.specs.declared.notes.DescriptorNote.{DescriptorNote}
use Rattle.libos_state.specs.declared.notes.ProcessNote.{ProcessNote}
use Rattle.libos_state.specs.declared.notes.Queued.{Queued}
use Rattle.libos_state.specs.declared.notes.ThreadNote.{ThreadNote}
use Rattle.libos_state.specs.declared.state.LibOs.{LibOs}
use Rattle.libos_state.specs.Records.{process_named, process_with, thread_named, description_named}
use Rattle.libos_state.specs.Entered.{names_description, is_open_without, note_ended, is_note_of, without_process}
use Rattle.libos_state.specs.Fits.{FitsRecords, are_distinct, is_fit_process, is_fit_parent, is_alive, is_fit_access, is_fit_append, is_described, is_given}
use Rattle.libos_state.proofs.Distinct.{some_of, find-map, are_distinct-filter, map-keys}
use Rattle.libos_state.proofs.Naming.{find-passes}
use Rattle.libos_state.proofs.Filtered.{kept_if, find-filter, count_by-distinct, list_any-weaker, list_all-within}

-- The record of a process that ends keeps its numbers, and every other is as it was.
module _ (p code : ℕ) (n : ProcessNote) where
  pub note_ended-pid : (note_ended p code n).pid ≡ n.pid
  note_ended-pid = elim (n.pid == p) as (λ b. (cond b (record n { code = Some code; descriptors = [] }) n).pid ≡ n.pid) [ true ↦ refl | false ↦ refl ]

  pub note_ended-handle : (note_ended p code n).handle ≡ n.handle
  note_ended-handle = elim (n.pid == p) as (λ b. (cond b (record n { code = Some code; descriptors = [] }) n).handle ≡ n.handle) [ true ↦ refl | false ↦ refl ]

  note_ended-parent : (note_ended p code n).parent ≡ n.parent
  note_ended-parent = elim (n.pid == p) as (λ b. (cond b (record n { code = Some code; descriptors = [] }) n).parent ≡ n.parent) [ true ↦ refl | false ↦ refl ]

  pub note_ended-other : (n.pid == p) ≡ false → note_ended p code n ≡ n
  note_ended-other other = cond-false (n.pid == p) (record n { code = Some code; descriptors = [] }) n other

pub process_named-ended : (p code q : ℕ) (notes : List ProcessNote) → process_named q (map (note_ended p code) notes) ≡ option_map (note_ended p code) (process_named q notes)
process_named-ended p code q notes = find-map (note_ended p code) (λ n. n.pid == q) notes ∙ (λ i. option_map (note_ended p code) (find (λ n. note_ended-pid p code n i == q) notes))

pub process_with-ended : (p code h : ℕ) (notes : List ProcessNote) → process_with h (map (note_ended p code) notes) ≡ option_map (note_ended p code) (process_with h notes)
process_with-ended p code h notes = find-map (note_ended p code) (λ n. n.handle == h) notes ∙ (λ i. option_map (note_ended p code) (find (λ n. note_ended-handle p code n i == h) notes))

module _ (os : LibOs) (p code : ℕ) (fits : FitsRecords os) where
  abbrev left : LibOs
  left = without_process os p code

  abbrev ends : ProcessNote → ProcessNote
  ends n = note_ended p code n

  -- a description that another process names stays
  kept_named : (n : ProcessNote) (id : ℕ) → ((test : ProcessNote → Bool) → test n ≡ true → list_any test os.processes ≡ true) → names_description p id n ≡ true
      → is_some (description_named id os.descriptions) ≡ true → is_some (description_named id left.descriptions) ≡ true
  kept_named n id there names opened =
      let d = some_of (description_named id os.descriptions) opened in
      let same : d.0.id ≡ id = eqb-true d.0.id id (find-passes (λ j. j.id == id) os.descriptions d.0 d.1) in
      let stays : is_open_without os p d.0.id ≡ true = ap (is_open_without os p) same ∙ there (names_description p id) names in
      ap is_some (find-filter (λ j. is_open_without os p j.id) (λ j. j.id == id) os.descriptions (count_by-distinct (λ (j : Description). j.id) os.descriptions id fits.ids)
      ∙ ap (kept_if (λ j. is_open_without os p j.id)) d.1 ∙ cond-true (is_open_without os p d.0.id) (Some d.0) None stays)

  fit_left : (n : ProcessNote) → ((test : ProcessNote → Bool) → test n ≡ true → list_any test os.processes ≡ true) → is_fit_process os n ≡ true → is_fit_process left (ends n) ≡ true
  fit_left n there fit = elim (n.pid == p) as (λ b. (n.pid == p) ≡ b → is_fit_process left (cond b (record n { code = Some code; descriptors = [] }) n) ≡ true) [
    | true ↦ λ _. refl
    | false ↦ λ other.
        let parts = and_parts (are_distinct (map (λ d. d.number) n.descriptors)) _ fit in
        let named = and_parts (list_all (λ d. is_some (description_named d.description os.descriptions)) n.descriptors) _ parts.1 in
        let names : (d : DescriptorNote) → ((test : DescriptorNote → Bool) → test d ≡ true → list_any test n.descriptors ≡ true) → names_description p d.description n ≡ true =
        λ d found. and_from _ _ (ap not other) (found (λ j. j.description == d.description) (eq-eqb d.description d.description refl)) in
        and_from _ _ parts.0 (and_from _ _
        (list_all-within (λ d. is_some (description_named d.description os.descriptions)) (λ d. is_some (description_named d.description left.descriptions)) n.descriptors
        (λ d found opened. kept_named n d.description there (names d found) opened) named.0)
        named.1)
  ] refl

  -- the process of a thread that stays goes on
  alive_left : (n : ThreadNote) → not (n.pid == p) ≡ true → is_alive (process_named n.pid os.processes) ≡ true → is_alive (process_named n.pid left.processes) ≡ true
  alive_left n stays alive = ap is_alive (process_named-ended p code n.pid os.processes) ∙ same (process_named n.pid os.processes) refl alive
    where
      same : (x : Option ProcessNote) → process_named n.pid os.processes ≡ x → is_alive x ≡ true → is_alive (option_map (note_ended p code) x) ≡ true
      same None is alive = absurd (cc)
      same (Some m) is alive =
          let pid : m.pid ≡ n.pid = eqb-true m.pid n.pid (find-passes (λ j. j.pid == n.pid) os.processes m is) in
          ap (λ j. is_alive (Some j)) (note_ended-other p code m (ap (λ k. k == p) pid ∙ not-true (n.pid == p) stays)) ∙ alive

  -- a description that stays is one that another process has open
  names_still : (id : ℕ) (n : ProcessNote) → names_description p id n ≡ true → list_any (λ d. d.description == id) (ends n).descriptors ≡ true
  names_still id n names =
      let parts = and_parts (not (n.pid == p)) (list_any (λ d. d.description == id) n.descriptors) names in
      ap (λ (j : ProcessNote). list_any (λ d. d.description == id) j.descriptors) (note_ended-other p code n (not-true _ parts.0)) ∙ parts.1

  described_left : (d : Description) → is_open_without os p d.id ≡ true → is_described left d.id ≡ true
  described_left d opened =
      list_any-map ends (λ n. list_any (λ j. j.description == d.id) n.descriptors) (λ n. list_any (λ j. j.description == d.id) (ends n).descriptors) (λ _. refl) os.processes
      ∙ list_any-weaker (names_description p d.id) (λ n. list_any (λ j. j.description == d.id) (ends n).descriptors) (names_still d.id) os.processes opened

  -- a parent has a record still
  is_there : (x : Option ProcessNote) → is_some (option_map ends x) ≡ is_some x
  is_there None = refl
  is_there (Some n) = refl

  parent_there : (q : ℕ) → is_some (process_named q left.processes) ≡ is_some (process_named q os.processes)
  parent_there q = ap is_some (process_named-ended p code q os.processes) ∙ is_there (process_named q os.processes)

  parent_left : (n : ProcessNote) → is_fit_parent left (ends n) ≡ is_fit_parent os n
  parent_left n =
      (λ i. note_ended-parent p code n i == 0 || (nat_lt (note_ended-parent p code n i) (note_ended-pid p code n i) && is_some (process_named (note_ended-parent p code n i) left.processes)))
      ∙ ap (λ b. n.parent == 0 || (nat_lt n.parent n.pid && b)) (parent_there n.parent)

  -- a thread that stays in the queue has a record still
  stays_noted : (x : Option ThreadNote) → not (is_note_of p x) ≡ true → is_some x ≡ true → is_some (kept_if (λ n. not (n.pid == p)) x) ≡ true
  stays_noted None stays some = some
  stays_noted (Some n) stays some = ap is_some (cond-true (not (n.pid == p)) (Some n) None stays)

  queued_left : (q : Queued) → not (is_note_of p (thread_named q.tid os.threads)) ≡ true → is_some (thread_named q.tid os.threads) ≡ true → is_some (thread_named q.tid left.threads) ≡ true
  queued_left q stays some =
      ap is_some (find-filter (λ n. not (n.pid == p)) (λ n. n.tid == q.tid) os.threads (count_by-distinct (λ (n : ThreadNote). n.tid) os.threads q.tid fits.tids))
      ∙ stays_noted (thread_named q.tid os.threads) stays some

  pub FitsRecords-without_process : FitsRecords (without_process os p code)
  FitsRecords-without_process =
      let stays : ThreadNote → Bool = λ n. not (n.pid == p) in
      let opened : Description → Bool = λ d. is_open_without os p d.id in
      let waits : Queued → Bool = λ q. not (is_note_of p (thread_named q.tid os.threads)) in
      record {
        pids = ap are_distinct (map-keys (λ (n : ProcessNote). n.pid) ends (note_ended-pid p code) os.processes) ∙ fits.pids;
        tids = are_distinct-filter (λ (n : ThreadNote). n.tid) stays os.threads fits.tids;
        ids = are_distinct-filter (λ (d : Description). d.id) opened os.descriptions fits.ids;
        given_pids = list_all-map (λ (n : ProcessNote). is_given os n.pid) ends os.processes ∙ (λ i. list_all (λ n. is_given os (note_ended-pid p code n i)) os.processes) ∙ fits.given_pids;
        given_tids = list_all-filter stays (λ n. is_given os n.tid) (λ n. is_given os n.tid) (λ n _ is. is) os.threads fits.given_tids;
        processes = list_all-map (is_fit_process left) ends os.processes ∙ list_all-within (is_fit_process os) (λ n. is_fit_process left (ends n)) os.processes fit_left fits.processes;
        threads = list_all-filter stays (λ n. is_alive (process_named n.pid os.processes)) (λ n. is_alive (process_named n.pid left.processes)) alive_left os.threads fits.threads;
        described = list_all-filter opened (λ d. is_described os d.id) (λ d. is_described left d.id) (λ d is _. described_left d is) os.descriptions fits.described;
        access = list_all-filter opened (λ d. is_fit_access d.kind d.access) (λ d. is_fit_access d.kind d.access) (λ d _ is. is) os.descriptions fits.access;
        append = list_all-filter opened (λ d. is_fit_append d.kind d.append) (λ d. is_fit_append d.kind d.append) (λ d _ is. is) os.descriptions fits.append;
        parents = list_all-map (is_fit_parent left) ends os.processes ∙ (λ i. list_all (λ n. parent_left n i) os.processes) ∙ fits.parents;
        queued = list_all-filter waits (λ q. is_some (thread_named q.tid os.threads)) (λ q. is_some (thread_named q.tid left.threads)) queued_left os.queue fits.queued;
        waits_once = are_distinct-filter (λ (q : Queued). q.tid) waits os.queue fits.waits_once;
        few_ids = fits.few_ids;
      }
