-- What a process that ends names: the records without it, and what is to be closed, name all but its threads.
use Rattle.std.specs.Prelude.{◌≡◌, ℕ, ◌+◌, ◌==◌, Bool, true, false, not, cond, ◌&&◌, List, [], ◌∷◌, ◌++◌, map, filter, find, count_by, is_some}
use Rattle.std.specs.List.{list_all}
use Rattle.std.specs.Option.{option_map}
use Rattle.std.specs.declared.option.Option.{Option}
use Rattle.std.specs.declared.option.Option.TheVariants.{None, Some}
use Rattle.std.proofs.Common.{refl, sym, ap, ◌∙◌, arith, eq-eqb, eqb-true}
use Rattle.std.proofs.lemmas.Bool.{cond-true, and_parts, and_from}
use Rattle.std.proofs.lemmas.List.Sums.{sum_by-append}
use Rattle.std.proofs.lemmas.List.Folds as folds
use Rattle.std.proofs.lemmas.List.Folds.{list_all-append}
use Rattle.turn_sched.proofs.ThreadLists.{list_all-filter, list_all-map, list_all-weaker}
use Rattle.abi_calls.specs.declared.object.Object.TheVariants.{Process, Thread, Event, Stream, ReadEnd, WriteEnd}
use Rattle.abi_calls.specs.declared.threads.Upcall.{Upcall}
use Rattle.abi_calls.specs.Objects.{Object, Objects, object_at, running, is_thread_of}
use Rattle.libos_state.specs.declared.notes.Description.{Description}
use Rattle.libos_state.specs.declared.notes.Kind.{Kind}
use Rattle.libos_state.specs.declared.notes.ProcessNote.{ProcessNote}
use Rattle.libos_state.specs.declared.notes.ThreadNote.{ThreadNote}
use Rattle.libos_state.specs.declared.state.LibOs.{LibOs}
use Rattle.libos_state.specs.Records.{process_named, process_with, thread_with, pid_of, pid_with}
use Rattle.libos_state.specs.Entered.{is_open_without, opened_alone, streams_behind, handles_of, note_ended, without_process}
use Rattle.libos_state.specs.Named.{Named, AProcess, AThread, AnEvent, AStreamOf, ToClose, is_of, recorded, times_named}
use Rattle.libos_state.specs.Fits.{FitsRecords, FitsObjects, is_to_name, is_code, has_code, handle_in, is_home}
use Rattle.libos_state.proofs.Distinct.{some_of, find-key}
use Rattle.libos_state.proofs.Naming.{is_named, find-passes, count_by-cons, count_by-found, list_all-except, times_named-append, times_named-map, times_named-recorded, times_recorded-most, KindsRecorded, kinds-lists, Linked, linked-found, Trapped, thread_of}
use Rattle.libos_state.proofs.Filtered.{count_by-distinct}
use Rattle.libos_state.proofs.OpenedAlone.{count_by-opened_alone, list_all-streams_behind}
use Rattle.libos_state.proofs.LeftRecords.{note_ended-handle, note_ended-other, process_named-ended}
use Rattle.libos_state.proofs.Waking.{thread_recorded}
use Rattle.libos_state.proofs.Ending.{to_close, unnamed, named_alike}

-- ---- counts over lists that change

parted : (a b : Bool) → ◌≡◌ {A = ℕ} (cond (a && b) 1 0 + cond (not a && b) 1 0) (cond b 1 0)
parted true true = refl
parted true false = refl
parted false true = refl
parted false false = refl

module _ {X : Type 0} where
  pub count_by-append : (t : X → Bool) (xs ys : List X) → count_by t (xs ++ ys) ≡ count_by t xs + count_by t ys
  count_by-append t xs ys = sum_by-append (λ x. cond (t x) 1 0) xs ys

  pub count_by-map : {Y : Type 0} (f : X → Y) (t : Y → Bool) (xs : List X) → count_by t (map f xs) ≡ count_by (λ x. t (f x)) xs
  count_by-map f t [] = refl
  count_by-map f t (x ∷ xs) = count_by-cons t (f x) (map f xs) ∙ ap (λ n. cond (t (f x)) 1 0 + n) (count_by-map f t xs) ∙ sym (count_by-cons (λ y. t (f y)) x xs)

  pub count_by-same : (t s : X → Bool) → ((x : X) → t x ≡ s x) → (xs : List X) → count_by t xs ≡ count_by s xs
  count_by-same t s same xs = λ i. count_by (λ x. same x i) xs

  pub count_by-filter : (keeps t : X → Bool) (xs : List X) → count_by t (filter keeps xs) ≡ count_by (λ x. keeps x && t x) xs
  count_by-filter keeps t [] = refl
  count_by-filter keeps t (x ∷ xs) = elim (keeps x) as (λ b. count_by t (cond b (x ∷ filter keeps xs) (filter keeps xs)) ≡ cond (b && t x) 1 0 + count_by (λ y. keeps y && t y) xs) [
    | true ↦ count_by-cons t x (filter keeps xs) ∙ ap (λ n. cond (t x) 1 0 + n) (count_by-filter keeps t xs)
    | false ↦ let rest = count_by-filter keeps t xs in omega (arith, rest)
  ] ∙ sym (count_by-cons (λ y. keeps y && t y) x xs)

  pub count_by-parted : (keeps t : X → Bool) (xs : List X) → count_by t (filter keeps xs) + count_by t (filter (λ x. not (keeps x)) xs) ≡ count_by t xs
  count_by-parted keeps t [] = refl
  count_by-parted keeps t (x ∷ xs) =
      let both = count_by-parted keeps t xs in
      omega (
        arith,
        both,
        parted (keeps x) (t x),
        count_by-filter keeps t xs,
        count_by-filter (λ y. not (keeps y)) t xs,
        count_by-filter keeps t (x ∷ xs),
        count_by-filter (λ y. not (keeps y)) t (x ∷ xs),
        count_by-cons (λ y. keeps y && t y) x xs,
        count_by-cons (λ y. not (keeps y) && t y) x xs,
        count_by-cons t x xs,
      )

  pub count_by-unfound : (t : X → Bool) (xs : List X) → find t xs ≡ None → count_by t xs ≡ 0
  count_by-unfound t [] none = refl
  count_by-unfound t (x ∷ xs) none = count_by-cons t x xs ∙ elim (t x) as (λ b. cond b (Some x) (find t xs) ≡ None → cond b 1 0 + count_by t xs ≡ 0) [
    | true ↦ λ some. absurd (cc)
    | false ↦ λ rest. let zero_there = count_by-unfound t xs rest in omega (arith, zero_there)
  ] none

same_by : (a b : Bool) → (a ≡ true → b ≡ true) → (b ≡ true → a ≡ true) → a ≡ b
same_by true b there back = sym (there refl)
same_by false true there back = back refl
same_by false false there back = refl

-- ---- a record that ends

module _ (p code : ℕ) where
  handle_in-ended : (x : Option ProcessNote) → handle_in (option_map (note_ended p code) x) ≡ handle_in x
  handle_in-ended None = refl
  handle_in-ended (Some n) = note_ended-handle p code n

-- what can be closed
console_closable : (kind : Kind) (x : Option Object) → is_of (AStreamOf kind) x ≡ true → is_of ToClose x ≡ true
console_closable kind None is = absurd (cc)
console_closable kind (Some (Process memory code)) is = absurd (cc)
console_closable kind (Some (Thread p context)) is = absurd (cc)
console_closable kind (Some (Event set)) is = refl
console_closable kind (Some (Stream name)) is = refl
console_closable kind (Some (ReadEnd pipe)) is = absurd (cc)
console_closable kind (Some (WriteEnd pipe)) is = absurd (cc)

event_closable : (x : Option Object) → is_of AnEvent x ≡ true → is_of ToClose x ≡ true
event_closable None is = absurd (cc)
event_closable (Some (Process memory code)) is = absurd (cc)
event_closable (Some (Thread p context)) is = absurd (cc)
event_closable (Some (Event set)) is = refl
event_closable (Some (Stream name)) is = refl
event_closable (Some (ReadEnd pipe)) is = absurd (cc)
event_closable (Some (WriteEnd pipe)) is = absurd (cc)

-- ---- the process of a trap ends

module _ (os : LibOs) (o : Objects) (u : Upcall) (at : Trapped os o u) (code : ℕ) (records : FitsRecords os) (fits : FitsObjects os o [] None) where
  abbrev process : ProcessNote
  process = at.links.process

  abbrev h : ℕ
  h = u.process

  abbrev p : ℕ
  p = pid_with os h

  abbrev after : LibOs
  after = without_process os p code

  pub process_found : process_with h os.processes ≡ Some process
  process_found = ap (λ k. process_with k os.processes) at.process ∙ at.links.behind

  pub pid_is : p ≡ process.pid
  pid_is = ap pid_of process_found

  pub process_there : process_named p os.processes ≡ Some process
  process_there = ap (λ k. process_named k os.processes) pid_is ∙ find-key (λ (m : ProcessNote). m.pid) (λ m. m.handle == h) os.processes process records.pids process_found

  -- the threads of the process are those whose objects are of its object
  member : (test : ThreadNote → Bool) (n : ThreadNote) → find test os.threads ≡ Some n → (n.pid == p) ≡ is_thread_of h (object_at o n.handle)
  member test n found =
      let l : Linked os o n = linked-found os o [] None records fits test n found in
      let here : is_thread_of h (object_at o n.handle) ≡ (l.process.handle == h) = ap (is_thread_of h) l.there in
      same_by (n.pid == p) (is_thread_of h (object_at o n.handle))
      (λ is.
      let two : Some l.process ≡ Some process = sym l.named ∙ ap (λ k. process_named k os.processes) (eqb-true n.pid p is) ∙ process_there in
      let same : l.process ≡ process = cc in
      here ∙ eq-eqb l.process.handle h (ap (λ (m : ProcessNote). m.handle) same ∙ sym at.process))
      (λ is.
      let handle : l.process.handle ≡ h = eqb-true l.process.handle h (sym here ∙ is) in
      let two : Some l.process ≡ Some process = sym l.behind ∙ ap (λ k. process_with k os.processes) handle ∙ process_found in
      let same : l.process ≡ process = cc in
      eq-eqb n.pid p (sym l.pid ∙ ap (λ (m : ProcessNote). m.pid) same ∙ sym pid_is))

  abbrev gone : ℕ → ℕ
  gone q = count_by (λ (n : ThreadNote). n.handle == q) (filter (λ (n : ThreadNote). n.pid == p) os.threads)

  abbrev times : ℕ → ℕ
  times q = times_named q (recorded os ++ [])

  abbrev times_after : ℕ → ℕ
  times_after q = times_named q (recorded after ++ to_close (handles_of os p))

  abbrev count : Bool → ℕ
  count b = cond b 1 0

  abbrev is_gone : ℕ → ThreadNote → Bool
  is_gone q n = (n.pid == p) && n.handle == q

  gone_at : (q : ℕ) (x : Option ThreadNote) → find (is_gone q) os.threads ≡ x → is_thread_of h (object_at o q) ≡ false → gone q ≡ 0
  gone_at q None none stays = count_by-filter (λ (n : ThreadNote). n.pid == p) (λ n. n.handle == q) os.threads ∙ count_by-unfound (is_gone q) os.threads none
  gone_at q (Some n) found stays =
      let parts = and_parts (n.pid == p) (n.handle == q) (find-passes (is_gone q) os.threads n found) in
      let e : true ≡ false = sym parts.0 ∙ member (is_gone q) n found ∙ ap (λ k. is_thread_of h (object_at o k)) (eqb-true n.handle q parts.1) ∙ stays in
      absurd (cc)

  gone-count : (q : ℕ) → gone q ≡ count (is_thread_of h (object_at o q))
  gone-count q = elim (is_thread_of h (object_at o q)) as (λ b. is_thread_of h (object_at o q) ≡ b → gone q ≡ count b) [
    | true ↦ λ ends.
        let there = thread_of h (object_at o q) ends in
        let n = some_of (thread_with q os.threads) (thread_recorded os o records fits q h there.context there.is) in
        let handle : n.0.handle ≡ q = eqb-true n.0.handle q (find-passes (λ m. m.handle == q) os.threads n.0 n.1) in
        let of_it : (n.0.pid == p) ≡ true = member (λ m. m.handle == q) n.0 n.1 ∙ ap (λ k. is_thread_of h (object_at o k)) handle ∙ ends in
        let some = count_by-found (λ (m : ThreadNote). m.handle == q) (is_gone q) os.threads n.0 n.1 (and_from (n.0.pid == p) (n.0.handle == q) of_it (eq-eqb n.0.handle q handle)) in
        omega (
          arith,
          some,
          count_by-filter (λ (m : ThreadNote). m.pid == p) (λ m. m.handle == q) os.threads,
          times_recorded-most os o [] None fits q,
          count_by-parted (λ (m : ThreadNote). m.pid == p) (λ m. m.handle == q) os.threads,
        )
    | false ↦ λ stays. gone_at q (find (is_gone q) os.threads) refl stays
  ] refl

  -- all is named as often, but for the threads that end
  times-ended : (q : ℕ) → times_after q + gone q ≡ times q
  times-ended q =
      let ended : List ThreadNote = filter (λ n. n.pid == p) os.threads in
      omega (
        arith,
        times_named-append q (recorded after) (to_close (handles_of os p)),
        times_named-recorded q after,
        times_named-map q (λ (x : ℕ). x) (λ x. ToClose) (handles_of os p),
        count_by-append (λ (x : ℕ). x == q) (streams_behind os.descriptions (opened_alone os p)) (map (λ n. n.event) ended),
        count_by-opened_alone os p process records.pids process_there q records.ids records.described,
        count_by-filter (λ (d : Description). not (is_open_without os p d.id)) (λ d. d.handle == q) os.descriptions,
        count_by-map (λ (n : ThreadNote). n.event) (λ x. x == q) ended,
        count_by-map (note_ended p code) (λ (n : ProcessNote). n.handle == q) os.processes,
        count_by-same (λ (n : ProcessNote). (note_ended p code n).handle == q) (λ n. n.handle == q) (λ n. ap (λ k. k == q) (note_ended-handle p code n)) os.processes,
        count_by-parted (λ (n : ThreadNote). n.pid == p) (λ n. n.handle == q) os.threads,
        count_by-parted (λ (n : ThreadNote). n.pid == p) (λ n. n.event == q) os.threads,
        count_by-parted (λ (d : Description). is_open_without os p d.id) (λ d. d.handle == q) os.descriptions,
        times_named-append q (recorded os) [],
        times_named-recorded q os,
      )

  once-ended : (q : ℕ) → times_after q ≡ count (is_to_name (Some h) (object_at o q))
  once-ended q = elim (is_thread_of h (object_at o q)) as (λ b. is_thread_of h (object_at o q) ≡ b → gone q ≡ count b → times_after q ≡ count (is_to_name (Some h) (object_at o q))) [
    | true ↦ λ ends one.
        let most = times_recorded-most os o [] None fits q in
        let none : times_after q ≡ 0 = omega (arith, one, most, times-ended q, times_named-append q (recorded os) [], times_named-recorded q os) in
        none ∙ sym (ap count (unnamed h (object_at o q) ends))
    | false ↦ λ stays none.
        let same : times_after q ≡ times q = omega (arith, none, times-ended q) in
        same ∙ fits.once q ∙ sym (ap count (named_alike h (object_at o q) stays))
  ] refl (gone-count q)

  abbrev kinds : KindsRecorded os o
  kinds = kinds-lists os o [] None records fits

  kinds-ended : list_all (is_named o) (recorded after ++ to_close (handles_of os p)) ≡ true
  kinds-ended =
      let test : Named → Bool = is_named o in
      let ps = after.processes in
      let ts = after.threads in
      let ds = after.descriptions in
      let streams : List ℕ = streams_behind os.descriptions (opened_alone os p) in
      let ended : List ThreadNote = filter (λ n. n.pid == p) os.threads in
      let all : List Named → Type 0 = λ names. list_all test names ≡ true in
      let join : (xs ys : List Named) → all xs → all ys → all (xs ++ ys) = λ xs ys first second. list_all-append test xs ys ∙ and_from (list_all test xs) (list_all test ys) first second in
      let processes : all (map (λ n. (n.handle, AProcess)) ps) = folds.list_all-map test (λ (n : ProcessNote). (n.handle, AProcess)) ps
      ∙ list_all-map (λ (n : ProcessNote). is_of AProcess (object_at o n.handle)) (λ n. is_of AProcess (object_at o n.handle)) (note_ended p code)
      (λ n is. ap (λ k. is_of AProcess (object_at o k)) (note_ended-handle p code n) ∙ is) os.processes kinds.processes in
      let threads : all (map (λ n. (n.handle, AThread)) ts) = folds.list_all-map test (λ (n : ThreadNote). (n.handle, AThread)) ts
      ∙ list_all-filter (λ (n : ThreadNote). not (n.pid == p)) (λ n. is_of AThread (object_at o n.handle)) (λ n. is_of AThread (object_at o n.handle)) (λ n keeps is. is) os.threads kinds.threads in
      let events : all (map (λ n. (n.event, AnEvent)) ts) = folds.list_all-map test (λ (n : ThreadNote). (n.event, AnEvent)) ts
      ∙ list_all-filter (λ (n : ThreadNote). not (n.pid == p)) (λ n. is_of AnEvent (object_at o n.event)) (λ n. is_of AnEvent (object_at o n.event)) (λ n keeps is. is) os.threads kinds.events in
      let descriptions : all (map (λ d. (d.handle, AStreamOf d.kind)) ds) = folds.list_all-map test (λ (d : Description). (d.handle, AStreamOf d.kind)) ds
      ∙ list_all-filter (λ (d : Description). is_open_without os p d.id) (λ d. is_of (AStreamOf d.kind) (object_at o d.handle)) (λ d. is_of (AStreamOf d.kind) (object_at o d.handle)) (λ d keeps is. is) os.descriptions kinds.descriptions in
      let closes : ℕ → Bool = λ k. is_of ToClose (object_at o k) in
      let first : list_all closes streams ≡ true = list_all-streams_behind closes os.descriptions (opened_alone os p)
      (list_all-weaker (λ (d : Description). is_of (AStreamOf d.kind) (object_at o d.handle)) (λ d. closes d.handle) (λ d is. console_closable d.kind (object_at o d.handle) is) os.descriptions kinds.descriptions) in
      let second : list_all closes (map (λ (n : ThreadNote). n.event) ended) ≡ true = folds.list_all-map closes (λ (n : ThreadNote). n.event) ended
      ∙ list_all-filter (λ (n : ThreadNote). n.pid == p) (λ n. is_of AnEvent (object_at o n.event)) (λ n. closes n.event) (λ n keeps is. event_closable (object_at o n.event) is) os.threads kinds.events in
      let handles : all (to_close (handles_of os p)) = folds.list_all-map test (λ k. (k, ToClose)) (handles_of os p)
      ∙ list_all-append closes streams (map (λ (n : ThreadNote). n.event) ended)
      ∙ and_from (list_all closes streams) (list_all closes (map (λ (n : ThreadNote). n.event) ended)) first second in
      join (recorded after) (to_close (handles_of os p))
      (join (map (λ n. (n.handle, AProcess)) ps) (map (λ n. (n.handle, AThread)) ts ++ (map (λ n. (n.event, AnEvent)) ts ++ map (λ d. (d.handle, AStreamOf d.kind)) ds)) processes
      (join (map (λ n. (n.handle, AThread)) ts) (map (λ n. (n.event, AnEvent)) ts ++ map (λ d. (d.handle, AStreamOf d.kind)) ds) threads
      (join (map (λ n. (n.event, AnEvent)) ts) (map (λ d. (d.handle, AStreamOf d.kind)) ds) events descriptions))) handles

  is_home-ended : (n : ThreadNote) → is_home after o n ≡ is_home os o n
  is_home-ended n = ap (λ k. is_thread_of k (object_at o n.handle)) (ap handle_in (process_named-ended p code n.pid os.processes) ∙ handle_in-ended p code (process_named n.pid os.processes))

  -- the object of the process that ends runs still, and the others are as they were
  process_runs : is_some (running (object_at o h)) ≡ true
  process_runs = ap (λ k. is_some (running (object_at o k))) at.process ∙ ap (λ x. is_some (running x)) at.links.runs

  abbrev coded : ProcessNote → Bool
  coded n = has_code (Some h) (note_ended p code n) (object_at o (note_ended p code n).handle)

  coded_found : (n : ProcessNote) → process_named p os.processes ≡ Some n → coded n ≡ true
  coded_found n found =
      let two : Some process ≡ Some n = sym process_there ∙ found in
      let same : process ≡ n = cc in
      let handle : (note_ended p code n).handle ≡ h = note_ended-handle p code n ∙ sym (ap (λ (m : ProcessNote). m.handle) same) ∙ sym at.process in
      let x = object_at o (note_ended p code n).handle in
      cond-true (h == (note_ended p code n).handle) (is_some (running x)) (is_code (note_ended p code n).code x) (eq-eqb h (note_ended p code n).handle (sym handle))
      ∙ ap (λ k. is_some (running (object_at o k))) handle ∙ process_runs

  coded_other : (n : ProcessNote) → (n.pid == p) ≡ false → has_code None n (object_at o n.handle) ≡ true → coded n ≡ true
  coded_other n other is = ap (λ m. has_code (Some h) m (object_at o m.handle)) (note_ended-other p code n other)
      ∙ elim (h == n.handle) as (λ b. (h == n.handle) ≡ b → cond b (is_some (running (object_at o n.handle))) (is_code n.code (object_at o n.handle)) ≡ true) [
        | true ↦ λ same. ap (λ k. is_some (running (object_at o k))) (sym (eqb-true h n.handle same)) ∙ process_runs
        | false ↦ λ _. is
      ] refl

  pub FitsObjects-without_process : FitsObjects after o (to_close (handles_of os p)) (Some h)
  FitsObjects-without_process = record {
    once = once-ended;
    kinds = kinds-ended;
    homes = list_all-filter (λ (n : ThreadNote). not (n.pid == p)) (is_home os o) (is_home after o) (λ n keeps is. is_home-ended n ∙ is) os.threads fits.homes;
    codes = folds.list_all-map (λ n. has_code (Some h) n (object_at o n.handle)) (note_ended p code) os.processes
        ∙ list_all-except (λ (n : ProcessNote). n.pid == p) (λ n. has_code None n (object_at o n.handle)) coded os.processes
        (count_by-distinct (λ (n : ProcessNote). n.pid) os.processes p records.pids) (λ n found is. coded_found n found) coded_other fits.codes;
  }
