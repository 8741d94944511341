-- The machine that the records name: what its look-ups find, and how it changes with the objects.
use Rattle.std.specs.Prelude.{◌≡◌, ◌≢◌, ℕ, ◌≤◌, ◌==◌, Bool, true, false, not, ◌||◌, cond, List, [], ◌∷◌, ◌++◌, map, filter, filter_map, find, count_by, is_some}
use Rattle.std.specs.List.{cons_option, list_all}
use Rattle.std.specs.Ordering.{nat_cmp}
use Rattle.std.specs.FinMap.{FinMap, get, insert, from_entries}
use Rattle.std.specs.Option.{option_map}
use Rattle.std.specs.declared.option.Option.{Option}
use Rattle.std.specs.declared.option.Option.TheVariants.{None, Some}
use Rattle.std.proofs.Common.{refl, sym, ap, ◌∙◌, arith, eq-eqb, eqb-true}
use Rattle.std.proofs.lemmas.Bool.{and_parts, cond-true, eqb-false}
use Rattle.std.proofs.lemmas.List.Elements.{filter_map-append}
use Rattle.rv_core.specs.declared.context.Context.{Context}
use Rattle.guest_space.specs.Space.{Space}
use Rattle.turn_sched.specs.Lists.{Waiting, with_ready, with_gone}
use Rattle.abi_calls.specs.declared.object.Object.TheVariants.{Process, Thread}
use Rattle.abi_calls.specs.Objects.{Live, object_at, with_object, with_lists, without_handles}
use Rattle.abi_calls.proofs.SoundChanges.{object_at-without_handles}
use Rattle.bas_items.proofs.NumberMaps.{get-empty, get-insert, get-insert-same, get-insert-other, same_numbers}
use Rattle.mono_model.specs.Machine as mono
use Rattle.mono_model.specs.Machine.{Mono, Target, Gone, Waiter, code_in, process_at, thread_at, with_memory_in, with_context, with_registers, is_woken, made_ready}
use Rattle.mono_model.specs.Calls.{description_of, described_by, described_in}
use Rattle.bas_names.specs.declared.StreamName.TheVariants as stream
use Rattle.libos_state.specs.declared.notes.Kind.{Kind}
use Rattle.libos_state.specs.declared.notes.Kind.TheVariants.{ConIn, ConOut, ConErr}
use Rattle.libos_state.specs.declared.notes.Kind.TheVariants as kind
use Rattle.libos_state.specs.declared.notes.Description.{Description}
use Rattle.libos_state.specs.declared.notes.DescriptorNote.{DescriptorNote}
use Rattle.libos_state.specs.declared.notes.ProcessNote.{ProcessNote}
use Rattle.libos_state.specs.declared.notes.ThreadNote.{ThreadNote}
use Rattle.libos_state.specs.declared.state.LibOs.{LibOs}
use Rattle.libos_state.specs.Records as records
use Rattle.libos_state.specs.Records.{Visible, with_visible, base, process_named, process_with, thread_named, thread_with, thread_woken_by, description_with, description_named, described, descriptor_named, description_behind, description_seen, memory_of_object, context_of, is_set, process_if, process_seen, thread_seen, file_seen, stream_seen, processes_of, threads_of, descriptions_of, tids_of, tid_of, target_of, target_by, waiter_of, lists_of, code_of, exit_code}
use Rattle.libos_state.specs.Named.{recorded, times_named}
use Rattle.libos_state.specs.Fits.{FitsRecords, is_none, is_fit_process}
use Rattle.libos_state.proofs.Distinct.{find-key}
use Rattle.libos_state.proofs.Naming.{Unrecorded, unrecorded, find-passes, list_all-find, count_by-found, find-alone, times_named-recorded}

-- ---- look-ups

flipped : (a b : ℕ) → (a == b) ≡ (b == a)
flipped a b = grind arith

-- A look-up in the map of a list of records.
abbrev pub mapped : {N X : Type 0} → (N → ℕ) → (N → X) → List N → FinMap nat_cmp X
mapped key value notes = from_entries (map (λ n. (key n, value n)) notes)

module _ {N X : Type 0} (key : N → ℕ) (value : N → X) where
  found : (n : N) (b : Bool) (rest : Option N) → cond b (Some (value n)) (option_map value rest) ≡ option_map value (cond b (Some n) rest)
  found n true rest = refl
  found n false rest = refl

  pub get-mapped : (notes : List N) (q : ℕ) → get (mapped key value notes) q ≡ option_map value (find (λ n. key n == q) notes)
  get-mapped [] q = get-empty q
  get-mapped (n ∷ notes) q = get-insert (mapped key value notes) (key n) (value n) q
      ∙ (λ i. cond (flipped q (key n) i) (Some (value n)) (get-mapped notes q i))
      ∙ found n (key n == q) (find (λ n. key n == q) notes)

pub process_at-base : (os : LibOs) (w : Visible) (p : ℕ) → process_at (base os w) p ≡ option_map (process_seen w.objects.live) (process_named p os.processes)
process_at-base os w p = get-mapped (λ n. n.pid) (process_seen w.objects.live) os.processes p

pub thread_at-base : (os : LibOs) (w : Visible) (t : ℕ) → thread_at (base os w) t ≡ option_map (thread_seen w.objects.live) (thread_named t os.threads)
thread_at-base os w t = get-mapped (λ n. n.tid) (thread_seen w.objects.live) os.threads t

-- The process and the thread that a record names.
pub process_at-found : (os : LibOs) (w : Visible) (h : ℕ) (n : ProcessNote) → FitsRecords os → process_with h os.processes ≡ Some n → process_at (base os w) n.pid ≡ Some (process_seen w.objects.live n)
process_at-found os w h n fits is =
    process_at-base os w n.pid ∙ ap (option_map (process_seen w.objects.live)) (find-key (λ (m : ProcessNote). m.pid) (λ m. m.handle == h) os.processes n fits.pids is)

pub thread_at-found : (os : LibOs) (w : Visible) (h : ℕ) (n : ThreadNote) → FitsRecords os → thread_with h os.threads ≡ Some n → thread_at (base os w) n.tid ≡ Some (thread_seen w.objects.live n)
thread_at-found os w h n fits is =
    thread_at-base os w n.tid ∙ ap (option_map (thread_seen w.objects.live)) (find-key (λ (m : ThreadNote). m.tid) (λ m. m.handle == h) os.threads n fits.tids is)

-- The exit code of a process is that of its record.
code_of_process : (live : Live) (n : ProcessNote) (code : Option ℕ) → (process_if n (memory_of_object (get {R = nat_cmp} live n.handle)) code).code ≡ code
code_of_process live n None = refl
code_of_process live n (Some code) = refl

code_of_note : (live : Live) (n : Option ProcessNote) → code_in (option_map (process_seen live) n) ≡ code_of n
code_of_note live None = refl
code_of_note live (Some n) = code_of_process live n n.code

pub exit_code_at-base : (os : LibOs) (w : Visible) (p : ℕ) → mono.exit_code (base os w) p ≡ code_of (process_named p os.processes)
exit_code_at-base os w p = ap code_in (process_at-base os w p) ∙ code_of_note w.objects.live (process_named p os.processes)

pub exit_code-base : (os : LibOs) (w : Visible) → mono.exit_code (base os w) 1 ≡ exit_code os
exit_code-base os w = exit_code_at-base os w 1

-- A descriptor names in the machine what it names in the records.
description_at : (os : LibOs) (w : Visible) (d : Option DescriptorNote) → described_by (base os w) (option_map (λ n. n.description) d) ≡ option_map (description_seen w.objects.live) (described os.descriptions d)
description_at os w None = refl
description_at os w (Some d) = get-mapped (λ n. n.id) (description_seen w.objects.live) os.descriptions d.description

pub none_are : {A : Type 0} (xs : List A) → is_none xs ≡ true → xs ≡ []
none_are [] none = refl
none_are (x ∷ xs) none = absurd (cc)

described_open : (os : LibOs) (w : Visible) (fd : ℕ) (memory : Space) (n : ProcessNote) (code : Option ℕ) → (not (is_some code) || is_none n.descriptors) ≡ true →
    described_in (base os w) fd (Some (process_if n memory code)) ≡ option_map (description_seen w.objects.live) (described os.descriptions (descriptor_named fd n.descriptors))
described_open os w fd memory n None none =
    ap (described_by (base os w)) (get-mapped (λ d. d.number) (λ d. d.description) n.descriptors fd) ∙ description_at os w (descriptor_named fd n.descriptors)
described_open os w fd memory n (Some code) none =
    ap (described_by (base os w)) (get-empty fd)
    ∙ sym (ap (λ ds. option_map (description_seen w.objects.live) (described os.descriptions (descriptor_named fd ds))) (none_are n.descriptors none))

pub description_of-base : (os : LibOs) (w : Visible) (h fd : ℕ) (n : ProcessNote) → FitsRecords os → process_with h os.processes ≡ Some n →
    description_of (base os w) n.pid fd ≡ option_map (description_seen w.objects.live) (description_behind os h fd)
description_of-base os w h fd n fits is =
    let fit = list_all-find (is_fit_process os) (λ (m : ProcessNote). m.handle == h) os.processes n fits.processes is in
    let none = and_parts _ (not (is_some n.code) || is_none n.descriptors) (and_parts _ _ fit).1 in
    ap (described_in (base os w) fd) (process_at-found os w h n fits is)
    ∙ described_open os w fd (memory_of_object (get {R = nat_cmp} w.objects.live n.handle)) n n.code none.1
    ∙ sym (ap (λ x. option_map (description_seen w.objects.live) (records.described_in os fd x)) is)

-- ---- what is recorded

-- A record's handles are recorded, and one that has the handle of another is the same.
module _ (os : LibOs) where
  pub recorded-process : (test : ProcessNote → Bool) (n : ProcessNote) → find test os.processes ≡ Some n → 1 ≤ times_named n.handle (recorded os)
  recorded-process test n is =
      let there = count_by-found test (λ m. m.handle == n.handle) os.processes n is (eq-eqb n.handle n.handle refl) in
      omega (arith, there, times_named-recorded n.handle os)

  pub recorded-thread : (test : ThreadNote → Bool) (n : ThreadNote) → find test os.threads ≡ Some n → 1 ≤ times_named n.handle (recorded os)
  recorded-thread test n is =
      let there = count_by-found test (λ m. m.handle == n.handle) os.threads n is (eq-eqb n.handle n.handle refl) in
      omega (arith, there, times_named-recorded n.handle os)

  pub recorded-event : (test : ThreadNote → Bool) (n : ThreadNote) → find test os.threads ≡ Some n → 1 ≤ times_named n.event (recorded os)
  recorded-event test n is =
      let there = count_by-found test (λ m. m.event == n.event) os.threads n is (eq-eqb n.event n.event refl) in
      omega (arith, there, times_named-recorded n.event os)

  pub recorded-description : (test : Description → Bool) (d : Description) → find test os.descriptions ≡ Some d → 1 ≤ times_named d.handle (recorded os)
  recorded-description test d is =
      let there = count_by-found test (λ e. e.handle == d.handle) os.descriptions d is (eq-eqb d.handle d.handle refl) in
      omega (arith, there, times_named-recorded d.handle os)

-- A record with a number in one list, and one with it in another, are counted each.
both_counted : {N M : Type 0} (key : N → ℕ) (other : M → ℕ) (h : ℕ) (ns : List N) (ms : List M) (n : N) → find (λ j. key j == h) ns ≡ Some n
    → (test : M → Bool) (m : M) → find test ms ≡ Some m → other m ≡ h → (1 ≤ count_by (λ j. key j == h) ns) × (1 ≤ count_by (λ j. other j == h) ms)
both_counted key other h ns ms n is test m there same = (
  count_by-found (λ j. key j == h) (λ j. key j == h) ns n is (find-passes (λ j. key j == h) ns n is),
  count_by-found test (λ j. other j == h) ms m there (eq-eqb (other m) h same),
)

-- The handle of a thread that is recorded once is no process's, no event's and no other thread's.
module _ (os : LibOs) (h : ℕ) (n : ThreadNote) (once : times_named h (recorded os) ≤ 1) (is : thread_with h os.threads ≡ Some n) where
  pub thread-no_process : (test : ProcessNote → Bool) (p : ProcessNote) → find test os.processes ≡ Some p → p.handle ≢ h
  thread-no_process test p there same =
      let both = both_counted (λ j. j.handle) (λ j. j.handle) h os.threads os.processes n is test p there same in
      omega (arith, both.0, both.1, times_named-recorded h os)

  pub thread-no_event : (test : ThreadNote → Bool) (m : ThreadNote) → find test os.threads ≡ Some m → m.event ≢ h
  thread-no_event test m there same =
      let both = both_counted (λ j. j.handle) (λ j. j.event) h os.threads os.threads n is test m there same in
      omega (arith, both.0, both.1, times_named-recorded h os)

  pub thread-no_description : (test : Description → Bool) (d : Description) → find test os.descriptions ≡ Some d → d.handle ≢ h
  thread-no_description test d there same =
      let both = both_counted (λ j. j.handle) (λ j. j.handle) h os.threads os.descriptions n is test d there same in
      omega (arith, both.0, both.1, times_named-recorded h os)

  pub thread-alone : (test : ThreadNote → Bool) (m : ThreadNote) → find test os.threads ≡ Some m → m.handle ≡ h → m ≡ n
  thread-alone test m there same =
      let found : thread_with h os.threads ≡ Some m = find-alone test (λ j. j.handle == h) os.threads m there (eq-eqb m.handle h same) (omega (arith, times_named-recorded h os)) in
      let e : Some m ≡ Some n = sym found ∙ is in cc

-- Nor is that of a process.
module _ (os : LibOs) (h : ℕ) (n : ProcessNote) (once : times_named h (recorded os) ≤ 1) (is : process_with h os.processes ≡ Some n) where
  pub process-no_thread : (test : ThreadNote → Bool) (m : ThreadNote) → find test os.threads ≡ Some m → m.handle ≢ h
  process-no_thread test m there same =
      let both = both_counted (λ j. j.handle) (λ j. j.handle) h os.processes os.threads n is test m there same in
      omega (arith, both.0, both.1, times_named-recorded h os)

  pub process-no_event : (test : ThreadNote → Bool) (m : ThreadNote) → find test os.threads ≡ Some m → m.event ≢ h
  process-no_event test m there same =
      let both = both_counted (λ j. j.handle) (λ j. j.event) h os.processes os.threads n is test m there same in
      omega (arith, both.0, both.1, times_named-recorded h os)

  pub process-no_description : (test : Description → Bool) (d : Description) → find test os.descriptions ≡ Some d → d.handle ≢ h
  process-no_description test d there same =
      let both = both_counted (λ j. j.handle) (λ j. j.handle) h os.processes os.descriptions n is test d there same in
      omega (arith, both.0, both.1, times_named-recorded h os)

  pub process-alone : (test : ProcessNote → Bool) (m : ProcessNote) → find test os.processes ≡ Some m → m.handle ≡ h → m ≡ n
  process-alone test m there same =
      let found : process_with h os.processes ≡ Some m = find-alone test (λ p. p.handle == h) os.processes m there (eq-eqb m.handle h same) (omega (arith, times_named-recorded h os)) in
      let e : Some m ≡ Some n = sym found ∙ is in cc

-- ---- other objects

option_map-same : {A B : Type 0} (f g : A → B) (x : Option A) → ((a : A) → x ≡ Some a → f a ≡ g a) → option_map f x ≡ option_map g x
option_map-same f g None same = refl
option_map-same f g (Some a) same = ap Some (same a refl)

-- Processes and threads that are seen as before.
pub processes_of-kept : (notes : List ProcessNote) (live live' : Live) → ((q : ℕ) (n : ProcessNote) → process_named q notes ≡ Some n → process_seen live' n ≡ process_seen live n)
    → processes_of notes live' ≡ processes_of notes live
processes_of-kept notes live live' same = same_numbers _ _ (λ q. get-mapped (λ n. n.pid) (process_seen live') notes q
    ∙ option_map-same (process_seen live') (process_seen live) (process_named q notes) (same q)
    ∙ sym (get-mapped (λ n. n.pid) (process_seen live) notes q))

pub threads_of-kept : (notes : List ThreadNote) (live live' : Live) → ((q : ℕ) (n : ThreadNote) → thread_named q notes ≡ Some n → thread_seen live' n ≡ thread_seen live n)
    → threads_of notes live' ≡ threads_of notes live
threads_of-kept notes live live' same = same_numbers _ _ (λ q. get-mapped (λ n. n.tid) (thread_seen live') notes q
    ∙ option_map-same (thread_seen live') (thread_seen live) (thread_named q notes) (same q)
    ∙ sym (get-mapped (λ n. n.tid) (thread_seen live) notes q))

pub descriptions_of-kept : (notes : List Description) (live live' : Live) → ((q : ℕ) (d : Description) → description_named q notes ≡ Some d → description_seen live' d ≡ description_seen live d)
    → descriptions_of notes live' ≡ descriptions_of notes live
descriptions_of-kept notes live live' same = same_numbers _ _ (λ q. get-mapped (λ d. d.id) (description_seen live') notes q
    ∙ option_map-same (description_seen live') (description_seen live) (description_named q notes) (same q)
    ∙ sym (get-mapped (λ d. d.id) (description_seen live) notes q))

-- A description is seen as before where its object still has the file's name.
pub description_seen-kept : (live live' : Live) (d : Description) → file_seen (get {R = nat_cmp} live' d.handle) ≡ file_seen (get {R = nat_cmp} live d.handle) → description_seen live' d ≡ description_seen live d
description_seen-kept live live' d same = λ i. record { stream = kind_seen d.kind i; access = d.access; append = d.append; position = d.position }
  where
    kind_seen : (k : Kind) → stream_seen k (get {R = nat_cmp} live' d.handle) ≡ stream_seen k (get {R = nat_cmp} live d.handle)
    kind_seen ConIn = refl
    kind_seen ConOut = refl
    kind_seen ConErr = refl
    kind_seen kind.File = ap stream.File same

process_seen-kept : (live live' : Live) (n : ProcessNote) → get {R = nat_cmp} live' n.handle ≡ get {R = nat_cmp} live n.handle → process_seen live' n ≡ process_seen live n
process_seen-kept live live' n same = ap (λ x. process_if n (memory_of_object x) n.code) same

thread_seen-kept : (live live' : Live) (n : ThreadNote) → get {R = nat_cmp} live' n.handle ≡ get {R = nat_cmp} live n.handle → get {R = nat_cmp} live' n.event ≡ get {R = nat_cmp} live n.event
    → thread_seen live' n ≡ thread_seen live n
thread_seen-kept live live' n thread event = λ i. record { process = n.pid; context = context_of (thread i); woken = is_set (event i); saved = n.saved }

-- Objects that agree at every recorded number.
pub base-live : (os : LibOs) (w : Visible) (live : Live) → ((q : ℕ) → 1 ≤ times_named q (recorded os) → get {R = nat_cmp} live q ≡ get {R = nat_cmp} w.objects.live q)
    → base os (with_visible w (record w.objects { live = live })) ≡ base os w
base-live os w live same =
    let ps = processes_of-kept os.processes w.objects.live live
    (λ q n is. process_seen-kept w.objects.live live n (same n.handle (recorded-process os (λ m. m.pid == q) n is))) in
    let ts = threads_of-kept os.threads w.objects.live live
    (λ q n is. thread_seen-kept w.objects.live live n (same n.handle (recorded-thread os (λ m. m.tid == q) n is)) (same n.event (recorded-event os (λ m. m.tid == q) n is))) in
    let ds = descriptions_of-kept os.descriptions w.objects.live live
    (λ q d is. description_seen-kept w.objects.live live d (ap file_seen (same d.handle (recorded-description os (λ e. e.id == q) d is)))) in
    λ i. record (base os w) { processes = ps i; threads = ts i; descriptions = ds i }

-- A thread gets other registers.
module _ (os : LibOs) (w : Visible) (h p : ℕ) (n : ThreadNote) (context : Context) (fits : FitsRecords os) (once : times_named h (recorded os) ≤ 1) (is : thread_with h os.threads ≡ Some n) where
  abbrev now : Live
  now = insert w.objects.live h (Thread p context)

  stays : (q : ℕ) → q ≢ h → get {R = nat_cmp} now q ≡ get {R = nat_cmp} w.objects.live q
  stays q other = get-insert-other w.objects.live h (Thread p context) q other

  handle_is : n.handle ≡ h
  handle_is = eqb-true n.handle h (find-passes (λ m. m.handle == h) os.threads n is)

  seen : thread_seen now n ≡ with_registers context (thread_at (base os w) n.tid) n.pid
  seen =
      let there : get {R = nat_cmp} now n.handle ≡ Some (Thread p context) = ap (get {R = nat_cmp} now) handle_is ∙ get-insert-same w.objects.live h (Thread p context) in
      let event = stays n.event (thread-no_event os h n once is (λ m. m.handle == h) n is) in
      let was = thread_at-found os w h n fits is in
      (λ i. record { process = n.pid; context = context_of (there i); woken = is_set (event i); saved = n.saved })
      ∙ sym (ap (λ x. with_registers context x n.pid) was)

  other_seen : (q : ℕ) → q ≢ n.tid → (m : ThreadNote) → thread_named q os.threads ≡ Some m → thread_seen now m ≡ thread_seen w.objects.live m
  other_seen q other m there =
      let tid : m.tid ≡ q = eqb-true m.tid q (find-passes (λ j. j.tid == q) os.threads m there) in
      thread_seen-kept w.objects.live now m
      (stays m.handle (λ same. other (sym tid ∙ ap (λ j. j.tid) (thread-alone os h n once is (λ j. j.tid == q) m there same))))
      (stays m.event (thread-no_event os h n once is (λ j. j.tid == q) m there))

  threads_now : threads_of os.threads now ≡ insert (threads_of os.threads w.objects.live) n.tid (with_registers context (thread_at (base os w) n.tid) n.pid)
  threads_now =
      let thread = with_registers context (thread_at (base os w) n.tid) n.pid in
      let before = threads_of os.threads w.objects.live in
      same_numbers _ _ (λ q. get-mapped (λ m. m.tid) (thread_seen now) os.threads q
      ∙ elim (q == n.tid) as (λ b. (q == n.tid) ≡ b → option_map (thread_seen now) (thread_named q os.threads) ≡ cond b (Some thread) (get {R = nat_cmp} before q)) [
        | true ↦ λ same. ap (λ t. option_map (thread_seen now) (thread_named t os.threads)) (eqb-true q n.tid same)
            ∙ ap (option_map (thread_seen now)) (find-key (λ (m : ThreadNote). m.tid) (λ m. m.handle == h) os.threads n fits.tids is) ∙ ap Some seen
        | false ↦ λ other. option_map-same (thread_seen now) (thread_seen w.objects.live) (thread_named q os.threads) (other_seen q (eqb-false q n.tid other))
            ∙ sym (get-mapped (λ m. m.tid) (thread_seen w.objects.live) os.threads q)
      ] refl ∙ sym (get-insert before n.tid thread q))

  pub base-with_context : base os (with_visible w (with_object w.objects h (Thread p context))) ≡ with_context (base os w) n.tid n.pid context
  base-with_context =
      let ps = processes_of-kept os.processes w.objects.live now
      (λ q m there. process_seen-kept w.objects.live now m (stays m.handle (thread-no_process os h n once is (λ j. j.pid == q) m there))) in
      let ds = descriptions_of-kept os.descriptions w.objects.live now
      (λ q d there. description_seen-kept w.objects.live now d (ap file_seen (stays d.handle (thread-no_description os h n once is (λ j. j.id == q) d there)))) in
      λ i. record (base os w) { processes = ps i; threads = threads_now i; descriptions = ds i }

-- A process that hasn't exited gets another memory.
module _ (os : LibOs) (w : Visible) (h : ℕ) (n : ProcessNote) (s : Space) (fits : FitsRecords os) (once : times_named h (recorded os) ≤ 1) (is : process_with h os.processes ≡ Some n)
    (alive : n.code ≡ None) where
  abbrev now_running : Live
  now_running = insert w.objects.live h (Process s None)

  others_stay : (q : ℕ) → q ≢ h → get {R = nat_cmp} now_running q ≡ get {R = nat_cmp} w.objects.live q
  others_stay q other = get-insert-other w.objects.live h (Process s None) q other

  abbrev with_space : mono.Process
  with_space = record (process_seen w.objects.live n) { memory = s }

  process_is : n.handle ≡ h
  process_is = eqb-true n.handle h (find-passes (λ m. m.handle == h) os.processes n is)

  process_now : process_seen now_running n ≡ with_space
  process_now =
      let there : get {R = nat_cmp} now_running n.handle ≡ Some (Process s None) = ap (get {R = nat_cmp} now_running) process_is ∙ get-insert-same w.objects.live h (Process s None) in
      let old = memory_of_object (get {R = nat_cmp} w.objects.live n.handle) in
      (λ i. process_if n (memory_of_object (there i)) (alive i))
      ∙ sym (ap (λ c. record (process_if n old c) { memory = s }) alive)

  other_process : (q : ℕ) → q ≢ n.pid → (m : ProcessNote) → process_named q os.processes ≡ Some m → process_seen now_running m ≡ process_seen w.objects.live m
  other_process q other m there =
      let pid : m.pid ≡ q = eqb-true m.pid q (find-passes (λ j. j.pid == q) os.processes m there) in
      process_seen-kept w.objects.live now_running m
      (others_stay m.handle (λ same. other (sym pid ∙ ap (λ j. j.pid) (process-alone os h n once is (λ j. j.pid == q) m there same))))

  processes_now : processes_of os.processes now_running ≡ insert (processes_of os.processes w.objects.live) n.pid with_space
  processes_now =
      let before = processes_of os.processes w.objects.live in
      same_numbers _ _ (λ q. get-mapped (λ m. m.pid) (process_seen now_running) os.processes q
      ∙ elim (q == n.pid) as (λ b. (q == n.pid) ≡ b → option_map (process_seen now_running) (process_named q os.processes) ≡ cond b (Some with_space) (get {R = nat_cmp} before q)) [
        | true ↦ λ same. ap (λ t. option_map (process_seen now_running) (process_named t os.processes)) (eqb-true q n.pid same)
            ∙ ap (option_map (process_seen now_running)) (find-key (λ (m : ProcessNote). m.pid) (λ m. m.handle == h) os.processes n fits.pids is) ∙ ap Some process_now
        | false ↦ λ other. option_map-same (process_seen now_running) (process_seen w.objects.live) (process_named q os.processes) (other_process q (eqb-false q n.pid other))
            ∙ sym (get-mapped (λ m. m.pid) (process_seen w.objects.live) os.processes q)
      ] refl ∙ sym (get-insert before n.pid with_space q))

  pub base-with_memory : base os (with_visible w (with_object w.objects h (Process s None))) ≡ with_memory_in (base os w) n.pid s (process_at (base os w) n.pid)
  base-with_memory =
      let ts = threads_of-kept os.threads w.objects.live now_running
      (λ q m there. thread_seen-kept w.objects.live now_running m
      (others_stay m.handle (process-no_thread os h n once is (λ j. j.tid == q) m there)) (others_stay m.event (process-no_event os h n once is (λ j. j.tid == q) m there))) in
      let ds = descriptions_of-kept os.descriptions w.objects.live now_running
      (λ q d there. description_seen-kept w.objects.live now_running d (ap file_seen (others_stay d.handle (process-no_description os h n once is (λ j. j.id == q) d there)))) in
      (λ i. record (base os w) { processes = processes_now i; threads = ts i; descriptions = ds i })
      ∙ sym (ap (with_memory_in (base os w) n.pid s) (process_at-found os w h n fits is))

-- ---- lists

-- The ids of a list's threads, one after another.
pub tids_of-append : (notes : List ThreadNote) (hs ks : List ℕ) → tids_of notes (hs ++ ks) ≡ tids_of notes hs ++ tids_of notes ks
tids_of-append notes hs ks = filter_map-append (λ h. option_map (λ n. n.tid) (thread_with h notes)) hs ks

pub tids_of-one : (notes : List ThreadNote) (h : ℕ) (n : ThreadNote) → thread_with h notes ≡ Some n → tids_of notes (h ∷ []) ≡ n.tid ∷ []
tids_of-one notes h n is = ap (λ x. cons_option (option_map (λ (m : ThreadNote). m.tid) x) []) is

-- Each handle of a list has a record.
abbrev pub are_recorded : List ThreadNote → List ℕ → Bool
are_recorded notes hs = list_all (λ h. is_some (thread_with h notes)) hs

id_there : (x : Option ThreadNote) (ts : List ℕ) → is_some x ≡ true → cons_option (option_map (λ n. n.tid) x) ts ≡ tid_of x ∷ ts
id_there None ts some = absurd (cc)
id_there (Some n) ts some = refl

pub tids_of-recorded : (notes : List ThreadNote) (hs : List ℕ) → are_recorded notes hs ≡ true → tids_of notes hs ≡ map (λ h. tid_of (thread_with h notes)) hs
tids_of-recorded notes [] all = refl
tids_of-recorded notes (h ∷ hs) all =
    let parts = and_parts (is_some (thread_with h notes)) (are_recorded notes hs) all in
    id_there (thread_with h notes) (tids_of notes hs) parts.0 ∙ ap (λ ts. tid_of (thread_with h notes) ∷ ts) (tids_of-recorded notes hs parts.1)

-- A thread joins the ready list.
pub base-with_ready : (os : LibOs) (w : Visible) (h : ℕ) (n : ThreadNote) → thread_with h os.threads ≡ Some n
    → base os (with_visible w (with_lists w.objects (with_ready w.objects.lists h))) ≡ made_ready (base os w) n.tid
base-with_ready os w h n is =
    let ready = tids_of-append os.threads w.objects.lists.ready (h ∷ []) ∙ ap (λ ts. tids_of os.threads w.objects.lists.ready ++ ts) (tids_of-one os.threads h n is) in
    λ i. record (base os w) { lists = record (lists_of os w.objects.lists) { ready = ready i } }

-- ---- numbers that end without a record

module _ (os : LibOs) (ends : ℕ → Bool) (none : (q : ℕ) → ends q ≡ true → times_named q (recorded os) ≡ 0) where
  -- they are in no list of the machine
  tids_of-left : (hs : List ℕ) → tids_of os.threads (filter (λ t. not (ends t)) hs) ≡ tids_of os.threads hs
  tids_of-left [] = refl
  tids_of-left (h ∷ hs) =
      let left = filter (λ t. not (ends t)) hs in
      elim (ends h) as (λ b. ends h ≡ b → tids_of os.threads (cond (not b) (h ∷ left) left) ≡ tids_of os.threads (h ∷ hs)) [
        | true ↦ λ ended. tids_of-left hs ∙ sym (ap (λ x. cons_option (option_map (λ n. n.tid) x) (tids_of os.threads hs)) (unrecorded os h (none h ended)).thread)
        | false ↦ λ _. ap (cons_option (option_map (λ n. n.tid) (thread_with h os.threads))) (tids_of-left hs)
      ] refl

  -- and what waits for them waits for what is gone
  target_of-gone : (h : ℕ) → Unrecorded os h → target_of os h ≡ Gone
  target_of-gone h is = λ i. target_by (is.description i) (is.process i) (is.woken i)

  target_of-left : times_named 0 (recorded os) ≡ 0 → (h : ℕ) → target_of os (cond (ends h) 0 h) ≡ target_of os h
  target_of-left nothing h = elim (ends h) as (λ b. ends h ≡ b → target_of os (cond b 0 h) ≡ target_of os h) [
    | true ↦ λ ended. target_of-gone 0 (unrecorded os 0 nothing) ∙ sym (target_of-gone h (unrecorded os h (none h ended)))
    | false ↦ λ _. refl
  ] refl

  targets_left : times_named 0 (recorded os) ≡ 0 → (hs : List ℕ) → map (target_of os) (map (λ h. cond (ends h) 0 h) hs) ≡ map (target_of os) hs
  targets_left nothing [] = refl
  targets_left nothing (h ∷ hs) = λ i. target_of-left nothing h i ∷ targets_left nothing hs i

  waiter_of-left : times_named 0 (recorded os) ≡ 0 → (w : Waiting) → waiter_of os (with_gone ends w) ≡ waiter_of os w
  waiter_of-left nothing w =
      ap (λ targets. option_map (λ n. record { thread = n.tid; targets = targets; deadline = w.deadline }) (thread_with w.thread os.threads)) (targets_left nothing w.handles)

  waiters_left : times_named 0 (recorded os) ≡ 0 → (ws : List Waiting) → filter_map (waiter_of os) (map (with_gone ends) (filter (λ w. not (ends w.thread)) ws)) ≡ filter_map (waiter_of os) ws
  waiters_left nothing [] = refl
  waiters_left nothing (w ∷ ws) =
      let left = filter (λ v. not (ends v.thread)) ws in
      elim (ends w.thread) as (λ b. ends w.thread ≡ b → filter_map (waiter_of os) (map (with_gone ends) (cond (not b) (w ∷ left) left)) ≡ filter_map (waiter_of os) (w ∷ ws)) [
        | true ↦ λ ended. waiters_left nothing ws ∙ sym (ap (λ x. cons_option (option_map (λ (n : ThreadNote). record { thread = n.tid; targets = map (target_of os) w.handles; deadline = w.deadline }) x) (filter_map (waiter_of os) ws))
            (unrecorded os w.thread (none w.thread ended)).thread)
        | false ↦ λ _. λ i. cons_option (waiter_of-left nothing w i) (waiters_left nothing ws i)
      ] refl

  pub base-without_handles : (w : Visible) → times_named 0 (recorded os) ≡ 0 → base os (with_visible w (without_handles w.objects ends)) ≡ base os w
  base-without_handles w nothing =
      let o' = without_handles w.objects ends in
      let same = base-live os w o'.live (λ q counted. object_at-without_handles w.objects ends q
      ∙ cond-true (not (ends q)) (object_at w.objects q) None (stays_there q counted (ends q) refl)) in
      let ready = tids_of-left w.objects.lists.ready in
      let waiting = waiters_left nothing w.objects.lists.waiting in
      (λ i. record (base os (with_visible w (record w.objects { live = o'.live }))) { lists = record (lists_of os w.objects.lists) { ready = ready i; waiting = waiting i } }) ∙ same
    where
      stays_there : (q : ℕ) → 1 ≤ times_named q (recorded os) → (b : Bool) → ends q ≡ b → not (ends q) ≡ true
      stays_there q counted true ended = absurd (let e = none q ended in omega arith)
      stays_there q counted false ended = ap not ended
