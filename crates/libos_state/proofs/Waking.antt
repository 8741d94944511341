-- Which threads of a world are woken, and which of the machine: those that are ready or wait have records, and a wait is due in both or in neither.
use Rattle.std.specs.Prelude.{◌≡◌, ℕ, zero, suc, ◌+◌, ◌≤◌, ◌==◌, Bool, true, false, cond, not, ◌||◌, List, [], ◌∷◌, ◌++◌, map, filter, filter_map, count_by, is_some, length, slice_get, remove as remove_at}
use Rattle.std.specs.List.{cons_option, list_all, list_any}
use Rattle.std.specs.Option.{option_map}
use Rattle.std.specs.declared.option.Option.{Option}
use Rattle.std.specs.declared.option.Option.TheVariants.{None, Some}
use Rattle.std.proofs.Common.{refl, sym, ap, ◌∙◌, arith, eq-eqb, eqb-true}
use Rattle.std.proofs.lemmas.Bool.{and_parts, and_from, both_ways}
use Rattle.std.proofs.lemmas.Option.{slice_get-map}
use Rattle.std.proofs.lemmas.List.Folds.{list_all-map}
use Rattle.rv_core.specs.declared.context.Context.{Context}
use Rattle.guest_space.specs.Space.{Space}
use Rattle.turn_sched.specs.Lists.{Waiting, Lists, no_threads, times, waiting_threads, standings}
use Rattle.turn_sched.proofs.ThreadLists.{times-cons}
use Rattle.turn_sched.proofs.Renamed.{length-map, without_place-renamed}
use Rattle.abi_calls.specs.declared.object.Object.TheVariants.{Process, Thread, Event, Stream, ReadEnd, WriteEnd}
use Rattle.abi_calls.specs.Objects.{Object, Objects, object_at}
use Rattle.abi_calls.specs.Sound.{IsSound, is_sound_wait, can_be_awaited}
use Rattle.turn_sched.specs.Clock.{is_past}
use Rattle.abi_calls.specs.Turn.{is_due, is_signalled, is_signalled_object, time_of, with_due_ready}
use Rattle.abi_calls.proofs.Facts.{home_of, thread-standing}
use Rattle.mono_model.specs.Machine.{Waiter, is_woken}
use Rattle.mono_model.specs.Turns as machine
use Rattle.mono_model.specs.Turns.{has_come, awoken}
use Rattle.libos_state.specs.declared.notes.Description.{Description}
use Rattle.libos_state.specs.declared.notes.Kind.{Kind}
use Rattle.libos_state.specs.declared.notes.ProcessNote.{ProcessNote}
use Rattle.libos_state.specs.declared.notes.ThreadNote.{ThreadNote}
use Rattle.libos_state.specs.declared.state.LibOs.{LibOs}
use Rattle.libos_state.specs.Records.{Visible, with_visible, base, process_with, thread_with, thread_woken_by, is_set, thread_seen, tids_of, tid_of, target_of, target_by, waiter_of, lists_of, code_of}
use Rattle.libos_state.specs.Named.{AProcess, AThread, AnEvent, AStreamOf, is_of, recorded, times_named}
use Rattle.libos_state.specs.Fits.{FitsRecords, FitsObjects, is_to_name, is_code, has_code}
use Rattle.libos_state.proofs.Distinct.{some_of, find-counted, find-key}
use Rattle.libos_state.proofs.Naming.{unrecorded, unrecorded-free, find-passes, list_all-find, find-uncounted, count_by-cons, times_recorded, times_named-append, times_named-recorded, kinds-lists}
use Rattle.libos_state.proofs.Bases.{are_recorded, tids_of-append, tids_of-recorded, thread_at-base, exit_code_at-base}

-- ---- lists

-- What each waits for passes; what some give of a list, by tests of what gives it.
module _ {X Y : Type 0} (g : X → Option Y) (p : Y → Bool) (q ok : X → Bool) where
  pub filter-filter_map : ((x : X) (y : Y) → ok x ≡ true → g x ≡ Some y → p y ≡ q x) → (xs : List X) → list_all ok xs ≡ true → filter p (filter_map g xs) ≡ filter_map g (filter q xs)
  filter-filter_map same [] all = refl
  filter-filter_map same (x ∷ xs) all =
      let parts = and_parts (ok x) (list_all ok xs) all in
      let rest = filter-filter_map same xs parts.1 in
      elim (g x) as (λ z. g x ≡ z → filter p (cons_option z (filter_map g xs)) ≡ filter_map g (cond (q x) (x ∷ filter q xs) (filter q xs))) [
        | None ↦ λ none. rest ∙ elim (q x) as (λ b. filter_map g (filter q xs) ≡ filter_map g (cond b (x ∷ filter q xs) (filter q xs))) [
          | true ↦ sym (ap (λ z. cons_option z (filter_map g (filter q xs))) none)
          | false ↦ refl
        ]
        | Some y ↦ λ there. ap (λ b. cond b (y ∷ filter p (filter_map g xs)) (filter p (filter_map g xs))) (same x y parts.0 there)
            ∙ elim (q x) as (λ b. cond b (y ∷ filter p (filter_map g xs)) (filter p (filter_map g xs)) ≡ filter_map g (cond b (x ∷ filter q xs) (filter q xs))) [
              | true ↦ ap (λ ys. y ∷ ys) rest ∙ sym (ap (λ z. cons_option z (filter_map g (filter q xs))) there)
              | false ↦ rest
            ]
      ] refl

  pub list_any-filter_map : ((x : X) → ok x ≡ true → is_some (g x) ≡ true) → ((x : X) (y : Y) → g x ≡ Some y → p y ≡ q x) → (xs : List X) → list_all ok xs ≡ true
      → list_any p (filter_map g xs) ≡ list_any q xs
  list_any-filter_map gives same [] all = refl
  list_any-filter_map gives same (x ∷ xs) all =
      let parts = and_parts (ok x) (list_all ok xs) all in
      let there = some_of (g x) (gives x parts.0) in
      ap (λ z. list_any p (cons_option z (filter_map g xs))) there.1
      ∙ (λ i. same x there.0 there.1 i || list_any-filter_map gives same xs parts.1 i)

list_any-signals : {X Y : Type 0} (f : X → Y) (p : Y → Bool) (q ok : X → Bool) → ((x : X) → ok x ≡ true → p (f x) ≡ q x) → (xs : List X) → list_all ok xs ≡ true → list_any p (map f xs) ≡ list_any q xs
list_any-signals f p q ok same [] all = refl
list_any-signals f p q ok same (x ∷ xs) all =
    let parts = and_parts (ok x) (list_all ok xs) all in
    λ i. same x parts.0 i || list_any-signals f p q ok same xs parts.1 i

-- What holds of each number that stands in a list.
list_all-standing : (ok : ℕ → Bool) (hs : List ℕ) → ((t : ℕ) → 1 ≤ times t hs → ok t ≡ true) → list_all ok hs ≡ true
list_all-standing ok [] so = refl
list_all-standing ok (h ∷ hs) so =
    let here : 1 ≤ times h (h ∷ hs) = omega (arith, times-cons h h hs, ap (λ b. cond {A = ℕ} b 1 0) (eq-eqb h h refl)) in
    and_from _ _ (so h here) (list_all-standing ok hs (λ t there. so t (omega (arith, times-cons t h hs, there))))

-- ---- which record a live number has

-- none of a list whose records ask what isn't there
count_by-wrong : {N : Type 0} (key : N → ℕ) (holds : N → Bool) (h : ℕ) (notes : List N) → ((n : N) → key n ≡ h → holds n ≡ false) → list_all holds notes ≡ true → count_by (λ n. key n == h) notes ≡ 0
count_by-wrong key holds h [] wrong all = refl
count_by-wrong key holds h (n ∷ notes) wrong all =
    let parts = and_parts (holds n) (list_all holds notes) all in
    let rest = count_by-wrong key holds h notes wrong parts.1 in
    count_by-cons (λ m. key m == h) n notes ∙ elim (key n == h) as (λ b. (key n == h) ≡ b → cond b 1 0 + count_by (λ m. key m == h) notes ≡ 0) [
      | true ↦ λ same. absurd (both_ways (holds n) (wrong n (eqb-true (key n) h same)) parts.0)
      | false ↦ λ _. omega (arith, rest)
    ] refl

module _ (os : LibOs) (o : Objects) (records : FitsRecords os) (fits : FitsObjects os o [] None) (h : ℕ) where
  no_process : is_of AProcess (object_at o h) ≡ false → count_by (λ (n : ProcessNote). n.handle == h) os.processes ≡ 0
  no_process other = count_by-wrong (λ (n : ProcessNote). n.handle) (λ n. is_of AProcess (object_at o n.handle)) h os.processes
      (λ n same. ap (λ k. is_of AProcess (object_at o k)) same ∙ other) (kinds-lists os o [] None records fits).processes

  no_thread : is_of AThread (object_at o h) ≡ false → count_by (λ (n : ThreadNote). n.handle == h) os.threads ≡ 0
  no_thread other = count_by-wrong (λ (n : ThreadNote). n.handle) (λ n. is_of AThread (object_at o n.handle)) h os.threads
      (λ n same. ap (λ k. is_of AThread (object_at o k)) same ∙ other) (kinds-lists os o [] None records fits).threads

  no_event : is_of AnEvent (object_at o h) ≡ false → count_by (λ (n : ThreadNote). n.event == h) os.threads ≡ 0
  no_event other = count_by-wrong (λ (n : ThreadNote). n.event) (λ n. is_of AnEvent (object_at o n.event)) h os.threads
      (λ n same. ap (λ k. is_of AnEvent (object_at o k)) same ∙ other) (kinds-lists os o [] None records fits).events

  no_description : ((kind : Kind) → is_of (AStreamOf kind) (object_at o h) ≡ false) → count_by (λ (d : Description). d.handle == h) os.descriptions ≡ 0
  no_description other = count_by-wrong (λ (d : Description). d.handle) (λ d. is_of (AStreamOf d.kind) (object_at o d.handle)) h os.descriptions
      (λ d same. ap (λ k. is_of (AStreamOf d.kind) (object_at o k)) same ∙ other d.kind) (kinds-lists os o [] None records fits).descriptions

  -- a live number is recorded once
  once : (x : Object) → object_at o h ≡ Some x → times_recorded h os ≡ 1
  once x there =
      let one : times_named h (recorded os ++ []) ≡ 1 = fits.once h ∙ ap (λ y. cond (is_to_name None y) 1 0) there in
      omega (arith, one, times_named-append h (recorded os) [], times_named-recorded h os)

  -- A live thread, process or event has its record.
  pub thread_recorded : (p : ℕ) (context : Context) → object_at o h ≡ Some (Thread p context) → is_some (thread_with h os.threads) ≡ true
  thread_recorded p context there = find-counted (λ (n : ThreadNote). n.handle == h) os.threads (omega (
    arith,
    once (Thread p context) there,
    no_process (ap (is_of AProcess) there),
    no_event (ap (is_of AnEvent) there),
    no_description (λ kind. ap (is_of (AStreamOf kind)) there),
  ))

  process_recorded : (memory : Space) (code : Option ℕ) → object_at o h ≡ Some (Process memory code) → is_some (process_with h os.processes) ≡ true
  process_recorded memory code there = find-counted (λ (n : ProcessNote). n.handle == h) os.processes (omega (
    arith,
    once (Process memory code) there,
    no_thread (ap (is_of AThread) there),
    no_event (ap (is_of AnEvent) there),
    no_description (λ kind. ap (is_of (AStreamOf kind)) there),
  ))

  event_recorded : (set : Bool) → object_at o h ≡ Some (Event set) → is_some (thread_woken_by h os.threads) ≡ true
  event_recorded set there = find-counted (λ (n : ThreadNote). n.event == h) os.threads (omega (
    arith,
    once (Event set) there,
    no_process (ap (is_of AProcess) there),
    no_thread (ap (is_of AThread) there),
    no_description (λ kind. ap (is_of (AStreamOf kind)) there),
  ))

  -- no end of a pipe has one
  no_pipe : (x : Object) → object_at o h ≡ Some x → is_of AProcess (Some x) ≡ false → is_of AThread (Some x) ≡ false → is_of AnEvent (Some x) ≡ false
      → ((kind : Kind) → is_of (AStreamOf kind) (Some x) ≡ false) → ⊥
  no_pipe x there process thread event console =
      omega (
        arith,
        once x there,
        no_process (ap (is_of AProcess) there ∙ process),
        no_thread (ap (is_of AThread) there ∙ thread),
        no_event (ap (is_of AnEvent) there ∙ event),
        no_description (λ kind. ap (is_of (AStreamOf kind)) there ∙ console kind),
      )

-- ---- what has come

module _ (os : LibOs) (w : Visible) (records : FitsRecords os) (fits : FitsObjects os w.objects [] None) where
  abbrev o : Objects
  o = w.objects

  is_some_code : (a code : Option ℕ) (memory : Space) → is_code a (Some (Process memory code)) ≡ true → is_some a ≡ is_some code
  is_some_code None None memory is = refl
  is_some_code None (Some c) memory is = absurd (cc)
  is_some_code (Some a) None memory is = absurd (cc)
  is_some_code (Some a) (Some c) memory is = refl

  process_come : (h : ℕ) (memory : Space) (code : Option ℕ) (n : ProcessNote) → object_at o h ≡ Some (Process memory code) → process_with h os.processes ≡ Some n
      → has_come (base os w) (target_of os h) ≡ is_some code
  process_come h memory code n there is =
      let handle : n.handle ≡ h = eqb-true n.handle h (find-passes (λ m. m.handle == h) os.processes n is) in
      let nowhere = find-uncounted (λ (d : Description). d.handle == h) os.descriptions (no_description os o records fits h (λ kind. ap (is_of (AStreamOf kind)) there)) in
      let by_code = list_all-find (λ m. has_code None m (object_at o m.handle)) (λ m. m.handle == h) os.processes n fits.codes is in
      (λ i. has_come (base os w) (target_by (nowhere i) (is i) (thread_woken_by h os.threads)))
      ∙ ap is_some (exit_code_at-base os w n.pid ∙ ap code_of (find-key (λ (m : ProcessNote). m.pid) (λ m. m.handle == h) os.processes n records.pids is))
      ∙ is_some_code n.code code memory (sym (ap (is_code n.code) (ap (object_at o) handle ∙ there)) ∙ by_code)

  event_come : (h : ℕ) (set : Bool) (n : ThreadNote) → object_at o h ≡ Some (Event set) → thread_woken_by h os.threads ≡ Some n → has_come (base os w) (target_of os h) ≡ set
  event_come h set n there is =
      let event : n.event ≡ h = eqb-true n.event h (find-passes (λ m. m.event == h) os.threads n is) in
      let nowhere = find-uncounted (λ (d : Description). d.handle == h) os.descriptions (no_description os o records fits h (λ kind. ap (is_of (AStreamOf kind)) there)) in
      let nobody = find-uncounted (λ (m : ProcessNote). m.handle == h) os.processes (no_process os o records fits h (ap (is_of AProcess) there)) in
      (λ i. has_come (base os w) (target_by (nowhere i) (nobody i) (is i)))
      ∙ ap is_woken (thread_at-base os w n.tid ∙ ap (option_map (thread_seen o.live)) (find-key (λ (m : ThreadNote). m.tid) (λ m. m.event == h) os.threads n records.tids is))
      ∙ ap is_set (ap (object_at o) event ∙ there)

  gone_come : (h : ℕ) → object_at o h ≡ None → has_come (base os w) (target_of os h) ≡ true
  gone_come h free =
      let is = unrecorded os h (unrecorded-free os o [] None fits h free) in
      λ i. has_come (base os w) (target_by (is.description i) (is.process i) (is.woken i))

  or_false : (b : Bool) → (b || false) ≡ true → b ≡ true
  or_false true is = refl
  or_false false is = is

  not_zero : (h : ℕ) (x : Object) → IsSound o → object_at o h ≡ Some x → (h == 0) ≡ true → ⊥
  not_zero h x sound there none = absurd (let e : None ≡ Some x = sym sound.positive ∙ ap (object_at o) (sym (eqb-true h 0 none)) ∙ there in cc)

  -- What a thread may wait for has come to the machine where it is signalled.
  come : IsSound o → (h : ℕ) (x : Option Object) → object_at o h ≡ x → (h == 0 || can_be_awaited x) ≡ true → has_come (base os w) (target_of os h) ≡ is_signalled_object o x
  come sound h None there waits = gone_come h there
  come sound h (Some (Process memory code)) there waits =
      let n = some_of (process_with h os.processes) (process_recorded os o records fits h memory code there) in process_come h memory code n.0 there n.1
  come sound h (Some (Event set)) there waits =
      let n = some_of (thread_woken_by h os.threads) (event_recorded os o records fits h set there) in event_come h set n.0 there n.1
  come sound h (Some (ReadEnd pipe)) there waits = absurd (no_pipe os o records fits h (ReadEnd pipe) there refl refl refl (λ kind. refl))
  come sound h (Some (WriteEnd pipe)) there waits = absurd (no_pipe os o records fits h (WriteEnd pipe) there refl refl refl (λ kind. refl))
  come sound h (Some (Thread p context)) there waits = absurd (not_zero h (Thread p context) sound there (or_false (h == 0) waits))
  come sound h (Some (Stream name)) there waits = absurd (not_zero h (Stream name) sound there (or_false (h == 0) waits))

  pub has_come-base : IsSound o → (h : ℕ) → (h == 0 || can_be_awaited (object_at o h)) ≡ true → has_come (base os w) (target_of os h) ≡ is_signalled o h
  has_come-base sound h waits = come sound h (object_at o h) refl waits

  -- A wait is due in the machine where it is in the world.
  named_waiter : (x : Option ThreadNote) (f : ThreadNote → Waiter) (v : Waiter) → option_map f x ≡ Some v → (n : ThreadNote) × (f n ≡ v)
  named_waiter None f v is = absurd (cc)
  named_waiter (Some n) f v is = (n, let e : f n ≡ v = cc in e)

  waiter_due : IsSound o → (wait : Waiting) (v : Waiter) → is_sound_wait o wait ≡ true → waiter_of os wait ≡ Some v → machine.is_due (base os w) v ≡ is_due o wait
  waiter_due sound wait v good is =
      let n = named_waiter (thread_with wait.thread os.threads) (λ n. record { thread = n.tid; targets = map (target_of os) wait.handles; deadline = wait.deadline }) v is in
      let parts = and_parts (list_all (λ h. h == 0 || can_be_awaited (object_at o h)) wait.handles) _ good in
      ap (machine.is_due (base os w)) (sym n.1)
      ∙ ap (λ b. b || is_past (time_of o) wait.deadline)
      (list_any-signals (target_of os) (has_come (base os w)) (is_signalled o) (λ h. h == 0 || can_be_awaited (object_at o h)) (has_come-base sound) wait.handles parts.0)

  -- ---- the woken

  threads_of_waiters : (ws : List Waiting) → map (λ (v : Waiter). v.thread) (filter_map (waiter_of os) ws) ≡ tids_of os.threads (map (λ (v : Waiting). v.thread) ws)
  threads_of_waiters [] = refl
  threads_of_waiters (v ∷ ws) = elim (thread_with v.thread os.threads) as (λ x.
      map (λ (j : Waiter). j.thread) (cons_option (option_map (λ (n : ThreadNote). record { thread = n.tid; targets = map (target_of os) v.handles; deadline = v.deadline }) x) (filter_map (waiter_of os) ws))
      ≡ cons_option (option_map (λ (n : ThreadNote). n.tid) x) (tids_of os.threads (map (λ (j : Waiting). j.thread) ws))) [
        | None ↦ threads_of_waiters ws
        | Some n ↦ ap (λ ts. n.tid ∷ ts) (threads_of_waiters ws)
      ]

  -- The machine of the world with those that are due ready.
  pub base-with_due_ready : IsSound o → awoken (base os w) ≡ base os (with_visible w (with_due_ready o))
  base-with_due_ready sound =
      let l = o.lists in
      let due = filter-filter_map (waiter_of os) (machine.is_due (base os w)) (is_due o) (is_sound_wait o) (λ wait v good is. waiter_due sound wait v good is) l.waiting sound.waits in
      let stays = filter-filter_map (waiter_of os) (λ v. not (machine.is_due (base os w) v)) (λ wait. not (is_due o wait)) (is_sound_wait o)
      (λ wait v good is. ap not (waiter_due sound wait v good is)) l.waiting sound.waits in
      let ready = ap (λ vs. tids_of os.threads l.ready ++ map (λ (v : Waiter). v.thread) vs) due
      ∙ ap (λ ts. tids_of os.threads l.ready ++ ts) (threads_of_waiters (filter (is_due o) l.waiting))
      ∙ sym (tids_of-append os.threads l.ready (map (λ (v : Waiting). v.thread) (filter (is_due o) l.waiting))) in
      λ i. record (base os w) { lists = record (lists_of os l) { ready = ready i; waiting = stays i } }

  -- ---- who stands in a list

  standing_recorded : IsSound o → (t : ℕ) → 1 ≤ standings o.lists t → is_some (thread_with t os.threads) ≡ true
  standing_recorded sound t some =
      let home = home_of o t sound (object_at o t) refl (thread-standing o t sound some) in
      thread_recorded os o records fits t home.process home.context home.runs.thread

  pub are_recorded-ready : IsSound o → are_recorded os.threads o.lists.ready ≡ true
  are_recorded-ready sound = list_all-standing (λ t. is_some (thread_with t os.threads)) o.lists.ready (λ t some. standing_recorded sound t (omega arith))

  waiting_recorded : IsSound o → list_all (λ (v : Waiting). is_some (thread_with v.thread os.threads)) o.lists.waiting ≡ true
  waiting_recorded sound =
      sym (list_all-map (λ t. is_some (thread_with t os.threads)) (λ (v : Waiting). v.thread) o.lists.waiting)
      ∙ list_all-standing (λ t. is_some (thread_with t os.threads)) (waiting_threads o.lists) (λ t some. standing_recorded sound t (omega arith))

  -- A thread waits for a time in the machine where one does in the world.
  given : (x : Option ThreadNote) (f : ThreadNote → Waiter) → is_some x ≡ true → is_some (option_map f x) ≡ true
  given None f is = is
  given (Some n) f is = refl

  pub waits_for_time-base : IsSound o → machine.waits_for_time (base os w) ≡ list_any (λ v. is_some v.deadline) o.lists.waiting
  waits_for_time-base sound = list_any-filter_map (waiter_of os) (λ v. is_some v.deadline) (λ v. is_some v.deadline) (λ v. is_some (thread_with v.thread os.threads))
      (λ v is. given (thread_with v.thread os.threads) (λ n. record { thread = n.tid; targets = map (target_of os) v.handles; deadline = v.deadline }) is)
      (λ wait v is. let n = named_waiter (thread_with wait.thread os.threads) (λ n. record { thread = n.tid; targets = map (target_of os) wait.handles; deadline = wait.deadline }) v is in
      ap (λ (j : Waiter). is_some j.deadline) (sym n.1)) o.lists.waiting (waiting_recorded sound)

-- ---- the thread at a place

list_all-remove : {X : Type 0} (test : X → Bool) (xs : List X) (place : ℕ) → list_all test xs ≡ true → list_all test (remove_at xs place) ≡ true
list_all-remove test [] zero all = refl
list_all-remove test [] (suc place) all = refl
list_all-remove test (x ∷ xs) zero all = (and_parts (test x) (list_all test xs) all).1
list_all-remove test (x ∷ xs) (suc place) all =
    let parts = and_parts (test x) (list_all test xs) all in and_from _ _ parts.0 (list_all-remove test xs place parts.1)

-- The ids of a list of recorded threads, by their places.
module _ (notes : List ThreadNote) (hs : List ℕ) (all : are_recorded notes hs ≡ true) where
  abbrev id_of : ℕ → ℕ
  id_of h = tid_of (thread_with h notes)

  pub tids_of-length : length (tids_of notes hs) ≡ length hs
  tids_of-length = ap length (tids_of-recorded notes hs all) ∙ length-map id_of hs

  pub tids_of-place : (place : ℕ) → slice_get (tids_of notes hs) place ≡ option_map (λ h. tid_of (thread_with h notes)) (slice_get hs place)
  tids_of-place place = ap (λ ts. slice_get ts place) (tids_of-recorded notes hs all) ∙ slice_get-map id_of hs place

  left_recorded : (place : ℕ) → are_recorded notes (remove_at hs place) ≡ true
  left_recorded place = list_all-remove (λ h. is_some (thread_with h notes)) hs place all

  -- the others stay, in their order

  pub tids_of-remove : (place : ℕ) → remove_at (tids_of notes hs) place ≡ tids_of notes (remove_at hs place)
  tids_of-remove place =
      ap (λ ts. remove_at ts place) (tids_of-recorded notes hs all)
      ∙ ap (λ (l : Lists Waiting). l.ready) (without_place-renamed id_of (record no_threads { ready = hs }) place)
      ∙ sym (tids_of-recorded notes (remove_at hs place) (left_recorded place))
