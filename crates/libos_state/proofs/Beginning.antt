-- The end of a start: its thread becomes ready, and the library OS is up.
use Rattle.std.specs.Prelude.{◌≡◌, ℕ, ◌==◌, Bool, true, false, cond, List, [], ◌∷◌, ◌++◌, length, map, filter_map, slice_index, is_some}
use Rattle.std.specs.List.{list_all, cons_option}
use Rattle.std.specs.Option.{option_map}
use Rattle.std.specs.FinMap.{empty, insert}
use Rattle.std.specs.declared.option.Option.{Option}
use Rattle.std.specs.declared.option.Option.TheVariants.{None, Some}
use Rattle.std.proofs.Common.{map-id, refl, sym, ap, subst, ◌∙◌, arith, eq-eqb, ne_eqb}
use Rattle.std.proofs.lemmas.Bool.{and_from, and_parts, or_left}
use Rattle.std.proofs.lemmas.List.Folds.{list_all-append}
use Rattle.turn_sched.specs.Lists.{Waiting, Lists, is_resting, contains, is_at, no_threads, other_than, times, waiting_threads, without_resting}
use Rattle.turn_sched.proofs.ThreadLists.{times-cons, times-contained}
use Rattle.abi_calls.specs.declared.reply.Reply.{Reply}
use Rattle.abi_calls.specs.declared.reply.Reply.TheVariants.{Done}
use Rattle.abi_calls.specs.Objects.{object_at, running, is_thread_of, is_some_thread, with_lists}
use Rattle.abi_calls.specs.Sound.{IsSound}
use Rattle.mono_model.specs.Machine.{made_ready}
use Rattle.mono_model.specs.Starting.{Runs, begun}
use Rattle.libos_state.specs.declared.cont.Cont.{Cont}
use Rattle.libos_state.specs.declared.cont.Stage.TheVariants.{StartThread}
use Rattle.libos_state.specs.declared.notes.Kind.TheVariants.{ConIn, ConOut, ConErr}
use Rattle.libos_state.specs.declared.notes.ThreadNote.{ThreadNote}
use Rattle.libos_state.specs.declared.state.LibOs.{LibOs}
use Rattle.libos_state.specs.Records.{View, Visible, visible, with_visible, base, tids_of, lists_of, target_of, waiter_of, is_set, queued_seen, thread_with}
use Rattle.libos_state.specs.Pending.{asked, handle, program_in, file_or_child}
use Rattle.libos_state.specs.Answered.{answered_at, first_thread}
use Rattle.libos_state.specs.Meaning.{settles, unstarted, child_memory, child_context}
use Rattle.libos_state.specs.Named.{Named, AProcess, AThread, AnEvent, AStreamOf, is_of, recorded, named_as, kinds_at, times_named}
use Rattle.libos_state.specs.Fits.{FitsStage, FitsObjects, FitsRecords, is_to_name}
use Rattle.libos_state.proofs.Alone.{Decides-fits_records}
use Rattle.libos_state.proofs.Holds.{HoldsQuietly}
use Rattle.libos_state.proofs.Rows.{quietly_by_row}
use Rattle.libos_state.proofs.Naming.{FitsObjects-same, kinds-kept, thread_of, times_named-append}
use Rattle.libos_state.proofs.Bases.{base-with_ready}
use Rattle.libos_state.proofs.Resuming.{resumed_objects, row_resumed}
use Rattle.libos_state.proofs.Handles.{recorded-start}
use Rattle.libos_state.proofs.Starts.{start_of}
use Rattle.libos_state.proofs.Views.{AnswersAs, answer, on_objects, with_objects}

-- ---- what is kept is recorded

-- The ends of the console, and what the start has made, of six handles.
abbrev ends_of : List ℕ → List Named
ends_of hs =
    (slice_index hs 0, AStreamOf ConIn) ∷ (slice_index hs 1, AStreamOf ConOut) ∷
    (slice_index hs 2, AStreamOf ConErr) ∷ []

abbrev made_of : List ℕ → List Named
made_of hs =
    (slice_index hs 3, AProcess) ∷ (slice_index hs 4, AThread) ∷ (slice_index hs 5, AnEvent) ∷ []

kept_parts : (hs : List ℕ) → length hs ≡ 6
    → named_as hs (kinds_at StartThread) ≡ ends_of hs ++ made_of hs
kept_parts [] long = absurd (omega arith)
kept_parts (a ∷ []) long = absurd (omega arith)
kept_parts (a ∷ b ∷ []) long = absurd (omega arith)
kept_parts (a ∷ b ∷ c ∷ []) long = absurd (omega arith)
kept_parts (a ∷ b ∷ c ∷ d ∷ []) long = absurd (omega arith)
kept_parts (a ∷ b ∷ c ∷ d ∷ e ∷ []) long = absurd (omega arith)
kept_parts (a ∷ b ∷ c ∷ d ∷ e ∷ f ∷ []) long = refl
kept_parts (a ∷ b ∷ c ∷ d ∷ e ∷ f ∷ g ∷ rest) long = absurd (omega arith)

module _ (os : LibOs) (c : Cont) (v : Visible) (fits : FitsStage os v.objects c StartThread) where
  abbrev up : LibOs
  up = answered_at os c StartThread Done

  abbrev kept : List Named
  kept = named_as c.handles (kinds_at StartThread)

  begun_records : FitsRecords up
  begun_records =
      let start = start_of os v.objects c StartThread refl fits in
      subst (λ queue. FitsRecords (record up { queue = queue })) (sym start.queue)
      ((Decides-fits_records (record up { queue = [] })).0 refl)

  begun_once : (q : ℕ) → times_named q (recorded up ++ [])
      ≡ cond (is_to_name None (object_at v.objects q)) 1 0
  begun_once q =
      let start = start_of os v.objects c StartThread refl fits in
      let none : recorded os ≡ [] = recorded-start os v.objects StartThread start in
      let ends : List Named = ends_of c.handles in
      let made : List Named = made_of c.handles in
      let turned : times_named q (made ++ ends) ≡ times_named q (ends ++ made) =
      omega (arith, times_named-append q made ends, times_named-append q ends made) in
      turned ∙ ap (times_named q) (sym (kept_parts c.handles fits.lists.handles))
      ∙ ap (λ (r : List Named). times_named q (r ++ kept)) (sym none) ∙ fits.objects.once q

  begun_kinds : list_all (λ (n : Named). is_of n.1 (object_at v.objects n.0)) (recorded up ++ [])
      ≡ true
  begun_kinds =
      let test : Named → Bool = λ n. is_of n.1 (object_at v.objects n.0) in
      let ends : List Named = ends_of c.handles in
      let made : List Named = made_of c.handles in
      let all : list_all test (ends ++ made) ≡ true =
      ap (list_all test) (sym (kept_parts c.handles fits.lists.handles))
      ∙ kinds-kept os v.objects kept None fits.objects in
      let parts = and_parts (list_all test ends) (list_all test made)
      (sym (list_all-append test ends made) ∙ all) in
      list_all-append test made ends ∙ and_from (list_all test made) (list_all test ends) parts.1 parts.0

  begun_objects : FitsObjects up v.objects [] None
  begun_objects = record {
    once = begun_once;
    kinds = begun_kinds;
    homes = and_from (is_thread_of (file_or_child c) (object_at v.objects (handle c 4))) true fits.made.1.home refl;
    codes = and_from (is_some (running (object_at v.objects (file_or_child c)))) true
        (ap (λ x. is_some (running x)) fits.made.0.child) refl;
  }

-- ---- the new thread alone has a record, and stands nowhere but among the suspended ones

none_of : {X Y : Type 0} (t : ℕ) (key : X → ℕ) (value : X → Option Y)
    → ((x : X) → (t == key x) ≡ false → value x ≡ None) → (xs : List X)
    → times t (map key xs) ≡ 0 → filter_map value xs ≡ []
none_of t key value none [] zero = refl
none_of t key value none (x ∷ xs) zero =
    let sum = times-cons t (key x) (map key xs) in
    let other : (t == key x) ≡ false =
    ne_eqb t (key x) (λ same. absurd (let one : ◌≡◌ {A = ℕ} (cond (key x == t) 1 0) 1 = ap (λ b. cond b 1 0) (eq-eqb (key x) t (sym same)) in omega arith)) in
    ap (λ y. cons_option y (filter_map value xs)) (none x other)
    ∙ none_of t key value none xs (omega arith)

-- A list of threads where the new one doesn't stand.
nobody : (n : ThreadNote) (hs : List ℕ) → times n.handle hs ≡ 0 → tids_of (n ∷ []) hs ≡ []
nobody n hs zero =
    none_of n.handle (λ h. h) (λ h. option_map (λ m. m.tid) (thread_with h (n ∷ [])))
    (λ h other. ap (λ b. option_map {T = ThreadNote} (λ m. m.tid) (cond b (Some n) None)) other) hs
    (ap (times n.handle) (map-id hs) ∙ zero)

none_mapped : {X Y : Type 0} (f : X → Y) (x : Option X) → x ≡ None → option_map f x ≡ None
none_mapped f x none = ap (option_map f) none

lists_unbegun : (os : LibOs) (l : Lists Waiting) (n : ThreadNote) → os.threads ≡ n ∷ []
    → times n.handle l.ready ≡ 0 → times n.handle (waiting_threads l) ≡ 0
    → lists_of os l ≡ no_threads
lists_unbegun os l n only ready waiting =
    let no_ready : tids_of os.threads l.ready ≡ [] =
    ap (λ ns. tids_of ns l.ready) only ∙ nobody n l.ready ready in
    let none : (w : Waiting) → (n.handle == w.thread) ≡ false → thread_with w.thread os.threads ≡ None =
    λ w other. ap (thread_with w.thread) only ∙ ap (λ b. cond b (Some n) None) other in
    let no_waiter : filter_map (waiter_of os) l.waiting ≡ [] =
    none_of n.handle (λ w. w.thread) (waiter_of os)
    (λ w other. none_mapped (λ m. record {
      thread = m.tid;
      targets = map (target_of os) w.handles;
      deadline = w.deadline;
    }) (thread_with w.thread os.threads) (none w other)) l.waiting waiting in
    λ i. record { ready = no_ready i; waiting = no_waiter i; suspended = []; current = None }

-- ---- the thread becomes ready

module _ (os : LibOs) (c : Cont) (v : Visible) (fits : FitsStage os v.objects c StartThread)
    (sound : IsSound v.objects) where
  rests : is_resting v.objects.lists (handle c 4) ≡ true
  rests = or_left (contains v.objects.lists.suspended (handle c 4))
      (is_at (handle c 4) v.objects.lists.current) fits.made.1.suspended

  -- It stands once.
  lists_before : lists_of (up os c v fits) v.objects.lists ≡ no_threads
  lists_before =
      let thread = thread_of (file_or_child c) (object_at v.objects (handle c 4)) fits.made.1.home in
      let once = sound.standing (handle c 4)
      ∙ ap (λ x. cond (is_some_thread x) 1 0) thread.is in
      let there = times-contained (handle c 4) v.objects.lists.suspended fits.made.1.suspended in
      lists_unbegun (up os c v fits) v.objects.lists (first_thread c) refl (omega arith) (omega arith)

  -- The machine that the records name, before its thread is ready.
  base_begun : base (up os c v fits) (with_visible v (resumed_objects v.objects (handle c 4)))
      ≡ begun (unstarted v) (child_memory v c) (program_in c).end (child_context v c)
  base_begun =
      let os' = up os c v fits in
      let start = start_of os v.objects c StartThread refl fits in
      let first = begun (unstarted v) (child_memory v c) (program_in c).end (child_context v c) in
      let rested = with_visible v (with_lists v.objects (without_resting v.objects.lists (handle c 4))) in
      base-with_ready os' rested (handle c 4) (first_thread c)
      (ap (λ b. cond b (Some (first_thread c)) None) (eq-eqb (handle c 4) (handle c 4) refl))
      ∙ (λ i. made_ready (record first {
        threads = insert empty 1 (record {
          process = 1;
          context = child_context v c;
          woken = is_set (fits.made.2 i);
          saved = None;
        });
        lists = lists_before i;
        queue = map queued_seen (start.queue i);
      }) 1)

pub keeps_start_thread : (os : LibOs) (c : Cont) (w w' : View) (r : Reply)
    → FitsStage os w.objects c StartThread → IsSound w.objects
    → AnswersAs w (asked os c StartThread) r w' → HoldsQuietly os c StartThread w r w'
keeps_start_thread os c w w' r fits sound abi =
    let v = visible w in
    let t = handle c 4 in
    let o = resumed_objects w.objects t in
    let os' = up os c v fits in
    let thread = thread_of (file_or_child c) (object_at w.objects t) fits.made.1.home in
    let row : answer w (asked os c StartThread) r ≡ (Done, with_objects w o) =
    ap (on_objects w) (row_resumed w.objects t (file_or_child c) thread.context thread.is
    (rests os c v fits sound)) in
    quietly_by_row os c StartThread w w' r Done o abi row (record {
      fits = record {
        records = begun_records os c v fits;
        first = refl;
        objects = FitsObjects-same os' w.objects o [] None (λ q. refl) (begun_objects os c v fits);
        current = ap (other_than t) (start_of os w.objects c StartThread refl fits).current;
      };
      means = ap (λ m. settles (Runs m)) (base_begun os c v fits sound);
    })
