-- How many handles are open on each file, after a change of the objects, a call and a turn.
use Rattle.std.specs.Prelude.{◌≡◌, ℕ, suc, ◌+◌, ◌≤◌, ◌==◌, Bool, true, false, cond, not, List, [], ◌∷◌, map, filter, count_by, is_some, slice_get}
use Rattle.std.specs.List.{list_any}
use Rattle.std.specs.Ordering.{nat_cmp}
use Rattle.std.specs.declared.cmp.Ordering.TheVariants.{Equal}
use Rattle.std.specs.Cmp.{nat_cmp_total, unsigned_tied}
use Rattle.std.specs.FinMap.{FinMap, get, remove, retain_keys, empty, values, entries, entries_sorted, get-entries, nat_cmp-IsAntisymmetric}
use Rattle.std.specs.FinMap.{get-retain_keys as looked_up_retained}
use Rattle.std.specs.FinMap.Entries.{find, is_sorted-where_key, find-where_key, same_entries}
use Rattle.std.specs.declared.option.Option.{Option}
use Rattle.std.specs.declared.option.Option.TheVariants.{None, Some}
use Rattle.std.proofs.Common.{refl, sym, ap, subst, ◌∙◌, arith, eqb-true, eq-eqb, ne_eqb}
use Rattle.std.proofs.lemmas.Bool.{cond-true, cond-false}
use Rattle.std.proofs.lemmas.List.Sums.{sum_by-cons}
use Rattle.rv_core.specs.declared.context.Context.{Context}
use Rattle.guest_space.specs.Space.{Space}
use Rattle.guest_space.specs.Running.{Ran as Run, run_space}
use Rattle.bas_names.specs.declared.StreamName.{StreamName}
use Rattle.bas_names.specs.declared.StreamName.TheVariants.{File, ConIn, ConOut, ConErr}
use Rattle.bas_items.proofs.NumberMaps.{get-insert, get-remove, get-retain_keys, same_numbers, insert-remove, insert-present, retain_keys-others}
use Rattle.turn_sched.specs.Lists.{Waiting}
use Rattle.abi_calls.specs.declared.call.Call.{Call}
use Rattle.abi_calls.specs.declared.call.Call.TheVariants.{StreamOpen}
use Rattle.abi_calls.specs.declared.object.Object.TheVariants.{Process, Thread, Event, Stream, ReadEnd, WriteEnd}
use Rattle.abi_calls.specs.declared.reply.Reply.{Reply}
use Rattle.abi_calls.specs.declared.threads.Turned.{Turned}
use Rattle.abi_calls.specs.declared.threads.Turned.TheVariants.{Idle, Stuck}
use Rattle.abi_calls.specs.Objects.{Object, Objects, IsFresh, object_at, running, is_thread_of, with_object, without_handles}
use Rattle.abi_calls.specs.World.{World}
use Rattle.abi_calls.specs.Streams.{is_open_on, open_handles, shared_object}
use Rattle.abi_calls.specs.Processes.{without_threads}
use Rattle.abi_calls.specs.Turn.{with_due_ready, idle_turn, with_turn, pick_of, with_pick, run_end, with_run_of, run_in, run_thread, turn_of_pick, world_turn}
use Rattle.abi_calls.specs.Abi.{Abi, IsFreeChoice}
use Rattle.abi_calls.specs.Sound.{IsSound}
use Rattle.abi_calls.proofs.Counts.{one_of, one_at, count_set, count_set_new, count_none}
use Rattle.abi_calls.proofs.Effects.{Effects, has-Abi}
use Rattle.abi_calls.proofs.Facts.{fresh_number, ready_thread}
use Rattle.abi_calls.proofs.Sounds.{IsSound-with_due_ready}
use Rattle.abi_calls.proofs.SoundChanges.{object_at-without_handles}
use Rattle.host_files.specs.Users.{Users}
use Rattle.host_monitor.specs.Counted.{CountsUsers, file_at, file_of_call}

-- ---- a key that goes

module _ {X : Type 0} where
  get-remove-same : (m : FinMap nat_cmp X) (k : ℕ) → get (remove m k) k ≡ None
  get-remove-same m k = get-remove m k k ∙ cond-true _ _ _ (eq-eqb k k refl)

  none_at : (m : FinMap nat_cmp X) (k q : ℕ) → get m k ≡ None → (b : Bool) → (q == k) ≡ b → cond b None (get m q) ≡ get m q
  none_at m k q none true same = sym none ∙ ap (get m) (sym (eqb-true q k same))
  none_at m k q none false other = refl

  remove-absent : (m : FinMap nat_cmp X) (k : ℕ) → get m k ≡ None → remove m k ≡ m
  remove-absent m k absent = same_numbers _ m (λ q. get-remove m k q ∙ none_at m k q absent (q == k) refl)

-- ---- How many values of a map pass a test.
module _ {X : Type 0} (test : X → Bool) where
  passing : List (ℕ × X) → ℕ
  passing es = count_by test (map (λ e. e.1) es)

  passing-cons : (e : ℕ × X) (es : List (ℕ × X)) → passing (e ∷ es) ≡ one_of test e.1 + passing es
  unfolding passing
  passing-cons e es = sum_by-cons (one_of test) e.1 (map (λ f. f.1) es)

  passing-entries : (m : FinMap nat_cmp X) → count_by test (values m) ≡ passing (entries m)
  unfolding passing
  passing-entries m = refl

  passing-none : passing [] ≡ 0
  unfolding passing
  passing-none = refl

  passing-parted : (keeps : ℕ → Bool) (es : List (ℕ × X)) → passing (filter (λ e. keeps e.0) es) + passing (filter (λ e. not (keeps e.0)) es) ≡ passing es
  passing-parted keeps [] = omega (arith, passing-none)
  passing-parted keeps (e ∷ es) =
      let kept = filter (λ (f : ℕ × X). keeps f.0) es in
      let dropped = filter (λ (f : ℕ × X). not (keeps f.0)) es in
      let rest = passing-parted keeps es in
      elim (keeps e.0) as (λ b. passing (cond b (e ∷ kept) kept) + passing (cond (not b) (e ∷ dropped) dropped) ≡ passing (e ∷ es)) [
        | true ↦ omega (arith, rest, passing-cons e es, passing-cons e kept)
        | false ↦ omega (arith, rest, passing-cons e es, passing-cons e dropped)
      ]

  retained : (m : FinMap nat_cmp X) (keeps : ℕ → Bool) → entries (retain_keys m keeps) ≡ filter (λ e. keeps e.0) (entries m)
  retained m keeps =
      let alike = λ (q x : ℕ) (tied : nat_cmp q x ≡ Equal). ap keeps (sym (nat_cmp-IsAntisymmetric q x tied)) in
      same_entries nat_cmp nat_cmp_total nat_cmp-IsAntisymmetric _ _ (entries_sorted (retain_keys m keeps)) (is_sorted-where_key nat_cmp keeps (entries m) (entries_sorted m))
      (λ q. sym (get-entries (retain_keys m keeps) q) ∙ looked_up_retained m keeps q (alike q)
      ∙ ap (λ x. cond (keeps q) x None) (get-entries m q) ∙ sym (find-where_key nat_cmp keeps q (alike q) (entries m)))

  dropped_at : (b : Bool) (x : Option X) (v : X) → cond (not b) x None ≡ Some v → (b ≡ false) × (x ≡ Some v)
  dropped_at true x v e = absurd (cc)
  dropped_at false x v e = (refl, e)

  -- What is dropped doesn't pass.
  pub count-retain_keys : (m : FinMap nat_cmp X) (keeps : ℕ → Bool) → ((k : ℕ) (v : X) → get m k ≡ Some v → keeps k ≡ false → test v ≡ false) → count_by test (values (retain_keys m keeps)) ≡ count_by test (values m)
  count-retain_keys m keeps fails =
      let gone = count_none test (retain_keys m (λ k. not (keeps k))) (λ k v there.
      let at = dropped_at (keeps k) (get m k) v (sym (get-retain_keys m (λ q. not (keeps q)) k) ∙ there) in fails k v at.1 at.0) in
      omega (
        arith,
        gone,
        passing-parted keeps (entries m),
        passing-entries m,
        passing-entries (retain_keys m keeps) ∙ ap passing (retained m keeps),
        passing-entries (retain_keys m (λ k. not (keeps k))) ∙ ap passing (retained m (λ k. not (keeps k))),
      )

  pub count-remove : (m : FinMap nat_cmp X) (k : ℕ) → count_by test (values (remove m k)) + one_at test (get m k) ≡ count_by test (values m)
  count-remove m k = elim (get m k) as (λ o. get m k ≡ o → count_by test (values (remove m k)) + one_at test o ≡ count_by test (values m)) [
    | None ↦ λ e. omega (arith, ap (λ n. count_by test (values n)) (remove-absent m k e))
    | Some v ↦ λ e.
        let back = ap (λ n. count_by test (values n)) (insert-remove m k v ∙ insert-present m k v e) in
        omega (arith, back, count_set_new test (remove m k) k v (get-remove-same m k))
  ] refl

-- ---- A number that names nothing.
module _ {X : Type 0} where
  above : List (ℕ × X) → ℕ
  above [] = 1
  above (e ∷ es) = suc (e.0 + above es)

  positive_above : (es : List (ℕ × X)) → 1 ≤ above es
  unfolding above
  positive_above [] = let none : above [] ≡ 1 = refl in omega (arith, none)
  positive_above (e ∷ es) = let more : above (e ∷ es) ≡ suc (e.0 + above es) = refl in omega (arith, more)

  find-above : (es : List (ℕ × X)) (k : ℕ) → above es ≤ k → find nat_cmp k es ≡ None
  unfolding above
  find-above [] k past = refl
  find-above (e ∷ es) k past =
      let more : above (e ∷ es) ≡ suc (e.0 + above es) = refl in
      cond-false _ _ _ (unsigned_tied k e.0 ∙ ne_eqb k e.0 (λ same. absurd (omega (arith, past, same, more))))
      ∙ find-above es k (omega (arith, past, more))

pub some_fresh : (o : Objects) → IsSound o → (h : ℕ) × IsFresh o h
some_fresh o sound =
    let h : ℕ = above (entries {R = nat_cmp} o.live) in
    (h, fresh_number o h sound (positive_above (entries o.live)) (get-entries o.live h ∙ find-above (entries o.live) h (omega arith)))

-- ---- Handles after one change.
abbrev pub SameHandles : Objects → Objects → Type 0
SameHandles o o' = (q : List ℕ) → open_handles o' q ≡ open_handles o q

pub CountsUsers-same : {o o' : Objects} {users : Users} → CountsUsers o users → SameHandles o o' → CountsUsers o' users
CountsUsers-same {o} {o'} {users} c same = record { counts = λ q. c.counts q ∙ sym (same q) }

abbrev pub here : List ℕ → Option Object → ℕ
here q x = one_at (is_open_on q) x

pub handles-with_object : (o : Objects) (h : ℕ) (x : Object) (q : List ℕ) → open_handles (with_object o h x) q + here q (object_at o h) ≡ open_handles o q + here q (Some x)
handles-with_object o h x q = count_set (is_open_on q) o.live h x

pub handles-ended : (o : Objects) (h : ℕ) (q : List ℕ) → open_handles (without_handles o (λ k. k == h)) q + here q (object_at o h) ≡ open_handles o q
handles-ended o h q = ap (λ m. count_by (is_open_on q) (values m) + here q (object_at o h)) (retain_keys-others o.live h) ∙ count-remove (is_open_on q) o.live h

same-with_object : (o : Objects) (h : ℕ) (x : Object) → ((q : List ℕ) → here q (object_at o h) ≡ here q (Some x)) → SameHandles o (with_object o h x)
same-with_object o h x e q = omega (arith, handles-with_object o h x q, e q)

same-ended : (o : Objects) (h : ℕ) → ((q : List ℕ) → here q (object_at o h) ≡ 0) → SameHandles o (without_handles o (λ k. k == h))
same-ended o h e q = omega (arith, handles-ended o h q, e q)

-- What is open on no file.
none_here : (q : List ℕ) (x : Option Object) → file_at x ≡ None → here q x ≡ 0
none_here q None e = refl
none_here q (Some (Process memory code)) e = refl
none_here q (Some (Thread p context)) e = refl
none_here q (Some (Event set)) e = refl
none_here q (Some (Stream (File name))) e = absurd (cc)
none_here q (Some (Stream ConIn)) e = refl
none_here q (Some (Stream ConOut)) e = refl
none_here q (Some (Stream ConErr)) e = refl
none_here q (Some (ReadEnd pipe)) e = refl
none_here q (Some (WriteEnd pipe)) e = refl

running_file : (x : Option Object) (s : Space) → running x ≡ Some s → file_at x ≡ None
running_file (Some (Process memory None)) s e = refl
running_file x s e = absurd (cc)

same_beside : (o : Objects) (h : ℕ) (x : Object) → file_at (object_at o h) ≡ None → file_at (Some x) ≡ None → SameHandles o (with_object o h x)
same_beside o h x old new = same-with_object o h x (λ q. none_here q (object_at o h) old ∙ sym (none_here q (Some x) new))

pub same_fresh : (o : Objects) (h : ℕ) (x : Object) → IsFresh o h → file_at (Some x) ≡ None → SameHandles o (with_object o h x)
same_fresh o h x fresh new = same_beside o h x (ap file_at fresh.free) new

same_pages : (o : Objects) (p : ℕ) (old new : Space) → running (object_at o p) ≡ Some old → SameHandles o (with_object o p (Process new None))
same_pages o p old new runs = same_beside o p (Process new None) (running_file (object_at o p) old runs) refl

thread_test : (p : ℕ) (q : List ℕ) (x : Object) → is_thread_of p (Some x) ≡ true → is_open_on q x ≡ false
thread_test p q (Thread r context) is = refl
thread_test p q x is = absurd (cc)

not_kept : (b : Bool) → not b ≡ false → b ≡ true
not_kept true e = refl
not_kept false e = absurd (cc)

same-without_threads : (o : Objects) (p : ℕ) → SameHandles o (without_threads o p)
same-without_threads o p q =
    count-retain_keys (is_open_on q) o.live (λ k. not (is_thread_of p (object_at o k))) (λ k v there dropped.
    thread_test p q v (ap (is_thread_of p) (sym there) ∙ not_kept (is_thread_of p (object_at o k)) dropped))

running_thread : (p : ℕ) (x : Option Object) (s : Space) → running x ≡ Some s → is_thread_of p x ≡ false
running_thread p (Some (Process memory None)) s e = refl
running_thread p x s e = absurd (cc)

cond_kept : (b : Bool) (x : Option Object) → b ≡ false → cond (not b) x None ≡ x
cond_kept true x e = absurd (cc)
cond_kept false x e = refl

same_exited : (o : Objects) (p code : ℕ) (s : Space) → running (object_at o p) ≡ Some s → SameHandles o (with_object (without_threads o p) p (Process empty (Some code)))
same_exited o p code s runs q =
    let ends : ℕ → Bool = λ k. is_thread_of p (object_at o k) in
    let stays : object_at (without_threads o p) p ≡ object_at o p = object_at-without_handles o ends p ∙ cond_kept (ends p) (object_at o p) (running_thread p (object_at o p) s runs) in
    same_beside (without_threads o p) p (Process empty (Some code)) (ap file_at stays ∙ running_file (object_at o p) s runs) refl q ∙ same-without_threads o p q

-- ---- Handles after a call.
console_file : (name : StreamName) (o : Objects) (c e : Bool) → file_of_call o (StreamOpen name c e) ≡ None → file_at (Some (Stream name)) ≡ None
console_file (File name) o c e none = absurd (cc)
console_file _ o c e none = refl

shared_file : (y : Option Object) (x : Object) → shared_object y ≡ Some x → file_at y ≡ None → file_at (Some x) ≡ None
shared_file (Some (Stream (File name))) x is none = absurd (cc)
shared_file (Some (Stream ConIn)) x is none = ap file_at (sym is)
shared_file (Some (Stream ConOut)) x is none = ap file_at (sym is)
shared_file (Some (Stream ConErr)) x is none = ap file_at (sym is)
shared_file (Some (ReadEnd pipe)) x is none = ap file_at (sym is)
shared_file (Some (WriteEnd pipe)) x is none = ap file_at (sym is)
shared_file _ x is none = absurd (cc)

abbrev Keeps : World → Call → Reply → World → Type 0
Keeps w call reply w' = file_of_call w.objects call ≡ None → IsFreeChoice w call reply → SameHandles w.objects w'.objects

effects : (w : World) → Effects w (Keeps w)
effects w = let o = w.objects in record {
  stays = λ _ _ _ _ _ _. refl;
  allocates = λ p page count rights old runs _ _ _ _ _ _. same_pages o p old _ runs;
  frees = λ p page count old runs _ _. same_pages o p old _ runs;
  protects = λ p page count rights old runs _ _ _. same_pages o p old _ runs;
  fills = λ p address bytes old runs _ _. same_pages o p old _ runs;
  makes_thread = λ h p context space runs room _ fresh. same_fresh o h (Thread p context) fresh refl;
  resumes = λ _ _ _ _ _ _ _ _. refl;
  ends_thread = λ t p context is _ _. same-ended o t (λ q. ap (here q) is);
  registers = λ t p old new is rests _ _. same_beside o t (Thread p new) (ap file_at is) refl;
  makes_event = λ h _ fresh. same_fresh o h (Event false) fresh refl;
  opens = λ h name create exclusive good none fresh. same_fresh o h (Stream name) fresh (console_file name o create exclusive none);
  makes_file = λ h name exclusive good absent none fresh. absurd (cc);
  takes = λ _ _ _ _ _ _ _. refl;
  writes_file = λ _ _ _ _ _ _ _ _. refl;
  writes_output = λ _ _ _ _ _ _ _. refl;
  writes_errors = λ _ _ _ _ _ _ _. refl;
  sets_length = λ _ _ _ _ _ _ _ _. refl;
  deletes = λ _ _ _ _ _ _ _. refl;
  renames = λ _ _ _ _ _ _ _ _ _ _. refl;
  shares = λ s h x is none fresh. same_fresh o h x fresh (shared_file (object_at o s) x is none);
  ends = λ h x is idle no_thread none _. same-ended o h (λ q. none_here q (object_at o h) none);
  makes_process = λ h room _ fresh. same_fresh o h (Process empty None) fresh refl;
  exits = λ p code space runs _ _. same_exited o p code space runs;
  configures = λ _ _ _ _ _ _ _. refl;
}

-- A call on no file leaves the handles on files.
pub SameHandles-Abi : (w w' : World) (call : Call) (reply : Reply) → file_of_call w.objects call ≡ None → Abi w call reply w' → SameHandles w.objects w'.objects
SameHandles-Abi w w' call reply none abi = has-Abi w (Keeps w) (effects w) call reply w' abi none abi.choice

-- ---- Handles after a turn.
handles-idle : (o : Objects) (q : List ℕ) → open_handles (idle_turn o).1 q ≡ open_handles o q
handles-idle o q = elim (list_any (λ (w : Waiting). is_some w.deadline) o.lists.waiting) as (λ b. open_handles (cond {A = Turned × Objects} b (Idle, with_turn o) (Stuck, o)).1 q ≡ open_handles o q) [ true ↦ refl | false ↦ refl ]

-- What stands at a thread's number once its process's pages are others is no stream.
thread_beside : (o : Objects) (t p : ℕ) (context : Context) (s : Space) → object_at o t ≡ Some (Thread p context) → file_at (object_at (with_object o p (Process s None)) t) ≡ None
thread_beside o t p context s is =
    ap file_at (get-insert o.live p (Process s None) t ∙ ap (λ x. cond (t == p) (Some (Process s None)) x) is)
    ∙ elim (t == p) as (λ b. file_at (cond b (Some (Process s None)) (Some (Thread p context))) ≡ None) [ true ↦ refl | false ↦ refl ]

handles-with_run_of : (o : Objects) (t p : ℕ) (context : Context) (s : Space) (run : Run) → object_at o t ≡ Some (Thread p context) → running (object_at o p) ≡ Some s → SameHandles o (with_run_of o t p run)
handles-with_run_of o t p context s run is runs q =
    same_beside (with_object o p (Process run.space None)) t (Thread p run.context) (thread_beside o t p context run.space is) refl q ∙ same_pages o p s run.space runs q

handles-run_end : (o : Objects) (t p : ℕ) (context : Context) (trap : Option (ℕ × ℕ)) (q : List ℕ) → open_handles (run_end o t p context trap).1 q ≡ open_handles o q
handles-run_end o t p context None q = refl
handles-run_end o t p context (Some trap) q = refl

handles-run : (o : Objects) (place t : ℕ) (q : List ℕ) → IsSound o → slice_get o.lists.ready place ≡ Some t → open_handles (run_thread (with_pick o place) t (object_at o t)).1 q ≡ open_handles o q
handles-run o place t q sound at =
    let home = ready_thread o place t sound at in
    let run = run_space o.settings.slice home.context home.space in
    subst (λ x. open_handles (run_thread (with_pick o place) t x).1 q ≡ open_handles o q) (sym home.runs.thread)
    (subst (λ memory. open_handles (run_in (with_pick o place) t home.process home.context memory).1 q ≡ open_handles o q) (sym home.runs.process)
    (handles-run_end (with_run_of (with_pick o place) t home.process run) t home.process run.context run.trap q
    ∙ handles-with_run_of o t home.process home.context home.space run home.runs.thread home.runs.process q))

handles-turn_of_pick : (o : Objects) (place : ℕ) (q : List ℕ) → IsSound o → (picked : Option ℕ) → slice_get o.lists.ready place ≡ picked → open_handles (turn_of_pick o place picked).1 q ≡ open_handles o q
handles-turn_of_pick o place q sound None at = handles-idle o q
handles-turn_of_pick o place q sound (Some t) at = handles-run o place t q sound at

pub SameHandles-world_turn : (o o' : Objects) (a : Turned) → IsSound o → world_turn o ≡ (a, o') → SameHandles o o'
SameHandles-world_turn o o' a sound is q =
    let awake = with_due_ready o in
    ap (λ (x : Turned × Objects). open_handles x.1 q) (sym is)
    ∙ handles-turn_of_pick awake (pick_of awake) q (IsSound-with_due_ready o sound) (slice_get awake.lists.ready (pick_of awake)) refl
