-- Sound objects stay sound: each change to them, under what it needs.
use Rattle.std.specs.Prelude.{◌≡◌, ℕ, ◌+◌, ◌≤◌, Bool, true, false, cond, not, ◌==◌, ◌||◌, nat_le, filter, length, is_some}
use Rattle.std.specs.List.{list_all}
use Rattle.std.specs.Ordering.{nat_cmp}
use Rattle.std.specs.FinMap.{get, empty, retain_keys}
use Rattle.std.specs.declared.option.Option.{Option}
use Rattle.std.specs.declared.option.Option.TheVariants.{None, Some}
use Rattle.std.proofs.Common.{refl, sym, ap, subst, ◌∙◌, arith, eq-eqb, eqb-true}
use Rattle.std.proofs.lemmas.Bool.{and_parts, and_from, or_left, or_right}
use Rattle.std.proofs.lemmas.List.{length-map}
use Rattle.rv_core.specs.declared.context.Context.{Context}
use Rattle.turn_sched.specs.Lists.{Waiting, Lists, no_threads, is_resting, with_resumed, with_suspended, with_gone, standings}
use Rattle.turn_sched.proofs.ThreadLists.{list_all-weaker, list_all-filter, list_all-map, standings-with_suspended, standings-with_resumed, standings-without_numbers}
use Rattle.abi_calls.specs.declared.limits.TheConstants.{MOST_PROCESSES, MOST_THREADS, MOST_WAITS}
use Rattle.abi_calls.specs.declared.object.Object.TheVariants.{Process, Thread, Event, Stream, ReadEnd, WriteEnd}
use Rattle.turn_sched.specs.declared.settings.Positions.{Positions}
use Rattle.turn_sched.specs.declared.settings.Settings.{Settings}
use Rattle.abi_calls.specs.Objects.{Object, Objects, object_at, running, is_process, is_thread, is_some_thread, is_read_end, is_write_end, some_object, number_of, has_end, with_object, with_lists, without_handles}
use Rattle.abi_calls.specs.Threads.{with_thread}
use Rattle.abi_calls.specs.Processes.{is_acceptable}
use Rattle.abi_calls.specs.Sound.{can_be_awaited, is_sound_wait, IsSoundObject, IsSound}
use Rattle.bas_items.proofs.NumberMaps.{get-insert, get-retain_keys, get-empty, get-insert-other}
use Rattle.abi_calls.proofs.Counts.{count_empty, count_kept, list_any-get}

-- ---- no objects

-- Without objects and threads, and with settings that a host takes, a world is sound.
pub IsSound-no_objects : (o : Objects) → o.live ≡ empty → o.lists ≡ no_threads → is_acceptable o.settings ≡ true → IsSound o
IsSound-no_objects o live lists settings =
    let none : (h : ℕ) → object_at o h ≡ None = λ h. ap (λ m. get {R = nat_cmp} m h) live ∙ get-empty h in
    let processes : number_of is_process o.live ≡ 0 = ap (number_of is_process) live ∙ count_empty is_process in
    let threads : number_of is_thread o.live ≡ 0 = ap (number_of is_thread) live ∙ count_empty is_thread in
    record {
      standing = λ t. ap (λ l. standings l t) lists ∙ sym (ap (λ x. cond (is_some_thread x) 1 0) (none t));
      waits = ap (λ (l : Lists Waiting). list_all (is_sound_wait o) l.waiting) lists;
      objects = λ h x is. absurd (let e = sym (none h) ∙ is in cc);
      positive = none 0;
      processes = subst (λ n. n ≤ MOST_PROCESSES) (sym processes) (omega arith);
      threads = subst (λ n. n ≤ MOST_THREADS) (sym threads) (omega arith);
      settings = settings;
    }

-- ---- what of an object depends on others

-- What an object that is sound among some objects needs to be sound among others.
pub record IsKept (o o' : Objects) (x : Object) : Type 0 where
  pub home : (p : ℕ) (context : Context) → x ≡ Thread p context → is_some (running (object_at o p)) ≡ true → is_some (running (object_at o' p)) ≡ true
  pub reads : (pipe : ℕ) → x ≡ ReadEnd pipe → is_some (get {R = nat_cmp} o.pipes pipe) ≡ true → is_some (get {R = nat_cmp} o'.pipes pipe) ≡ true
  pub writes : (pipe : ℕ) → x ≡ WriteEnd pipe → is_some (get {R = nat_cmp} o.pipes pipe) ≡ true → is_some (get {R = nat_cmp} o'.pipes pipe) ≡ true

pub IsSoundObject-kept : (o o' : Objects) (x : Object) → IsKept o o' x → IsSoundObject o x → IsSoundObject o' x
IsSoundObject-kept o o' (Process s None) kept sound = sound
IsSoundObject-kept o o' (Process s (Some code)) kept sound = sound
IsSoundObject-kept o o' (Thread p context) kept sound = kept.home p context refl sound
IsSoundObject-kept o o' (Event set) kept sound = sound
IsSoundObject-kept o o' (Stream name) kept sound = sound
IsSoundObject-kept o o' (ReadEnd pipe) kept sound = kept.reads pipe refl sound
IsSoundObject-kept o o' (WriteEnd pipe) kept sound = kept.writes pipe refl sound

-- The same objects and pipes, whatever else there is.
same_objects : (o : Objects) (l : Lists Waiting) (positions : Positions) (settings : Settings) (x : Object) → IsSoundObject o x → IsSoundObject (record o { lists = l; positions = positions; settings = settings }) x
same_objects o l positions settings x sound =
    IsSoundObject-kept o (record o { lists = l; positions = positions; settings = settings }) x (record { home = λ _ _ _ runs. runs; reads = λ _ _ there. there; writes = λ _ _ there. there }) sound

-- ---- other settings, positions and lists

pub IsSound-with_settings : (o : Objects) (settings : Settings) (positions : Positions) → IsSound o → is_acceptable settings ≡ true → IsSound (record o { settings = settings; positions = positions })
IsSound-with_settings o settings positions sound good = record {
  standing = sound.standing;
  waits = sound.waits;
  objects = λ h x is. same_objects o o.lists positions settings x (sound.objects h x is);
  positive = sound.positive;
  processes = sound.processes;
  threads = sound.threads;
  settings = good;
}

pub IsSound-with_positions : (o : Objects) (positions : Positions) → IsSound o → IsSound (record o { positions = positions })
IsSound-with_positions o positions sound = IsSound-with_settings o o.settings positions sound sound.settings

-- Lists in which each thread stands as often as before.
pub IsSound-with_lists : (o : Objects) (l : Lists Waiting) → IsSound o → ((t : ℕ) → standings l t ≡ standings o.lists t) → list_all (is_sound_wait o) l.waiting ≡ true → IsSound (with_lists o l)
IsSound-with_lists o l sound same waits = record {
  standing = λ t. same t ∙ sound.standing t;
  waits = waits;
  objects = λ h x is. same_objects o l o.positions o.settings x (sound.objects h x is);
  positive = sound.positive;
  processes = sound.processes;
  threads = sound.threads;
  settings = sound.settings;
}

-- A thread that rests joins the ready list.
pub IsSound-with_resumed : (o : Objects) (t : ℕ) → IsSound o → is_some_thread (object_at o t) ≡ true → is_resting o.lists t ≡ true → IsSound (with_lists o (with_resumed o.lists t))
IsSound-with_resumed o t sound thread rests =
    let once : standings o.lists t ≡ 1 = sound.standing t ∙ ap (λ b. cond b 1 0) thread in
    IsSound-with_lists o (with_resumed o.lists t) sound (λ k. standings-with_resumed o.lists t k rests once) sound.waits

-- ---- another object at a number

-- An object that may come at a number: who waits for it may wait on, threads of what stood there have a running process,
-- and the counts are kept.
pub record Fits (o : Objects) (h : ℕ) (x : Object) : Type 0 where
  pub positive : 1 ≤ h
  pub awaited : can_be_awaited (object_at o h) ≡ true → can_be_awaited (Some x) ≡ true
  pub residents : (t : ℕ) (context : Context) → object_at o t ≡ Some (Thread h context) → is_some (running (Some x)) ≡ true
  pub itself : IsSoundObject (with_object o h x) x
  pub processes : number_of is_process (with_object o h x).live ≤ MOST_PROCESSES
  pub threads : number_of is_thread (with_object o h x).live ≤ MOST_THREADS

-- What holds at a number before, and of the new object, holds after.
at_number : (Q : Option Object → Type 0) (o : Objects) (h : ℕ) (x : Object) (k : ℕ) → (k ≡ h → Q (Some x)) → Q (object_at o k) → Q (object_at (with_object o h x) k)
at_number Q o h x k here there = subst Q (sym (get-insert o.live h x k))
    (elim (k == h) as (λ b. (k == h) ≡ b → Q (cond b (Some x) (object_at o k))) [
      | true ↦ λ same. here (eqb-true k h same)
      | false ↦ λ other. there
    ] refl)

awaited_kept : (o : Objects) (h : ℕ) (x : Object) → Fits o h x → (k : ℕ) → can_be_awaited (object_at o k) ≡ true → can_be_awaited (object_at (with_object o h x) k) ≡ true
awaited_kept o h x fits k is = at_number (λ y. can_be_awaited y ≡ true) o h x k (λ same. fits.awaited (subst (λ j. can_be_awaited (object_at o j) ≡ true) same is)) is

or_more : (a b c : Bool) → (b ≡ true → c ≡ true) → (a || b) ≡ true → (a || c) ≡ true
or_more true b c more is = refl
or_more false b c more is = more is

-- A wait stays sound where what can be waited for still can.
pub is_sound_wait-kept : (o o' : Objects) → ((k : ℕ) → can_be_awaited (object_at o k) ≡ true → can_be_awaited (object_at o' k) ≡ true) → (w : Waiting) → is_sound_wait o w ≡ true → is_sound_wait o' w ≡ true
is_sound_wait-kept o o' kept w sound =
    let parts = and_parts (list_all (λ h. h == 0 || can_be_awaited (object_at o h)) w.handles) (nat_le (length w.handles) MOST_WAITS) sound in
    and_from _ _ (list_all-weaker (λ h. h == 0 || can_be_awaited (object_at o h)) (λ h. h == 0 || can_be_awaited (object_at o' h))
    (λ h is. or_more (h == 0) (can_be_awaited (object_at o h)) _ (kept h) is) w.handles parts.0) parts.1

home_kept : (o : Objects) (h : ℕ) (x : Object) → Fits o h x → (t p : ℕ) (context : Context) → object_at o t ≡ Some (Thread p context) → is_some (running (object_at o p)) ≡ true → is_some (running (object_at (with_object o h x) p)) ≡ true
home_kept o h x fits t p context is runs =
    at_number (λ y. is_some (running y) ≡ true) o h x p (λ same. fits.residents t context (subst (λ q. object_at o t ≡ Some (Thread q context)) same is)) runs

object_kept : (o : Objects) (h : ℕ) (x : Object) → Fits o h x → (k : ℕ) (y : Object) → object_at o k ≡ Some y → IsSoundObject o y → IsSoundObject (with_object o h x) y
object_kept o h x fits k y is sound = IsSoundObject-kept o (with_object o h x) y (record {
  home = λ p context thread runs. home_kept o h x fits k p context (is ∙ ap Some thread) runs;
  reads = λ _ _ there. there;
  writes = λ _ _ there. there;
}) sound

objects_with : (o : Objects) (h : ℕ) (x : Object) → IsSound o → Fits o h x → (k : ℕ) (y : Object) (b : Bool) → cond b (Some x) (object_at o k) ≡ Some y → IsSoundObject (with_object o h x) y
objects_with o h x sound fits k y true is = let same : x ≡ y = cc in subst (IsSoundObject (with_object o h x)) same fits.itself
objects_with o h x sound fits k y false is = object_kept o h x fits k y is (sound.objects k y is)

-- One object and the lists change together, and those who wait are the same.
placed : (o : Objects) (h : ℕ) (x : Object) (l : Lists Waiting) → IsSound o → Fits o h x
    → ((t : ℕ) → standings l t ≡ cond (is_some_thread (object_at (with_object o h x) t)) 1 0) → l.waiting ≡ o.lists.waiting → IsSound (with_lists (with_object o h x) l)
placed o h x l sound fits standing same = record {
  standing = standing;
  waits = ap (list_all (is_sound_wait (with_object o h x))) same
      ∙ list_all-weaker (is_sound_wait o) (is_sound_wait (with_object o h x)) (is_sound_wait-kept o (with_object o h x) (awaited_kept o h x fits)) o.lists.waiting sound.waits;
  objects = λ k y is. same_objects (with_object o h x) l o.positions o.settings y (objects_with o h x sound fits k y (k == h) (sym (get-insert o.live h x k) ∙ is));
  positive = get-insert-other o.live h x 0 (λ zero. absurd (let p = fits.positive in omega arith)) ∙ sound.positive;
  processes = fits.processes;
  threads = fits.threads;
  settings = sound.settings;
}

-- A thread stays a thread, and nothing else becomes one.
pub IsSound-with_object : (o : Objects) (h : ℕ) (x : Object) → IsSound o → Fits o h x → is_some_thread (Some x) ≡ is_some_thread (object_at o h) → IsSound (with_object o h x)
IsSound-with_object o h x sound fits same =
    placed o h x o.lists sound fits (λ t. sound.standing t ∙ ap (λ b. cond b 1 0)
    (at_number (λ y. is_some_thread (object_at o t) ≡ is_some_thread y) o h x t (λ here. ap (λ k. is_some_thread (object_at o k)) here ∙ sym same) refl)) refl

-- A new thread is the last of the suspended ones.
pub IsSound-with_thread : (o : Objects) (h p : ℕ) (context : Context) → IsSound o → Fits o h (Thread p context) → is_some_thread (object_at o h) ≡ false → IsSound (with_thread o h p context)
IsSound-with_thread o h p context sound fits no_thread =
    let x : Object = Thread p context in
    let none : standings o.lists h ≡ 0 = sound.standing h ∙ ap (λ b. cond b 1 0) no_thread in
    placed o h x (with_suspended o.lists h) sound fits (λ t. standings-with_suspended o.lists h t
    ∙ at_number_or (λ y. standings o.lists t + cond (h == t) 1 0 ≡ cond (is_some_thread y) 1 0) o h x t
    (λ here. let again : standings o.lists t ≡ 0 = ap (standings o.lists) here ∙ none in ap (λ b. standings o.lists t + cond b 1 0) (eq-eqb h t (sym here)) ∙ omega arith)
    (λ other. let was = sound.standing t in ap (λ b. standings o.lists t + cond b 1 0) other ∙ omega arith)) refl
  where
    flipped : (a b : ℕ) → (a == b) ≡ false → (b == a) ≡ false
    flipped a b e = grind arith

    at_number_or : (Q : Option Object → Type 0) (o : Objects) (h : ℕ) (x : Object) (k : ℕ) → (k ≡ h → Q (Some x)) → ((h == k) ≡ false → Q (object_at o k)) → Q (object_at (with_object o h x) k)
    at_number_or Q o h x k here there = subst Q (sym (get-insert o.live h x k))
        (elim (k == h) as (λ b. (k == h) ≡ b → Q (cond b (Some x) (object_at o k))) [
          | true ↦ λ same. here (eqb-true k h same)
          | false ↦ λ other. there (flipped k h other)
        ] refl)

-- ---- numbers that end

pub object_at-without_handles : (o : Objects) (ends : ℕ → Bool) (k : ℕ) → object_at (without_handles o ends) k ≡ cond (not (ends k)) (object_at o k) None
object_at-without_handles o ends k = get-retain_keys o.live (λ j. not (ends j)) k

pub object_at-left : (o : Objects) (ends : ℕ → Bool) (k : ℕ) → ends k ≡ false → object_at (without_handles o ends) k ≡ object_at o k
object_at-left o ends k stays = object_at-without_handles o ends k ∙ ap (λ b. cond (not b) (object_at o k) None) stays

left_parts : (ends : Bool) (x : Option Object) (y : Object) → cond (not ends) x None ≡ Some y → (ends ≡ false) × (x ≡ Some y)
left_parts true x y is = absurd (cc)
left_parts false x y is = (refl, is)

-- What is there after was there before, and doesn't end.
pub was_there : (o : Objects) (ends : ℕ → Bool) (k : ℕ) (y : Object) → object_at (without_handles o ends) k ≡ Some y → (ends k ≡ false) × (object_at o k ≡ Some y)
was_there o ends k y is = left_parts (ends k) (object_at o k) y (sym (object_at-without_handles o ends k) ∙ is)

stands_left : (ends : Bool) (x : Option Object) → cond {A = ℕ} ends 0 (cond (is_some_thread x) 1 0) ≡ cond (is_some_thread (cond (not ends) x None)) 1 0
stands_left true x = refl
stands_left false x = refl

handle_left : (o : Objects) (ends : ℕ → Bool) (h : ℕ) → (h == 0 || can_be_awaited (object_at o h)) ≡ true
    → (let k = cond (ends h) 0 h in (k == 0 || can_be_awaited (object_at (without_handles o ends) k)) ≡ true)
handle_left o ends h is =
    elim (ends h) as (λ b. ends h ≡ b → (let k = cond b 0 h in (k == 0 || can_be_awaited (object_at (without_handles o ends) k)) ≡ true)) [
      | true ↦ λ _. refl
      | false ↦ λ stays. ap (λ y. h == 0 || can_be_awaited y) (object_at-left o ends h stays) ∙ is
    ] refl

wait_left : (o : Objects) (ends : ℕ → Bool) (w : Waiting) → is_sound_wait o w ≡ true → is_sound_wait (without_handles o ends) (with_gone ends w) ≡ true
wait_left o ends w sound =
    let parts = and_parts (list_all (λ h. h == 0 || can_be_awaited (object_at o h)) w.handles) (nat_le (length w.handles) MOST_WAITS) sound in
    let o' = without_handles o ends in
    let gone : ℕ → ℕ = λ h. cond (ends h) 0 h in
    and_from _ _ (list_all-map (λ h. h == 0 || can_be_awaited (object_at o h)) (λ h. h == 0 || can_be_awaited (object_at o' h)) gone (handle_left o ends) w.handles parts.0)
    (ap (λ n. nat_le n MOST_WAITS) (length-map w.handles gone) ∙ parts.1)

home_left : (o : Objects) (ends : ℕ → Bool) → ((k : ℕ) → ends k ≡ true → running (object_at o k) ≡ None) → (p : ℕ) → is_some (running (object_at o p)) ≡ true → is_some (running (object_at (without_handles o ends) p)) ≡ true
home_left o ends idle p runs =
    elim (ends p) as (λ b. ends p ≡ b → is_some (running (object_at (without_handles o ends) p)) ≡ true) [
      | true ↦ λ is. absurd (let e = ap is_some (idle p is) in cc)
      | false ↦ λ stays. ap (λ y. is_some (running y)) (object_at-left o ends p stays) ∙ runs
    ] refl

-- An end that stays keeps its pipe.
pipe_left : (o : Objects) (ends : ℕ → Bool) (pipe : ℕ) → has_end (retain_keys o.live (λ k. not (ends k))) pipe ≡ true → is_some (get {R = nat_cmp} o.pipes pipe) ≡ true
    → is_some (get {R = nat_cmp} (without_handles o ends).pipes pipe) ≡ true
pipe_left o ends pipe end there =
    ap is_some (get-retain_keys o.pipes (has_end (retain_keys o.live (λ k. not (ends k)))) pipe ∙ ap (λ b. cond b (get {R = nat_cmp} o.pipes pipe) None) end) ∙ there

object_left : (o : Objects) (ends : ℕ → Bool) → ((k : ℕ) → ends k ≡ true → running (object_at o k) ≡ None) → (h : ℕ) (x : Object) → object_at (without_handles o ends) h ≡ Some x → IsSoundObject o x → IsSoundObject (without_handles o ends) x
object_left o ends idle h x is sound =
    let live = retain_keys o.live (λ k. not (ends k)) in
    IsSoundObject-kept o (without_handles o ends) x (record {
      home = λ p context _ runs. home_left o ends idle p runs;
      reads = λ pipe end there.
          let found : some_object (is_read_end pipe) live ≡ true = list_any-get (is_read_end pipe) live h x is (ap (is_read_end pipe) end ∙ eq-eqb pipe pipe refl) in
          pipe_left o ends pipe (or_left (some_object (is_read_end pipe) live) _ found) there;
      writes = λ pipe end there.
          let found : some_object (is_write_end pipe) live ≡ true = list_any-get (is_write_end pipe) live h x is (ap (is_write_end pipe) end ∙ eq-eqb pipe pipe refl) in
          pipe_left o ends pipe (or_right (some_object (is_read_end pipe) live) _ found) there;
    }) sound

none_either : (b : Bool) → cond {A = Option Object} b None None ≡ None
none_either true = refl
none_either false = refl

-- Numbers end that name no running process.
pub IsSound-without_handles : (o : Objects) (ends : ℕ → Bool) → IsSound o → ((k : ℕ) → ends k ≡ true → running (object_at o k) ≡ None) → IsSound (without_handles o ends)
IsSound-without_handles o ends sound idle =
    let o' = without_handles o ends in
    let keeps : ℕ → Bool = λ k. not (ends k) in
    let processes = count_kept is_process o.live keeps in
    let threads = count_kept is_thread o.live keeps in
    record {
      standing = λ t. standings-without_numbers ends o.lists t ∙ ap (cond (ends t) 0) (sound.standing t)
          ∙ stands_left (ends t) (object_at o t) ∙ sym (ap (λ y. cond (is_some_thread y) 1 0) (object_at-without_handles o ends t));
      waits = list_all-map (is_sound_wait o) (is_sound_wait o') (with_gone ends) (wait_left o ends) (filter (λ w. not (ends w.thread)) o.lists.waiting)
          (list_all-filter (λ w. not (ends w.thread)) (is_sound_wait o) (is_sound_wait o) (λ _ _ is. is) o.lists.waiting sound.waits);
      objects = λ h x is. object_left o ends idle h x is (sound.objects h x (was_there o ends h x is).1);
      positive = object_at-without_handles o ends 0 ∙ ap (λ y. cond (not (ends 0)) y None) sound.positive ∙ none_either (not (ends 0));
      processes = (let bound = sound.processes in omega arith);
      threads = (let bound = sound.threads in omega arith);
      settings = sound.settings;
    }
