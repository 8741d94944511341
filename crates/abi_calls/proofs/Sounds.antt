-- Worlds stay sound: by every call, and by every turn.
use Rattle.std.specs.Prelude.{◌≡◌, ℕ, zero, suc, ◌+◌, ◌-◌, ◌≤◌, ◌<◌, ◌^◌, Bool, true, false, cond, not, ◌==◌, List, is_some, slice_get}
use Rattle.std.specs.List.{All, list_any}
use Rattle.std.specs.Ordering.{nat_cmp}
use Rattle.std.specs.FinMap.{empty, contains_key, len, len-empty, len-remove}
use Rattle.std.specs.Cmp.{nat_cmp_total}
use Rattle.std.specs.declared.option.Option.{Option}
use Rattle.std.specs.declared.option.Option.TheVariants.{None, Some}
use Rattle.std.proofs.Common.{refl, sym, ap, subst, ◌∙◌, arith, eq-eqb, eqb-true}
use Rattle.bas_names.specs.declared.StreamName.{StreamName}
use Rattle.bas_names.specs.declared.StreamName.TheVariants.{File}
use Rattle.rv_core.specs.declared.context.Context.{Context}
use Rattle.rv_core.specs.Machine.{instructions}
use Rattle.guest_space.specs.Space.{Space, Frame, IsSpace, memory_of, with_run, without_run, protected, with_memory}
use Rattle.guest_space.specs.Access.{with_bytes}
use Rattle.guest_space.specs.Run.{is_run, is_held, if_held, first_held}
use Rattle.guest_space.specs.Running.{Ran as Run, run_space}
use Rattle.guest_space.proofs.FirstSome.{first_some_none_at}
use Rattle.guest_space.proofs.Spaces.{IsSpace-empty, IsSpace-with_run, IsSpace-without_run, IsSpace-protected, IsSpace-with_memory, HasBytes-memory_of, HasBytes-with_bytes}
use Rattle.guest_space.proofs.Turns.{IsSpace-run_space}
use Rattle.guest_space.proofs.Filling.{len-with_run, len-protected, len-with_memory}
use Rattle.turn_sched.specs.Lists.{Waiting, with_woken, with_ready, without_place}
use Rattle.turn_sched.proofs.ThreadLists.{list_all-filter, standings-with_woken, standings-with_ready, standings-current, standings-without_place}
use Rattle.abi_calls.specs.declared.limits.TheConstants.{MOST_PAGES, MOST_PROCESSES, MOST_THREADS, ALL_RIGHTS}
use Rattle.abi_calls.specs.declared.call.Call.{Call}
use Rattle.abi_calls.specs.declared.object.Object.TheVariants.{Process, Thread, Event, Stream, ReadEnd, WriteEnd}
use Rattle.abi_calls.specs.declared.reply.Reply.{Reply}
use Rattle.abi_calls.specs.declared.threads.Turned.{Turned}
use Rattle.abi_calls.specs.declared.threads.Turned.TheVariants.{Idle, Stuck}
use Rattle.abi_calls.specs.Objects.{Object, Objects, object_at, running, is_process, is_thread, is_some_thread, is_thread_of, number_of, IsFresh, with_object}
use Rattle.abi_calls.specs.World.{World, Told, world_of}
use Rattle.abi_calls.specs.Memory.{with_pages}
use Rattle.abi_calls.specs.Threads.{with_thread}
use Rattle.abi_calls.specs.Streams.{shared_object}
use Rattle.abi_calls.specs.Processes.{without_threads}
use Rattle.abi_calls.specs.Turn.{is_due, with_due_ready, with_turn, idle_turn, pick_of, with_pick, with_run_of, run_end, run_in, run_thread, turn_of_pick, world_turn}
use Rattle.abi_calls.specs.Sound.{can_be_awaited, is_sound_name, is_sound_wait, IsSoundObject, IsSound, HasBytes}
use Rattle.abi_calls.specs.Abi.{Abi, Answers, IsFreeChoice}
use Rattle.bas_items.proofs.NumberMaps.{get-insert-other}
use Rattle.abi_calls.proofs.Counts.{one_at, one_of, count_set, count_set_new}
use Rattle.abi_calls.proofs.Facts.{RunsIn, live_positive, ready_thread}
use Rattle.abi_calls.proofs.Effects.{Effects, has-Abi}
use Rattle.abi_calls.proofs.TurnFacts.{home_apart}
use Rattle.abi_calls.proofs.SoundChanges.{Fits, IsSound-with_object, IsSound-with_thread, IsSound-with_lists, IsSound-with_resumed, IsSound-with_settings, IsSound-with_positions, IsSound-without_handles, object_at-left, was_there}

-- ---- pages

-- The pages of a process that runs: each one that it may have, and 1,024 at most.
pub record AreSoundPages (s : Space) : Type 0 where
  pub space : IsSpace s
  pub few : len s ≤ MOST_PAGES

held_none : (b : Bool) (page : ℕ) → cond b (Some page) None ≡ None → b ≡ false
held_none true page is = absurd (cc)
held_none false page is = refl

is_none : {A : Type 0} (x : Option A) → is_some x ≡ false → x ≡ None
is_none None e = refl
is_none (Some a) e = absurd (cc)

pub AreSoundPages-with_run : (s : Space) (page count rights : ℕ) → AreSoundPages s → is_run page count ≡ true → rights ≤ ALL_RIGHTS → is_some (first_held s page count) ≡ false → len s + count ≤ MOST_PAGES
    → AreSoundPages (with_run s page count rights)
AreSoundPages-with_run s page count rights sound run small free room =
    let absent = λ (q : ℕ) (low : page ≤ q) (high : q < page + count). held_none (is_held s q) q (first_some_none_at (if_held s) page count q (is_none (first_held s page count) free) low high) in
    let more = len-with_run s page count rights absent in
    record { space = IsSpace-with_run s page count rights run (omega arith) sound.space; few = omega arith }

left_len : (b : Bool) (n : ℕ) → cond b (n - 1) n ≤ n
left_len true n = omega arith
left_len false n = omega arith

len-without_run : (s : Space) (page n : ℕ) → len (without_run s page n) ≤ len s
unfolding without_run
len-without_run s page zero = omega arith
len-without_run s page (suc n) =
    let t = without_run s page n in
    let one = len-remove nat_cmp_total t (page + n) in
    let fewer = left_len (contains_key t (page + n)) (len t) in
    let rest = len-without_run s page n in
    omega arith

pub AreSoundPages-without_run : (s : Space) (page count : ℕ) → AreSoundPages s → AreSoundPages (without_run s page count)
AreSoundPages-without_run s page count sound =
    let fewer = len-without_run s page count in
    let few = sound.few in
    record { space = IsSpace-without_run s page count sound.space; few = omega arith }

pub AreSoundPages-protected : (s : Space) (page count rights : ℕ) → AreSoundPages s → rights ≤ ALL_RIGHTS → AreSoundPages (protected s page count rights)
AreSoundPages-protected s page count rights sound small =
    let same = len-protected s page count rights in
    let few = sound.few in
    record { space = IsSpace-protected s page count rights (omega arith) sound.space; few = omega arith }

pub AreSoundPages-with_bytes : (s : Space) (address : ℕ) (bytes : List ℕ) → AreSoundPages s → All (λ byte. byte < 2 ^ 8) bytes → AreSoundPages (with_memory s (with_bytes (memory_of s) address bytes))
AreSoundPages-with_bytes s address bytes sound small =
    let memory = with_bytes (memory_of s) address bytes in
    let same = len-with_memory s memory in
    let few = sound.few in
    record { space = IsSpace-with_memory s memory (HasBytes-with_bytes (memory_of s) address bytes small (HasBytes-memory_of s sound.space)) sound.space; few = omega arith }

pub AreSoundPages-run_space : (n : ℕ) (context : Context) (s : Space) → AreSoundPages s → AreSoundPages (run_space n context s).space
AreSoundPages-run_space n context s sound =
    let same = len-with_memory s (instructions n context (memory_of s)).memory in
    let few = sound.few in
    record { space = IsSpace-run_space n context s sound.space; few = omega arith }

process_pages : (o : Objects) (x : Option Object) (s : Space) → running x ≡ Some s → ((y : Object) → x ≡ Some y → IsSoundObject o y) → AreSoundPages s
process_pages o None s runs sound = absurd (cc)
process_pages o (Some (Process memory None)) s runs sound =
    let pages = sound (Process memory None) refl in
    let same : memory ≡ s = cc in
    subst AreSoundPages same (record { space = pages.0; few = pages.1 })
process_pages o (Some (Process memory (Some code))) s runs sound = absurd (cc)
process_pages o (Some (Thread p context)) s runs sound = absurd (cc)
process_pages o (Some (Event set)) s runs sound = absurd (cc)
process_pages o (Some (Stream name)) s runs sound = absurd (cc)
process_pages o (Some (ReadEnd pipe)) s runs sound = absurd (cc)
process_pages o (Some (WriteEnd pipe)) s runs sound = absurd (cc)

pub AreSoundPages-running : (o : Objects) (p : ℕ) (s : Space) → IsSound o → running (object_at o p) ≡ Some s → AreSoundPages s
AreSoundPages-running o p s sound runs = process_pages o (object_at o p) s runs (λ y is. sound.objects p y is)

-- ---- what fits at a number

-- What a running process is, and what it is not.
record Runs (x : Option Object) : Type 0 where
  process : one_at is_process x ≡ 1
  thread : one_at is_thread x ≡ 0
  no_thread : is_some_thread x ≡ false
  some : is_some (running x) ≡ true
  stays : (p : ℕ) → is_thread_of p x ≡ false

runs_as : (x : Option Object) (s : Space) → running x ≡ Some s → Runs x
runs_as None s runs = absurd (cc)
runs_as (Some (Process memory None)) s runs = record { process = refl; thread = refl; no_thread = refl; some = refl; stays = λ _. refl }
runs_as (Some (Process memory (Some code))) s runs = absurd (cc)
runs_as (Some (Thread p context)) s runs = absurd (cc)
runs_as (Some (Event set)) s runs = absurd (cc)
runs_as (Some (Stream name)) s runs = absurd (cc)
runs_as (Some (ReadEnd pipe)) s runs = absurd (cc)
runs_as (Some (WriteEnd pipe)) s runs = absurd (cc)

there_positive : (o : Objects) (h : ℕ) (x : Object) → IsSound o → object_at o h ≡ Some x → 1 ≤ h
there_positive o h x sound there = live_positive o h sound (λ none. absurd (let e : None ≡ Some x = sym none ∙ there in cc))

running_positive : (o : Objects) (p : ℕ) (s : Space) → IsSound o → running (object_at o p) ≡ Some s → 1 ≤ p
running_positive o p s sound runs = live_positive o p sound (λ none. absurd (let e : None ≡ Some s = ap running (sym none) ∙ runs in cc))

-- A process in the place of one that runs.
fits_process : (o : Objects) (p : ℕ) (old memory : Space) (code : Option ℕ) → IsSound o → running (object_at o p) ≡ Some old
    → ((t : ℕ) (context : Context) → object_at o t ≡ Some (Thread p context) → is_some (running (Some (Process memory code))) ≡ true)
    → IsSoundObject (with_object o p (Process memory code)) (Process memory code) → Fits o p (Process memory code)
fits_process o p old memory code sound runs residents itself =
    let x : Object = Process memory code in
    let was = runs_as (object_at o p) old runs in
    let processes : number_of is_process (with_object o p x).live + one_at is_process (object_at o p) ≡ number_of is_process o.live + 1 = count_set is_process o.live p x in
    let threads : number_of is_thread (with_object o p x).live + one_at is_thread (object_at o p) ≡ number_of is_thread o.live + 0 = count_set is_thread o.live p x in
    let one = was.process in
    let none = was.thread in
    let some_bound = sound.processes in
    let other_bound = sound.threads in
    record {
      positive = running_positive o p old sound runs;
      awaited = λ _. refl;
      residents = residents;
      itself = itself;
      processes = omega arith;
      threads = omega arith;
    }

-- Pages of a process that runs.
pub IsSound-with_pages : (o : Objects) (p : ℕ) (old new : Space) → IsSound o → running (object_at o p) ≡ Some old → AreSoundPages new → IsSound (with_pages o p new)
IsSound-with_pages o p old new sound runs pages =
    IsSound-with_object o p (Process new None) sound
    (fits_process o p old new None sound runs (λ _ _ _. refl) (pages.space, pages.few))
    (sym (runs_as (object_at o p) old runs).no_thread)

-- An object at a fresh number: nothing stood there, and nothing lived in it.
fits_fresh : (o : Objects) (h : ℕ) (x : Object) → IsSound o → IsFresh o h → IsSoundObject (with_object o h x) x
    → number_of is_process o.live + one_of is_process x ≤ MOST_PROCESSES → number_of is_thread o.live + one_of is_thread x ≤ MOST_THREADS → Fits o h x
fits_fresh o h x sound fresh itself processes threads =
    let more_processes : number_of is_process (with_object o h x).live ≡ number_of is_process o.live + one_of is_process x = count_set_new is_process o.live h x fresh.free in
    let more_threads : number_of is_thread (with_object o h x).live ≡ number_of is_thread o.live + one_of is_thread x = count_set_new is_thread o.live h x fresh.free in
    record {
      positive = fresh.positive;
      awaited = λ is. absurd (let e : false ≡ true = ap can_be_awaited (sym fresh.free) ∙ is in cc);
      residents = λ t context is. absurd (let e : false ≡ true = ap (λ y. is_some (running y)) (sym fresh.free) ∙ sound.objects t (Thread h context) is in cc);
      itself = itself;
      processes = omega arith;
      threads = omega arith;
    }

is_some_thread-some : (x : Object) → is_some_thread (Some x) ≡ is_thread x
is_some_thread-some (Thread p context) = refl
is_some_thread-some x = refl

-- A new object that is neither a process nor a thread.
IsSound-with_new : (o : Objects) (h : ℕ) (x : Object) → IsSound o → IsFresh o h → IsSoundObject (with_object o h x) x → is_process x ≡ false → is_thread x ≡ false → IsSound (with_object o h x)
IsSound-with_new o h x sound fresh itself no_process no_thread =
    let processes : one_of is_process x ≡ 0 = ap (λ b. cond b 1 0) no_process in
    let threads : one_of is_thread x ≡ 0 = ap (λ b. cond b 1 0) no_thread in
    let some_bound = sound.processes in
    let other_bound = sound.threads in
    IsSound-with_object o h x sound (fits_fresh o h x sound fresh itself (omega arith) (omega arith)) (is_some_thread-some x ∙ no_thread ∙ sym (ap is_some_thread fresh.free))

pub IsSound-with_stream : (o : Objects) (h : ℕ) (name : StreamName) → IsSound o → IsFresh o h → is_sound_name name ≡ true → IsSound (with_object o h (Stream name))
IsSound-with_stream o h name sound fresh good = IsSound-with_new o h (Stream name) sound fresh good refl refl

-- What several handles name is as sound under each, and is no process and no thread.
record SharesWell (o : Objects) (h : ℕ) (x : Object) : Type 0 where
  itself : IsSoundObject (with_object o h x) x
  no_process : is_process x ≡ false
  no_thread : is_thread x ≡ false

shares_well : (o : Objects) (h : ℕ) (x : Object) (y : Option Object) → ((z : Object) → y ≡ Some z → IsSoundObject o z) → shared_object y ≡ Some x → SharesWell o h x
shares_well o h x (Some (Stream name)) sound is =
    let same : Stream name ≡ x = cc in
    subst (SharesWell o h) same (record { itself = sound (Stream name) refl; no_process = refl; no_thread = refl })
shares_well o h x (Some (ReadEnd pipe)) sound is =
    let same : ReadEnd pipe ≡ x = cc in
    subst (SharesWell o h) same (record { itself = sound (ReadEnd pipe) refl; no_process = refl; no_thread = refl })
shares_well o h x (Some (WriteEnd pipe)) sound is =
    let same : WriteEnd pipe ≡ x = cc in
    subst (SharesWell o h) same (record { itself = sound (WriteEnd pipe) refl; no_process = refl; no_thread = refl })
shares_well o h x _ sound is = absurd (cc)

pub IsSound-shared : (o : Objects) (s h : ℕ) (x : Object) → IsSound o → IsFresh o h → shared_object (object_at o s) ≡ Some x → IsSound (with_object o h x)
IsSound-shared o s h x sound fresh is =
    let well = shares_well o h x (object_at o s) (λ z at. sound.objects s z at) is in
    IsSound-with_new o h x sound fresh well.itself well.no_process well.no_thread

pub IsSound-with_process : (o : Objects) (h : ℕ) → IsSound o → IsFresh o h → number_of is_process o.live < MOST_PROCESSES → IsSound (with_object o h (Process empty None))
IsSound-with_process o h sound fresh room =
    let none : len (empty {X = Frame} {R = nat_cmp}) ≡ 0 = len-empty nat_cmp Frame in
    let few : len (empty {X = Frame} {R = nat_cmp}) ≤ MOST_PAGES = subst (λ n. n ≤ MOST_PAGES) (sym none) (omega arith) in
    let bound = sound.threads in
    IsSound-with_object o h (Process empty None) sound
    (fits_fresh o h (Process empty None) sound fresh (IsSpace-empty, few) (omega arith) (omega arith)) (sym (ap is_some_thread fresh.free))

IsSound-with_fresh_thread : (o : Objects) (h p : ℕ) (context : Context) (s : Space) → IsSound o → IsFresh o h → running (object_at o p) ≡ Some s → number_of is_thread o.live < MOST_THREADS
    → IsSound (with_thread o h p context)
IsSound-with_fresh_thread o h p context s sound fresh runs room =
    let apart = λ (same : p ≡ h). absurd (let e : None ≡ Some s = ap running (sym fresh.free) ∙ ap (λ q. running (object_at o q)) (sym same) ∙ runs in cc) in
    let home : is_some (running (object_at (with_object o h (Thread p context)) p)) ≡ true = ap (λ y. is_some (running y)) (get-insert-other o.live h (Thread p context) p apart) ∙ ap is_some runs in
    let bound = sound.processes in
    IsSound-with_thread o h p context sound (fits_fresh o h (Thread p context) sound fresh home (omega arith) (omega arith)) (ap is_some_thread fresh.free)

-- A thread may have any registers.
pub IsSound-with_registers : (o : Objects) (t p : ℕ) (old new : Context) → IsSound o → object_at o t ≡ Some (Thread p old) → IsSound (with_object o t (Thread p new))
IsSound-with_registers o t p old new sound thread =
    let x : Object = Thread p new in
    let runs = sound.objects t (Thread p old) thread in
    let apart = λ (same : p ≡ t). absurd (let e : false ≡ true = ap (λ y. is_some (running y)) (sym thread) ∙ ap (λ q. is_some (running (object_at o q))) (sym same) ∙ runs in cc) in
    let processes : number_of is_process (with_object o t x).live + 0 ≡ number_of is_process o.live + 0 =
    subst (λ y. number_of is_process (with_object o t x).live + one_at is_process y ≡ number_of is_process o.live + 0) thread (count_set is_process o.live t x) in
    let threads : number_of is_thread (with_object o t x).live + 1 ≡ number_of is_thread o.live + 1 =
    subst (λ y. number_of is_thread (with_object o t x).live + one_at is_thread y ≡ number_of is_thread o.live + 1) thread (count_set is_thread o.live t x) in
    let some_bound = sound.processes in
    let other_bound = sound.threads in
    IsSound-with_object o t x sound (record {
      positive = there_positive o t (Thread p old) sound thread;
      awaited = λ is. absurd (let e : false ≡ true = ap can_be_awaited (sym thread) ∙ is in cc);
      residents = λ r context is. absurd (let e : false ≡ true = ap (λ y. is_some (running y)) (sym thread) ∙ sound.objects r (Thread t context) is in cc);
      itself = ap (λ y. is_some (running y)) (get-insert-other o.live t x p apart) ∙ runs;
      processes = omega arith;
      threads = omega arith;
    }) (sym (ap is_some_thread thread))

-- ---- a process that exits takes its threads along

thread_of_idle : (p : ℕ) (x : Option Object) → is_thread_of p x ≡ true → running x ≡ None
thread_of_idle p (Some (Thread q context)) is = refl
thread_of_idle p None is = refl
thread_of_idle p x is = absurd (cc)

pub IsSound-without_threads : (o : Objects) (p : ℕ) → IsSound o → IsSound (without_threads o p)
IsSound-without_threads o p sound = IsSound-without_handles o (λ k. is_thread_of p (object_at o k)) sound (λ k is. thread_of_idle p (object_at o k) is)

pub IsSound-exited : (o : Objects) (p code : ℕ) (s : Space) → IsSound o → running (object_at o p) ≡ Some s → IsSound (with_object (without_threads o p) p (Process empty (Some code)))
IsSound-exited o p code s sound runs =
    let ends : ℕ → Bool = λ k. is_thread_of p (object_at o k) in
    let left = without_threads o p in
    let was = runs_as (object_at o p) s runs in
    let there : object_at left p ≡ object_at o p = object_at-left o ends p (was.stays p) in
    IsSound-with_object left p (Process empty (Some code)) (IsSound-without_threads o p sound)
    (fits_process left p s empty (Some code) (IsSound-without_threads o p sound) (ap running there ∙ runs)
    (λ t context is. absurd (
    let before = was_there o ends t (Thread p context) is in
    let itself : ends t ≡ true = ap (is_thread_of p) before.1 ∙ eq-eqb p p refl in
    let e : true ≡ false = sym itself ∙ before.0 in
    cc)) refl)
    (sym (ap is_some_thread there ∙ was.no_thread))

-- ---- calls

-- Whatever a call of bytes does, sound objects stay sound, where a new number is fresh.
abbrev KeepsSound : World → Call → Reply → World → Type 0
KeepsSound w call reply w' = HasBytes call → IsFreeChoice w call reply → IsSound w'.objects

effects : (w : World) → IsSound w.objects → Effects w (KeepsSound w)
effects w sound = let o = w.objects in record {
  stays = λ c r still small choice. sound;
  allocates = λ p page count rights old runs run rights_small free room small choice.
      IsSound-with_pages o p old _ sound runs (AreSoundPages-with_run old page count rights (AreSoundPages-running o p old sound runs) run rights_small free room);
  frees = λ p page count old runs small choice. IsSound-with_pages o p old _ sound runs (AreSoundPages-without_run old page count (AreSoundPages-running o p old sound runs));
  protects = λ p page count rights old runs rights_small small choice.
      IsSound-with_pages o p old _ sound runs (AreSoundPages-protected old page count rights (AreSoundPages-running o p old sound runs) rights_small);
  fills = λ p address bytes old runs small choice.
      IsSound-with_pages o p old _ sound runs (AreSoundPages-with_bytes old address bytes (AreSoundPages-running o p old sound runs) small);
  makes_thread = λ h p context s runs room small fresh. IsSound-with_fresh_thread o h p context s sound fresh runs room;
  resumes = λ t p context thread rests small choice. IsSound-with_resumed o t sound (ap is_some_thread thread) rests;
  ends_thread = λ t p context is small choice. IsSound-without_handles o (λ k. k == t) sound (λ k same. ap (λ q. running (object_at o q)) (eqb-true k t same) ∙ ap running is);
  registers = λ t p old new thread rests small choice. IsSound-with_registers o t p old new sound thread;
  makes_event = λ h small fresh. IsSound-with_new o h (Event false) sound fresh tt refl refl;
  opens = λ h name create exclusive good small fresh. IsSound-with_stream o h name sound fresh good;
  makes_file = λ h name exclusive good absent small fresh. IsSound-with_stream o h (File name) sound fresh good;
  takes = λ s offset count is small choice. sound;
  writes_file = λ s offset bytes name is small choice. sound;
  writes_output = λ s offset bytes is small choice. sound;
  writes_errors = λ s offset bytes is small choice. sound;
  sets_length = λ s size name is short small choice. sound;
  deletes = λ name bytes is shut small choice. sound;
  renames = λ from to bytes good is shut_from shut_to small choice. sound;
  shares = λ s h x is small fresh. IsSound-shared o s h x sound fresh is;
  ends = λ h x is idle no_thread small choice. IsSound-without_handles o (λ k. k == h) sound (λ k same. ap (λ q. running (object_at o q)) (eqb-true k h same) ∙ ap running is ∙ idle);
  makes_process = λ h room small fresh. IsSound-with_process o h sound fresh room;
  exits = λ p code s runs small choice. IsSound-exited o p code s sound runs;
  configures = λ settings positions good first small choice. IsSound-with_settings o settings positions sound good;
}

-- A call leaves a sound world sound.
pub IsSound-Abi : (w w' : World) (call : Call) (r : Reply) → IsSound w.objects → HasBytes call → Abi w call r w' → IsSound w'.objects
IsSound-Abi w w' call r sound small abi = has-Abi w (KeepsSound w) (effects w sound) call r w' abi small abi.choice

-- ---- turns

-- The woken leave the waiting list and join the ready one.
pub IsSound-with_due_ready : (o : Objects) → IsSound o → IsSound (with_due_ready o)
IsSound-with_due_ready o sound =
    IsSound-with_lists o (with_woken (λ (w : Waiting). w.thread) (is_due o) o.lists) sound (standings-with_woken o.lists (is_due o))
    (list_all-filter (λ w. not (is_due o w)) (is_sound_wait o) (is_sound_wait o) (λ _ _ is. is) o.lists.waiting sound.waits)

idle_sound : (o : Objects) → IsSound o → IsSound (idle_turn o).1
idle_sound o sound = elim (list_any (λ (w : Waiting). is_some w.deadline) o.lists.waiting) as (λ b. IsSound (cond {A = Turned × Objects} b (Idle, with_turn o) (Stuck, o)).1) [
  | true ↦ IsSound-with_positions o (with_turn o).positions sound
  | false ↦ sound
]

-- A thread that ran, with its process.
IsSound-with_run_of : (o : Objects) (t p : ℕ) (context : Context) (s : Space) (run : Run) → IsSound o → RunsIn o t p context s → AreSoundPages run.space → IsSound (with_run_of o t p run)
IsSound-with_run_of o t p context s run sound runs pages =
    let mid = with_pages o p run.space in
    let thread : object_at mid t ≡ Some (Thread p context) = get-insert-other o.live p (Process run.space None) t (home_apart o t p context s runs) ∙ runs.thread in
    IsSound-with_registers mid t p context run.context (IsSound-with_pages o p s run.space sound runs.process pages) thread

-- The thread left the ready list, and joins it again or is current.
end_sound : (o : Objects) (place t p : ℕ) (run : Run) (trap : Option (ℕ × ℕ)) → IsSound (with_run_of o t p run) → slice_get o.lists.ready place ≡ Some t → o.lists.current ≡ None
    → IsSound (run_end (with_run_of (with_pick o place) t p run) t p run.context trap).1
end_sound o place t p run None sound at free =
    let left = without_place o.lists place in
    IsSound-with_positions _ (with_pick o place).positions
    (IsSound-with_lists (with_run_of o t p run) (with_ready left t) sound (λ k. standings-with_ready left t k ∙ standings-without_place o.lists place t k at) sound.waits)
end_sound o place t p run (Some trap) sound at free =
    let left = without_place o.lists place in
    IsSound-with_positions _ (with_pick o place).positions
    (IsSound-with_lists (with_run_of o t p run) (record left { current = Some t }) sound (λ k. standings-current left t k free ∙ standings-without_place o.lists place t k at) sound.waits)

run_sound : (o : Objects) (place t : ℕ) → IsSound o → slice_get o.lists.ready place ≡ Some t → o.lists.current ≡ None → IsSound (run_thread (with_pick o place) t (object_at o t)).1
run_sound o place t sound at free =
    let home = ready_thread o place t sound at in
    let run = run_space o.settings.slice home.context home.space in
    let pages = AreSoundPages-run_space o.settings.slice home.context home.space (AreSoundPages-running o home.process home.space sound home.runs.process) in
    subst (λ x. IsSound (run_thread (with_pick o place) t x).1) (sym home.runs.thread)
    (subst (λ memory. IsSound (run_in (with_pick o place) t home.process home.context memory).1) (sym home.runs.process)
    (end_sound o place t home.process run run.trap (IsSound-with_run_of o t home.process home.context home.space run sound home.runs pages) at free))

picked_sound : (o : Objects) (place : ℕ) → IsSound o → o.lists.current ≡ None → (picked : Option ℕ) → slice_get o.lists.ready place ≡ picked → IsSound (turn_of_pick o place picked).1
picked_sound o place sound free None at = idle_sound o sound
picked_sound o place sound free (Some t) at = run_sound o place t sound at free

-- A turn leaves a sound world sound.
pub IsSound-world_turn : (o o' : Objects) (a : Turned) → IsSound o → o.lists.current ≡ None → world_turn o ≡ (a, o') → IsSound o'
IsSound-world_turn o o' a sound free is =
    let awake = with_due_ready o in
    subst (λ (x : Turned × Objects). IsSound x.1) is
    (picked_sound awake (pick_of awake) (IsSound-with_due_ready o sound) free (slice_get awake.lists.ready (pick_of awake)) refl)
