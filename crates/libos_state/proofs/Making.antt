-- The process is made, then its thread and the thread's event.
use Rattle.std.specs.Prelude.{◌≡◌, ℕ, ◌+◌, ◌<◌, ◌==◌, true, false, if◌then◌else◌, nat_le, List, [], ◌∷◌, ◌++◌, length, slice_index}
use Rattle.std.specs.FinMap.{empty}
use Rattle.std.specs.Option.{option_map}
use Rattle.std.specs.declared.option.Option.TheVariants.{None, Some}
use Rattle.std.proofs.Common.{refl, sym, ap, subst, ◌∙◌, arith, eq-eqb}
use Rattle.std.proofs.lemmas.Bool.{or_left, or_right}
use Rattle.std.proofs.lemmas.List.{length_push, get_or_push, get_or_append_left}
use Rattle.std.proofs.lemmas.List.Folds.{list_any-append}
use Rattle.std.proofs.lemmas.Option.{none-some}
use Rattle.rv_core.specs.declared.context.Context.{Context}
use Rattle.guest_space.specs.Space.{Space, Frame}
use Rattle.turn_sched.specs.Lists.{contains}
use Rattle.abi_calls.specs.declared.limits.TheConstants.{MOST_PROCESSES, MOST_THREADS}
use Rattle.abi_calls.specs.declared.object.Object.TheVariants.{Process, Thread, Event}
use Rattle.abi_calls.specs.declared.reply.Reply.{Reply}
use Rattle.abi_calls.specs.declared.reply.Reply.TheVariants.{Handle, NoRoom}
use Rattle.abi_calls.specs.Objects.{Object, Objects, object_at, running, number_of, is_process, is_thread, is_thread_of, with_object}
use Rattle.abi_calls.specs.Processes.{process_create_row}
use Rattle.abi_calls.specs.Threads.{with_thread, thread_create_row}
use Rattle.abi_calls.specs.Abi.{new_number}
use Rattle.abi_calls.specs.Sound.{IsSound}
use Rattle.bas_items.proofs.NumberMaps.{get-empty, get-insert-same, get-insert-other}
use Rattle.elf_loader.proofs.ImageLaws.{loaded-accepted}
use Rattle.mono_model.specs.Starting.{begun_from, start_context, loaded, stacked}
use Rattle.libos_state.specs.declared.cont.Cont.{Cont}
use Rattle.libos_state.specs.declared.cont.Stage.TheVariants.{CreateProcess, AllocateRun, CreateThread, CreateEvent, StartThread}
use Rattle.libos_state.specs.declared.state.LibOs.{LibOs}
use Rattle.libos_state.specs.Records.{View, visible, with_visible, memory_of_object, context_of}
use Rattle.libos_state.specs.Pending.{arguments, asked, handle, file_or_child, program_in, runs_in}
use Rattle.libos_state.specs.Meaning.{settles, unstarted, begins, begins_with}
use Rattle.libos_state.specs.Named.{AProcess, AThread, AnEvent, named_as, consoles}
use Rattle.libos_state.specs.Fits.{FitsStage, FitsObjects}
use Rattle.libos_state.proofs.Holds.{HoldsQuietly}
use Rattle.libos_state.proofs.Rows.{quietly_by_row, fresh_handle}
use Rattle.libos_state.proofs.Naming.{FitsObjects-new, FitsObjects-same, named_as-push, thread_of}
use Rattle.libos_state.proofs.Handles.{list_all-named_as, recorded-start, is_no_process, is_no_thread, excludes-process, excludes-thread, number_of-excluded}
use Rattle.libos_state.proofs.Programs.{some_runs}
use Rattle.libos_state.proofs.Starts.{start_of, start_goes_on}
use Rattle.libos_state.proofs.Views.{AnswersAs, answer, on_objects, with_objects}

-- One more handle, of a new object, behind so many: those before it name what they named.
record MadeBehind (o : Objects) (handles : List ℕ) (count h : ℕ) (x : Object) : Type 0 where
  pub long : length (handles ++ h ∷ []) ≡ count + 1
  pub last : slice_index (handles ++ h ∷ []) count ≡ h
  pub there : object_at (with_object o h x) (slice_index (handles ++ h ∷ []) count) ≡ Some x
  pub before : (n : ℕ) → n < count → slice_index (handles ++ h ∷ []) n ≡ slice_index handles n
  pub stays : (n : ℕ) (y : Object) → n < count → object_at o (slice_index handles n) ≡ Some y
      → object_at (with_object o h x) (slice_index (handles ++ h ∷ []) n) ≡ Some y

made_behind : (o : Objects) (handles : List ℕ) (count h : ℕ) (x : Object) → object_at o h ≡ None
    → length handles ≡ count → MadeBehind o handles count h x
made_behind o handles count h x free held =
    let last : slice_index (handles ++ h ∷ []) count ≡ h = get_or_push handles h 0 count held in
    let before : (n : ℕ) → n < count → slice_index (handles ++ h ∷ []) n ≡ slice_index handles n =
    λ n low. get_or_append_left handles (h ∷ []) 0 n (omega arith) in
    record {
      long = omega (arith, length_push handles h);
      last = last;
      there = ap (object_at (with_object o h x)) last ∙ get-insert-same o.live h x;
      before = before;
      stays = λ n y low there. ap (object_at (with_object o h x)) (before n low)
          ∙ get-insert-other o.live h x (slice_index handles n)
          (λ same. none-some y (sym free ∙ ap (object_at o) (sym same) ∙ there)) ∙ there;
    }

-- ---- a process

process_row : (o : Objects) (h : ℕ) → number_of is_process o.live ≡ 0
    → process_create_row o h ≡ (Handle h, with_object o h (Process empty None))
process_row o h none = ap {B = Reply × Objects} (λ n. if nat_le MOST_PROCESSES n then (NoRoom, o)
    else (Handle h, with_object o h (Process empty None))) none

pub keeps_create_process : (os : LibOs) (c : Cont) (w w' : View) (r : Reply)
    → FitsStage os w.objects c CreateProcess → IsSound w.objects
    → AnswersAs w (asked os c CreateProcess) r w' → HoldsQuietly os c CreateProcess w r w'
keeps_create_process os c w w' r fits sound abi =
    let h = new_number r in
    let child : Object = Process empty None in
    let o = with_object w.objects h child in
    let handles = c.handles ++ h ∷ [] in
    let start = start_of os w.objects c CreateProcess refl fits in
    let none = number_of-excluded is_no_process is_process w.objects excludes-process os
    (named_as c.handles consoles) (recorded-start os w.objects CreateProcess start) fits.objects
    (list_all-named_as is_no_process c.handles consoles refl) in
    let row : answer w (asked os c CreateProcess) r ≡ (Handle h, with_objects w o) =
    ap (on_objects w) (process_row w.objects h none) in
    let fresh = fresh_handle w w' (asked os c CreateProcess) r h (with_objects w o) abi row in
    let held : length c.handles ≡ 3 = fits.lists.handles in
    let made = made_behind w.objects c.handles 3 h child fresh.free held in
    let objects = subst (λ names. FitsObjects os o names None)
    (sym (named_as-push c.handles consoles h AProcess held))
    (FitsObjects-new os w.objects h child AProcess (named_as c.handles consoles) None
    fresh.free refl refl fits.objects) in
    let v = with_visible (visible w) o in
    quietly_by_row os c CreateProcess w w' r (Handle h) o abi row (record {
      fits = start_goes_on os w.objects c CreateProcess refl fits o AllocateRun c.bytes handles
          (0 ∷ []) refl start.current objects (λ other. absurd (cc)) made.long refl
          (record { program = fits.kept; among = some_runs c.bytes fits.kept })
          (record { memory = empty; child = made.there; holds = λ q. ap (option_map (λ (f : Frame). f.rights)) (get-empty q) });
      means = ap (λ x. settles (begins_with v c (stacked (loaded (memory_of_object x) (runs_in c)) (arguments c)))) made.there
          ∙ sym (ap (λ program. settles (begun_from (unstarted (visible w)) (arguments c) program)) (loaded-accepted c.bytes fits.kept));
    })

-- ---- a thread

thread_row : (o : Objects) (p h : ℕ) (context : Context) (memory : Space)
    → object_at o p ≡ Some (Process memory None) → number_of is_thread o.live ≡ 0
    → thread_create_row o p context (running (object_at o p)) h
    ≡ (Handle h, with_thread o h p context)
thread_row o p h context memory there none =
    ap (λ x. thread_create_row o p context (running x) h) there
    ∙ ap {B = Reply × Objects} (λ n. if nat_le MOST_THREADS n then (NoRoom, o)
    else (Handle h, with_thread o h p context)) none

contains_last : (xs : List ℕ) (h : ℕ) → contains (xs ++ h ∷ []) h ≡ true
contains_last xs h = list_any-append (λ x. x == h) xs (h ∷ [])
    ∙ or_right (contains xs h) (contains (h ∷ []) h) (or_left (h == h) false (eq-eqb h h refl))

pub keeps_create_thread : (os : LibOs) (c : Cont) (w w' : View) (r : Reply)
    → FitsStage os w.objects c CreateThread → IsSound w.objects
    → AnswersAs w (asked os c CreateThread) r w' → HoldsQuietly os c CreateThread w r w'
keeps_create_thread os c w w' r fits sound abi =
    let h = new_number r in
    let p = file_or_child c in
    let context = start_context (program_in c) (arguments c) in
    let thread : Object = Thread p context in
    let o = with_thread w.objects h p context in
    let handles = c.handles ++ h ∷ [] in
    let start = start_of os w.objects c CreateThread refl fits in
    let kinds = consoles ++ AProcess ∷ [] in
    let none = number_of-excluded is_no_thread is_thread w.objects excludes-thread os
    (named_as c.handles kinds) (recorded-start os w.objects CreateThread start) fits.objects
    (list_all-named_as is_no_thread c.handles kinds refl) in
    let row : answer w (asked os c CreateThread) r ≡ (Handle h, with_objects w o) =
    ap (on_objects w) (thread_row w.objects p h context fits.made.memory fits.made.child none) in
    let fresh = fresh_handle w w' (asked os c CreateThread) r h (with_objects w o) abi row in
    let held : length c.handles ≡ 4 = fits.lists.handles in
    let made = made_behind w.objects c.handles 4 h thread fresh.free held in
    let objects = FitsObjects-same os (with_object w.objects h thread) o
    (named_as handles (kinds ++ AThread ∷ [])) None (λ q. refl)
    (subst (λ names. FitsObjects os (with_object w.objects h thread) names None)
    (sym (named_as-push c.handles kinds h AThread held))
    (FitsObjects-new os w.objects h thread AThread (named_as c.handles kinds) None
    fresh.free refl refl fits.objects)) in
    let child : object_at o (slice_index handles 3) ≡ Some (Process fits.made.memory None) =
    made.stays 3 (Process fits.made.memory None) (omega arith) fits.made.child in
    quietly_by_row os c CreateThread w w' r (Handle h) o abi row (record {
      fits = start_goes_on os w.objects c CreateThread refl fits o CreateEvent c.bytes handles [] refl
          start.current objects (λ other. absurd (cc)) made.long refl fits.kept (
            record { memory = fits.made.memory; child = child; holds = tt },
            record {
              home = ap (is_thread_of (slice_index handles 3)) made.there
                  ∙ eq-eqb p (slice_index handles 3) (sym (made.before 3 (omega arith)));
              suspended = ap (contains (w.objects.lists.suspended ++ h ∷ [])) made.last
                  ∙ contains_last w.objects.lists.suspended h;
            },
          );
      means = (λ i. settles (begins (visible w) c (memory_of_object (child i)) (context_of (made.there i))))
          ∙ sym (ap (λ x. settles (begins (visible w) c (memory_of_object x) context)) fits.made.child);
    })

-- ---- the thread's event

pub keeps_create_event : (os : LibOs) (c : Cont) (w w' : View) (r : Reply)
    → FitsStage os w.objects c CreateEvent → IsSound w.objects
    → AnswersAs w (asked os c CreateEvent) r w' → HoldsQuietly os c CreateEvent w r w'
keeps_create_event os c w w' r fits sound abi =
    let h = new_number r in
    let event : Object = Event false in
    let o = with_object w.objects h event in
    let handles = c.handles ++ h ∷ [] in
    let start = start_of os w.objects c CreateEvent refl fits in
    let kinds = consoles ++ AProcess ∷ AThread ∷ [] in
    let fresh = fresh_handle w w' (asked os c CreateEvent) r h (with_objects w o) abi refl in
    let held : length c.handles ≡ 5 = fits.lists.handles in
    let made = made_behind w.objects c.handles 5 h event fresh.free held in
    let objects = subst (λ names. FitsObjects os o names None)
    (sym (named_as-push c.handles kinds h AnEvent held))
    (FitsObjects-new os w.objects h event AnEvent (named_as c.handles kinds) None
    fresh.free refl refl fits.objects) in
    let has = fits.made.0 in
    let child : object_at o (slice_index handles 3) ≡ Some (Process has.memory None) =
    made.stays 3 (Process has.memory None) (omega arith) has.child in
    let thread = thread_of (file_or_child c) (object_at w.objects (handle c 4)) fits.made.1.home in
    let there : object_at o (slice_index handles 4) ≡ Some (Thread (file_or_child c) thread.context) =
    made.stays 4 (Thread (file_or_child c) thread.context) (omega arith) thread.is in
    let home : slice_index handles 3 ≡ file_or_child c = made.before 3 (omega arith) in
    let same : slice_index handles 4 ≡ handle c 4 = made.before 4 (omega arith) in
    quietly_by_row os c CreateEvent w w' r (Handle h) o abi refl (record {
      fits = start_goes_on os w.objects c CreateEvent refl fits o StartThread c.bytes handles [] refl
          start.current objects (λ other. absurd (cc)) made.long refl fits.kept (
            record { memory = has.memory; child = child; holds = tt },
            record {
              home = (λ i. is_thread_of (home i) (there i)) ∙ eq-eqb (file_or_child c) (file_or_child c) refl;
              suspended = ap (contains w.objects.lists.suspended) same ∙ fits.made.1.suspended;
            },
            made.there,
          );
      means = (λ i. settles (begins (visible w) c (memory_of_object (child i)) (context_of (there i))))
          ∙ sym (λ i. settles (begins (visible w) c (memory_of_object (has.child i)) (context_of (thread.is i))));
    })
