-- The stages that give a thread its registers and make it ready.
use Rattle.std.specs.Prelude.{◌≡◌, ℕ, ◌==◌, true, []}
use Rattle.std.specs.declared.option.Option.TheVariants.{None, Some}
use Rattle.std.proofs.Common.{refl, sym, ap, subst, ◌∙◌, arith, eq-eqb}
use Rattle.std.proofs.lemmas.Bool.{cond-true}
use Rattle.rv_core.specs.declared.context.Context.{Context}
use Rattle.turn_sched.specs.Lists.{is_resting, with_resumed, other_than}
use Rattle.abi_calls.specs.declared.object.Object.TheVariants.{Thread}
use Rattle.abi_calls.specs.declared.reply.Reply.{Reply}
use Rattle.abi_calls.specs.declared.reply.Reply.TheVariants.{Done, Busy}
use Rattle.abi_calls.specs.declared.threads.Upcall.{Upcall}
use Rattle.abi_calls.specs.Objects.{Objects, object_at, is_thread_of, with_object, with_lists}
use Rattle.abi_calls.specs.Threads.{thread_resume_row, thread_context_row}
use Rattle.abi_calls.specs.Sound.{IsSound}
use Rattle.bas_items.proofs.NumberMaps.{get-insert-same}
use Rattle.mono_model.specs.Machine.{Mono, with_context, made_ready}
use Rattle.mono_model.specs.Calls.{Caller}
use Rattle.mono_model.specs.Starting.{Runs}
use Rattle.libos_state.specs.declared.cont.Cont.{Cont}
use Rattle.libos_state.specs.declared.cont.Stage.TheVariants.{SetContext, Resume}
use Rattle.libos_state.specs.declared.state.LibOs.{LibOs}
use Rattle.libos_state.specs.Records.{View, Visible, visible, with_visible, base}
use Rattle.libos_state.specs.Pending.{asked, upcall_in}
use Rattle.libos_state.specs.Answered.{goes_on, ends}
use Rattle.libos_state.specs.Meaning.{caller_in, settles, meant_settled}
use Rattle.libos_state.specs.Named.{named_as}
use Rattle.libos_state.specs.Fits.{FitsStage, FitsUp, FitsBoot, FitsTrap, FitsObjects, is_to_name}
use Rattle.libos_state.proofs.Holds.{Holds}
use Rattle.libos_state.proofs.Rows.{by_row}
use Rattle.libos_state.proofs.Going.{FitsRecords-with_service, FitsObjects-with_service}
use Rattle.libos_state.proofs.Naming.{Alike, Alike-thread, FitsObjects-same, FitsObjects-changed, ThreadOf, thread_of, Trapped, trapped, caller_of-trapped, times_named-most}
use Rattle.libos_state.proofs.Serving.{trap_of, on_trap, named_as-no_kinds, current_rests, returns-recorded}
use Rattle.libos_state.proofs.Bases.{base-with_context, base-with_ready}
use Rattle.libos_state.proofs.Views.{AnswersAs, on_objects}

-- ---- the rows, where the thread rests

row_set : (o : Objects) (t p : ℕ) (old new : Context) → object_at o t ≡ Some (Thread p old) → is_resting o.lists t ≡ true →
    thread_context_row o t new (object_at o t) ≡ (Done, with_object o t (Thread p new))
row_set o t p old new there rests = ap (thread_context_row o t new) there ∙ cond-true (is_resting o.lists t) (Done, with_object o t (Thread p new)) (Busy, o) rests

-- The objects with a thread that rested and is ready.
abbrev pub resumed_objects : Objects → ℕ → Objects
resumed_objects o t = with_lists o (with_resumed o.lists t)

pub row_resumed : (o : Objects) (t p : ℕ) (context : Context) → object_at o t ≡ Some (Thread p context) → is_resting o.lists t ≡ true →
    thread_resume_row o t (object_at o t) ≡ (Done, resumed_objects o t)
row_resumed o t p context there rests = ap (thread_resume_row o t) there ∙ cond-true (is_resting o.lists t) (Done, resumed_objects o t) (Busy, o) rests

-- ---- the thread has other registers: all else is as it was

module _ (os : LibOs) (c : Cont) (v : Visible) (fits : FitsStage os v.objects c SetContext) where
  abbrev u : Upcall
  u = upcall_in c.event

  abbrev trap : FitsTrap os v.objects u SetContext
  trap = trap_of os v.objects c.event SetContext refl fits.event

  abbrev at : Trapped os v.objects u
  at = trapped os v.objects u (named_as c.handles []) None fits.records fits.objects trap.home (returns-recorded os u trap.comes)

  abbrev home : ThreadOf (object_at v.objects u.thread) u.process
  home = thread_of u.process (object_at v.objects u.thread) trap.home

  abbrev set_objects : Objects
  set_objects = with_object v.objects u.thread (Thread u.process c.next)

  abbrev resuming : Cont
  resuming = record c { stage = Resume }

  set_trap : FitsTrap (goes_on os resuming) set_objects u Resume
  set_trap = record {
    up = trap.up;
    first = trap.first;
    current = trap.current;
    home = ap (is_thread_of u.process) (get-insert-same v.objects.live u.thread (Thread u.process c.next)) ∙ eq-eqb u.process u.process refl;
    comes = trap.comes;
  }

  set_fits : FitsStage (goes_on os resuming) set_objects resuming Resume
  set_fits = record {
    records = FitsRecords-with_service os os.boot (Some resuming) fits.records;
    objects = FitsObjects-with_service os os.boot (Some resuming) set_objects (named_as c.handles []) None
        (FitsObjects-changed os v.objects u.thread (Thread u.process c.next) (named_as c.handles []) None
        (subst (λ x. Alike x (Some (Thread u.process c.next))) (sym home.is) (Alike-thread u.process home.context c.next)) (sym (ap (is_to_name None) home.is)) fits.objects);
    event = on_trap os (goes_on os resuming) v.objects set_objects c.event SetContext Resume refl fits.event set_trap;
    lists = record {
      next = λ keeps. absurd (cc);
      names = fits.lists.names;
      bytes = fits.lists.bytes;
      handles = fits.lists.handles;
      later = fits.lists.later;
      numbers = fits.lists.numbers;
    };
    names = tt;
    kept = tt;
    made = tt;
  }

  set_base : base os (with_visible v set_objects) ≡ with_context (base os v) (caller_in os c).thread (caller_in os c).process c.next
  set_base =
      let who = caller_of-trapped os v.objects u at in
      base-with_context os v u.thread u.process at.thread c.next fits.records (omega (arith, times_named-most os v.objects (named_as c.handles []) None fits.objects u.thread)) at.found
      ∙ (λ i. with_context (base os v) ((sym (ap (λ (x : Caller). x.thread) who)) i) ((sym (ap (λ (x : Caller). x.process) who ∙ at.links.pid)) i) c.next)

pub keeps_set_context : (os : LibOs) (c : Cont) (w w' : View) (r : Reply) → FitsStage os w.objects c SetContext → IsSound w.objects → AnswersAs w (asked os c SetContext) r w' → Holds os c SetContext w r w'
keeps_set_context os c w w' r fits sound abi =
    let v : Visible = visible w in
    let u : Upcall = upcall_in c.event in
    let trap = trap_of os w.objects c.event SetContext refl fits.event in
    let there = thread_of u.process (object_at w.objects u.thread) trap.home in
    let row = ap (on_objects w) (row_set w.objects u.thread u.process there.context c.next there.is (current_rests w.objects u.thread trap.current)) in
    by_row os c SetContext w w' r Done (set_objects os c v fits) abi row (record {
      fits = set_fits os c v fits;
      means = ap (λ (m : Mono). settles (Runs (made_ready m (caller_in os c).thread))) (set_base os c v fits);
    })

-- ---- the thread that rests joins the ready ones

module _ (os : LibOs) (c : Cont) (v : Visible) (fits : FitsStage os v.objects c Resume) where
  abbrev trap_u : Upcall
  trap_u = upcall_in c.event

  abbrev resume_trap : FitsTrap os v.objects trap_u Resume
  resume_trap = trap_of os v.objects c.event Resume refl fits.event

  abbrev resume_at : Trapped os v.objects trap_u
  resume_at = trapped os v.objects trap_u (named_as c.handles []) None fits.records fits.objects resume_trap.home (returns-recorded os trap_u resume_trap.comes)

  abbrev ready_objects : Objects
  ready_objects = resumed_objects v.objects trap_u.thread

  resumed_up : FitsUp (ends os) ready_objects
  resumed_up = record {
    records = FitsRecords-with_service os os.boot None fits.records;
    first = resume_trap.first;
    objects = FitsObjects-with_service os os.boot None ready_objects [] None
        (FitsObjects-same os v.objects ready_objects [] None (λ q. refl) (subst (λ kept. FitsObjects os v.objects kept None) (named_as-no_kinds c.handles) fits.objects));
    current = ap (other_than trap_u.thread) resume_trap.current ∙ cond-true (trap_u.thread == trap_u.thread) None (Some trap_u.thread) (eq-eqb trap_u.thread trap_u.thread refl);
  }

  resumed_base : base os (with_visible v ready_objects) ≡ made_ready (base os v) (caller_in os c).thread
  resumed_base = base-with_ready os v trap_u.thread resume_at.thread resume_at.found
      ∙ ap (made_ready (base os v)) (sym (ap (λ (x : Caller). x.thread) (caller_of-trapped os v.objects trap_u resume_at)))

pub keeps_resume : (os : LibOs) (c : Cont) (w w' : View) (r : Reply) → FitsStage os w.objects c Resume → IsSound w.objects → AnswersAs w (asked os c Resume) r w' → Holds os c Resume w r w'
keeps_resume os c w w' r fits sound abi =
    let v : Visible = visible w in
    let u : Upcall = upcall_in c.event in
    let trap = trap_of os w.objects c.event Resume refl fits.event in
    let there = thread_of u.process (object_at w.objects u.thread) trap.home in
    let row = ap (on_objects w) (row_resumed w.objects u.thread u.process there.context there.is (current_rests w.objects u.thread trap.current)) in
    let after : Visible = with_visible v (ready_objects os c v fits) in
    by_row os c Resume w w' r Done (ready_objects os c v fits) abi row (record {
      fits = subst (FitsBoot (ends os) after.objects) (sym trap.up) (resumed_up os c v fits);
      means = ap (λ b. settles (meant_settled (ends os) after b)) trap.up ∙ ap (λ m. settles (Runs m)) (resumed_base os c v fits);
    })
