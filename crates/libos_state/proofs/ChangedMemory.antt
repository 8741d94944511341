-- A call that gives its caller's process other pages and has a result.
use Rattle.std.specs.Prelude.{◌≡◌, ◌≢◌, ℕ, ◌≤◌, []}
use Rattle.std.specs.declared.option.Option.{Option}
use Rattle.std.specs.declared.option.Option.TheVariants.{None, Some}
use Rattle.std.proofs.Common.{sym, ap, ◌∙◌, arith}
use Rattle.guest_space.specs.Space.{Space}
use Rattle.abi_calls.specs.declared.object.Object.TheVariants.{Process, Thread}
use Rattle.abi_calls.specs.declared.threads.Upcall.{Upcall}
use Rattle.abi_calls.specs.Objects.{Objects, object_at, is_thread_of}
use Rattle.abi_calls.specs.Memory.{with_pages}
use Rattle.bas_items.proofs.NumberMaps.{get-insert-other}
use Rattle.mono_model.specs.Machine.{Mono, process_at, with_memory_in}
use Rattle.mono_model.specs.Calls.{Caller, silently, finished, finished_with, memory_at}
use Rattle.libos_state.specs.declared.cont.Cont.{Cont}
use Rattle.libos_state.specs.declared.cont.Stage.TheVariants.{SetContext}
use Rattle.libos_state.specs.declared.state.LibOs.{LibOs}
use Rattle.libos_state.specs.Records.{View, Visible, visible, with_visible, base}
use Rattle.libos_state.specs.Pending.{upcall_in}
use Rattle.libos_state.specs.Answered.{goes_on, service_with_result}
use Rattle.libos_state.specs.Meaning.{caller_in, leads_to}
use Rattle.libos_state.specs.Named.{recorded, times_named}
use Rattle.libos_state.specs.Fits.{FitsRecords, FitsObjects, FitsEvent, FitsTrap}
use Rattle.libos_state.proofs.Rows.{Stands}
use Rattle.libos_state.proofs.Naming.{Trapped, trapped, thread_of, times_named-most}
use Rattle.libos_state.proofs.Bases.{base-with_memory}
use Rattle.libos_state.proofs.Callers.{behind_process, caller_pid, memory-caller}
use Rattle.libos_state.proofs.Pages.{FitsObjects-pages}
use Rattle.libos_state.proofs.Serving.{returns-recorded, result_fits}

module _ (os : LibOs) (c : Cont) (w : View) (records : FitsRecords os) (objects : FitsObjects os w.objects [] None)
    (trap : FitsTrap os w.objects (upcall_in c.event) SetContext) where
  abbrev u : Upcall
  u = upcall_in c.event

  abbrev v : Visible
  v = visible w

  abbrev m : Mono
  m = base os v

  abbrev who : Caller
  who = caller_in os c

  pub home : Trapped os w.objects u
  home = trapped os w.objects u [] None records objects trap.home (returns-recorded os u trap.comes)

  pub memory_is : memory_at m who.process ≡ home.links.memory
  memory_is = memory-caller os c v records home

  pub there : object_at w.objects u.process ≡ Some (Process home.links.memory None)
  there = ap (object_at w.objects) home.process ∙ home.links.runs

  -- the thread's object isn't the process's
  apart : u.thread ≢ u.process
  apart same =
      let thread = thread_of u.process (object_at w.objects u.thread) trap.home in
      let e : Some (Thread u.process thread.context) ≡ Some (Process home.links.memory None) = sym thread.is ∙ ap (object_at w.objects) same ∙ there in cc

  module _ (new : Space) where
    abbrev after : Objects
    after = with_pages w.objects u.process new

    pub base_after : base os (with_visible v after) ≡ with_memory_in m who.process new (process_at m who.process)
    base_after =
        let once : times_named u.process (recorded os) ≤ 1 = omega (arith, times_named-most os w.objects [] None objects u.process) in
        base-with_memory os v u.process home.links.process new records once (behind_process os c v records home) home.links.code
        ∙ sym (ap (λ p. with_memory_in m p new (process_at m p)) (caller_pid os c v records home))

    pub after_trap : (cont : Option Cont) → FitsTrap (record os { cont = cont }) after u SetContext
    after_trap cont = record {
      up = trap.up;
      first = trap.first;
      current = trap.current;
      home = ap (is_thread_of u.process) (get-insert-other w.objects.live u.process (Process new None) u.thread apart) ∙ trap.home;
      comes = trap.comes;
    }

    pub changed_stands : ((os' : LibOs) (o : Objects) → FitsTrap os' o u SetContext → FitsEvent os' o c.event SetContext) → (result : ℕ)
        → Stands (goes_on os (service_with_result c result)) (with_visible v after) (leads_to (silently (finished_with m who new result)))
    changed_stands event result = record {
      fits = result_fits os after c result records (FitsObjects-pages os w.objects u.process home.links.memory new [] there objects)
          (event (goes_on os (service_with_result c result)) after (after_trap (Some (service_with_result c result))));
      means = ap (λ (n : Mono). leads_to (silently (finished n who result))) base_after;
    }
