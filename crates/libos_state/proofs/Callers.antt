-- The caller of a system call: the process of its thread, and its memory.
use Rattle.std.specs.Prelude.{◌≡◌}
use Rattle.std.specs.declared.option.Option.TheVariants.{Some}
use Rattle.std.proofs.Common.{ap, ◌∙◌}
use Rattle.abi_calls.specs.declared.threads.Upcall.{Upcall}
use Rattle.mono_model.specs.Calls.{Caller, memory_at, memory_in}
use Rattle.libos_state.specs.declared.cont.Cont.{Cont}
use Rattle.libos_state.specs.declared.notes.ProcessNote.{ProcessNote}
use Rattle.libos_state.specs.declared.state.LibOs.{LibOs}
use Rattle.libos_state.specs.Records.{Visible, base, process_with, process_if, memory_of_object}
use Rattle.libos_state.specs.Pending.{upcall_in}
use Rattle.libos_state.specs.Meaning.{caller_in}
use Rattle.libos_state.specs.Fits.{FitsRecords}
use Rattle.libos_state.proofs.Naming.{Trapped, caller_of-trapped}
use Rattle.libos_state.proofs.Bases.{process_at-found}

module _ (os : LibOs) (c : Cont) (v : Visible) (records : FitsRecords os) (home : Trapped os v.objects (upcall_in c.event)) where
  abbrev u : Upcall
  u = upcall_in c.event

  abbrev process : ProcessNote
  process = home.links.process

  pub behind_process : process_with u.process os.processes ≡ Some process
  behind_process = ap (λ h. process_with h os.processes) home.process ∙ home.links.behind

  pub caller_pid : (caller_in os c).process ≡ process.pid
  caller_pid = ap (λ (x : Caller). x.process) (caller_of-trapped os v.objects u home)

  pub memory-caller : memory_at (base os v) (caller_in os c).process ≡ home.links.memory
  memory-caller = ap (memory_at (base os v)) caller_pid
      ∙ ap memory_in (process_at-found os v u.process process records behind_process)
      ∙ (λ i. memory_in (Some (process_if process (memory_of_object (home.links.runs i)) (home.links.code i))))
