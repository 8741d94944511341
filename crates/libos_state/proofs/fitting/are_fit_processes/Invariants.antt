use Rattle.std.proofs.Common.{◌≡◌, drop}
use Rattle.std.specs.List.{list_all}
use Rattle.libos_state.specs.Fits.{is_fit_process}
use Rattle.libos_state.proofs.fitting.are_fit_processes.Given as goal

abbrev pub invariant-loop-note : goal.invariant-loop-note
invariant-loop-note l = list_all (is_fit_process l.os) (drop l.note-index l.os.processes) ≡ list_all (is_fit_process l.os) l.os.processes
