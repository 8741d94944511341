-- A library OS that fits the objects of a world keeps what its next call needs.
use Rattle.std.specs.Prelude.{IfSome}
use Rattle.std.specs.declared.option.Option.{Option}
use Rattle.std.specs.declared.option.Option.TheVariants.{None, Some}
use Rattle.std.proofs.Common.{refl, subst}
use Rattle.abi_calls.specs.Objects.{Objects}
use Rattle.mono_model.specs.Calls.{MMAP, MPROTECT, mmap_known, mprotect_known}
use Rattle.libos_state.specs.declared.cont.Cont.{Cont}
use Rattle.libos_state.specs.declared.cont.Stage.{Stage}
use Rattle.libos_state.specs.declared.cont.Stage.TheVariants.{AllocatePages, ProtectPages, OpenConsole, CreateProcess, AllocateRun, WriteRun, ProtectRun, WriteBlock, CreateThread, StartThread}
use Rattle.libos_state.specs.declared.state.LibOs.{LibOs}
use Rattle.libos_state.specs.Fits.{Fits, FitsStage, FitsCont, KeepsMade, is_growth, is_undecided}
use Rattle.libos_state.specs.Kept.{KeptAt, IsKept}
use Rattle.libos_state.specs.Pending.{upcall_in}
use Rattle.libos_state.proofs.Mapping.{unless_brk, undecided, mmap_asks, mprotect_asks}
use Rattle.libos_state.proofs.Serving.{trap_of}

kept_at : (os : LibOs) (o : Objects) (c : Cont) (stage : Stage) → FitsStage os o c stage → KeptAt c stage
kept_at os o c AllocatePages fits = λ other.
    let trap = trap_of os o c.event AllocatePages refl fits.event in
    let u = upcall_in c.event in
    let comes = unless_brk os u is_growth (is_undecided os u MMAP (mmap_known u.context)) other trap.comes in
    let call = undecided os u MMAP (mmap_known u.context) comes in
    (subst (KeepsMade c) other fits.kept, (mmap_asks u.context call.unknown).0)
kept_at os o c ProtectPages fits =
    let trap = trap_of os o c.event ProtectPages refl fits.event in
    let u = upcall_in c.event in
    let call = undecided os u MPROTECT (mprotect_known u.context) trap.comes in
    (mprotect_asks u.context call.unknown).0
kept_at os o c OpenConsole fits = fits.lists.handles
kept_at os o c CreateProcess fits = fits.kept
kept_at os o c AllocateRun fits = fits.kept
kept_at os o c WriteRun fits = fits.kept
kept_at os o c ProtectRun fits = fits.kept
kept_at os o c WriteBlock fits = fits.names
kept_at os o c CreateThread fits = (fits.kept, fits.names)
kept_at os o c StartThread fits = fits.kept
kept_at os o c _ fits = tt

kept_in : (os : LibOs) (o : Objects) (cont : Option Cont) → FitsCont os o cont → IfSome cont (λ c. KeptAt c c.stage)
kept_in os o None fits = tt
kept_in os o (Some c) fits = kept_at os o c c.stage fits

pub kept_of : (os : LibOs) (o : Objects) → Fits os o → IsKept os
kept_of os o fits = kept_in os o os.cont fits
