-- The library OS begins to serve a system call: a result that is known at once, or a stage that keeps nothing.
use Rattle.std.specs.Prelude.{◌≡◌, ℕ, ◌==◌, true, false, []}
use Rattle.std.specs.Option.{option_map}
use Rattle.std.specs.declared.option.Option.{Option}
use Rattle.std.specs.declared.option.Option.TheVariants.{None}
use Rattle.std.proofs.Common.{refl, ap, ◌∙◌}
use Rattle.abi_calls.specs.declared.threads.Upcall.{Upcall}
use Rattle.mono_model.specs.Machine.{Mono, register}
use Rattle.mono_model.specs.Calls.{Caller, silently, finished, description_of, is_exit}
use Rattle.libos_state.specs.declared.cont.Cont.{Cont}
use Rattle.libos_state.specs.declared.cont.Stage.{Stage}
use Rattle.libos_state.specs.declared.cont.Stage.TheVariants.{SetContext}
use Rattle.libos_state.specs.declared.state.LibOs.{LibOs}
use Rattle.libos_state.specs.declared.state.Boot.TheVariants.{Up}
use Rattle.libos_state.specs.Records.{Visible, base, description_behind, description_seen, process_with}
use Rattle.libos_state.specs.Entered.{entered_with, result_of}
use Rattle.libos_state.specs.Meaning.{caller_of, leads_to}
use Rattle.libos_state.specs.Fits.{FitsTrap, comes_to, returns}
use Rattle.libos_state.specs.Turned.{FitsTrapped}
use Rattle.libos_state.proofs.Rows.{Stands}
use Rattle.libos_state.proofs.Naming.{Trapped, trapped, caller_of-trapped}
use Rattle.libos_state.proofs.Bases.{description_of-base}
use Rattle.libos_state.proofs.Serving.{returns-call, result_fits}

module _ (os : LibOs) (v : Visible) (u : Upcall) (up : os.boot ≡ Up) (fits : FitsTrapped os v.objects u) where
  abbrev m : Mono
  m = base os v

  abbrev who : Caller
  who = caller_of os u

  pub home : Trapped os v.objects u
  home = trapped os v.objects u [] None fits.records fits.objects fits.home fits.recorded

  pub trap_at : (cont : Option Cont) (stage : Stage) → comes_to os u stage ≡ true → FitsTrap (record os { cont = cont }) v.objects u stage
  trap_at cont stage comes = record { up = up; first = fits.first; current = fits.current; home = fits.home; comes = comes }

  -- a result that is known at once
  pub result_stands : (result : ℕ) → returns os u ≡ true → Stands (result_of os u result) v (leads_to (silently (finished m who result)))
  result_stands result goes = record {
    fits = result_fits os v.objects (entered_with u) result fits.records fits.objects (trap_at (result_of os u result).cont SetContext goes);
    means = refl;
  }

  -- a call that isn't an exit goes on behind itself
  pub call_returns : (u.cause == 8) ≡ true → is_exit (register u.context 17) ≡ false → returns os u ≡ true
  call_returns call other = returns-call os u call other fits.recorded

  -- what a descriptor names
  pub seen_behind : (fd : ℕ) → description_of m who.process fd ≡ option_map (description_seen v.objects.live) (description_behind os u.process fd)
  seen_behind fd =
      ap (λ (x : Caller). description_of m x.process fd) (caller_of-trapped os v.objects u home)
      ∙ description_of-base os v u.process fd home.links.process fits.records (ap (λ h. process_with h os.processes) home.process ∙ home.links.behind)
