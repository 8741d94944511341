-- The library OS begins to serve a read: it stands for the machine that has read.
use Rattle.std.specs.Prelude.{◌≡◌, ℕ, ◌==◌, Bool, true, false, cond, not, ◌&&◌, [], bit_and}
use Rattle.std.specs.Option.{option_map}
use Rattle.std.specs.declared.option.Option.{Option}
use Rattle.std.specs.declared.option.Option.TheVariants.{None, Some}
use Rattle.std.proofs.Common.{refl, sym, ap, subst, ◌∙◌, eqb-true}
use Rattle.std.proofs.lemmas.Bool.{and_from}
use Rattle.abi_calls.specs.declared.threads.Upcall.{Upcall}
use Rattle.mono_model.specs.Machine.{Mono, register}
use Rattle.mono_model.specs.Calls.{Caller, EBADF, error, silently, finished, moved, is_exit}
use Rattle.mono_model.specs.FileCalls.{READ, readable, read, read_of, read_from}
use Rattle.libos_state.specs.declared.cont.Cont.{Cont}
use Rattle.libos_state.specs.declared.cont.Stage.TheVariants.{ReadStream}
use Rattle.libos_state.specs.declared.notes.Description.{Description}
use Rattle.libos_state.specs.declared.state.LibOs.{LibOs}
use Rattle.libos_state.specs.declared.state.Boot.TheVariants.{Up}
use Rattle.libos_state.specs.Records.{Visible, base, description_behind, description_seen}
use Rattle.libos_state.specs.Answered.{goes_on}
use Rattle.libos_state.specs.Entered.{entered_with, result_of, read_entered}
use Rattle.libos_state.specs.Meaning.{caller_of, leads_to}
use Rattle.libos_state.specs.Fits.{FitsStage, is_call, is_recorded, is_readable, reads}
use Rattle.libos_state.specs.Turned.{FitsTrapped}
use Rattle.libos_state.proofs.Rows.{Stands}
use Rattle.libos_state.proofs.Serving.{numbers_fit}
use Rattle.libos_state.proofs.EnteredTraps.{trap_at, result_stands, call_returns, seen_behind}
use Rattle.libos_state.proofs.ReadCalls.{served_read}

module _ (os : LibOs) (v : Visible) (u : Upcall) (up : os.boot ≡ Up) (fits : FitsTrapped os v.objects u) (call : (u.cause == 8) ≡ true) (number : (register u.context 17 == READ) ≡ true) where
  abbrev m : Mono
  m = base os v

  abbrev who : Caller
  who = caller_of os u

  abbrev behind : Option Description
  behind = description_behind os u.process (register u.context 10)

  abbrev reading : Cont
  reading = record (entered_with u) { stage = ReadStream }

  known_stands : (result : ℕ) → Stands (result_of os u result) v (leads_to (silently (finished m who result)))
  known_stands result = result_stands os v u up fits result (call_returns os v u up fits call (ap is_exit (eqb-true (register u.context 17) READ number)))

  -- the stream is read, where the descriptor is open for reading and some bytes are asked for
  reading_fits : (d : Description) → behind ≡ Some d → (bit_and d.access 1 == 1) ≡ true → (register u.context 12 == 0) ≡ false → FitsStage (goes_on os reading) v.objects reading ReadStream
  reading_fits d is allowed some =
      let comes = and_from (reads os u) (is_recorded os u)
      (and_from (is_call u READ) (not (register u.context 12 == 0) && is_readable behind)
      (and_from (u.cause == 8) (register u.context 17 == READ) call number)
      (and_from (not (register u.context 12 == 0)) (is_readable behind) (ap not some) (ap is_readable is ∙ allowed))) fits.recorded in
      numbers_fit os v.objects (entered_with u) ReadStream [] fits.records fits.objects (trap_at os v u up fits (Some reading) ReadStream comes) refl refl refl refl tt tt

  some_stand : (d : Description) → behind ≡ Some d → (bit_and d.access 1 == 1) ≡ true → (none : Bool) → (register u.context 12 == 0) ≡ none → Stands (cond none (result_of os u 0) (goes_on os reading)) v
      (leads_to (silently (cond none (finished m who 0) (read_from m who (description_seen v.objects.live d) (moved (register u.context 12))))))
  some_stand d is allowed true none = known_stands 0
  some_stand d is allowed false some = record {
    fits = reading_fits d is allowed some;
    means = ap leads_to (served_read m who (u.cause, u.value) (description_seen v.objects.live d) call number
        (seen_behind os v u up fits (register u.context 10) ∙ ap (option_map (description_seen v.objects.live)) is) allowed some);
  }

  -- of a descriptor that is open for reading, or not
  open_stands : (d : Description) → behind ≡ Some d → (allowed : Bool) → (bit_and d.access 1 == 1) ≡ allowed
      → Stands (cond allowed (cond (register u.context 12 == 0) (result_of os u 0) (goes_on os reading)) (result_of os u (error EBADF))) v
      (leads_to (silently (read_of m who (cond allowed (Some (description_seen v.objects.live d)) None))))
  open_stands d is true allowed = some_stand d is allowed (register u.context 12 == 0) refl
  open_stands d is false refused = known_stands (error EBADF)

  behind_stands : (x : Option Description) → behind ≡ x → Stands (read_entered os u x) v (leads_to (silently (read_of m who (readable (option_map (description_seen v.objects.live) x)))))
  behind_stands None is = known_stands (error EBADF)
  behind_stands (Some d) is = open_stands d is (bit_and d.access 1 == 1) refl

  pub read_stands : Stands (read_entered os u behind) v (leads_to (silently (read m who)))
  read_stands = subst (λ x. Stands (read_entered os u behind) v (leads_to (silently (read_of m who (readable x))))) (sym (seen_behind os v u up fits (register u.context 10)))
      (behind_stands behind refl)
