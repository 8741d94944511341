-- The descriptor in a0 of a trap names a file that is put to a position: what the records and the machine then are.
use Rattle.std.specs.Prelude.{◌≡◌, ℕ, true, false, cond, List}
use Rattle.std.specs.declared.option.Option.{Option}
use Rattle.std.specs.declared.option.Option.TheVariants.{Some}
use Rattle.std.proofs.Common.{sym, ap, ◌∙◌}
use Rattle.abi_calls.specs.declared.threads.Upcall.{Upcall}
use Rattle.mono_model.specs.Machine.{register}
use Rattle.mono_model.specs.Calls.{advanced, positioned, positioned_by}
use Rattle.libos_state.specs.declared.notes.Description.{Description}
use Rattle.libos_state.specs.declared.state.LibOs.{LibOs}
use Rattle.libos_state.specs.Records.{Visible, base, is_file, description_behind}
use Rattle.libos_state.specs.Descriptors as records
use Rattle.libos_state.specs.Descriptors.{with_position, moved_over}
use Rattle.libos_state.specs.Meaning.{caller_of}
use Rattle.libos_state.specs.Named.{Named}
use Rattle.libos_state.specs.Fits.{FitsRecords, FitsObjects}
use Rattle.libos_state.proofs.Naming.{Trapped}
use Rattle.libos_state.proofs.OpenStreams.{description_there, id_there}
use Rattle.libos_state.proofs.Positions.{base-with_position}

module _ (os : LibOs) (v : Visible) (u : Upcall) (kept : List Named) (ending : Option ℕ) (records : FitsRecords os) (objects : FitsObjects os v.objects kept ending)
    (home : Trapped os v.objects u) (d : Description) (behind : description_behind os u.process (register u.context 10) ≡ Some d) where
  -- the machine has it there
  pub base-placed : (position : ℕ) → base (with_position os d.id position) v ≡ positioned (base os v) (caller_of os u) position
  base-placed position =
      base-with_position os d.id position v d (description_there os v u kept ending records objects home d behind)
      ∙ sym (ap (positioned_by (base os v) position) (id_there os v u kept ending records objects home d behind))

-- what the records change is that, where it is a file, and else nothing
module _ (os : LibOs) (u : Upcall) (d : Description) (behind : description_behind os u.process (register u.context 10) ≡ Some d) where
  pub placed-file : is_file d.kind ≡ true → (position : ℕ) → records.positioned os position (description_behind os u.process (register u.context 10)) ≡ with_position os d.id position
  placed-file file position = ap (records.positioned os position) behind ∙ ap (λ b. cond b (with_position os d.id position) os) file

  pub placed-console : is_file d.kind ≡ false → (position : ℕ) → records.positioned os position (description_behind os u.process (register u.context 10)) ≡ os
  placed-console console position = ap (records.positioned os position) behind ∙ ap (λ b. cond b (with_position os d.id position) os) console

  pub moved-file : is_file d.kind ≡ true → (count : ℕ) → moved_over os count (description_behind os u.process (register u.context 10)) ≡ with_position os d.id (advanced d.position count)
  moved-file file count = ap (moved_over os count) behind ∙ ap (λ b. cond b (with_position os d.id (advanced d.position count)) os) file

  pub moved-console : is_file d.kind ≡ false → (count : ℕ) → moved_over os count (description_behind os u.process (register u.context 10)) ≡ os
  moved-console console count = ap (moved_over os count) behind ∙ ap (λ b. cond b (with_position os d.id (advanced d.position count)) os) console
