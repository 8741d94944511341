-- The step of a service whose library OS was without it meanwhile.
use Rattle.std.specs.Prelude.{◌≡◌, ℕ, Bool, true, false, if◌then◌else◌}
use Rattle.std.specs.declared.option.Option.{Option}
use Rattle.std.specs.declared.option.Option.TheVariants.{None, Some}
use Rattle.std.proofs.Common.{refl, ap, ◌∙◌}
use Rattle.mono_model.specs.Calls.{advanced}
use Rattle.libos_state.specs.declared.notes.Description.{Description}
use Rattle.libos_state.specs.declared.state.LibOs.{LibOs}
use Rattle.libos_state.specs.declared.step.Change.{Change}
use Rattle.libos_state.specs.declared.step.Change.TheVariants.{Same, PutsPosition, MovesPosition, MovesBreak, Begins, Closes, Replaces}
use Rattle.libos_state.specs.declared.step.Step.{Step}
use Rattle.libos_state.specs.declared.step.Step.TheVariants.{Asks, GivesBreak, Sends, Ends, Stops}
use Rattle.libos_state.specs.Records.{description_behind, is_file}
use Rattle.libos_state.specs.Descriptors.{with_position, positioned, moved_over}
use Rattle.libos_state.specs.Answered.{with_step, with_change}
use Rattle.libos_state.proofs.DescriptorCalls.{closes-service, replaces-service}

without_service : (os : LibOs) (step : Step) → with_step (record os { cont = None }) step ≡ with_step os step
without_service os (Asks c) = refl
without_service os (GivesBreak c) = refl
without_service os (Sends c) = refl
without_service os Ends = refl
without_service os (Stops boot) = refl

position-taken : (os : LibOs) (position : ℕ) (d : Option Description) → positioned (record os { cont = None }) position d ≡ record (positioned os position d) { cont = None }
position-taken os position None = refl
position-taken os position (Some d) = by_kind (is_file d.kind)
  where
    by_kind : (file : Bool) → (if file then with_position (record os { cont = None }) d.id position else record os { cont = None }) ≡ record (if file then with_position os d.id position else os) { cont = None }
    by_kind true = refl
    by_kind false = refl

moved-taken : (os : LibOs) (count : ℕ) (d : Option Description) → moved_over (record os { cont = None }) count d ≡ record (moved_over os count d) { cont = None }
moved-taken os count None = refl
moved-taken os count (Some d) = position-taken os (advanced d.position count) (Some d)

pub with_step-taken : (os : LibOs) (change : Change) (step : Step) →
    with_step (with_change (record os { cont = None }) change) step ≡ with_step (with_change os change) step
with_step-taken os Same (Asks c) = refl
with_step-taken os Same (GivesBreak c) = refl
with_step-taken os Same (Sends c) = refl
with_step-taken os Same Ends = refl
with_step-taken os Same (Stops boot) = refl
with_step-taken os (Closes handle) step =
    ap (λ (left : LibOs). with_step left step) (closes-service os None handle) ∙ without_service (with_change os (Closes handle)) step
with_step-taken os (Replaces handle process old new) step =
    ap (λ (left : LibOs). with_step left step) (replaces-service os None handle process old new) ∙ without_service (with_change os (Replaces handle process old new)) step
with_step-taken os (PutsPosition process fd position) step =
    ap (λ (left : LibOs). with_step left step) (position-taken os position (description_behind os process fd))
    ∙ without_service (with_change os (PutsPosition process fd position)) step
with_step-taken os (MovesPosition process fd count) step =
    ap (λ (left : LibOs). with_step left step) (moved-taken os count (description_behind os process fd))
    ∙ without_service (with_change os (MovesPosition process fd count)) step
with_step-taken os (MovesBreak process address) (Asks c) = refl
with_step-taken os (MovesBreak process address) (GivesBreak c) = refl
with_step-taken os (MovesBreak process address) (Sends c) = refl
with_step-taken os (MovesBreak process address) Ends = refl
with_step-taken os (MovesBreak process address) (Stops boot) = refl
with_step-taken os (Begins process thread descriptions) (Asks c) = refl
with_step-taken os (Begins process thread descriptions) (GivesBreak c) = refl
with_step-taken os (Begins process thread descriptions) (Sends c) = refl
with_step-taken os (Begins process thread descriptions) Ends = refl
with_step-taken os (Begins process thread descriptions) (Stops boot) = refl

pub ruleset step_rules = with_step-taken
