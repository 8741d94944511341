-- What a stage owes: from any world that the library OS fits at this stage, the reply leaves a
-- library OS that fits the new world, and what the stage stood for is what these stand for, behind
-- what was written.
use Rattle.std.specs.Prelude.{◌≡◌, []}
use Rattle.std.proofs.Common.{ap, sym, ◌∙◌, inl, append-nil}
use Rattle.abi_calls.specs.declared.reply.Reply.{Reply}
use Rattle.mono_model.specs.Written.{nothing}
use Rattle.libos_state.specs.declared.cont.Cont.{Cont}
use Rattle.libos_state.specs.declared.cont.Stage.{Stage}
use Rattle.libos_state.specs.declared.state.LibOs.{LibOs}
use Rattle.libos_state.specs.Records.{View, visible}
use Rattle.libos_state.specs.Answered.{answered_at}
use Rattle.libos_state.specs.Meaning.{Meaning, meaning, meant_at}
use Rattle.libos_state.specs.Fits.{Fits}
use Rattle.libos_state.specs.Laws.{Keeps}

pub record Holds (os : LibOs) (c : Cont) (stage : Stage) (w : View) (r : Reply) (w' : View)
    : Type 0 where
  pub fits : Fits (answered_at os c stage r) w'.objects
  pub keeps : Keeps w (meant_at os (visible w) c stage) w'
      (meaning (answered_at os c stage r) (visible w'))

-- Where the contents stay, what is stood for is the same.
pub Keeps-silent : (w w' : View) (old new : Meaning) → w'.contents ≡ w.contents → new ≡ old
    → Keeps w old w' new
Keeps-silent w w' old new same means = record {
  written = nothing;
  output = ap (λ x. x.output) same ∙ sym (append-nil w.contents.output);
  errors = ap (λ x. x.errors) same ∙ sym (append-nil w.contents.errors);
  input = record { taken = []; is = sym (ap (λ x. x.input) same) };
  files = inl (ap (λ x. x.files) same);
  same = sym means;
}

-- What a stage of a start owes: the contents stay besides.
pub record HoldsQuietly (os : LibOs) (c : Cont) (stage : Stage) (w : View) (r : Reply) (w' : View)
    : Type 0 where
  pub holds : Holds os c stage w r w'
  pub quiet : w'.contents ≡ w.contents
