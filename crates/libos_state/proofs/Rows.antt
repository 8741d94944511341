-- From a row of the host's calls to what a stage owes.
use Rattle.std.specs.Prelude.{◌≡◌, ℕ}
use Rattle.std.proofs.Common.{refl, ap, sym, subst, ◌∙◌}
use Rattle.abi_calls.specs.declared.call.Call.{Call}
use Rattle.abi_calls.specs.declared.reply.Reply.{Reply}
use Rattle.abi_calls.specs.declared.reply.Reply.TheVariants.{Handle}
use Rattle.abi_calls.specs.Objects.{Objects, IsFresh}
use Rattle.abi_calls.specs.Abi.{IsFreeChoice}
use Rattle.libos_state.specs.declared.cont.Cont.{Cont}
use Rattle.libos_state.specs.declared.cont.Stage.{Stage}
use Rattle.libos_state.specs.declared.state.LibOs.{LibOs}
use Rattle.libos_state.specs.Records.{View, Visible, visible, with_visible}
use Rattle.libos_state.specs.Answered.{answered_at}
use Rattle.libos_state.specs.Meaning.{Meaning, meaning, meant_at}
use Rattle.libos_state.specs.Fits.{Fits}
use Rattle.libos_state.proofs.Holds.{Holds, HoldsQuietly, Keeps-silent}
use Rattle.libos_state.proofs.Views.{world, Answer, AnswersAs, answer, with_objects}

-- Where the row is known, a stage owes only what it owes after this row.
pub holds_by : (os : LibOs) (c : Cont) (stage : Stage) {call : Call} (w w' : View) (r : Reply)
    (x : Answer) → AnswersAs w call r w' → answer w call r ≡ x
    → Holds os c stage w x.0 x.1 → Holds os c stage w r w'
holds_by os c stage w w' r x abi row holds =
    subst (λ (y : Answer). Holds os c stage w y.0 y.1) (sym row ∙ abi.row) holds

-- The library OS fits a world, and the two stand for this.
pub record Stands (os : LibOs) (v : Visible) (m : Meaning) : Type 0 where
  pub fits : Fits os v.objects
  pub means : meaning os v ≡ m

-- Where the row changes the objects alone, the answered library OS is to stand for what the stage
-- stood for.
pub by_row : (os : LibOs) (c : Cont) (stage : Stage) {call : Call} (w w' : View) (r reply : Reply)
    (o : Objects) → AnswersAs w call r w' → answer w call r ≡ (reply, with_objects w o)
    → Stands (answered_at os c stage reply) (with_visible (visible w) o)
    (meant_at os (visible w) c stage)
    → Holds os c stage w r w'
by_row os c stage w w' r reply o abi row stands =
    holds_by os c stage w w' r (reply, with_objects w o) abi row (record {
      fits = stands.fits;
      keeps = Keeps-silent w (with_objects w o) (meant_at os (visible w) c stage)
          (meaning (answered_at os c stage reply) (with_visible (visible w) o)) refl stands.means;
    })

pub quietly_by_row : (os : LibOs) (c : Cont) (stage : Stage) {call : Call} (w w' : View)
    (r reply : Reply) (o : Objects) → AnswersAs w call r w'
    → answer w call r ≡ (reply, with_objects w o)
    → Stands (answered_at os c stage reply) (with_visible (visible w) o)
    (meant_at os (visible w) c stage)
    → HoldsQuietly os c stage w r w'
quietly_by_row os c stage w w' r reply o abi row stands = record {
  holds = by_row os c stage w w' r reply o abi row stands;
  quiet = ap (λ (x : Answer). x.1.contents) (sym abi.row ∙ row);
}

-- A handle that is given is fresh.
pub fresh_handle : (w w' : View) (call : Call) (r : Reply) (h : ℕ) (made : View)
    → AnswersAs w call r w' → answer w call r ≡ (Handle h, made) → IsFresh w.objects h
fresh_handle w w' call r h made abi row =
    let is : Handle h ≡ r = ap (λ (x : Answer). x.0) (sym row ∙ abi.row) in
    subst (IsFreeChoice (world w) call) (sym is) abi.choice
