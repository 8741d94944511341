-- Runs that no process may have, and the pages of a space.
use Rattle.std.proofs.Common.{◌≡◌, ℕ, ◌+◌, ◌-◌, ◌^◌, ◌<◌, ◌≤◌, true, false, cond, refl, sym, ap, ◌∙◌, arith, ◌⊎◌, inl, inr, Option, Some, None}
use Rattle.std.proofs.lemmas.Bool.{cases_lt, cases_eq, true≢false}
use Rattle.std.proofs.lemmas.Bool.Decides.{nat_tests}
use Rattle.std.proofs.lemmas.Option.{none-some}
use Rattle.std.specs.Option.{is_some}
use Rattle.std.specs.FinMap.{get}
use Rattle.guest_space.specs.Space.{Space, Frame, IsSpace}
use Rattle.guest_space.specs.Run.{is_run, first_missing, if_held, if_missing}
use Rattle.guest_space.proofs.FirstSome.{first_some_none_at}

pub if_held_some : (s : Space) (q : ℕ) (frame : Frame) → get s q ≡ Some frame → if_held s q ≡ Some q
if_held_some s q frame is = ap (λ (o : Option Frame). cond (is_some o) (Some q) None) is

pub if_held_none : (s : Space) (q : ℕ) → get s q ≡ None → if_held s q ≡ None
if_held_none s q is = ap (λ (o : Option Frame). cond (is_some o) (Some q) None) is

pub if_missing_none : (s : Space) (q : ℕ) (frame : Frame) → get s q ≡ Some frame → if_missing s q ≡ None
if_missing_none s q frame is = ap (λ (o : Option Frame). cond (is_some o) None (Some q)) is

pub if_missing_some : (s : Space) (q : ℕ) → get s q ≡ None → if_missing s q ≡ Some q
if_missing_some s q is = ap (λ (o : Option Frame). cond (is_some o) None (Some q)) is

-- a page that no process may have isn't there
pub get_outside : (s : Space) (q : ℕ) → IsSpace s → (q ≡ 0) ⊎ (2 ^ 26 ≤ q) → get s q ≡ None
get_outside s q sound out = absent (get s q) refl
  where
    absent : (o : Option Frame) → get s q ≡ o → get s q ≡ None
    absent None is = is
    absent (Some frame) is =
        let f = sound.frames q frame is in
        let above = f.above in
        let below = f.below in
        elim out [ inl e ↦ absurd (omega arith) | inr h ↦ absurd (omega arith) ]
