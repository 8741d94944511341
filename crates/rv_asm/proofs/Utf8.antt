-- Whether bytes are UTF-8, by an answer that says which.
use Rattle.std.proofs.Common.{Result, Ok, Err, MatchResult, is_ok, refl}
use Rattle.std.specs.Bool.{Decides}

pub is_ok-Decides : {T E : Type 0} (P : Type 0) (A : T → Type 0) (B : E → Type 0) (r : Result T E)
    → MatchResult r (λ s. A s × P) (λ e. (¬ P) × B e) → Decides (is_ok r) P
is_ok-Decides P A B (Ok s) h = (λ _. h.1, λ _. refl)
is_ok-Decides P A B (Err e) h = (λ never. cc, λ p. absurd (h.0 p))
