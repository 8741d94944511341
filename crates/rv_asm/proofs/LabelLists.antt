-- A definition that is added where there was none.
use Rattle.std.proofs.Common.{◌≡◌, Bool, true, false, cond, List, ℕ, Option, Some, None, refl, sym, ap, ◌∙◌}
use Rattle.std.specs.Str.{bytes_eq}
use Rattle.std.proofs.lemmas.Slice.Eq.{bytes_eq-Decides}
use Rattle.rv_asm.specs.Labels.{otherwise}

pub otherwise-none : {A : Type 0} (o : Option A) → otherwise o None ≡ o
otherwise-none None = refl
otherwise-none (Some a) = refl

cond-absent : {A : Type 0} (o w : Option A) (b : Bool) → (b ≡ true → o ≡ None) → cond b w o ≡ otherwise o (cond b w None)
cond-absent o w true absent = rw (absent refl) refl
cond-absent o w false absent = sym (otherwise-none o)

pub update-absent : {A : Type 0} (find : List ℕ → Option A) (name : List ℕ) (w : Option A) (other : List ℕ) → find name ≡ None
    → cond (bytes_eq name other) w (find other) ≡ otherwise (find other) (cond (bytes_eq name other) w None)
update-absent find name w other absent =
    cond-absent (find other) w (bytes_eq name other) (λ same. sym (ap find ((bytes_eq-Decides name other).0 same)) ∙ absent)

pub otherwise-assoc : {A : Type 0} (o p q : Option A) → otherwise (otherwise o p) q ≡ otherwise o (otherwise p q)
otherwise-assoc None p q = refl
otherwise-assoc (Some a) p q = refl
