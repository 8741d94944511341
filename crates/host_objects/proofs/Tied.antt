-- Numbers that name something in a map stay live.
use Rattle.std.specs.Prelude.{◌≡◌, ℕ, Bool, true, false, ◌==◌, ◌||◌, ◌&&◌, not, is_some, IsSome}
use Rattle.std.specs.Ordering.{nat_cmp}
use Rattle.std.specs.FinMap.{FinMap, get, insert, remove, empty}
use Rattle.std.specs.declared.option.Option.{Option}
use Rattle.std.specs.declared.option.Option.TheVariants.{None, Some}
use Rattle.std.proofs.Common.{refl, sym, ap, ◌∙◌, cond, eqb-true}
use Rattle.bas_items.proofs.NumberMaps.{get-empty, get-insert, get-remove}
use Rattle.host_objects.specs.Numbers.{Gives, TakesBack}
use Rattle.host_objects.specs.Handles.{Ties, Adds}

module _ {V : Type 0} where
  pub ties_new : (live : ℕ → Bool) (m : FinMap nat_cmp V) → m ≡ empty → Ties live m
  ties_new live m e = record { at = λ q some. absurd (let none : is_some (get m q) ≡ false = ap (λ n. is_some (get n q)) e ∙ ap is_some (get-empty q) in cc) }

  added_at : (b : Bool) (v : V) (x : Option V) (live : Bool) → (is_some x ≡ true → live ≡ true) → is_some (cond b (Some v) x) ≡ true → (b || live) ≡ true
  added_at true v x live old some = refl
  added_at false v x live old some = old some

  left_at : (b : Bool) (x : Option V) (live : Bool) → (is_some x ≡ true → live ≡ true) → is_some (cond b None x) ≡ true → (not b && live) ≡ true
  left_at true x live old some = absurd (cc)
  left_at false x live old some = old some

  set_at : (b : Bool) (v : V) (x : Option V) (live : Bool) → (b ≡ true → live ≡ true) → (is_some x ≡ true → live ≡ true) → is_some (cond b (Some v) x) ≡ true → live ≡ true
  set_at true v x live here old some = here refl
  set_at false v x live here old some = old some

  pub ties_add : (live live' : ℕ → Bool) (m m' : FinMap nat_cmp V) (n : ℕ) (v : V) → Ties live m → Gives live live' n → m' ≡ insert m n v → Ties live' m'
  ties_add live live' m m' n v ties gives e = record {
    at = λ q some. gives.now q ∙ added_at (q == n) v (get m q) (live q) (ties.at q) (sym (ap (λ k. is_some (get k q)) e ∙ ap is_some (get-insert m n v q)) ∙ some);
  }

  pub ties_end : (live live' : ℕ → Bool) (m m' : FinMap nat_cmp V) (n : ℕ) → Ties live m → TakesBack live n live' → m' ≡ remove m n → Ties live' m'
  ties_end live live' m m' n ties back e = record {
    at = λ q some. back.now q ∙ left_at (q == n) (get m q) (live q) (ties.at q) (sym (ap (λ k. is_some (get k q)) e ∙ ap is_some (get-remove m n q)) ∙ some);
  }

  pub ties_set : (live : ℕ → Bool) (m m' : FinMap nat_cmp V) (n : ℕ) (v : V) → Ties live m → IsSome (get m n) → m' ≡ insert m n v → Ties live m'
  ties_set live m m' n v ties there e = record {
    at = λ q some. set_at (q == n) v (get m q) (live q) (λ same. ap live (eqb-true q n same) ∙ ties.at n there) (ties.at q)
        (sym (ap (λ k. is_some (get k q)) e ∙ ap is_some (get-insert m n v q)) ∙ some);
  }

  free_at : (x : Option V) (live : Bool) → (is_some x ≡ true → live ≡ true) → live ≡ false → x ≡ None
  free_at None live old dead = refl
  free_at (Some v) live old dead = absurd (let is = old refl in cc)

  pub adds : (live live' : ℕ → Bool) (m m' : FinMap nat_cmp V) (n : ℕ) (v : V) → Ties live m → Gives live live' n → m' ≡ insert m n v → Adds m v m' n
  adds live live' m m' n v ties gives e = record { positive = gives.positive; free = free_at (get m n) (live n) (ties.at n) gives.free; now = e }
