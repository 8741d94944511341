-- Numbers for objects: which are live, and what changes when one is given or taken back.
use Rattle.std.specs.Prelude.{◌≡◌, ℕ, ◌+◌, ◌-◌, ◌^◌, ◌<◌, ◌≤◌, ◌==◌, Bool, true, false, ◌||◌, ◌&&◌, not}

-- A number of at least 1 that wasn't live becomes live, and no other changes.
pub record Gives (old new : ℕ → Bool) (number : ℕ) : Type 0 where
  pub positive : 1 ≤ number
  pub free : old number ≡ false
  pub now : (q : ℕ) → new q ≡ (q == number || old q)

-- A number is no longer live, and no other changes.
pub record TakesBack (old : ℕ → Bool) (number : ℕ) (new : ℕ → Bool) : Type 0 where
  pub now : (q : ℕ) → new q ≡ (not (q == number) && old q)

-- No number changes.
pub record StaysLive (old new : ℕ → Bool) : Type 0 where
  pub same : (q : ℕ) → new q ≡ old q

-- No number is live.
pub record IsUnused (live : ℕ → Bool) : Type 0 where
  pub none : (q : ℕ) → live q ≡ false

-- The number after the last one, or once the greatest was given the least that isn't live.
pub record Counts (last : ℕ) (old : ℕ → Bool) (number last' : ℕ) : Type 0 where
  pub next : last < 2 ^ 64 - 1 → number ≡ last + 1
  pub last_is : last < 2 ^ 64 - 1 → last' ≡ number
  pub least : last ≡ 2 ^ 64 - 1 → (q : ℕ) → 1 ≤ q → q < number → old q ≡ true
  pub stays : last ≡ 2 ^ 64 - 1 → last' ≡ last

-- Numbers past the last one, and 0, aren't live.
pub record IsBounded (last : ℕ) (live : ℕ → Bool) : Type 0 where
  pub positive : live 0 ≡ false
  pub above : (q : ℕ) → last < q → live q ≡ false

-- The least number of at least 1 that isn't live.
pub record IsLeastFree (live : ℕ → Bool) (number : ℕ) : Type 0 where
  pub positive : 1 ≤ number
  pub free : live number ≡ false
  pub below : (q : ℕ) → 1 ≤ q → q < number → live q ≡ true
