-- What each answer about a refusal says.
use Rattle.std.proofs.Common.{◌≡◌, ℕ, ◌+◌, ◌<◌, ◌≤◌, true, cond, nat_lt, nat_le, ap, ◌∙◌, Option, Some, None}
use Rattle.std.proofs.lemmas.Bool.{and_from, lt-ltb, le-leb, lt-leb}
use Rattle.std.specs.Option.{option_map, option_or}
use Rattle.std.specs.FinMap.{len}
use Rattle.guest_space.specs.Space.{Space}
use Rattle.guest_space.specs.Run.{is_run, first_held}
use Rattle.guest_memory.specs.declared.error.PageError.{PageError}
use Rattle.guest_memory.specs.declared.error.PageError.TheVariants.{Overlap, Range, Full}
use Rattle.guest_memory.specs.Refusals.{allocate_refusal}

unheld : (s : Space) (page count rights : ℕ) → is_run page count ≡ true → rights < 8 → first_held s page count ≡ None → allocate_refusal s page count rights ≡ cond (nat_le (len s + count) 1024) None (Some Full)
unheld s page count rights run below none =
    ap (λ b. cond b (option_or (option_map Overlap (first_held s page count)) (cond (nat_le (len s + count) 1024) None (Some Full))) (Some Range)) (and_from (is_run page count) (nat_lt rights 8) run (lt-ltb rights 8 below))
    ∙ ap (λ o. option_or (option_map Overlap o) (cond (nat_le (len s + count) 1024) None (Some Full))) none

pub allocate_refusal-none : (s : Space) (page count rights : ℕ) → is_run page count ≡ true → rights < 8 → first_held s page count ≡ None → len s + count ≤ 1024 → allocate_refusal s page count rights ≡ None
allocate_refusal-none s page count rights run below none room =
    unheld s page count rights run below none ∙ ap (λ b. cond {A = Option PageError} b None (Some Full)) (le-leb (len s + count) 1024 room)

pub allocate_refusal-full : (s : Space) (page count rights : ℕ) → is_run page count ≡ true → rights < 8 → first_held s page count ≡ None → 1024 < len s + count → allocate_refusal s page count rights ≡ Some Full
allocate_refusal-full s page count rights run below none full =
    unheld s page count rights run below none ∙ ap (λ b. cond {A = Option PageError} b None (Some Full)) (lt-leb (len s + count) 1024 full)
