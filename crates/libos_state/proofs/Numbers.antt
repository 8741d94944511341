-- Lists of numbers, from a place on.
use Rattle.std.specs.Prelude.{◌≡◌, ℕ, ◌+◌, ◌<◌, not, ◌&&◌, List, length, drop, slice_index}
use Rattle.std.proofs.lemmas.List.{at_drop_more}
use Rattle.turn_sched.specs.Lists.{contains}
use Rattle.libos_state.specs.Fits.{are_distinct}

pub are_distinct_drop : (xs : List ℕ) (k : ℕ) → k < length xs
    → are_distinct (drop k xs) ≡ (not (contains (drop (k + 1) xs) (slice_index xs k)) && are_distinct (drop (k + 1) xs))
are_distinct_drop xs k within = at_drop_more are_distinct xs k 0 within
