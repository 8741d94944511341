-- What the code goes by that lists ids once each: the next id is another one, or stands there already.
use Rattle.std.specs.Prelude.{◌≡◌, ℕ, ◌+◌, ◌<◌, true, false, if◌then◌else◌, List, [], ◌∷◌, ◌++◌, take, length, slice_index}
use Rattle.std.proofs.Common.{sym, ap, ◌∙◌}
use Rattle.std.proofs.lemmas.List.{take_more}
use Rattle.turn_sched.specs.Lists.{contains}
use Rattle.libos_state.specs.Entered.{each_once}
use Rattle.libos_state.proofs.OpenedAlone.{contains-each_once, each_once-push}

module _ (ids once : List ℕ) (i : ℕ) (more : i < length ids) (so_far : once ≡ each_once (take i ids)) where
  abbrev id : ℕ
  id = slice_index ids i

  next : each_once (take (i + 1) ids) ≡ (if contains once id then once else once ++ id ∷ [])
  next =
      ap each_once (take_more ids i 0 more) ∙ each_once-push (take i ids) id
      ∙ ap (λ b. if b then each_once (take i ids) else each_once (take i ids) ++ id ∷ []) (sym (contains-each_once (take i ids) id))
      ∙ ap (λ xs. if contains xs id then xs else xs ++ id ∷ []) (sym so_far)

  pub each_once-take_kept : contains once id ≡ true → once ≡ each_once (take (i + 1) ids)
  each_once-take_kept there = sym (next ∙ ap (λ b. if b then once else once ++ id ∷ []) there)

  pub each_once-take_pushed : contains once id ≡ false → once ++ id ∷ [] ≡ each_once (take (i + 1) ids)
  each_once-take_pushed new = sym (next ∙ ap (λ b. if b then once else once ++ id ∷ []) new)
