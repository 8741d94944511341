-- An open description is placed: the records of the others stay.
use Rattle.std.specs.Prelude.{◌≡◌, ℕ, ◌+◌, ◌<◌, List, ◌++◌, length, map, take, drop}
use Rattle.std.proofs.Common.{ap, ◌∙◌, get_or, set, eq-eqb, ne_eqb}
use Rattle.std.proofs.lemmas.List.{get_or_default}
use Rattle.std.proofs.lemmas.List.Edits.{map_over_more}
use Rattle.libos_state.specs.declared.notes.Description.{Description}
use Rattle.libos_state.specs.Descriptors.{note_at}

module _ (id position : ℕ) where
  here : (x : Description) → x.id ≡ id → record x { position = position } ≡ note_at id position x
  here x is = rw (eq-eqb x.id id is)

  other : (x : Description) → (x.id ≡ id → ⊥) → x ≡ note_at id position x
  other x isnt = rw (ne_eqb x.id id isnt)

  module _ (xs ys : List Description) (i : ℕ) (d : Description) (more : i < length xs) (within : i < length ys) (so_far : ys ≡ map (note_at id position) (take i xs) ++ drop i xs) where
    abbrev x : Description
    x = get_or ys i d

    next : set ys i (note_at id position x) ≡ map (note_at id position) (take (i + 1) xs) ++ drop (i + 1) xs
    next = map_over_more (note_at id position) xs ys i x more so_far (get_or_default ys i d x within)

    pub placed_here : x.id ≡ id → set ys i (record x { position = position }) ≡ map (note_at id position) (take (i + 1) xs) ++ drop (i + 1) xs
    placed_here is = ap (set ys i) (here x is) ∙ next

    pub placed_other : (x.id ≡ id → ⊥) → set ys i x ≡ map (note_at id position) (take (i + 1) xs) ++ drop (i + 1) xs
    placed_other isnt = ap (set ys i) (other x isnt) ∙ next
