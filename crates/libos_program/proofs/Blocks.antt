-- The steps of the loops that make the argument block.
use Rattle.std.specs.Prelude.{◌≡◌, ℕ, ◌+◌, ◌≤◌, ◌<◌, true, nat_le, List, [], ◌∷◌, ◌++◌, length, take, drop, sum_by}
use Rattle.std.specs.List.{list_all, flat_map}
use Rattle.std.specs.Int.{to_le_bytes, w64}
use Rattle.std.proofs.Common.{get_or, refl, ap, sym, ◌∙◌, arith, leb-true, append_assoc}
use Rattle.std.proofs.lemmas.List.{drop_more, at_drop_more}
use Rattle.std.proofs.lemmas.List.Sums.{sum_by_more, sum_by_more_le, sum_by-drop_more}
use Rattle.std.proofs.lemmas.List.Concat.{flat_map-cons}
use Rattle.mono_model.proofs.Sizes.{texts_small}
use Rattle.mono_model.specs.Starting.{block_size, pointers}

-- The block of up to 16 arguments of up to 80 bytes.
pub block_size_small : (args : List (List ℕ)) → length args ≤ 16 → list_all (λ arg. nat_le (length arg) 80) args ≡ true → block_size args ≤ 1448
block_size_small args few small = omega (arith, texts_small args small)

-- One more argument's size.
pub text_sizes_more : (args : List (List ℕ)) (i : ℕ) (d : List ℕ) → i < length args → sum_by (λ arg. length arg + 1) (take (i + 1) args) ≡ sum_by (λ arg. length arg + 1) (take i args) + (length (get_or args i d) + 1)
text_sizes_more args i d within = sum_by_more (λ arg. length arg + 1) args i d within

pub text_sizes_more_le : (args : List (List ℕ)) (i : ℕ) (d : List ℕ) → i < length args → sum_by (λ arg. length arg + 1) (take i args) + (length (get_or args i d) + 1) ≤ sum_by (λ arg. length arg + 1) args
text_sizes_more_le args i d within = sum_by_more_le (λ arg. length arg + 1) args i d within

-- One argument fewer to be pointed to.
pub text_sizes-drop_more : (args : List (List ℕ)) (i : ℕ) (d : List ℕ) → i < length args → sum_by (λ arg. length arg + 1) (drop i args) ≡ length (get_or args i d) + 1 + sum_by (λ arg. length arg + 1) (drop (i + 1) args)
text_sizes-drop_more args i d within = sum_by-drop_more (λ arg. length arg + 1) args i d within

pub pointers-drop_more : (at : ℕ) (args : List (List ℕ)) (i : ℕ) (d : List ℕ) → i < length args → pointers at (drop i args) ≡ to_le_bytes w64 at ++ pointers (at + length (get_or args i d) + 1) (drop (i + 1) args)
pointers-drop_more at args i d within = at_drop_more (pointers at) args i d within

pub texts-drop_more : (args : List (List ℕ)) (i : ℕ) (d : List ℕ) → i < length args → flat_map (λ arg. arg ++ 0 ∷ []) (drop i args) ≡ (get_or args i d ++ 0 ∷ []) ++ flat_map (λ arg. arg ++ 0 ∷ []) (drop (i + 1) args)
texts-drop_more args i d within = at_drop_more (flat_map (λ arg. arg ++ 0 ∷ [])) args i d within ∙ flat_map-cons (λ arg. arg ++ 0 ∷ []) (get_or args i d) (drop (i + 1) args)

pub ruleset block_steps = (block_size_small, text_sizes_more, text_sizes_more_le, text_sizes-drop_more, pointers-drop_more, texts-drop_more, append_assoc)
