-- Worked examples of names that pass through lists, which compute.
use Rattle.std.proofs.Common.{◌≡◌, [], ◌∷◌, refl, Some, None, codes}
use Rattle.bas_names.specs.declared.Rule.{Rule}
use Rattle.bas_names.specs.Names.{Named, Denied, sub, sub_from}

a_to_b : Rule
a_to_b = record { from = codes "/a"; to = Some (codes "/b") }

b_to_c : Rule
b_to_c = record { from = codes "/b"; to = Some (codes "/c") }

no_c : Rule
no_c = record { from = codes "/c"; to = None }

-- the top list first
in_turn : sub ((a_to_b ∷ []) ∷ (b_to_c ∷ []) ∷ []) (codes "/a/x") ≡ Named (codes "/c/x")
unfolding sub_from a_to_b b_to_c
in_turn = refl

in_the_other_order : sub ((b_to_c ∷ []) ∷ (a_to_b ∷ []) ∷ []) (codes "/a/x") ≡ Named (codes "/b/x")
unfolding sub_from a_to_b b_to_c
in_the_other_order = refl

-- one rule of a list, not one after another
one_rule_counts : sub ((a_to_b ∷ b_to_c ∷ []) ∷ []) (codes "/a/x") ≡ Named (codes "/b/x")
unfolding sub_from a_to_b b_to_c
one_rule_counts = refl

denied_below : sub ((b_to_c ∷ []) ∷ (no_c ∷ []) ∷ []) (codes "/b") ≡ Denied 2
unfolding sub_from b_to_c no_c
denied_below = refl
