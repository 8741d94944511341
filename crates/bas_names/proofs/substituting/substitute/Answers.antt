use Rattle.std.proofs.Common.{◌≡◌, [], Some, sym, ap, ◌∙◌, arith, rules}
use Rattle.bas_names.proofs.RuleLists.{Passes-is, sub-one_denied, sub-one_long, sub-one_empty, sub-one_named}
use Rattle.bas_names.proofs.substituting.substitute.Goals as goal

pub returns-in_default-clause-exact : goal.returns-in_default-clause-exact
returns-in_default-clause-exact c = sub-one_denied _ _ (sym c.in_default.is ∙ c.in_ok-new.ensures)

pub returns-in_default-clause-first_match : goal.returns-in_default-clause-first_match
returns-in_default-clause-first_match c = Passes-is _ _ _ (sym c.in_default.is ∙ c.in_ok-new.ensures)

pub returns-then-len-gt-LONGEST_NAME-clause-exact : goal.returns-then-len-gt-LONGEST_NAME-clause-exact
returns-then-len-gt-LONGEST_NAME-clause-exact c =
    sub-one_long _ _ c.in-Some.new (sym c.in-Some.is ∙ c.in_ok-new.ensures) (omega arith)

pub returns-then-len-gt-LONGEST_NAME-clause-too_long : goal.returns-then-len-gt-LONGEST_NAME-clause-too_long
returns-then-len-gt-LONGEST_NAME-clause-too_long c =
    λ _. (c.in-Some.new, Passes-is _ _ _ (sym c.in-Some.is ∙ c.in_ok-new.ensures), omega arith)

pub returns-then-is_empty-clause-exact : goal.returns-then-is_empty-clause-exact
returns-then-is_empty-clause-exact c =
    sub-one_empty _ _ c.in-Some.new (sym c.in-Some.is ∙ c.in_ok-new.ensures) (search rules)

pub returns-then-is_empty-clause-empty : goal.returns-then-is_empty-clause-empty
returns-then-is_empty-clause-empty c =
    let empty : c.in-Some.new ≡ [] = search rules in
    λ _. Passes-is _ _ _ (ap (λ n. Some n) (sym empty) ∙ (sym c.in-Some.is ∙ c.in_ok-new.ensures))

pub returns-clause-exact : goal.returns-clause-exact
returns-clause-exact c =
    sub-one_named _ _ c.in-Some.new (sym c.in-Some.is ∙ c.in_ok-new.ensures) (omega arith) (search rules)

pub returns-clause-first_match : goal.returns-clause-first_match
returns-clause-first_match c = Passes-is _ _ _ (sym c.in-Some.is ∙ c.in_ok-new.ensures)
