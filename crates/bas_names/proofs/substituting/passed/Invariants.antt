use Rattle.std.proofs.Common.{◌≡◌, drop}
use Rattle.bas_names.specs.Names.{passed}
use Rattle.bas_names.proofs.substituting.passed.Given as goal

-- what is left of the list says what the whole says
abbrev pub invariant-loop-rule : goal.invariant-loop-rule
invariant-loop-rule l = passed (drop l.rule-index l.rules) l.name ≡ passed l.rules l.name
