use Rattle.bas_outcomes.proofs.Giving.{gives_part, on_err}
use Rattle.bas_outcomes.proofs.note.give_all.Goals as goal

-- The give that failed added nothing.
pub returns-in_err-given-clause-part : goal.returns-in_err-given-clause-part
returns-in_err-given-clause-part g c = on_err _ _ (gives_part c.loop-rest.invariant c.in_err-given.ensures.same)
