use Rattle.bas_fields.proofs.Spellings.{Spells-number, Spells-text}
use Rattle.bas_fields.proofs.laws.one_spelling.Goals as goal

pub returns-clause-one_text : goal.returns-clause-one_text
returns-clause-one_text c = Spells-text

pub returns-clause-one_number : goal.returns-clause-one_number
returns-clause-one_number c = Spells-number
