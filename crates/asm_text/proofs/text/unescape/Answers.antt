use Rattle.std.proofs.lemmas.Bool.{ne_eqb}
use Rattle.asm_text.proofs.TextLists.{unquoted-plain}
use Rattle.asm_text.proofs.text.unescape.Goals as goal

pub returns-then-first-ne92-clause-byte : goal.returns-then-first-ne92-clause-byte
returns-then-first-ne92-clause-byte c =
    unquoted-plain c.args.first c.args.rest.now (ne_eqb c.args.first 34 c.requires) (ne_eqb c.args.first 92 c.if-first-ne92.true)
