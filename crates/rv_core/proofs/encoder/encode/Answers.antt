-- The word of an instruction decodes to it.
use Rattle.std.proofs.Common.{◌≡◌, sym, subst, Some, IfSome}
use Rattle.rv_core.specs.Listing.{decoded}
use Rattle.rv_core.specs.Encoding.{encoded}
use Rattle.rv_core.proofs.Spelled.{decoded-encoded}
use Rattle.rv_core.proofs.encoder.encode.Goals as goal

pub returns-clause-inverse : goal.returns-clause-inverse
unfolding encoded
returns-clause-inverse c =
    subst (λ r. IfSome r (λ word. decoded word ≡ Some c.args.instr.now)) (sym c.encode_by_layout.ensures) (decoded-encoded c.args.instr.now)
