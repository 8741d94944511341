use Rattle.std.proofs.Common.{◌≡◌, IsAscii, ℕ, ◌<◌, not, refl, sym, subst, ap, ◌∙◌, arith, rules}
use Rattle.std.proofs.lemmas.Bool.{agree_below_at}
use Rattle.std.proofs.lemmas.List.Elements.{All-from_get_or, recursion_from_All}
use Rattle.percent_encoding.specs.AsciiSet.{should_percent_encode}
use Rattle.percent_encoding.specs.Percent.{percent_decode, percent_encode}
use Rattle.percent_encoding.proofs.PercentLemmas.{round_trip, IsAscii-percent_encode, IsByte}
use Rattle.bas_names.specs.declared.escaping.TheConstants.{ESCAPED}
use Rattle.bas_names.specs.Escape.{is_plain}
use Rattle.bas_names.proofs.Escapes.{encoded-is}
use Rattle.bas_names.proofs.escaping.escape.Goals as goal

agree : (b : ℕ) → b < 256 → should_percent_encode ESCAPED b ≡ not (is_plain b)
unfolding should_percent_encode
agree b small = agree_below_at (should_percent_encode ESCAPED) (λ n. not (is_plain n)) 256 b refl small

pub returns-clause-exact : goal.returns-clause-exact
returns-clause-exact c =
    let small = All-from_get_or IsByte c.args.name.now 0 (λ i within. omega (arith, c.type_inv.name i)) in
    let text : c.into_bytes.result.items ≡ percent_encode ESCAPED c.args.name.now = search rules in
    text ∙ encoded-is ESCAPED agree c.args.name.now (recursion_from_All IsByte c.args.name.now small)

pub returns-clause-reversible : goal.returns-clause-reversible
returns-clause-reversible c =
    let small = All-from_get_or IsByte c.args.name.now 0 (λ i within. omega (arith, c.type_inv.name i)) in
    let text : c.into_bytes.result.items ≡ percent_encode ESCAPED c.args.name.now = search rules in
    ap percent_decode text ∙ round_trip ESCAPED c.args.name.now refl small

pub returns-clause-ascii : goal.returns-clause-ascii
returns-clause-ascii c =
    let text : c.into_bytes.result.items ≡ percent_encode ESCAPED c.args.name.now = search rules in
    subst IsAscii (sym text) (IsAscii-percent_encode ESCAPED c.args.name.now)
