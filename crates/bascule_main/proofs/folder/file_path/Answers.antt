use Rattle.std.proofs.Common.{◌≡◌, ap, ◌∙◌, refl, drop, string_bytes, arith, rules}
use Rattle.std.proofs.lemmas.List.Elements.{All-from_get_or}
use Rattle.percent_encoding.specs.declared.ascii_set.TheConstants.{NON_ALPHANUMERIC}
use Rattle.percent_encoding.specs.Percent.{percent_decode}
use Rattle.percent_encoding.proofs.PercentLemmas.{round_trip, IsByte}
use Rattle.bascule_main.specs.Paths.{path_of}
use Rattle.bascule_main.proofs.folder.file_path.Goals as goal

pub returns-clause-reversible : goal.returns-clause-reversible
returns-clause-reversible c =
    let small = All-from_get_or IsByte c.args.name.now 0 (λ i within. omega (arith, c.type_inv.name i)) in
    let text : string_bytes c.append_to.new.out ≡ path_of c.args.name.now = search rules in
    ap (λ path. percent_decode (drop 5 path)) text ∙ round_trip NON_ALPHANUMERIC c.args.name.now refl small
