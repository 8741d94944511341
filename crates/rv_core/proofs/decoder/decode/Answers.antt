-- A word that has an instruction's layout decodes to it, and no word has two layouts.
use Rattle.std.proofs.Common.{◌≡◌, sym, subst, ap, ◌∙◌, rules, Some, option_map}
use Rattle.rv_core.specs.Listing.{Decodes, decoded, fields_of, op_of}
use Rattle.rv_core.proofs.Names.{Decodes-op_of, form-none, form-unique, has_form-op_of}
use Rattle.rv_core.specs.Encoding.{encoded, IsFence}
use Rattle.rv_core.proofs.Read.{encoded-fields_of}
use Rattle.rv_core.proofs.decoder.decode.Goals as goal

pub returns-in-Some-clause-value : goal.returns-in-Some-clause-value
unfolding decoded op_of
returns-in-Some-clause-value c =
    ap Some c.fields_of.ensures ∙ ap (option_map (fields_of c.args.word)) c.in-Some.ensures

pub returns-in-Some-clause-listing : goal.returns-in-Some-clause-listing
returns-in-Some-clause-listing c =
    let w = c.args.word in
    subst (λ i. Decodes w (Some i)) (sym c.fields_of.ensures) (Decodes-op_of w c.in-Some.op (sym c.in-Some.ensures))

pub returns-in-Some-clause-unique : goal.returns-in-Some-clause-unique
returns-in-Some-clause-unique c = λ o h.
    let w = c.args.word in
    let p = c.in-Some.op in
    ap (λ i. i.op) c.fields_of.ensures ∙ form-unique o p w h (has_form-op_of w p (sym c.in-Some.ensures))

pub returns-in-None-clause-value : goal.returns-in-None-clause-value
unfolding decoded op_of
returns-in-None-clause-value c = ap (option_map (fields_of c.args.word)) c.in-None.ensures

pub returns-in-None-clause-listing : goal.returns-in-None-clause-listing
returns-in-None-clause-listing c = form-none c.args.word (sym c.in-None.ensures)

pub returns-in-Some-clause-inverse : goal.returns-in-Some-clause-inverse
returns-in-Some-clause-inverse c = λ plain.
    let w = c.args.word in
    let o = c.in-Some.op in
    let d = has_form-op_of w o (sym c.in-Some.ensures) in
    subst (λ i. encoded i ≡ Some w) (sym c.fields_of.ensures) (encoded-fields_of w o (search rules) d (λ f. plain (subst (λ i. IsFence i.op) (sym c.fields_of.ensures) f)))
