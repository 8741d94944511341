use Rattle.std.proofs.Common.{◌<◌, ◌++◌, ◌∙◌, sym, ap, get_or, length, take, arith, rules, pos}
use Rattle.std.specs.List.{flat_map}
use mir.Val.{SFits}
use Rattle.std.specs.Int.{w128}
use Rattle.std.proofs.lemmas.Int.{to_z-of_z}
use Rattle.std.proofs.lemmas.List.{flat_map_more, take_more}
use Rattle.rv_asm.specs.Encoding.{number_bytes}
use Rattle.rv_asm.proofs.encoding.append_numbers.Goals as goal

pub loop-number-preserved : goal.loop-number-preserved
loop-number-preserved c =
    let xs = c.args.numbers.now in
    let i = c.loop-number.number-index in
    let f = number_bytes c.args.width in
    let out = c.args.out.now.items in
    let below : i < length xs = omega arith in
    let fits : SFits w128 (get_or xs i (pos 0)) = search rules in
    c.in_ok-append_number.ensures
    ∙ (ap (λ z. c.loop-number.out.items ++ f z) (to_z-of_z w128 (get_or xs i (pos 0)) fits)
    ∙ (ap (λ front. front ++ f (get_or xs i (pos 0))) c.loop-number.invariant
    ∙ (flat_map_more f out (take i xs) (get_or xs i (pos 0))
    ∙ ap (λ ys. out ++ flat_map f ys) (sym (take_more xs i (pos 0) below)))))
