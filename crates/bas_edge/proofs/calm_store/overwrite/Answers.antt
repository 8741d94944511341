use Rattle.std.proofs.Common.{◌≡◌, ℕ, max, List, ◌++◌, length, ap, ◌∙◌, arith, rules, length-append}
use Rattle.std.proofs.lemmas.Grind.{common_steps}
use Rattle.std.proofs.lemmas.List.{take_at}
use Rattle.bas_edge.specs.Files.{resized}
use Rattle.bas_edge.proofs.Texts.{overwritten-parts}
use Rattle.bas_edge.proofs.calm_store.overwrite.Goals as goal

pub returns-clause-ok : goal.returns-clause-ok
returns-clause-ok c =
    let old : List ℕ = c.args.text.now.items in
    let parts : List ℕ = c.split_at_mut-rest.result.0.now ++ (c.copy_from_slice.new.self ++ c.split_at_mut-part.result.1.now) in
    let whole : length parts ≡ c.resize.new.self.len =
    omega (arith, length-append c.split_at_mut-rest.result.0.now (c.copy_from_slice.new.self ++ c.split_at_mut-part.result.1.now), length-append c.copy_from_slice.new.self c.split_at_mut-part.result.1.now)
    in
    let size : c.max.result ≡ max c.in-Some.end (length old) = omega arith in
    let filled : c.as_mut_slice.result.now ≡ resized old c.max.result = grind (arith, common_steps) in
    take_at parts _ c.resize.new.self.len whole
    ∙ overwritten-parts old c.args.bytes.now c.as_mut_slice.result.now _ _ _ c.split_at_mut-rest.result.1.now c.args.at c.in-Some.end
    (filled ∙ ap (resized old) size)
    c.split_at_mut-rest.ensures.front
    c.split_at_mut-rest.ensures.back
    c.copy_from_slice.ensures.after
    (search rules)
    (omega (arith, c.in-Some.ensures))
    (grind (arith, common_steps))
