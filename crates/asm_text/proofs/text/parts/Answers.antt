use Rattle.std.proofs.Common.{◌++◌, ◌∷◌, [], ◌∙◌, ap, map}
use Rattle.asm_text.specs.Text.{trim}
use Rattle.asm_text.proofs.TextLists.{parts-more, parts_left}
use Rattle.asm_text.proofs.text.parts.Goals as goal

pub loop-rest-preserved : goal.loop-rest-preserved
loop-rest-preserved c =
    let items = c.loop-rest.parts.items in
    parts-more _ items c.push.new.self.items c.in-Some.text.now c.split_at_mark.result.0.now c.split_at_mark.result.1
    (c.loop-rest.invariant ∙ ap (λ r. items ++ map trim (parts_left r)) c.in-Some.is)
    c.split_at_mark.ensures.front c.split_at_mark.ensures.rest
    (c.in_ok-push.ensures.items ∙ ap (λ t. items ++ t ∷ []) (c.new.ensures ∙ c.trim.ensures))
