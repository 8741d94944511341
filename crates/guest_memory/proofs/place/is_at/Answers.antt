use Rattle.std.proofs.Common.{ap, ◌∙◌}
use Rattle.std.proofs.lemmas.List.{get_or_default}
use Rattle.rv_core.proofs.Names.{one}
use Rattle.guest_memory.proofs.Order.{IsFound-from_place}
use Rattle.guest_memory.proofs.place.is_at.Goals as goal

pub returns-then-place-pages : goal.returns-then-place-pages
returns-then-place-pages c = λ same.
    IsFound-from_place c.args.pages.now c.args.number _ c.requires
    (record {
      within = c.if-place-pages.true;
      is = λ d. ap (λ p. p.number) (get_or_default c.args.pages.now _ d _ c.if-place-pages.true) ∙ one _ _ same;
    })
