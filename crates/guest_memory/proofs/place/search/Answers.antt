use Rattle.std.proofs.Common.{rules}
use Rattle.std.proofs.lemmas.List.Sorted.{answers_always}
use Rattle.guest_memory.proofs.Order.{place_or_gap}
use Rattle.guest_memory.proofs.place.search.Goals as goal

pub returns : goal.returns
returns c =
    place_or_gap c.args.pages.now c.args.number _ c.requires c.binary_search_by_key.ensures.bound
    (c.binary_search_by_key.ensures.position (λ p. p.number) (answers_always _ _ _ (λ f a r g h. search rules)))
