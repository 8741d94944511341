use Rattle.std.proofs.Common.{ap, ◌∙◌}
use Rattle.std.proofs.lemmas.List.{with_items_is}
use Rattle.rv_core.specs.Memory.{stored}
use Rattle.guest_space.specs.Space.{memory_of}
use Rattle.guest_memory.specs.Pages.{space_of}
use Rattle.guest_memory.proofs.pages.PagesCells.store.Goals as goal

pub returns-clause-after : goal.returns-clause-after
returns-clause-after c =
    ap (λ ps. memory_of (space_of ps)) (with_items_is c.self.inside.pages c.put.new.pages (c.put.auto.pages ∙ c.deref_mut.ensures.len))
    ∙ c.put.ensures.after
    ∙ ap (λ ps. stored (memory_of (space_of ps)) c.args.at c.args.size c.args.value) c.deref_mut.ensures.value
    ∙ ap (λ s. stored (memory_of s) c.args.at c.args.size c.args.value) c.self.view_is
