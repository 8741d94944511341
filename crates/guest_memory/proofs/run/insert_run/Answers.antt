use Rattle.std.proofs.Common.{◌≡◌, ◌+◌, ◌++◌, ap, sym, ◌∙◌, subst, arith, length, take, drop, length-append}
use Rattle.std.proofs.lemmas.List.{with_items_is}
use Rattle.std.specs.List.{slice_rotate_right}
use Rattle.guest_memory.specs.Pages.{AreInOrder, space_of}
use Rattle.guest_memory.proofs.Gaps.{IsRunAdded, IsRunAdded-rotated, blank_pages, length-blank_pages}
use Rattle.guest_memory.proofs.run.insert_run.Goals as goal
use Rattle.guest_memory.proofs.run.insert_run.Goals.{After-move_last}

pub move_last-requires : goal.move_last-requires
move_last-requires c =
    let old = c.args.pages.now.items in
    let new = blank_pages c.args.page c.args.rights c.loop-k.k in
    let all : length c.deref_mut.result.now ≡ length old + length new =
    ap length (c.deref_mut.ensures.value ∙ c.loop-k.invariant.added) ∙ length-append old new in
    let long = length-blank_pages c.args.page c.args.rights c.loop-k.k in
    let within = c.requires.gap.within in
    omega arith

-- the run stands in its place
added : (c : After-move_last) → IsRunAdded c.args.pages.now.items c.args.page c.args.count c.args.place c.args.rights c.args.count c.move_last.new.pages
added c =
    let all : c.loop-k.k ≡ c.args.count = omega arith in
    IsRunAdded-rotated c.args.pages.now.items c.args.page c.args.count c.args.place c.args.rights c.requires.run c.requires.rights c.requires.order c.requires.gap c.move_last.new.pages
    (c.move_last.ensures
    ∙ ap (λ qs. take c.args.place qs ++ slice_rotate_right (drop c.args.place qs) c.args.count)
    (c.deref_mut.ensures.value ∙ c.loop-k.invariant.added ∙ ap (λ k. c.args.pages.now.items ++ blank_pages c.args.page c.args.rights k) all))

pub returns-clause-order : goal.returns-clause-order
returns-clause-order c =
    subst AreInOrder (sym (with_items_is c.loop-k.pages c.move_last.new.pages (c.move_last.auto.pages ∙ c.deref_mut.ensures.len))) (added (goal.at.returns-clause-order c).After-move_last).order

pub returns-clause-after : goal.returns-clause-after
returns-clause-after c =
    ap space_of (with_items_is c.loop-k.pages c.move_last.new.pages (c.move_last.auto.pages ∙ c.deref_mut.ensures.len)) ∙ (added (goal.at.returns-clause-after c).After-move_last).after
