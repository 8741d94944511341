use Rattle.std.proofs.Common.{◌≡◌, ap, ◌∙◌, subst, sym, rules, tests}
use Rattle.std.proofs.lemmas.Fn.{filter_same}
use Rattle.std.specs.List.{filter}
use Rattle.guest_memory.specs.Pages.{AreInOrder, space_of}
use Rattle.guest_memory.proofs.Gaps.{is_outside, AllAbove-filter, space_of-filter}
use Rattle.guest_memory.proofs.run.remove_run.Goals as goal
use Rattle.guest_memory.proofs.run.remove_run.Goals.{After-retain}

kept : (c : After-retain) → c.retain.new.self.items ≡ filter (is_outside c.args.page c.args.count) c.args.pages.now.items
kept c = filter_same _ (is_outside c.args.page c.args.count) _ (λ x b f' k. search (rules, tests)) _ _ c.retain.ensures.filtered

pub returns-clause-order : goal.returns-clause-order
returns-clause-order c = subst AreInOrder (sym (kept c)) (AllAbove-filter (is_outside c.args.page c.args.count) 0 c.args.pages.now.items c.requires.order)

pub returns-clause-after : goal.returns-clause-after
returns-clause-after c = ap space_of (kept c) ∙ space_of-filter c.args.page c.args.count c.args.pages.now.items
