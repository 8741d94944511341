use Rattle.std.proofs.Common.{◌∙◌, sym, ap, is_some}
use Rattle.std.specs.FinMap as map
use Rattle.std.specs.Ordering.{nat_cmp}
use Rattle.abi_calls.specs.Objects.{running}
use Rattle.host_objects.proofs.Entries.{get_entries, entries_inserted}
use Rattle.host_objects.proofs.TakenSteps.{without_pages-emptied}
use Rattle.host_objects.proofs.table.Table+Object+Pages.take_pages.Goals as goal

pub returns-clause-taken : goal.returns-clause-taken
returns-clause-taken c = c.take_pages_of.ensures.taken ∙ ap running (c.in_ok-object.ensures.value ∙ sym (get_entries c.self.inside.entries.entries c.args.process) ∙ ap (λ m. map.get {R = nat_cmp} m c.args.process) c.self.view_is)

pub returns-clause-left : goal.returns-clause-left
returns-clause-left c =
    let there = ap is_some (sym c.in_ok-object.ensures.value) in
    let at = ap (λ m. map.get {R = nat_cmp} m c.args.process) (sym c.self.view_is) ∙ get_entries c.self.inside.entries.entries c.args.process ∙ sym c.in_ok-object.ensures.value in
    let set = entries_inserted c.self.inside.entries.entries (c.get_mut.follows.lender c.take_pages_of.new.object).entries c.args.process c.take_pages_of.new.object ((c.get_mut.follows.holds c.take_pages_of.new.object).3 there).0
    ∙ ap (λ m. map.insert {R = nat_cmp} m c.args.process c.take_pages_of.new.object) c.self.view_is in
    without_pages-emptied _ _ c.args.process _ c.take_pages_of.new.object c.take_pages_of.result at c.take_pages_of.ensures.taken c.take_pages_of.ensures.left set

pub returns-in_err-object-clause-taken : goal.returns-in_err-object-clause-taken
returns-in_err-object-clause-taken c = c.from_residual.ensures ∙ ap running (c.in_err-object.ensures.value ∙ sym (get_entries c.self.inside.entries.entries c.args.process) ∙ ap (λ m. map.get {R = nat_cmp} m c.args.process) c.self.view_is)
