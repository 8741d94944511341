use Rattle.std.proofs.Common.{◌≡◌, ◌∙◌, sym, ap, is_some, true}
use Rattle.std.specs.FinMap as map
use Rattle.std.specs.Ordering.{nat_cmp}
use Rattle.abi_calls.specs.Objects.{running}
use Rattle.host_objects.proofs.Entries.{get_entries, entries_inserted}
use Rattle.host_objects.proofs.Running.{runs_in}
use Rattle.host_objects.proofs.table.Table+Object+Pages.run.Goals as goal

pub unreachable-requires : goal.unreachable-requires
unreachable-requires c =
    let none = ap (λ m. map.get {R = nat_cmp} m c.args.process) (sym c.self.view_is) ∙ get_entries c.self.inside.entries.entries c.args.process ∙ sym c.in-None.ensures.value in
    let some : is_some (running (map.get c.args.self.now c.args.process)) ≡ true = c.requires in
    let not_some = ap (λ o. is_some (running o)) none in
    cc

pub run_in-requires : goal.run_in-requires
run_in-requires c = ap (λ o. is_some (running o)) (c.in-Some.ensures.value ∙ sym (get_entries c.self.inside.entries.entries c.args.process) ∙ ap (λ m. map.get {R = nat_cmp} m c.args.process) c.self.view_is) ∙ c.requires

pub returns : goal.returns
returns c =
    let there = ap is_some (sym c.in-Some.ensures.value) in
    let at = ap (λ m. map.get {R = nat_cmp} m c.args.process) (sym c.self.view_is) ∙ get_entries c.self.inside.entries.entries c.args.process ∙ sym c.in-Some.ensures.value in
    let set = entries_inserted c.self.inside.entries.entries (c.get_mut.follows.lender c.run_in.new.object).entries c.args.process c.run_in.new.object ((c.get_mut.follows.holds c.run_in.new.object).3 there).0
    ∙ ap (λ m. map.insert {R = nat_cmp} m c.args.process c.run_in.new.object) c.self.view_is in
    runs_in _ _ c.args.process c.args.most _ c.run_in.new.object c.args.context.now c.run_in.result c.run_in.new.context at set c.run_in.ensures
