use Rattle.std.proofs.Common.{◌≡◌, ◌∙◌, sym, ap, is_some, true}
use Rattle.std.specs.FinMap as map
use Rattle.std.specs.Ordering.{nat_cmp}
use Rattle.abi_calls.specs.Objects.{is_some_thread}
use Rattle.host_objects.proofs.Entries.{get_entries, entries_inserted}
use Rattle.host_objects.proofs.Running.{sets_registers}
use Rattle.host_objects.proofs.table.Table+Object+Pages.set_registers.Goals as goal

pub unreachable-requires : goal.unreachable-requires
unreachable-requires c =
    let none = ap (λ m. map.get {R = nat_cmp} m c.args.thread) (sym c.self.view_is) ∙ get_entries c.self.inside.entries.entries c.args.thread ∙ sym c.in-None.ensures.value in
    let some : is_some_thread (map.get c.args.self.now c.args.thread) ≡ true = c.requires in
    let not_some = ap is_some_thread none in
    cc

pub set_registers_of-requires : goal.set_registers_of-requires
set_registers_of-requires c = ap is_some_thread (c.in-Some.ensures.value ∙ sym (get_entries c.self.inside.entries.entries c.args.thread) ∙ ap (λ m. map.get {R = nat_cmp} m c.args.thread) c.self.view_is) ∙ c.requires

pub returns : goal.returns
returns c =
    let there = ap is_some (sym c.in-Some.ensures.value) in
    let at = ap (λ m. map.get {R = nat_cmp} m c.args.thread) (sym c.self.view_is) ∙ get_entries c.self.inside.entries.entries c.args.thread ∙ sym c.in-Some.ensures.value in
    let set = entries_inserted c.self.inside.entries.entries (c.get_mut.follows.lender c.set_registers_of.new.object).entries c.args.thread c.set_registers_of.new.object ((c.get_mut.follows.holds c.set_registers_of.new.object).3 there).0
    ∙ ap (λ m. map.insert {R = nat_cmp} m c.args.thread c.set_registers_of.new.object) c.self.view_is in
    sets_registers _ _ c.args.thread _ c.set_registers_of.new.object c.args.registers.now at (ap is_some_thread (sym at) ∙ c.requires) c.set_registers_of.ensures set
