use Rattle.std.proofs.Common.{◌≡◌, ◌∙◌, sym, ap, is_some, true}
use Rattle.std.specs.FinMap as map
use Rattle.std.specs.Ordering.{nat_cmp}
use Rattle.host_objects.proofs.Entries.{get_entries, entries_inserted}
use Rattle.host_objects.proofs.table.Table.set.Goals as goal

pub unreachable-requires : goal.unreachable-requires
unreachable-requires g c =
    let none = ap (λ m. map.get {R = nat_cmp} m c.args.number) (sym c.self.view_is) ∙ get_entries c.self.inside.entries.entries c.args.number ∙ sym c.in-None.ensures.value in
    let some : is_some (map.get c.args.self.now c.args.number) ≡ true = c.requires in
    let not_some = ap is_some none in
    cc

pub returns : goal.returns
returns g c =
    let there = ap is_some (sym c.in-Some.ensures.value) in
    entries_inserted c.self.inside.entries.entries (c.get_mut.follows.lender c.args.value).entries c.args.number c.args.value ((c.get_mut.follows.holds c.args.value).3 there).0
    ∙ ap (λ m. map.insert {R = nat_cmp} m c.args.number c.args.value) c.self.view_is
