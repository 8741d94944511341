use Rattle.std.proofs.Common.{ap, sym, ◌∙◌, ◌*◌, length, subst}
use Rattle.std.proofs.lemmas.Bool.{eqb-true}
use Rattle.std.proofs.lemmas.List.{with_items_is}
use Rattle.guest_space.specs.Space.{IsSpace, memory_of}
use Rattle.guest_space.specs.Access.{with_bytes}
use Rattle.guest_memory.specs.Pages.{AreInOrder, space_of}
use Rattle.guest_memory.proofs.Order.{IsSpace-space_of}
use Rattle.guest_memory.proofs.Copies.{space_of-written, nothing_written}
use Rattle.guest_memory.proofs.pages.Pages.poke.Goals as goal

pub returns-then-not-is_empty-clause-ok : goal.returns-then-not-is_empty-clause-ok
returns-then-not-is_empty-clause-ok c =
    ap space_of (with_items_is c.self.inside.pages c.copy_in.new.pages (c.copy_in.auto.pages ∙ c.deref_mut.ensures.len))
    ∙ space_of-written c.args.self.now c.copy_in.new.pages (c.args.page * 4096) c.args.bytes.now (subst IsSpace c.self.view_is (IsSpace-space_of 0 c.self.inside.pages.items c.self.invariant.0)) c.copy_in.ensures.order
    (c.copy_in.ensures.after ∙ ap (λ s. with_bytes (memory_of s) (c.args.page * 4096) c.args.bytes.now) (ap space_of c.deref_mut.ensures.value ∙ c.self.view_is))

pub returns-else-not-is_empty-clause-ok : goal.returns-else-not-is_empty-clause-ok
returns-else-not-is_empty-clause-ok c =
    nothing_written c.args.self.now (c.args.page * 4096) c.args.bytes.now (subst IsSpace c.self.view_is (IsSpace-space_of 0 c.self.inside.pages.items c.self.invariant.0)) (eqb-true (length c.args.bytes.now) 0 (sym c.if-not-is_empty.ensures))

pub invariant_of-self : goal.invariant_of-self
invariant_of-self c = (
  subst AreInOrder (sym (with_items_is c.self.inside.pages c.copy_in.new.pages (c.copy_in.auto.pages ∙ c.deref_mut.ensures.len))) c.copy_in.ensures.order,
  c.nothing-self-inside.ensures _,
)
