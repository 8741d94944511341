use Rattle.std.proofs.Common.{ap, sym, ◌∙◌, length, subst}
use Rattle.std.proofs.lemmas.List.{with_items_is}
use Rattle.std.specs.Option.{option_map}
use Rattle.guest_space.specs.Space.{IsSpace, memory_of}
use Rattle.guest_space.specs.Access.{with_bytes}
use Rattle.guest_memory.specs.Pages.{AreInOrder, space_of}
use Rattle.guest_memory.specs.Refusals.{access_refusal, fault_of_error}
use Rattle.guest_memory.proofs.Order.{IsSpace-space_of}
use Rattle.guest_memory.proofs.Accesses.{fault-access_refusal}
use Rattle.guest_memory.proofs.Copies.{space_of-written}
use Rattle.guest_memory.proofs.pages.Pages.write.Goals as goal

pub returns-in-Some-clause-fault : goal.returns-in-Some-clause-fault
returns-in-Some-clause-fault c =
    ap (option_map fault_of_error) (c.in-Some.ensures.cause ∙ ap (λ s. access_refusal (memory_of s) 2 c.args.at (length c.args.bytes.now)) (ap space_of c.deref.ensures.value ∙ c.self.view_is))
    ∙ fault-access_refusal (memory_of c.args.self.now) 2 c.args.at (length c.args.bytes.now)

pub returns-in-None-clause-fault : goal.returns-in-None-clause-fault
returns-in-None-clause-fault c =
    ap (option_map fault_of_error) (c.in-None.ensures.cause ∙ ap (λ s. access_refusal (memory_of s) 2 c.args.at (length c.args.bytes.now)) (ap space_of c.deref.ensures.value ∙ c.self.view_is))
    ∙ fault-access_refusal (memory_of c.args.self.now) 2 c.args.at (length c.args.bytes.now)

pub returns-in-None-clause-ok : goal.returns-in-None-clause-ok
returns-in-None-clause-ok c =
    ap space_of (with_items_is c.self.inside.pages c.copy_in.new.pages (c.copy_in.auto.pages ∙ c.deref_mut.ensures.len))
    ∙ space_of-written c.args.self.now c.copy_in.new.pages c.args.at c.args.bytes.now (subst IsSpace c.self.view_is (IsSpace-space_of 0 c.self.inside.pages.items c.self.invariant.0)) c.copy_in.ensures.order
    (c.copy_in.ensures.after ∙ ap (λ s. with_bytes (memory_of s) c.args.at c.args.bytes.now) (ap space_of c.deref_mut.ensures.value ∙ c.self.view_is))

pub invariant_of-self : goal.invariant_of-self
invariant_of-self c = (
  subst AreInOrder (sym (with_items_is c.self.inside.pages c.copy_in.new.pages (c.copy_in.auto.pages ∙ c.deref_mut.ensures.len))) c.copy_in.ensures.order,
  c.nothing-self-inside.ensures _,
)
