use Rattle.std.proofs.Common.{ap, ◌∙◌, length}
use Rattle.std.specs.Option.{option_map}
use Rattle.guest_space.specs.Space.{memory_of}
use Rattle.guest_memory.specs.Pages.{space_of}
use Rattle.guest_memory.specs.Refusals.{access_refusal, fault_of_error}
use Rattle.guest_memory.proofs.Accesses.{fault-access_refusal}
use Rattle.guest_memory.proofs.pages.Pages.read.Goals as goal

pub returns-in-Some-clause-fault : goal.returns-in-Some-clause-fault
returns-in-Some-clause-fault c =
    ap (option_map fault_of_error) (c.in-Some.ensures.cause ∙ ap (λ s. access_refusal (memory_of s) 1 c.args.at (length c.args.buf.now)) (ap space_of c.deref.ensures.value ∙ c.self.view_is))
    ∙ fault-access_refusal (memory_of c.args.self.now) 1 c.args.at (length c.args.buf.now)

pub returns-in-None-clause-fault : goal.returns-in-None-clause-fault
returns-in-None-clause-fault c =
    ap (option_map fault_of_error) (c.in-None.ensures.cause ∙ ap (λ s. access_refusal (memory_of s) 1 c.args.at (length c.args.buf.now)) (ap space_of c.deref.ensures.value ∙ c.self.view_is))
    ∙ fault-access_refusal (memory_of c.args.self.now) 1 c.args.at (length c.args.buf.now)
