use Rattle.std.proofs.Common.{◌≡◌, sym, ap, ◌∙◌, arith}
use Rattle.rv_core.specs.Memory.{stored}
use Rattle.guest_space.specs.Space.{memory_of}
use Rattle.guest_memory.specs.Pages.{space_of}
use Rattle.guest_memory.proofs.word.put.Goals as goal

pub returns-in-4-clause-after : goal.returns-in-4-clause-after
returns-in-4-clause-after c =
    let size : c.args.size ≡ 4 = omega arith in
    c.put_number-in-4.ensures.after ∙ ap (λ n. stored (memory_of (space_of c.args.pages.now)) c.args.at n c.args.value) (sym size)

pub returns-in_default-clause-after : goal.returns-in_default-clause-after
returns-in_default-clause-after c =
    let size : c.args.size ≡ 8 = omega (arith, c.requires.size) in
    c.put_number-in_default.ensures.after ∙ ap (λ n. stored (memory_of (space_of c.args.pages.now)) c.args.at n c.args.value) (sym size)
