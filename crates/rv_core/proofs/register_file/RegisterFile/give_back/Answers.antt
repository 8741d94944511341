use Rattle.std.proofs.Common.{List, ℕ, ap, ◌∙◌, drop, arith}
use Rattle.std.proofs.lemmas.List.{length-drop, take_all}
use Rattle.rv_core.specs.declared.context.Context.{Context}
use Rattle.rv_core.proofs.register_file.RegisterFile.give_back.Goals as goal

pub returns : goal.returns
returns c =
    let file = c.args.self.now in
    let with_registers : List ℕ → Context = λ x. record { pc = file.pc; x = x } in
    let long = c.type_inv.self in
    ap with_registers (c.copy_from_slice.ensures.after ∙ take_all 31 (drop 1 file.x) (omega (arith, length-drop 1 file.x)))
