use Rattle.std.proofs.Common.{◌≡◌, sym, ◌∙◌, ap, arith}
use Rattle.asm_text.proofs.RegisterLists.{register_of-from, register_from, register_from-named, register_from-unnamed, register_from-end}
use Rattle.asm_text.proofs.registers.register_of.Goals as goal

pub loop-n-init : goal.loop-n-init
loop-n-init c = register_of-from c.args.text.now

pub loop-n-preserved : goal.loop-n-preserved
loop-n-preserved c =
    c.loop-n.invariant
    ∙ register_from-unnamed c.args.text.now c.loop-n.n (omega arith) (sym c.names_register.ensures ∙ c.if-names_register.false)

pub returns-then-names_register : goal.returns-then-names_register
returns-then-names_register c =
    sym (c.loop-n.invariant
    ∙ register_from-named c.args.text.now c.loop-n.n (omega arith) (sym c.names_register.ensures ∙ c.if-names_register.true))

pub returns : goal.returns
returns c =
    let e : c.loop-n.n ≡ 32 = omega arith in
    sym (c.loop-n.invariant ∙ (ap (register_from c.args.text.now) e ∙ register_from-end c.args.text.now))
