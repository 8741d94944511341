use Rattle.std.proofs.Common.{sym, ap, subst}
use Rattle.std.specs.Option.{ok_or}
use Rattle.std.specs.Int.{w64, w128}
use Rattle.std.specs.Int.RustNames.{FitsSigned}
use Rattle.std.proofs.lemmas.Int.{to_z-of_z}
use Rattle.rv_asm.specs.declared.AsmCause.TheVariants as causes
use Rattle.rv_asm.specs.Encoding.{instr}
use Rattle.rv_asm.proofs.Ranges.{encoded-far}
use Rattle.rv_asm.proofs.encoding.word.Goals as goal

pub returns-in_default : goal.returns-in_default
returns-in_default c =
    sym (ap (λ o. ok_or o causes.Range)
    (encoded-far (instr c.args.op c.args.rd c.args.rs1 c.args.rs2 c.args.imm) (λ fits. c.in_default.ensures (subst (FitsSigned w64) (sym (to_z-of_z w128 c.args.imm c.ranges.imm)) fits))))
