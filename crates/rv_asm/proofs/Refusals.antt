-- Answers that are refusals.
use Rattle.std.proofs.Common.{◌≡◌, Result, Ok, Err, sym, subst}
use Rattle.std.specs.Result.{IsErrAnd}
use Rattle.rv_asm.specs.declared.AsmCause.{AsmCause}
use Rattle.rv_asm.specs.declared.refusal.LineError.{LineError}
use Rattle.rv_asm.specs.declared.refusal.LineError.TheVariants.{Refused}
use Rattle.rv_asm.specs.Answers.{Answers}

pub Answers-refused : {A : Type 0} (r : Result A LineError) (cause : AsmCause) (wanted : Result A AsmCause)
    → IsErrAnd r (λ e. e ≡ Refused cause) → wanted ≡ Err cause → Answers r wanted
Answers-refused (Err e) cause wanted is refused = subst (λ x. Answers (Err x) wanted) (sym is) refused
Answers-refused (Ok a) cause wanted is refused = absurd is
