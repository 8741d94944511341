use Rattle.std.proofs.Common.{◌≡◌, ◌∙◌, [], sym, ap, subst, Ok, Err, rules}
use Rattle.rv_asm.specs.Labels.{defined}
use Rattle.rv_asm.specs.File.{file_of}
use Rattle.rv_asm.specs.Program.{Tells, Follows, IsFileOf, assembled, outcomes, program_of}
use Rattle.rv_asm.proofs.Addresses.{program_of-labels}
use Rattle.rv_asm.proofs.ProgramLists.{assembled-filed, follows-file, Tells-error, Follows-error}
use Rattle.rv_asm.specs.Causes.{HasCause}
use Rattle.rv_asm.proofs.CauseLists.{HasCause-file, HasCause-error}
use Rattle.rv_asm.proofs.assemble.Goals as goal

pub returns-in_err-bytes-clause-exact : goal.returns-in_err-bytes-clause-exact
returns-in_err-bytes-clause-exact c =
    let text = c.args.text.now in
    let error = c.in_err-bytes.field-0.0 in
    let given : c.from_residual-in_err-bytes.result ≡ Err error = search rules in
    subst (λ r. Tells r (assembled text)) (sym given)
    (Tells-error text error
    (λ n. sym (program_of-labels text (defined c.in_ok-labels.labels) c.in_ok-labels.ensures) ∙ c.in_err-bytes.ensures n))

pub returns-in_err-bytes-clause-lines : goal.returns-in_err-bytes-clause-lines
returns-in_err-bytes-clause-lines c =
    let text = c.args.text.now in
    let error = c.in_err-bytes.field-0.0 in
    let given : c.from_residual-in_err-bytes.result ≡ Err error = search rules in
    subst (λ r. Follows (outcomes text) r) (sym given)
    (Follows-error text error
    (λ n. sym (program_of-labels text (defined c.in_ok-labels.labels) c.in_ok-labels.ensures) ∙ c.in_err-bytes.ensures n))

pub returns-clause-exact : goal.returns-clause-exact
returns-clause-exact c =
    let text = c.args.text.now in
    let bytes = c.in_ok-bytes.bytes.items in
    let done : program_of text ≡ Ok bytes =
    sym (program_of-labels text (defined c.in_ok-labels.labels) c.in_ok-labels.ensures) ∙ c.in_ok-bytes.ensures in
    assembled-filed text (Ok bytes) done ∙ sym (ap Ok (c.in_ok-file_of.ensures ∙ ap file_of c.as_slice.ensures.value))

pub returns-clause-lines : goal.returns-clause-lines
returns-clause-lines c =
    let text = c.args.text.now in
    let bytes = c.in_ok-bytes.bytes.items in
    let done : program_of text ≡ Ok bytes =
    sym (program_of-labels text (defined c.in_ok-labels.labels) c.in_ok-labels.ensures) ∙ c.in_ok-bytes.ensures in
    subst (IsFileOf (outcomes text)) (sym (c.in_ok-file_of.ensures ∙ ap file_of c.as_slice.ensures.value))
    (follows-file text bytes done)

pub returns-in_err-bytes-clause-causes : goal.returns-in_err-bytes-clause-causes
returns-in_err-bytes-clause-causes c =
    let text = c.args.text.now in
    let error = c.in_err-bytes.field-0.0 in
    let given : c.from_residual-in_err-bytes.result ≡ Err error = search rules in
    subst (HasCause text) (sym given)
    (HasCause-error text error
    (λ n. sym (program_of-labels text (defined c.in_ok-labels.labels) c.in_ok-labels.ensures) ∙ c.in_err-bytes.ensures n))

pub returns-clause-causes : goal.returns-clause-causes
returns-clause-causes c =
    let text = c.args.text.now in
    let bytes = c.in_ok-bytes.bytes.items in
    let done : program_of text ≡ Ok bytes =
    sym (program_of-labels text (defined c.in_ok-labels.labels) c.in_ok-labels.ensures) ∙ c.in_ok-bytes.ensures in
    HasCause-file text bytes [] done
