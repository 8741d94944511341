use Rattle.std.proofs.Common.{◌≡◌, true, None, ap, sym, ◌∙◌, arith, unwrap_or}
use Rattle.std.specs.FinMap as map
use Rattle.guest_space.specs.Run.{is_run, first_held}
use Rattle.guest_memory.specs.declared.error.PageError.TheVariants.{Memory}
use Rattle.guest_memory.specs.Pages.{space_of}
use Rattle.guest_memory.proofs.Order.{len-space_of}
use Rattle.guest_memory.proofs.RefusalLaws.{allocate_refusal-none, allocate_refusal-full}
use Rattle.guest_memory.proofs.pages.Pages.allocate.Goals as goal
use Rattle.guest_memory.proofs.pages.Pages.allocate.Goals.{In-Ok}

unheld : (c : In-Ok) → first_held c.args.self.now c.args.page c.args.count ≡ None
unheld c = sym (c.in-Ok.ensures.held ∙ ap (λ ps. first_held (space_of ps) c.args.page c.args.count) c.deref.ensures.value ∙ ap (λ s. first_held s c.args.page c.args.count) c.self.view_is)

long : (c : In-Ok) → map.len c.args.self.now ≡ c.self.inside.pages.len
long c = sym (c.self.inside.pages.ok.0 ∙ sym (len-space_of 0 c.self.inside.pages.items c.self.invariant.0) ∙ ap map.len c.self.view_is)

run : (c : In-Ok) → is_run c.args.page c.args.count ≡ true
run c = sym c.if-not-is_page_run.ensures

pub returns-then-len-count-gt-MOST_PAGES-clause-cause : goal.returns-then-len-count-gt-MOST_PAGES-clause-cause
returns-then-len-count-gt-MOST_PAGES-clause-cause c =
    let before = (goal.at.returns-then-len-count-gt-MOST_PAGES-clause-cause c).In-Ok in
    let pages = long before in
    ap (λ o. unwrap_or o Memory)
    (sym (allocate_refusal-full c.args.self.now c.args.page c.args.count c.args.rights (run before) (omega arith) (unheld before) (omega arith)))

pub returns-then-is_err-clause-cause : goal.returns-then-is_err-clause-cause
returns-then-is_err-clause-cause c =
    let before = (goal.at.returns-then-is_err-clause-cause c).In-Ok in
    let pages = long before in
    ap (λ o. unwrap_or o Memory)
    (sym (allocate_refusal-none c.args.self.now c.args.page c.args.count c.args.rights (run before) (omega arith) (unheld before) (omega arith)))

pub returns-then-is_err-2-clause-cause : goal.returns-then-is_err-2-clause-cause
returns-then-is_err-2-clause-cause c =
    let before = (goal.at.returns-then-is_err-2-clause-cause c).In-Ok in
    let pages = long before in
    ap (λ o. unwrap_or o Memory)
    (sym (allocate_refusal-none c.args.self.now c.args.page c.args.count c.args.rights (run before) (omega arith) (unheld before) (omega arith)))

pub returns-clause-granted : goal.returns-clause-granted
returns-clause-granted c =
    let before = (goal.at.returns-clause-granted c).In-Ok in
    let pages = long before in
    allocate_refusal-none c.args.self.now c.args.page c.args.count c.args.rights (run before) (omega arith) (unheld before) (omega arith)
