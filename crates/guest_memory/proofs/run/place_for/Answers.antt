use Rattle.std.proofs.Common.{[], ap, sym, arith}
use Rattle.std.proofs.lemmas.List.{get_or_default}
use Rattle.std.proofs.lemmas.Bool.Decides.{nat_tests}
use Rattle.guest_memory.specs.declared.page.Page.{Page}
use Rattle.guest_memory.specs.Pages.{IsGap}
use Rattle.guest_memory.proofs.Gaps.{first_held-first, first_held-place, first_held-gap, IsGap-run}
use Rattle.guest_memory.proofs.run.place_for.Goals as goal
use Rattle.guest_memory.proofs.run.place_for.Goals.{Joined-else-place-pages, else-place-pages-via-then-place-pages+else-pages-place, else-place-pages-via-else-place-pages}

pub returns-in-Ok-clause-held : goal.returns-in-Ok-clause-held
returns-in-Ok-clause-held c =
    sym (first_held-first c.args.pages.now c.args.page c.args.count c.in-Ok._place c.requires.order (grind (arith, nat_tests, c.requires.run)) c.in-Ok.ensures)

pub returns-then-pages-place-clause-held : goal.returns-then-pages-place-clause-held
returns-then-pages-place-clause-held c =
    sym (first_held-place c.args.pages.now c.args.page c.args.count c.in-Err.place _ c.requires.order c.in-Err.ensures c.if-place-pages.true c.if-pages-place.true)

gap : (c : Joined-else-place-pages) → IsGap c.args.pages.now c.args.page c.args.count c.in-Err.place
gap c =
    IsGap-run c.args.pages.now c.args.page c.args.count c.in-Err.place c.requires.order c.in-Err.ensures
    (λ within d. elim c.else-place-pages.branch [
      | else-place-pages-via-then-place-pages+else-pages-place w ↦
          let past = w.if-pages-place.false in
          let same = ap (λ (p : Page). p.number) (get_or_default c.args.pages.now c.in-Err.place d (record { number = 0; rights = 0; bytes = [] }) within) in
          omega arith
      | else-place-pages-via-else-place-pages w ↦ absurd (omega arith)
    ])

pub returns-else-place-pages-clause-gap : goal.returns-else-place-pages-clause-gap
returns-else-place-pages-clause-gap c = gap c

pub returns-else-place-pages-clause-held : goal.returns-else-place-pages-clause-held
returns-else-place-pages-clause-held c = sym (first_held-gap c.args.pages.now c.args.page c.args.count c.in-Err.place (gap c))
