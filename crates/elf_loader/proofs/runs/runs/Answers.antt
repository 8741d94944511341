use Rattle.std.proofs.Common.{◌≡◌, ◌+◌, ◌^◌, ◌<◌, ℕ, suc, false, ◌&&◌, ◌==◌, List, [], ◌∷◌, ◌++◌, map, length, drop, get_or, refl, ap, sym, subst, ◌∙◌, arith, add-one, drop-cons, append_assoc}
use Rattle.std.proofs.lemmas.List.{drop_all}
use Rattle.std.proofs.lemmas.Bool.{and_left, and_right, ne_eqb}
use Rattle.guest_space.specs.declared.Extent.{Extent}
use Rattle.guest_space.specs.Regions.{extent_end, joined, merged}
use Rattle.elf_loader.specs.declared.pages.Page.{Page}
use Rattle.elf_loader.specs.Steps.{extent_of_page}
use Rattle.elf_loader.proofs.ExtentLists.{joined-joins, joined-apart}
use Rattle.elf_loader.proofs.runs.runs.Goals as goal
use Rattle.elf_loader.proofs.runs.runs.Goals.{then-run-page+then-run-page-2, else-run-page+in_ok-push, else-run-page-via-then-run-page+else-run-page-2, else-run-page-via-else-run-page}

no_runs : (pages : List Page) → length pages ≡ 0 → [] ≡ merged (map extent_of_page pages)
unfolding merged
no_runs [] none = refl
no_runs (page ∷ pages) none = absurd (omega arith)

pub returns-in_default : goal.returns-in_default
returns-in_default c = c.new-runs.ensures ∙ no_runs c.args.pages.now c.in_default.ensures.cases

-- each page that is left is one of all
small_left : (all higher : List Page) (first : Page) → ((k : ℕ) (d : Page) → k < length all → (get_or all k d).number < 2 ^ 53) → all ≡ first ∷ higher → (k : ℕ) (d : Page) → k < length higher → (get_or higher k d).number < 2 ^ 53
small_left all higher first small is k d within =
    subst (λ pages. suc k < length pages → (get_or pages (suc k) d).number < 2 ^ 53) is (λ inside. small (suc k) d inside) (omega arith)

pub loop-page-init : goal.loop-page-init
unfolding merged
loop-page-init c =
    let split = c.in-Some.ensures.cases.0 in
    let first = c.in-Some.first.now in
    let higher = c.in-Some.higher.now in
    let below : first.number < 2 ^ 53 =
    subst (λ (pages : List Page). 0 < length pages → (get_or pages 0 first).number < 2 ^ 53) split (λ inside. c.requires 0 first inside) (omega arith) in
    record {
      small = omega (arith, below, ap (λ run. run.page) c.extent_of-run.ensures, ap (λ run. run.count) c.extent_of-run.ensures);
      runs =
          ap (λ pages. merged (map extent_of_page pages)) split
          ∙ (ap (λ run. joined run (merged (map extent_of_page higher))) (sym c.extent_of-run.ensures)
          ∙ ap (λ runs. runs ++ joined c.extent_of-run.result (merged (map extent_of_page higher))) (sym c.new-runs.ensures));
    }

-- the runs of what is left, from the next page on
runs_left : (higher : List Page) (i : ℕ) (d : Page) (run : Extent) → i < length higher → joined run (merged (map extent_of_page (drop i higher))) ≡ joined run (joined (extent_of_page (get_or higher i d)) (merged (map extent_of_page (drop (i + 1) higher))))
unfolding merged
runs_left higher i d run within =
    ap (λ pages. joined run (merged (map extent_of_page pages))) (drop-cons higher i d within)
    ∙ ap (λ k. joined run (joined (extent_of_page (get_or higher i d)) (merged (map extent_of_page (drop k higher))))) (sym (add-one i))

pub loop-page-preserved : goal.loop-page-preserved
loop-page-preserved c =
    let higher = c.in-Some.higher.now in
    let i = c.loop-page.page-index in
    let d : Page = record { number = 0; rights = 0 } in
    let page : Page = get_or higher i d in
    let run = c.loop-page.run in
    let rest = merged (map extent_of_page (drop (i + 1) higher)) in
    let below = small_left c.args.pages.now higher c.in-Some.first.now c.requires c.in-Some.ensures.cases.0 i d c.loop-page-test.true in
    let before = c.loop-page.invariant.runs ∙ ap (λ runs. c.loop-page.runs ++ runs) (runs_left higher i d run c.loop-page-test.true) in
    elim c.if-run-page.branch [
      | then-run-page+then-run-page-2 w ↦
          let ends = w.if-run-page.true in
          record {
            small = omega (arith, below, ends, ap (λ x. x.page) w.run-is, ap (λ x. x.count) w.run-is);
            runs =
                before
                ∙ (ap (λ runs. c.loop-page.runs ++ runs) (joined-joins run (extent_of_page page) rest ends w.if-run-page-2.true)
                ∙ (ap (λ x. c.loop-page.runs ++ joined x rest) (sym w.run-is)
                ∙ ap (λ runs. runs ++ joined c.if-run-page.run rest) (sym w.runs-is)));
          }
      | else-run-page+in_ok-push w ↦
          let apart : (extent_end run == page.number && run.rights == page.rights) ≡ false =
          elim w.else-run-page.branch [
            | else-run-page-via-then-run-page+else-run-page-2 w' ↦ and_right (extent_end run == page.number) _ (ne_eqb run.rights page.rights w'.if-run-page-2.false)
            | else-run-page-via-else-run-page w' ↦ and_left _ (run.rights == page.rights) (ne_eqb (extent_end run) page.number w'.if-run-page.false)
          ] in
          let now : c.if-run-page.run ≡ extent_of_page page = w.run-is ∙ w.extent_of-run-else-run-page.ensures in
          record {
            small = omega (arith, below, ap (λ x. x.page) now, ap (λ x. x.count) now);
            runs =
                before
                ∙ (ap (λ runs. c.loop-page.runs ++ runs) (joined-apart run (extent_of_page page) rest apart)
                ∙ (sym (append_assoc c.loop-page.runs (run ∷ []) (joined (extent_of_page page) rest))
                ∙ (ap (λ runs. runs ++ joined (extent_of_page page) rest) (sym (w.runs-is ∙ w.in_ok-push.ensures.ok))
                ∙ ap (λ x. c.if-run-page.runs ++ joined x rest) (sym now))));
          }
    ]

pub returns : goal.returns
unfolding merged
returns c =
    let higher = c.in-Some.higher.now in
    c.in_ok-push-2.ensures.ok
    ∙ sym (c.loop-page.invariant.runs
    ∙ ap (λ pages. c.loop-page.runs ++ joined c.loop-page.run (merged (map extent_of_page pages))) (drop_all c.loop-page.page-index higher (omega arith)))
