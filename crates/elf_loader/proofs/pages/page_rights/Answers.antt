use Rattle.std.proofs.Common.{◌≡◌, get_or, rules}
use Rattle.std.specs.Ordering.{nat_cmp}
use Rattle.std.specs.declared.cmp.Ordering.TheVariants.{Equal}
use Rattle.std.proofs.lemmas.List.Sorted.{answers_always}
use Rattle.elf_loader.specs.declared.pages.Page.{Page}
use Rattle.elf_loader.proofs.PageTables.{touched_pages-found, touched_pages-missed}
use Rattle.elf_loader.proofs.pages.page_rights.Goals as goal

pub returns-in-Ok : goal.returns-in-Ok
returns-in-Ok c = λ file is.
    let hit : (d : Page) → nat_cmp (get_or c.args.pages.now c.in-Ok.at d).number c.args.number ≡ Equal =
    c.in-Ok.ensures.position (λ page. page.number) (answers_always _ _ _ (λ f a r g h. search rules)) in
    touched_pages-found file c.args.pages.now is c.args.number c.in-Ok.at (record { number = 0; rights = 0 }) c.in-Ok.ensures.bound hit

pub returns-in-Err : goal.returns-in-Err
returns-in-Err c = λ file is.
    touched_pages-missed file c.args.pages.now is c.args.number c.in-Err.field-0 c.in-Err.ensures.bound
    (c.in-Err.ensures.position (λ page. page.number) (answers_always _ _ _ (λ f a r g h. search rules)))
