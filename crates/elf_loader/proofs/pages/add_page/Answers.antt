use Rattle.std.proofs.Common.{◌≡◌, ◌<◌, ◌≤◌, Err, refl, subst, ◌∙◌, arith, rules, length, get_or, set, bit_or}
use Rattle.std.specs.List.{insert}
use Rattle.std.specs.List.Sorted.{IsBinarySearchResult}
use Rattle.std.specs.Ordering.{nat_cmp}
use Rattle.std.specs.declared.cmp.Ordering.TheVariants.{Equal}
use Rattle.std.proofs.lemmas.List.{take_at, length-set}
use Rattle.std.proofs.lemmas.List.Sorted.{answers_always}
use Rattle.elf_loader.specs.declared.pages.Page.{Page}
use Rattle.elf_loader.proofs.PageTables.{table_of-found, table_of-missed, length-missed}
use Rattle.elf_loader.proofs.pages.add_page.Goals as goal

pub returns-in-Ok : goal.returns-in-Ok
returns-in-Ok c = λ held rights_of n within none is.
    let old = c.args.table.now.items in
    let at = c.in-Ok.at in
    let page : Page = record { number = 0; rights = 0 } in
    let hit : (d : Page) → nat_cmp (get_or old at d).number c.args.number ≡ Equal =
    λ d. subst (λ pages. nat_cmp (get_or pages at d).number c.args.number ≡ Equal) c.as_slice.ensures.value
    (c.in-Ok.ensures.position (λ page. page.number) (answers_always _ _ _ (λ f a r g h. search rules)) d) in
    let inside : at < length old = subst (λ pages. at < length pages) c.as_slice.ensures.value c.in-Ok.ensures.bound in
    let new = set old at (record { number = (get_or old at page).number; rights = bit_or (get_or old at page).rights c.args.rights }) in
    rw c.as_mut_slice.ensures.value
    (take_at new _ (length old) (length-set old at _)
    ∙ table_of-found old held rights_of n c.args.number c.args.rights (omega arith) is at page inside hit)

pub returns-then-is_err : goal.returns-then-is_err
returns-then-is_err c = (
  refl,
  λ held rights_of n within none is.
      let old = c.args.table.now.items in
      let at = c.in-Err.at in
      let missed : IsBinarySearchResult (λ page. nat_cmp page.number c.args.number) old (Err at) =
      subst (λ pages. IsBinarySearchResult (λ page. nat_cmp page.number c.args.number) pages (Err at)) c.as_slice.ensures.value
      (c.in-Err.ensures.position (λ page. page.number) (answers_always _ _ _ (λ f a r g h. search rules))) in
      let inside : at ≤ length old = subst (λ pages. at ≤ length pages) c.as_slice.ensures.value c.in-Err.ensures.bound in
      let more = length-missed old held rights_of n c.args.number c.args.rights (omega arith) is at inside missed in
      let full : length old ≡ 1008 = search rules in
      omega (arith, more, full),
)

pub returns-else-is_err : goal.returns-else-is_err
returns-else-is_err c = λ held rights_of n within none is.
    let old = c.args.table.now.items in
    let at = c.in-Err.at in
    let missed : IsBinarySearchResult (λ page. nat_cmp page.number c.args.number) old (Err at) =
    subst (λ pages. IsBinarySearchResult (λ page. nat_cmp page.number c.args.number) pages (Err at)) c.as_slice.ensures.value
    (c.in-Err.ensures.position (λ page. page.number) (answers_always _ _ _ (λ f a r g h. search rules))) in
    let inside : at ≤ length old = subst (λ pages. at ≤ length pages) c.as_slice.ensures.value c.in-Err.ensures.bound in
    let made = table_of-missed old held rights_of n c.args.number c.args.rights (omega arith) is at inside missed none in
    let kept : c.try_insert.new.self.items ≡ insert old at (record { number = c.args.number; rights = c.args.rights }) = search rules in
    kept ∙ made
