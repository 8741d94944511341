use Rattle.std.proofs.Common.{◌+◌, ap, ◌∙◌, arith}
use Rattle.elf_loader.proofs.PageTables.{touched_pages-last, touched_pages-none}
use Rattle.elf_loader.proofs.pages.end_page.Goals as goal

pub returns-in-Some : goal.returns-in-Some
returns-in-Some c = λ file is.
    let item = c.in-Some.ensures.item in
    ap (λ page. page.number + 1) item.1 ∙ touched_pages-last file c.args.pages.now is c.in-Some.page.now item.3.0

pub returns-in-None : goal.returns-in-None
returns-in-None c = λ file is. let item = c.in-None.ensures.item in touched_pages-none file c.args.pages.now is (omega (arith, item.3))
