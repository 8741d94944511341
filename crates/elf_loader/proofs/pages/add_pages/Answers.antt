use Rattle.std.proofs.Common.{◌≡◌, ◌+◌, ◌<◌, ◌≤◌, ◌==◌, ltb, sym, subst, arith}
use Rattle.std.proofs.lemmas.Bool.{and_parts, ltb-true}
use Rattle.std.proofs.lemmas.Result.{err_from_is_err_and}
use Rattle.elf_loader.specs.Segments.{first_page, last_page}
use Rattle.elf_loader.specs.Steps.{Adds}
use Rattle.elf_loader.proofs.PageTables.{between, Adds-none, Adds-more, Adds-segment, Overflows-segment}
use Rattle.elf_loader.proofs.pages.add_pages.Goals as goal

pub loop-number-init : goal.loop-number-init
loop-number-init c =
    let h = c.args.header.now in
    subst (λ number. Adds (between (first_page h) number) c.rights-rights.result number c.args.table.now.items c.args.table.now.items) (sym c.first_page-number.ensures)
    (Adds-none (first_page h) c.rights-rights.result c.args.table.now.items)

pub returns-in_err-add_page : goal.returns-in_err-add_page
returns-in_err-add_page c =
    let h = c.args.header.now in
    let p = err_from_is_err_and c.from_residual.result c.from_residual.ensures.1 in
    let error = c.in_err-add_page.ensures in
    rw (p.1, p.2) (
      error.0,
      Overflows-segment h c.loop-number.number c.rights-rights.result c.args.table.now.items c.loop-number.table.items c.requires
          (omega (arith, c.first_page-number.ensures, c.loop-number.auto.number))
          (omega (arith, c.last_page-number-end.ensures.value, c.loop-number-test.true))
          c.loop-number.invariant error.1,
    )

pub loop-number-preserved : goal.loop-number-preserved
loop-number-preserved c =
    let h = c.args.header.now in
    Adds-more (first_page h) c.loop-number.number c.rights-rights.result (omega (arith, c.first_page-number.ensures, c.loop-number.auto.number)) c.args.table.now.items c.loop-number.table.items c.loop-number.invariant c.add_page.new.table.items c.in_ok-add_page.ensures

pub returns : goal.returns
returns c =
    let h = c.args.header.now in
    let some : 0 < h.p_memsz = ltb-true 0 h.p_memsz (and_parts (h.p_type == 1) (ltb 0 h.p_memsz) c.requires).1 in
    let ordered : first_page h ≤ last_page h = omega arith in
    let all : c.loop-number.number ≡ last_page h + 1 =
    omega (arith, ordered, c.first_page-number.ensures, c.last_page-number-end.ensures.value, c.loop-number-test.false, c.loop-number.auto.number-end) in
    Adds-segment h c.args.table.now.items c.loop-number.table.items c.requires
    (subst (λ r. Adds (between (first_page h) (last_page h + 1)) r (last_page h + 1) c.args.table.now.items c.loop-number.table.items) c.rights-rights.ensures
    (subst (λ number. Adds (between (first_page h) number) c.rights-rights.result number c.args.table.now.items c.loop-number.table.items) all c.loop-number.invariant))
