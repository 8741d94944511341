use Rattle.std.proofs.Common.{◌≡◌, ◌+◌, ◌<◌, true, false, ap, sym, subst, ◌∙◌, arith}
use Rattle.std.proofs.lemmas.Result.{err_from_is_err_and}
use Rattle.elf_loader.specs.Fields.{e_phnum, program_header}
use Rattle.elf_loader.specs.Segments.{is_segment, last_page, touches, segment_rights, is_touched, page_rights, end_page}
use Rattle.elf_loader.specs.Steps.{Adds, Overflows, table_of}
use Rattle.elf_loader.proofs.Below.{any_below-none}
use Rattle.elf_loader.proofs.PageTables.{touched_below, rights_below, rights_below-none, table_of-none, table_of-more, table_of-no_segment, pages-more}
use Rattle.elf_loader.proofs.TouchedPages.{last_page-below_end}
use Rattle.elf_loader.proofs.file.ElfFile.pages.Goals as goal
use Rattle.elf_loader.proofs.file.ElfFile.pages.Goals.{then-is_segment+in_ok-add_pages, else-is_segment}

pub loop-i-init : goal.loop-i-init
loop-i-init c = c.new-table.ensures ∙ sym (table_of-none _ _ _ (λ q. any_below-none _))

pub returns-in_err-add_pages : goal.returns-in_err-add_pages
returns-in_err-add_pages c =
    let file = c.args.self.now.bytes.now in
    let i = c.loop-i.i in
    let h = program_header file i in
    let below : i < e_phnum file = omega (arith, c.args.self.now.counted) in
    let segment : is_segment h ≡ true = ap (λ x. is_segment x) (sym c.header-header.ensures) ∙ (sym c.is_segment.ensures ∙ c.if-is_segment.true) in
    let p = err_from_is_err_and c.from_residual.result c.from_residual.ensures.1 in
    let error = c.in_err-add_pages.ensures in
    let over : Overflows (touches h) (last_page h + 1) c.loop-i.table.items =
    subst (λ x. Overflows (touches x) (last_page x + 1) c.loop-i.table.items) c.header-header.ensures error.1 in
    let more = over (touched_below file i) (rights_below file i) (end_page file) (last_page-below_end file i below segment) (rights_below-none file i) c.loop-i.invariant in
    let most = pages-more file i below in
    rw (p.1, p.2) (error.0, omega (arith, more, most))

pub loop-i-preserved : goal.loop-i-preserved
loop-i-preserved c =
    let file = c.args.self.now.bytes.now in
    let i = c.loop-i.i in
    let h = program_header file i in
    let below : i < e_phnum file = omega (arith, c.args.self.now.counted) in
    elim c.if-is_segment.branch [
      | then-is_segment+in_ok-add_pages w ↦
          let segment : is_segment h ≡ true = ap (λ x. is_segment x) (sym c.header-header.ensures) ∙ (sym c.is_segment.ensures ∙ w.if-is_segment.true) in
          let adds : Adds (touches h) (segment_rights h) (last_page h + 1) c.loop-i.table.items w.add_pages.new.table.items =
          subst (λ x. Adds (touches x) (segment_rights x) (last_page x + 1) c.loop-i.table.items w.add_pages.new.table.items) c.header-header.ensures w.in_ok-add_pages.ensures in
          ap (λ v. v.items) w.table-is
          ∙ (adds (touched_below file i) (rights_below file i) (end_page file) (last_page-below_end file i below segment) (rights_below-none file i) c.loop-i.invariant
          ∙ table_of-more file i (end_page file))
      | else-is_segment w ↦
          let none : is_segment h ≡ false = ap (λ x. is_segment x) (sym c.header-header.ensures) ∙ (sym c.is_segment.ensures ∙ w.if-is_segment.false) in
          ap (λ v. v.items) w.table-is ∙ (c.loop-i.invariant ∙ table_of-no_segment file i (end_page file) none)
    ]

pub returns : goal.returns
unfolding is_touched page_rights
returns c =
    let file = c.args.self.now.bytes.now in
    let all : c.loop-i.i ≡ e_phnum file = omega (arith, c.args.self.now.counted) in
    c.loop-i.invariant ∙ ap (λ n. table_of (touched_below file n) (rights_below file n) (end_page file)) all
