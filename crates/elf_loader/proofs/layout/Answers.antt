use Rattle.std.proofs.Common.{◌≡◌, ◌*◌, ◌^◌, ◌<◌, ◌≤◌, ℕ, List, None, Ok, map, length, get_or, refl, ap, sym, subst, ◌∙◌, arith}
use Rattle.std.specs.List.{All}
use Rattle.std.specs.Result.{IsOk}
use Rattle.std.proofs.lemmas.Result.{err_from_is_err_and}
use Rattle.guest_space.specs.Regions.{merged}
use Rattle.elf_loader.specs.declared.pages.Page.{Page}
use Rattle.elf_loader.specs.Fields.{e_phnum}
use Rattle.elf_loader.specs.Segments.{is_touched, page_rights, end_page}
use Rattle.elf_loader.specs.Refusal.{file_refusal, header_refusals, refusal, pages}
use Rattle.elf_loader.specs.Steps.{extent_of_page, touched_pages}
use Rattle.elf_loader.specs.Image.{layout_of, laid_out, unless_refused, IsLayout, FitsProcess}
use Rattle.elf_loader.proofs.Refusals.{end_page-small, refusal-of_program, program_refusal-big, program_refusal-entry, program_refusal-none}
use Rattle.elf_loader.proofs.PageTables.{table_of-below}
use Rattle.elf_loader.proofs.ImageLaws.{laid_out-accepted, layout_of-made, length-table, runs-of_table, IsLayout-layout_of, FitsProcess-accepted}
use Rattle.elf_loader.proofs.layout.Goals as goal

pub returns-in_err-table-clause-exact : goal.returns-in_err-table-clause-exact
returns-in_err-table-clause-exact c =
    let file = c.in_ok-file.file.bytes.now in
    let opened = c.in_ok-file.ensures in
    let refused = refusal-of_program file (ap file_refusal opened.0 ∙ opened.1) c.in_ok-check_headers.ensures ∙ program_refusal-big file c.in_err-table.ensures.1 in
    let p = err_from_is_err_and c.from_residual-in_err-table.result c.from_residual-in_err-table.ensures.1 in
    rw (p.1, p.2, c.in_err-table.ensures.0) (ap (λ bytes. laid_out bytes) (sym opened.0) ∙ ap (λ o. unless_refused o (layout_of file)) refused)

-- what is known where the pages are known
few_pages : (file : List ℕ) (table slice : List Page) → slice ≡ table → table ≡ touched_pages file → length slice ≤ 1008 → length (pages file) ≤ 1008
few_pages file table slice value is fits = omega (arith, fits, ap length value, ap length is, length-table file)

pub returns-then-not-has_entry-clause-exact : goal.returns-then-not-has_entry-clause-exact
returns-then-not-has_entry-clause-exact c =
    let file = c.in_ok-file.file.bytes.now in
    let opened = c.in_ok-file.ensures in
    let few = few_pages file c.in_ok-table.table.items c.as_slice-pages.result.now c.as_slice-pages.ensures.value c.in_ok-table.ensures c.as_slice-pages.ensures.fits in
    let refused = refusal-of_program file (ap file_refusal opened.0 ∙ opened.1) c.in_ok-check_headers.ensures ∙ program_refusal-entry file few c.if-not-has_entry.ensures in
    ap (λ bytes. laid_out bytes) (sym opened.0) ∙ ap (λ o. unless_refused o (layout_of file)) refused

small_pages : (file : List ℕ) (table slice : List Page) → slice ≡ table → table ≡ touched_pages file → header_refusals file (e_phnum file) ≡ None → All (λ page. page.number < 2 ^ 53) slice
small_pages file table slice value is sound = λ k d within.
    let small = end_page-small file sound in
    let whole = value ∙ is in
    let inside = subst (λ (pages : List Page). k < length pages) whole within in
    let below = table_of-below (is_touched file) (page_rights file) (end_page file) k d inside in
    let same = ap (λ (pages : List Page). (get_or pages k d).number) whole in
    omega (arith, below, small, same)

pub end_page-end-requires : goal.end_page-end-requires
end_page-end-requires c =
    small_pages c.in_ok-file.file.bytes.now c.in_ok-table.table.items c.as_slice-pages.result.now c.as_slice-pages.ensures.value c.in_ok-table.ensures c.in_ok-check_headers.ensures

pub runs-requires : goal.runs-requires
runs-requires c =
    small_pages c.in_ok-file.file.bytes.now c.in_ok-table.table.items c.as_slice-pages.result.now c.as_slice-pages.ensures.value c.in_ok-table.ensures c.in_ok-check_headers.ensures

pub returns-in_err-runs-clause-exact : goal.returns-in_err-runs-clause-exact
returns-in_err-runs-clause-exact c =
    let file = c.in_ok-file.file.bytes.now in
    let opened = c.in_ok-file.ensures in
    let few = few_pages file c.in_ok-table.table.items c.as_slice-pages.result.now c.as_slice-pages.ensures.value c.in_ok-table.ensures c.as_slice-pages.ensures.fits in
    let none = refusal-of_program file (ap file_refusal opened.0 ∙ opened.1) c.in_ok-check_headers.ensures ∙ program_refusal-none file few c.if-not-has_entry.ensures in
    let accepted : laid_out c.args.bytes.now ≡ Ok (layout_of file) = ap (λ bytes. laid_out bytes) (sym opened.0) ∙ laid_out-accepted file none in
    let p = err_from_is_err_and c.from_residual-in_err-runs.result c.from_residual-in_err-runs.ensures.1 in
    rw (p.1, p.2) (subst (λ answer. IsOk answer) (sym accepted) refl)

pub overflow_mul-result : goal.overflow_mul-result
overflow_mul-result c =
    let file = c.in_ok-file.file.bytes.now in
    let small = end_page-small file c.in_ok-check_headers.ensures in
    omega (arith, small, c.end_page-end.ensures file (c.as_slice-pages.ensures.value ∙ c.in_ok-table.ensures))

-- the layout that is returned
module _ (c : goal.After-entry) where
  file : List ℕ
  file = c.in_ok-file.file.bytes.now

  none : refusal file ≡ None
  unfolding file
  none =
      let opened = c.in_ok-file.ensures in
      let few = few_pages file c.in_ok-table.table.items c.as_slice-pages.result.now c.as_slice-pages.ensures.value c.in_ok-table.ensures c.as_slice-pages.ensures.fits in
      refusal-of_program file (ap file_refusal opened.0 ∙ opened.1) c.in_ok-check_headers.ensures ∙ program_refusal-none file few c.if-not-has_entry.ensures

  made : layout_of file ≡ record { entry = c.entry.result; runs = c.in_ok-runs.runs; end = 4096 * c.end_page-end.result }
  unfolding file
  made =
      let is = c.as_slice-pages.ensures.value ∙ c.in_ok-table.ensures in
      layout_of-made file c.entry.result c.end_page-end.result c.in_ok-runs.runs c.entry.ensures
      (c.in_ok-runs.ensures ∙ (ap (λ pages. merged (map extent_of_page pages)) is ∙ runs-of_table file))
      (c.end_page-end.ensures file is)

pub returns-clause-exact : goal.returns-clause-exact
unfolding file
returns-clause-exact c =
    ap (λ bytes. laid_out bytes) (sym c.in_ok-file.ensures.0) ∙ (laid_out-accepted (file c) (none c) ∙ ap (λ layout. Ok layout) (made c))

pub returns-clause-accepted : goal.returns-clause-accepted
unfolding file
returns-clause-accepted c = subst (λ bytes. refusal bytes ≡ None) c.in_ok-file.ensures.0 (none c)

pub returns-clause-layout : goal.returns-clause-layout
unfolding file
returns-clause-layout c =
    subst (λ bytes. IsLayout bytes (record { entry = c.entry.result; runs = c.in_ok-runs.runs; end = 4096 * c.end_page-end.result })) c.in_ok-file.ensures.0
    (subst (λ layout. IsLayout (file c) layout) (made c) (IsLayout-layout_of (file c)))

pub returns-clause-fits : goal.returns-clause-fits
unfolding file
returns-clause-fits c = subst (λ layout. FitsProcess layout) (made c) (FitsProcess-accepted (file c) (none c))
