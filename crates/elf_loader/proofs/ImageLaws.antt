-- What holds of the layout and of the program of a file.
use Rattle.std.proofs.Common.{◌≡◌, ℕ, ◌+◌, ◌*◌, ◌≤◌, true, List, [], ◌∷◌, None, Result, Ok, Err, map, filter, length, take, drop, refl, ap, sym, subst, ◌∙◌, arith}
use Rattle.std.specs.List.{range_with_len, AllByRecursion}
use Rattle.std.proofs.lemmas.List.{length-map}
use Rattle.guest_space.specs.declared.Extent.{Extent}
use Rattle.guest_space.specs.Regions.{extent_end, merged}
use Rattle.guest_space.proofs.Regions.{same_extents}
use Rattle.elf_loader.specs.declared.runs.Layout.{Layout}
use Rattle.elf_loader.specs.declared.ElfError.{ElfError}
use Rattle.elf_loader.specs.declared.pages.Page.{Page}
use Rattle.elf_loader.specs.Steps.{table_of, extent_of_page}
use Rattle.elf_loader.specs.Fields.{e_entry, e_phnum, program_header}
use Rattle.elf_loader.specs.Segments.{is_touched, touches, page_rights, end_page}
use Rattle.elf_loader.specs.Refusal.{header_refusals, program_refusal, pages, refusal}
use Rattle.elf_loader.specs.Image.{page_extent, layout_of, bytes_at, page_bytes, page_count, extent_of, run_of, with_bytes, without_bytes, program_of, laid_out, loaded, IsLayout, IsImage, IsRunOfProcess, FitsProcess, AreWhole}
use Rattle.elf_loader.proofs.Below.{any_below-some}
use Rattle.elf_loader.proofs.ExtentLists.{AreMaximal-merged, extent_rights-merged, sum_by-merged, sum_by-single, each-single, each-merged}
use Rattle.elf_loader.proofs.MemoryBytes.{length-bytes_at, bytes_at-part}
use Rattle.elf_loader.proofs.Refusals.{header_refusals-each, IsPlaced-from_none, end_page-small, page_rights-small, program_refusal-parts, refusal-parts}
use Rattle.elf_loader.proofs.TouchedPages.{is_touched-below_end, is_touched-from_end, touches-parts}

pub each-map : {A B : Type 0} (f : A → B) (P : B → Type 0) → ((x : A) → P (f x)) → (xs : List A) → AllByRecursion P (map f xs)
each-map f P holds [] = tt
each-map f P holds (x ∷ xs) = (holds x, each-map f P holds xs)

module _ (file : List ℕ) where
  pub laid_out-accepted : refusal file ≡ None → laid_out file ≡ Ok (layout_of file)
  laid_out-accepted none = rw none refl

  pub loaded-accepted : refusal file ≡ None → loaded file ≡ Ok (program_of file)
  loaded-accepted none = rw none refl

  layout_or : Layout → Result Layout ElfError → Layout
  layout_or other (Ok layout) = layout
  layout_or other (Err error) = other

  pub layout_of-laid_out : (layout : Layout) → refusal file ≡ None → laid_out file ≡ Ok layout → layout ≡ layout_of file
  unfolding layout_or
  layout_of-laid_out layout none is = sym (ap (layout_or layout) (sym (laid_out-accepted none) ∙ is))

  pub layout_of-made : (entry end : ℕ) (runs : List Extent) → entry ≡ e_entry file → runs ≡ merged (map (page_extent file) (pages file)) → end ≡ end_page file → layout_of file ≡ record { entry = entry; runs = runs; end = 4096 * end }
  unfolding layout_of
  layout_of-made entry end runs first second third = λ i. record { entry = sym first i; runs = sym second i; end = 4096 * sym third i }

  map-map : {A B C : Type 0} (f : A → B) (g : B → C) (xs : List A) → map g (map f xs) ≡ map (λ x. g (f x)) xs
  map-map f g [] = refl
  map-map f g (x ∷ xs) = ap (λ ys. g (f x) ∷ ys) (map-map f g xs)

  -- the runs of the table of the touched pages
  pub runs-of_table : merged (map extent_of_page (table_of (is_touched file) (page_rights file) (end_page file))) ≡ merged (map (page_extent file) (pages file))
  unfolding table_of pages
  runs-of_table = ap merged (map-map (λ q. let page : Page = record { number = q; rights = page_rights file q } in page) extent_of_page (filter (is_touched file) (range_with_len 0 (end_page file))))

  pub length-table : length (table_of (is_touched file) (page_rights file) (end_page file)) ≡ length (pages file)
  unfolding table_of pages
  length-table =
      let page_of : ℕ → Page = λ q. record { number = q; rights = page_rights file q } in
      length-map (filter (is_touched file) (range_with_len 0 (end_page file))) page_of

  pub program_of-made : (layout : Layout) → layout ≡ layout_of file → program_of file ≡ with_bytes file layout
  unfolding program_of
  program_of-made layout is = ap (with_bytes file) (sym is)

  pub IsLayout-layout_of : IsLayout file (layout_of file)
  unfolding layout_of pages
  IsLayout-layout_of =
      record {
        maximal = AreMaximal-merged (is_touched file) (page_rights file) 0 (end_page file);
        rights = λ page. extent_rights-merged (is_touched file) (page_rights file) (end_page file) page (λ above. is_touched-from_end file page above);
        entry = refl;
        end = refl;
      }

  -- no other layout has these runs
  pub layout_of-only : (layout : Layout) → IsLayout file layout → layout ≡ layout_of file
  layout_of-only layout is =
      let own = IsLayout-layout_of in
      let runs : layout.runs ≡ (layout_of file).runs =
      same_extents layout.runs (layout_of file).runs is.maximal own.maximal (λ page. is.rights page ∙ sym (own.rights page)) in
      λ i. record { entry = (is.entry ∙ sym own.entry) i; runs = runs i; end = (is.end ∙ sym own.end) i }

  -- Runs with their bytes

  page_count-run_of : (extent : Extent) → page_count (run_of file extent) ≡ extent.count
  page_count-run_of extent = let size = length-bytes_at file (4096 * extent.page) (4096 * extent.count) in omega arith

  extents_same : (extents : List Extent) → map extent_of (map (run_of file) extents) ≡ extents
  extents_same [] = refl
  extents_same (extent ∷ extents) =
      λ i. record { page = extent.page; count = page_count-run_of extent i; rights = extent.rights } ∷ extents_same extents i

  pub without_bytes-with_bytes : (layout : Layout) → without_bytes (with_bytes file layout) ≡ layout
  without_bytes-with_bytes layout = λ i. record { entry = layout.entry; runs = extents_same layout.runs i; end = layout.end }

  pub without_bytes-program_of : without_bytes (program_of file) ≡ layout_of file
  unfolding program_of
  without_bytes-program_of = without_bytes-with_bytes (layout_of file)

  pub AreWhole-with_bytes : (layout : Layout) → AreWhole (with_bytes file layout).runs
  AreWhole-with_bytes layout =
      each-map (run_of file) (λ run. length run.bytes ≡ 4096 * page_count run)
      (λ extent.
      length-bytes_at file (4096 * extent.page) (4096 * extent.count) ∙ ap (λ n. 4096 * n) (sym (page_count-run_of extent)))
      layout.runs

  pub IsImage-with_bytes : (layout : Layout) → IsLayout file layout → IsImage file (with_bytes file layout)
  IsImage-with_bytes layout is =
      record {
        layout = subst (IsLayout file) (sym (without_bytes-with_bytes layout)) is;
        bytes =
            each-map (run_of file) (λ run. run.bytes ≡ page_bytes file run.page (page_count run))
            (λ extent. ap (page_bytes file extent.page) (sym (page_count-run_of extent)))
            layout.runs;
      }

  pub IsImage-program_of : IsImage file (program_of file)
  unfolding program_of
  IsImage-program_of = IsImage-with_bytes (layout_of file) IsLayout-layout_of

  pub pieces-program_of : AllByRecursion (λ run. (from size : ℕ) → from + size ≤ length run.bytes → bytes_at file (4096 * run.page + from) size ≡ take size (drop from run.bytes)) (program_of file).runs
  unfolding program_of
  pieces-program_of =
      each-map (run_of file) (λ run. (from size : ℕ) → from + size ≤ length run.bytes → bytes_at file (4096 * run.page + from) size ≡ take size (drop from run.bytes))
      (λ extent from size within.
      let whole = length-bytes_at file (4096 * extent.page) (4096 * extent.count) in
      bytes_at-part file (4096 * extent.page) (4096 * extent.count) from size (omega arith))
      (layout_of file).runs

  -- A file that isn't refused

  module _ (sound : header_refusals file (e_phnum file) ≡ None) where
    touched_above : (page : ℕ) → is_touched file page ≡ true → 1 ≤ page
    unfolding is_touched
    touched_above page touched =
        let found = any_below-some (λ i. touches (program_header file i) page) (e_phnum file) touched in
        let h = program_header file found.0 in
        let parts = touches-parts h page found.2 in
        let placed = IsPlaced-from_none file found.0 (header_refusals-each file (e_phnum file) found.0 found.1 sound) parts.0 in
        let limit = placed.above in
        let first = parts.1 in
        omega arith

    IsRunOfProcess-page : (page : ℕ) → is_touched file page ≡ true → IsRunOfProcess (page_extent file page)
    IsRunOfProcess-page page touched =
        let last = is_touched-below_end file page touched in
        let small = end_page-small file sound in
        record {
          above = touched_above page touched;
          below = omega arith;
          rights = page_rights-small file page;
        }

    IsRunOfProcess-joins : (e next : Extent) → extent_end e ≡ next.page → IsRunOfProcess e → IsRunOfProcess next → IsRunOfProcess (record { page = e.page; count = e.count + next.count; rights = e.rights })
    IsRunOfProcess-joins e next ends first second =
        let limit = second.below in
        record { above = first.above; below = omega arith; rights = first.rights }

    pub FitsProcess-layout_of : program_refusal file ≡ None → FitsProcess (layout_of file)
    unfolding layout_of pages
    FitsProcess-layout_of whole =
        let total = sum_by-merged (map (page_extent file) (filter (is_touched file) (range_with_len 0 (end_page file)))) ∙ sum_by-single (is_touched file) (page_rights file) (filter (is_touched file) (range_with_len 0 (end_page file))) in
        let parts = program_refusal-parts file whole in
        record {
          runs = each-merged IsRunOfProcess IsRunOfProcess-joins _ (each-single (is_touched file) (page_rights file) IsRunOfProcess IsRunOfProcess-page (end_page file) 0);
          rising = AreMaximal-merged (is_touched file) (page_rights file) 0 (end_page file);
          few = let few = parts.0 in omega arith;
          entry = parts.1;
        }

  pub FitsProcess-accepted : refusal file ≡ None → FitsProcess (layout_of file)
  FitsProcess-accepted none = let parts = refusal-parts file none in FitsProcess-layout_of parts.1 parts.2
