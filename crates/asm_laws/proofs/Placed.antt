-- The pages and the bytes of an assembled file in memory.
use Rattle.std.proofs.Common.{◌≡◌, ℕ, ◌+◌, ◌-◌, ◌*◌, ◌≤◌, ◌<◌, Bool, true, false, cond, ltb, max, bit_or, List, [], ◌∷◌, length, get_or, Some, None, refl, sym, ap, ◌∙◌, arith}
use Rattle.std.proofs.lemmas.Bool.{lt-ltb, le-ltb, lt-leb, le-leb}
use Rattle.std.proofs.lemmas.Bool.Decides.{nat_tests}
use Rattle.std.proofs.lemmas.List.{get_or-append-add}
use Rattle.guest_space.specs.declared.Extent.{Extent}
use Rattle.guest_space.specs.Space.{in_run}
use Rattle.guest_space.specs.Regions.{extent_rights}
use Rattle.elf_loader.specs.declared.runs.Layout.{Layout}
use Rattle.elf_loader.specs.declared.header.ProgramHeader.{ProgramHeader}
use Rattle.elf_loader.specs.Fields.{e_phnum, program_header}
use Rattle.elf_loader.specs.Segments.{any_below, union_below, max_below, is_segment, last_page, covers, segment_byte, touches, segment_rights, is_touched, page_rights, end_page, byte_below, byte_of}
use Rattle.elf_loader.specs.Image.{layout_of}
use Rattle.elf_loader.proofs.ImageLaws.{layout_of-only}
use Rattle.rv_asm.specs.Encoding.{base, limit}
use Rattle.rv_asm.specs.File.{file_of}
use Rattle.asm_laws.specs.Image.{page_count}
use Rattle.asm_laws.proofs.Headers.{segment, front, file_of-front, e_phnum-file_of, e_entry-file_of, program_header-file_of}

-- A file with one program header

is_touched-one : (file : List ℕ) (h : ProgramHeader) (page : ℕ) → e_phnum file ≡ 1 → program_header file 0 ≡ h → is_touched file page ≡ touches h page
unfolding is_touched any_below
is_touched-one file h page one e =
    ap (any_below (λ i. touches (program_header file i) page)) one ∙ ap (λ x. touches x page) e

page_rights-one : (file : List ℕ) (h : ProgramHeader) (page : ℕ) → e_phnum file ≡ 1 → program_header file 0 ≡ h
    → page_rights file page ≡ bit_or 0 (cond (touches h page) (segment_rights h) 0)
unfolding page_rights union_below
page_rights-one file h page one e =
    ap (union_below (λ i. cond (touches (program_header file i) page) (segment_rights (program_header file i)) 0)) one
    ∙ ap (λ x. bit_or 0 (cond (touches x page) (segment_rights x) 0)) e

end_page-one : (file : List ℕ) (h : ProgramHeader) → e_phnum file ≡ 1 → program_header file 0 ≡ h
    → end_page file ≡ max 0 (cond (is_segment h) (last_page h + 1) 0)
unfolding end_page max_below
end_page-one file h one e =
    ap (max_below (λ i. cond (is_segment (program_header file i)) (last_page (program_header file i) + 1) 0)) one
    ∙ ap (λ x. max 0 (cond (is_segment x) (last_page x + 1) 0)) e

byte_of-one : (file : List ℕ) (h : ProgramHeader) (address : ℕ) → e_phnum file ≡ 1 → program_header file 0 ≡ h
    → byte_of file address ≡ cond (covers h address) (segment_byte file h address) 0
unfolding byte_below
byte_of-one file h address one e =
    ap (byte_below file address) one ∙ ap (λ x. cond (covers x address) (segment_byte file x address) 0) e

-- The pages

module _ (n : ℕ) (some : 1 ≤ n) where
  there : ltb 0 n ≡ true
  there = lt-ltb 0 n some

  touches-segment : (page : ℕ) → touches (segment n) page ≡ in_run 16 (page_count n) page
  unfolding touches
  touches-segment page = rw there (grind (arith, nat_tests))

  rights_of : segment_rights (segment n) ≡ 7
  unfolding segment_rights
  rights_of = refl

  end_of : max 0 (cond (is_segment (segment n)) (last_page (segment n) + 1) 0) ≡ 16 + page_count n
  end_of = rw there (omega arith)

abbrev pub extent : ℕ → Extent
extent n = record { page = 16; count = page_count n; rights = 7 }

abbrev pub layout : ℕ → Layout
layout n = record { entry = base; runs = extent n ∷ []; end = 4096 * (16 + page_count n) }

rights-cases : (t : Bool) → cond t (Some 7) None ≡ cond t (Some (bit_or 0 (cond t 7 0))) None
rights-cases true = refl
rights-cases false = refl

module _ (bytes : List ℕ) (some : 1 ≤ length bytes) (few : base + length bytes ≤ limit) where
  file : List ℕ
  file = file_of bytes

  header : program_header (file_of bytes) 0 ≡ segment (length bytes)
  header = program_header-file_of bytes (omega arith)

  touched : (page : ℕ) → is_touched (file_of bytes) page ≡ in_run 16 (page_count (length bytes)) page
  touched page = is_touched-one (file_of bytes) (segment (length bytes)) page (e_phnum-file_of bytes) header ∙ touches-segment (length bytes) some page

  rights-is : (page : ℕ) → page_rights (file_of bytes) page ≡ bit_or 0 (cond (in_run 16 (page_count (length bytes)) page) 7 0)
  rights-is page =
      page_rights-one (file_of bytes) (segment (length bytes)) page (e_phnum-file_of bytes) header
      ∙ (ap (λ t. bit_or 0 (cond t (segment_rights (segment (length bytes))) 0)) (touches-segment (length bytes) some page)
      ∙ ap (λ r. bit_or 0 (cond (in_run 16 (page_count (length bytes)) page) r 0)) (rights_of (length bytes) some))

  pub end-is : end_page (file_of bytes) ≡ 16 + page_count (length bytes)
  end-is = end_page-one (file_of bytes) (segment (length bytes)) (e_phnum-file_of bytes) header ∙ end_of (length bytes) some

  pub first_rights : page_rights (file_of bytes) 16 ≡ 7
  first_rights =
      let first : ltb 16 (16 + page_count (length bytes)) ≡ true = lt-ltb 16 (16 + page_count (length bytes)) (omega arith) in
      rights-is 16 ∙ ap (λ t. bit_or 0 (cond t 7 0)) first

  extent-is : (page : ℕ) → extent_rights (extent (length bytes) ∷ []) page ≡ cond (is_touched (file_of bytes) page) (Some (page_rights (file_of bytes) page)) None
  extent-is page =
      rights-cases (in_run 16 (page_count (length bytes)) page)
      ∙ (ap (λ r. cond (in_run 16 (page_count (length bytes)) page) (Some r) None) (sym (rights-is page))
      ∙ ap (λ t. cond t (Some (page_rights (file_of bytes) page)) None) (sym (touched page)))

  pub layout-is : layout (length bytes) ≡ layout_of (file_of bytes)
  layout-is = layout_of-only (file_of bytes) (layout (length bytes)) (record {
    maximal = (omega arith, tt, tt);
    rights = extent-is;
    entry = sym (e_entry-file_of bytes);
    end = ap (λ e. 4096 * e) (sym end-is);
  })

  -- The bytes

  byte-is : (address : ℕ) → byte_of (file_of bytes) address ≡ cond (covers (segment (length bytes)) address) (segment_byte (file_of bytes) (segment (length bytes)) address) 0
  byte-is address = byte_of-one (file_of bytes) (segment (length bytes)) address (e_phnum-file_of bytes) header

  pub byte-before : (address : ℕ) → address < base → byte_of (file_of bytes) address ≡ 0
  unfolding covers
  byte-before address h = byte-is address ∙ rw (there (length bytes) some, lt-leb base address h) refl

  pub byte-behind : (address : ℕ) → base + length bytes ≤ address → byte_of (file_of bytes) address ≡ 0
  unfolding covers
  byte-behind address h =
      byte-is address ∙ rw (there (length bytes) some, le-leb base address (omega arith), le-ltb address (base + length bytes) h) refl

  pub byte-inside : (k : ℕ) → k < length bytes → get_or bytes k 0 ≡ byte_of (file_of bytes) (base + k)
  unfolding covers segment_byte
  byte-inside k h =
      let shift : base + k - base ≡ k = omega arith in
      let own : get_or (file_of bytes) (120 + k) 0 ≡ get_or bytes k 0 =
      ap (λ f. get_or f (120 + k) 0) (file_of-front bytes) ∙ get_or-append-add (front (length bytes)) bytes k 0 in
      sym (byte-is (base + k) ∙ rw (there (length bytes) some, le-leb base (base + k) (omega arith), lt-ltb (base + k) (base + length bytes) (omega arith), shift, lt-ltb k (length bytes) h) own)
