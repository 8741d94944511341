-- Which pages are touched.
use Rattle.std.proofs.Common.{◌≡◌, ℕ, ◌+◌, ◌<◌, ◌≤◌, ◌==◌, true, false, cond, leb, ltb, List, sym, ◌∙◌, ⊎_elim, arith}
use Rattle.std.proofs.lemmas.Bool.{and_left, and_from, and_parts, cases_Bool, cond-true, cond-false, false_from_ne_true, le-leb, leb-true, ltb-true}
use Rattle.elf_loader.specs.declared.header.ProgramHeader.{ProgramHeader}
use Rattle.elf_loader.specs.Fields.{e_phnum, program_header}
use Rattle.elf_loader.specs.Segments.{is_segment, first_page, last_page, touches, is_touched, end_page}
use Rattle.elf_loader.proofs.Below.{any_below-at, any_below-some, max_below-at, max_below-some}

module _ (h : ProgramHeader) (page : ℕ) where
  pub touches-within : is_segment h ≡ true → first_page h ≤ page → page ≤ last_page h → touches h page ≡ true
  unfolding touches
  touches-within segment above below =
      and_from (is_segment h) _ segment (and_from _ _ (le-leb (first_page h) page above) (le-leb page (last_page h) below))

  pub touches-no_segment : is_segment h ≡ false → touches h page ≡ false
  unfolding touches
  touches-no_segment lacks = and_left (is_segment h) _ lacks

  pub touches-parts : touches h page ≡ true → (is_segment h ≡ true) × (first_page h ≤ page) × (page ≤ last_page h)
  unfolding touches
  touches-parts is =
      let outer = and_parts (is_segment h) _ is in
      let inner = and_parts (leb (first_page h) page) (leb page (last_page h)) outer.1 in
      (outer.0, leb-true (first_page h) page inner.0, leb-true page (last_page h) inner.1)

-- the pages of a segment end at the end of all or before it
pub last_page-below_end : (file : List ℕ) (i : ℕ) → i < e_phnum file → is_segment (program_header file i) ≡ true → last_page (program_header file i) + 1 ≤ end_page file
unfolding end_page
last_page-below_end file i below segment =
    let h = program_header file i in
    let value : ℕ → ℕ = λ j. cond (is_segment (program_header file j)) (last_page (program_header file j) + 1) 0 in
    let least = max_below-at value (e_phnum file) i below in
    let here : value i ≡ last_page h + 1 = cond-true (is_segment h) (last_page h + 1) 0 segment in
    omega (arith, least, here)

-- a touched page is below the end
pub is_touched-below_end : (file : List ℕ) (page : ℕ) → is_touched file page ≡ true → page < end_page file
unfolding is_touched
is_touched-below_end file page is =
    let found = any_below-some (λ i. touches (program_header file i) page) (e_phnum file) is in
    let parts = touches-parts (program_header file found.0) page found.2 in
    let least = last_page-below_end file found.0 found.1 parts.0 in
    omega (arith, parts.2, least)

pub is_touched-from_end : (file : List ℕ) (page : ℕ) → end_page file ≤ page → is_touched file page ≡ false
is_touched-from_end file page above = false_from_ne_true _ (λ is. let below = is_touched-below_end file page is in omega arith)

-- the page before the end is touched
pub is_touched-last : (file : List ℕ) (page : ℕ) → page + 1 ≡ end_page file → is_touched file page ≡ true
unfolding is_touched end_page
is_touched-last file page is =
    let value : ℕ → ℕ = λ j. cond (is_segment (program_header file j)) (last_page (program_header file j) + 1) 0 in
    ⊎_elim
    (λ (none : end_page file ≡ 0). absurd (omega arith))
    (λ (some : (j : ℕ) × (j < e_phnum file) × (value j ≡ end_page file)).
    let h = program_header file some.0 in
    ⊎_elim
    (λ (segment : is_segment h ≡ true).
    let last : last_page h + 1 ≡ end_page file = sym (cond-true (is_segment h) (last_page h + 1) 0 segment) ∙ some.2 in
    let size : 0 < h.p_memsz = ltb-true 0 h.p_memsz (and_parts (h.p_type == 1) (ltb 0 h.p_memsz) segment).1 in
    any_below-at (λ j. touches (program_header file j) page) (e_phnum file) some.0 some.1
    (touches-within h page segment (omega arith) (omega arith)))
    (λ (none : is_segment h ≡ false).
    let nothing : 0 ≡ end_page file = sym (cond-false (is_segment h) (last_page h + 1) 0 none) ∙ some.2 in
    absurd (omega arith))
    (cases_Bool (is_segment h)))
    (max_below-some value (e_phnum file))
