-- The first refusal of the program headers.
use Rattle.std.proofs.Common.{◌≡◌, ℕ, zero, suc, ◌+◌, ◌-◌, ◌*◌, ◌^◌, ◌<◌, ◌≤◌, ◌%◌, ◌==◌, Bool, true, false, cond, ltb, ◌&&◌, length, List, Option, Some, None, refl, sym, subst, arith, ⊎_elim}
use Rattle.std.proofs.lemmas.Bool.{and_cases, or_parts, and_parts, both_ways, not-false, ltb-false, lt-ltb, le-ltb, eqb-true, cond_both}
use Rattle.std.proofs.lemmas.Nat.Bits.{bit_at-lt}
use Rattle.elf_loader.specs.declared.ElfError.{ElfError}
use Rattle.elf_loader.specs.declared.ElfError.TheVariants.{Interp, Segment, Overlap, Big, Entry}
use Rattle.elf_loader.specs.Fields.{e_entry, e_phnum, program_header}
use Rattle.elf_loader.specs.Segments.{is_segment, memory_end, last_page, meets, touches, segment_rights, page_rights, end_page}
use Rattle.elf_loader.specs.Steps.{IsPlaced}
use Rattle.elf_loader.specs.Refusal.{or_later, is_misplaced, leaves_file, leaves_pages, meets_earlier, file_refusal, lone_refusal, header_refusal, header_refusals, refusal, pages, is_runnable, program_refusal}
use Rattle.elf_loader.proofs.Below.{at_last, any_below-false, max_below-le, union_below-lt}

or_later-none : (first later : Option ElfError) → or_later first later ≡ None → (first ≡ None) × (later ≡ None)
or_later-none None later none = (refl, none)
or_later-none (Some error) later none = cc

not_refused : (test : Bool) (error : ElfError) (later : Option ElfError) → cond test (Some error) later ≡ None → (test ≡ false) × (later ≡ None)
not_refused true error later none = cc
not_refused false error later none = (refl, none)

module _ (file : List ℕ) where
  -- the first refusal is that of all
  pub header_refusals-first : (error : ElfError) (n i : ℕ) → i < n → header_refusals file i ≡ None → header_refusal file i ≡ Some error → header_refusals file n ≡ Some error
  unfolding header_refusals
  header_refusals-first error zero i below before here = absurd (omega arith)
  header_refusals-first error (suc n) i below before here =
      ⊎_elim
      (λ (e : i ≡ n). rw (subst (λ k. header_refusals file k ≡ None) e before, subst (λ k. header_refusal file k ≡ Some error) e here) refl)
      (λ (l : i < n). rw (header_refusals-first error n i l before here) refl)
      (at_last i n below)

  pub header_refusals-each : (n i : ℕ) → i < n → header_refusals file n ≡ None → header_refusal file i ≡ None
  unfolding header_refusals
  header_refusals-each zero i below none = absurd (omega arith)
  header_refusals-each (suc n) i below none =
      let parts = or_later-none (header_refusals file n) (header_refusal file n) none in
      ⊎_elim
      (λ (e : i ≡ n). subst (λ k. header_refusal file k ≡ None) (sym e) parts.1)
      (λ (l : i < n). header_refusals-each n i l parts.0)
      (at_last i n below)

  pub header_refusals-all : (n : ℕ) → ((i : ℕ) → i < n → header_refusal file i ≡ None) → header_refusals file n ≡ None
  unfolding header_refusals
  header_refusals-all zero none = refl
  header_refusals-all (suc n) none = rw (header_refusals-all n (λ i below. none i (omega arith)), none n (omega arith)) refl

  -- what a header gives

  pub header_refusal-none : (i : ℕ) → lone_refusal file i ≡ None → meets_earlier file i ≡ false → header_refusal file i ≡ None
  unfolding header_refusal
  header_refusal-none i lone apart = rw (lone, apart) refl

  pub header_refusal-overlap : (i : ℕ) → lone_refusal file i ≡ None → meets_earlier file i ≡ true → header_refusal file i ≡ Some (Overlap i)
  unfolding header_refusal
  header_refusal-overlap i lone meets = rw (lone, meets) refl

  pub header_refusal-lone : (i : ℕ) (error : ElfError) → lone_refusal file i ≡ Some error → header_refusal file i ≡ Some error
  unfolding header_refusal
  header_refusal-lone i error lone = rw lone refl

  lone_refusal-placed : (i : ℕ) → lone_refusal file i ≡ None → is_misplaced file (program_header file i) ≡ false
  unfolding lone_refusal
  lone_refusal-placed i none = (not_refused _ (Segment i) None (not_refused _ Interp _ none).1).0

  header_refusal-parts : (i : ℕ) → header_refusal file i ≡ None → (is_misplaced file (program_header file i) ≡ false) × (meets_earlier file i ≡ false)
  unfolding header_refusal
  header_refusal-parts i none =
      let parts = or_later-none (lone_refusal file i) _ none in
      (lone_refusal-placed i parts.0, (not_refused _ (Overlap i) None parts.1).0)

  pub IsPlaced-from_none : (i : ℕ) → header_refusal file i ≡ None → is_segment (program_header file i) ≡ true → IsPlaced file (program_header file i)
  unfolding is_misplaced leaves_file
  IsPlaced-from_none i none segment =
      let h = program_header file i in
      let rest = ⊎_elim (λ (e : is_segment h ≡ false). absurd (both_ways _ e segment)) (λ e. e) (and_cases (is_segment h) _ (header_refusal-parts i none).0) in
      let size = or_parts (ltb h.p_memsz h.p_filesz) _ rest in
      let places = or_parts (leaves_file file h) (leaves_pages h) size.1 in
      let limits = or_parts (ltb h.p_vaddr 4096) (ltb ((2 ^ 26 - 16) * 4096) (memory_end h)) places.1 in
      record {
        fits = ltb-false h.p_memsz h.p_filesz size.0;
        in_file = λ some.
            ⊎_elim
            (λ (e : ltb 0 h.p_filesz ≡ false). let none = ltb-false 0 h.p_filesz e in absurd (omega arith))
            (λ (e : ltb (length file) (h.p_offset + h.p_filesz) ≡ false). ltb-false (length file) (h.p_offset + h.p_filesz) e)
            (and_cases (ltb 0 h.p_filesz) _ places.0);
        above = ltb-false h.p_vaddr 4096 limits.0;
        below = ltb-false ((2 ^ 26 - 16) * 4096) (memory_end h) limits.1;
      }

  pub meets-from_none : (i j : ℕ) → j < i → header_refusal file i ≡ None → meets (program_header file i) (program_header file j) ≡ false
  unfolding meets_earlier
  meets-from_none i j below none = any_below-false (λ k. meets (program_header file i) (program_header file k)) i j below (header_refusal-parts i none).1

-- the pages end below those of the stack
pub end_page-small : (file : List ℕ) → header_refusals file (e_phnum file) ≡ None → end_page file ≤ 2 ^ 26 - 16
unfolding end_page
end_page-small file none =
    max_below-le (λ i. cond (is_segment (program_header file i)) (last_page (program_header file i) + 1) 0) (2 ^ 26 - 16) (e_phnum file)
    (λ i below.
    let h = program_header file i in
    cond_both (is_segment h) (last_page h + 1) 0 (λ x. x ≤ 2 ^ 26 - 16)
    (λ segment. let placed = IsPlaced-from_none file i (header_refusals-each file (e_phnum file) i below none) segment in let limit = placed.below in omega arith)
    (λ other. omega arith))

pub page_rights-small : (file : List ℕ) (page : ℕ) → page_rights file page < 8
unfolding page_rights segment_rights
page_rights-small file page =
    union_below-lt (λ i. cond (touches (program_header file i) page) (segment_rights (program_header file i)) 0) 3 (e_phnum file)
    (λ i.
    let h = program_header file i in
    cond_both (touches h page) (segment_rights h) 0 (λ x. x < 8)
    (λ _.
    let read = bit_at-lt h.p_flags 2 in
    let write = bit_at-lt h.p_flags 1 in
    let run = bit_at-lt h.p_flags 0 in
    omega arith)
    (λ _. omega arith))

pub program_refusal-parts : (file : List ℕ) → program_refusal file ≡ None → (length (pages file) ≤ 1008) × (e_entry file % 4 ≡ 0)
unfolding program_refusal
program_refusal-parts file none =
    let first = not_refused _ Big _ none in
    let second = not_refused _ Entry None first.1 in
    let good = and_parts (e_entry file % 4 == 0) (is_runnable file (e_entry file)) (not-false _ second.0) in
    (ltb-false 1008 (length (pages file)) first.0, eqb-true (e_entry file % 4) 0 good.0)

pub refusal-parts : (file : List ℕ) → refusal file ≡ None → (file_refusal file ≡ None) × (header_refusals file (e_phnum file) ≡ None) × (program_refusal file ≡ None)
refusal-parts file none =
    let first = or_later-none (file_refusal file) _ none in
    let rest = or_later-none (header_refusals file (e_phnum file)) (program_refusal file) first.1 in
    (first.0, rest.0, rest.1)

-- where the file header and the program headers are good, the program decides
pub refusal-of_program : (file : List ℕ) → file_refusal file ≡ None → header_refusals file (e_phnum file) ≡ None → refusal file ≡ program_refusal file
refusal-of_program file first second = rw (first, second) refl

module _ (file : List ℕ) where
  pub program_refusal-big : 1008 < length (pages file) → program_refusal file ≡ Some Big
  unfolding program_refusal
  program_refusal-big many = rw (lt-ltb 1008 (length (pages file)) many) refl

  pub program_refusal-entry : length (pages file) ≤ 1008 → false ≡ (e_entry file % 4 == 0 && is_runnable file (e_entry file)) → program_refusal file ≡ Some Entry
  unfolding program_refusal
  program_refusal-entry few bad = rw (le-ltb 1008 (length (pages file)) few, sym bad) refl

  pub program_refusal-none : length (pages file) ≤ 1008 → true ≡ (e_entry file % 4 == 0 && is_runnable file (e_entry file)) → program_refusal file ≡ None
  unfolding program_refusal
  program_refusal-none few good = rw (le-ltb 1008 (length (pages file)) few, sym good) refl
