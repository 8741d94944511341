-- Segments that lie apart don't meet.
use Rattle.std.proofs.Common.{◌≡◌, ℕ, ◌<◌, ◌≤◌, false, ltb, List, get_or, ap, ◌∙◌, ⊎_elim, arith}
use Rattle.std.proofs.lemmas.Bool.{and_parts, and_right, and_left, cases_order, ltb-true, le-ltb, false_from_ne_true}
use Rattle.std.proofs.lemmas.List.{get_or_default}
use Rattle.elf_loader.specs.declared.overlap.Segment.{Segment}
use Rattle.elf_loader.specs.Fields.{program_header}
use Rattle.elf_loader.specs.Segments.{is_segment, memory_end, meets}
use Rattle.elf_loader.specs.Refusal.{meets_earlier}
use Rattle.elf_loader.specs.Steps.{segment_of, HasSegments, LieApart}
use Rattle.elf_loader.proofs.Below.{any_below-all_false}

module _ (file : List ℕ) where
  pub meets_earlier-none : (i : ℕ) → ((j : ℕ) → j < i → meets (program_header file i) (program_header file j) ≡ false) → meets_earlier file i ≡ false
  unfolding meets_earlier
  meets_earlier-none i apart = any_below-all_false (λ j. meets (program_header file i) (program_header file j)) i apart

  -- a segment that begins where another ends or above it doesn't meet it
  pub meets-above : (i j : ℕ) → memory_end (program_header file j) ≤ (program_header file i).p_vaddr → meets (program_header file i) (program_header file j) ≡ false
  unfolding meets
  meets-above i j above =
      let h = program_header file i in
      let other = program_header file j in
      and_right (is_segment h) _ (and_right (is_segment other) _ (and_left (ltb h.p_vaddr (memory_end other)) _ (le-ltb h.p_vaddr (memory_end other) above)))

  pub meets-no_segment : (i j : ℕ) → is_segment (program_header file i) ≡ false → meets (program_header file i) (program_header file j) ≡ false
  unfolding meets
  meets-no_segment i j none = and_left (is_segment (program_header file i)) _ none

  pub meets-other_no_segment : (i j : ℕ) → is_segment (program_header file j) ≡ false → meets (program_header file i) (program_header file j) ≡ false
  unfolding meets
  meets-other_no_segment i j none = and_right (is_segment (program_header file i)) _ (and_left (is_segment (program_header file j)) _ none)

  module _ (n most : ℕ) (segments : List Segment) (has : HasSegments file most segments) (apart : LieApart n segments) (within : n ≤ most) where
    all_apart : (i j : ℕ) → i < n → j < i → meets (program_header file i) (program_header file j) ≡ false
    unfolding meets
    all_apart i j below earlier =
        let h = program_header file i in
        let other = program_header file j in
        false_from_ne_true (meets h other)
        (λ met.
        let mine = and_parts (is_segment h) _ met in
        let yours = and_parts (is_segment other) _ mine.1 in
        let bounds = and_parts (ltb h.p_vaddr (memory_end other)) (ltb other.p_vaddr (memory_end h)) yours.1 in
        let low : h.p_vaddr < memory_end other = ltb-true h.p_vaddr (memory_end other) bounds.0 in
        let high : other.p_vaddr < memory_end h = ltb-true other.p_vaddr (memory_end h) bounds.1 in
        let first = has i (omega arith) mine.0 in
        let second = has j (omega arith) yours.0 in
        let d : Segment = segment_of file i in
        let at_second : get_or segments second.0 d ≡ segment_of file j = get_or_default segments second.0 d (segment_of file j) second.1 ∙ second.2 in
        let number : (get_or segments first.0 d).number ≡ i = ap (λ s. s.number) first.2 in
        let other_number : (get_or segments second.0 d).number ≡ j = ap (λ s. s.number) at_second in
        ⊎_elim
        (λ (e : first.0 ≡ second.0). let same = ap (λ k. (get_or segments k d).number) e in absurd (omega arith))
        (λ o. ⊎_elim
        (λ (l : first.0 < second.0).
        let ends = apart first.0 second.0 d l second.1 (omega arith) (omega arith) in
        let end : memory_end (get_or segments first.0 d).header ≡ memory_end h = ap (λ s. memory_end s.header) first.2 in
        let start : (get_or segments second.0 d).header.p_vaddr ≡ other.p_vaddr = ap (λ s. s.header.p_vaddr) at_second in
        omega arith)
        (λ (l : second.0 < first.0).
        let ends = apart second.0 first.0 d l first.1 (omega arith) (omega arith) in
        let end : memory_end (get_or segments second.0 d).header ≡ memory_end other = ap (λ s. memory_end s.header) at_second in
        let start : (get_or segments first.0 d).header.p_vaddr ≡ h.p_vaddr = ap (λ s. s.header.p_vaddr) first.2 in
        omega arith)
        o)
        (cases_order first.0 second.0))

    pub meets_earlier-apart : (i : ℕ) → i < n → meets_earlier file i ≡ false
    meets_earlier-apart i below = meets_earlier-none i (λ j earlier. all_apart i j below earlier)
