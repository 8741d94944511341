-- The bytes of memory by the segments that lie there.
use Rattle.std.proofs.Common.{◌≡◌, ℕ, ◌+◌, ◌-◌, ◌<◌, ◌≤◌, inl, inr, true, false, cond, leb, ltb, List, length, drop, get_or, ap, sym, subst, ◌∙◌, ⊎_elim, arith, None, length-drop}
use Rattle.std.proofs.lemmas.Bool.{cond-true, cond-false, and_right, and_from, and_parts, cases_lt, cases_Bool, le-leb, leb-true, lt-ltb, le-ltb, ltb-true, false_from_ne_true, both_ways}
use Rattle.std.proofs.lemmas.List.{get_or-drop}
use Rattle.elf_loader.specs.declared.overlap.Segment.{Segment}
use Rattle.elf_loader.specs.Fields.{e_phnum, program_header}
use Rattle.elf_loader.specs.Segments.{is_segment, memory_end, covers, segment_byte, byte_of}
use Rattle.elf_loader.specs.Refusal.{header_refusals}
use Rattle.elf_loader.specs.Image.{bytes_at}
use Rattle.elf_loader.specs.Steps.{holds_file_byte, IsPlaced, IsFilled, HasSegments, HasSegmentsAbove, HasSegmentsBetween, segment_of}
use Rattle.elf_loader.proofs.Below.{at_last}
use Rattle.elf_loader.proofs.Refusals.{header_refusals-each, IsPlaced-from_none, meets-from_none}
use Rattle.elf_loader.proofs.MemoryBytes.{byte_below-covered, byte_below-uncovered, map-from_reads}

module _ (file : List ℕ) (sound : header_refusals file (e_phnum file) ≡ None) where
  pub placed : (i : ℕ) → i < e_phnum file → is_segment (program_header file i) ≡ true → IsPlaced file (program_header file i)
  placed i within segment = IsPlaced-from_none file i (header_refusals-each file (e_phnum file) i within sound) segment

  covering : (address i : ℕ) → i < e_phnum file → covers (program_header file i) address ≡ true
      → byte_of file address ≡ segment_byte file (program_header file i) address
  covering address i within is =
      byte_below-covered file address (e_phnum file) i within
      (λ j k order below. meets-from_none file j k order (header_refusals-each file (e_phnum file) j below sound)) is

  -- What a segment that covers an address leaves there.
  copied-covered : (segments : List Segment) (n address old new i : ℕ) → i < e_phnum file → covers (program_header file i) address ≡ true
      → new ≡ cond (holds_file_byte (program_header file i) address) (get_or file ((program_header file i).p_offset + (address - (program_header file i).p_vaddr)) 0) old
      → IsFilled file segments n address old → new ≡ byte_of file address
  unfolding covers segment_byte
  copied-covered segments n address old new i within is copied filled =
      let h = program_header file i in
      let byte : ℕ = get_or file (h.p_offset + (address - h.p_vaddr)) 0 in
      let bounds = and_parts (leb h.p_vaddr address) (ltb address (memory_end h)) (and_parts (is_segment h) _ is).1 in
      let above : h.p_vaddr ≤ address = leb-true h.p_vaddr address bounds.0 in
      ⊎_elim
      (λ (m : address - h.p_vaddr < h.p_filesz).
      copied
      ∙ (cond-true (holds_file_byte h address) byte old (and_from _ _ (le-leb h.p_vaddr address above) (lt-ltb address (h.p_vaddr + h.p_filesz) (omega arith)))
      ∙ (sym (cond-true (ltb (address - h.p_vaddr) h.p_filesz) byte 0 (lt-ltb (address - h.p_vaddr) h.p_filesz m)) ∙ sym (covering address i within is))))
      (λ (m : h.p_filesz ≤ address - h.p_vaddr).
      let none : byte_of file address ≡ 0 =
      covering address i within is ∙ cond-false (ltb (address - h.p_vaddr) h.p_filesz) byte 0 (le-ltb (address - h.p_vaddr) h.p_filesz m) in
      let kept : new ≡ old =
      copied ∙ cond-false (holds_file_byte h address) byte old (and_right _ _ (le-ltb address (h.p_vaddr + h.p_filesz) (omega arith))) in
      kept ∙ ⊎_elim (λ right. right) (λ rest. rest.0 ∙ sym none) filled)
      (cases_lt (address - h.p_vaddr) h.p_filesz)

  -- One that doesn't cover it leaves what is there.
  copied-uncovered : (address i : ℕ) → i < e_phnum file → is_segment (program_header file i) ≡ true → covers (program_header file i) address ≡ false
      → holds_file_byte (program_header file i) address ≡ false
  unfolding covers
  copied-uncovered address i within segment not =
      let h = program_header file i in
      let fits = (placed i within segment).fits in
      false_from_ne_true (holds_file_byte h address)
      (λ held.
      let bounds = and_parts (leb h.p_vaddr address) (ltb address (h.p_vaddr + h.p_filesz)) held in
      let below : address < h.p_vaddr + h.p_filesz = ltb-true address (h.p_vaddr + h.p_filesz) bounds.1 in
      both_ways _ not (and_from (is_segment h) _ segment (and_from _ _ bounds.0 (lt-ltb address (memory_end h) (omega arith)))))

  -- One segment more, which doesn't cover the address.
  IsFilled-more : (segments : List Segment) (n address byte i : ℕ) → ((d : Segment) → (get_or segments n d).header ≡ program_header file i)
      → covers (program_header file i) address ≡ false → IsFilled file segments n address byte → IsFilled file segments (n + 1) address byte
  IsFilled-more segments n address byte i is not (inl right) = inl right
  IsFilled-more segments n address byte i is not (inr rest) =
      inr (
        rest.0,
        λ k d below.
            ⊎_elim
            (λ (e : k ≡ n). subst (λ j. covers (get_or segments j d).header address ≡ false) (sym e) (subst (λ h. covers h address ≡ false) (sym (is d)) not))
            (λ (l : k < n). rest.1 k d l)
            (at_last k n (omega arith)),
      )

  -- One segment more, which is copied.
  pub IsFilled-copied : (segments : List Segment) (n address old new i : ℕ) → ((d : Segment) → (get_or segments n d).header ≡ program_header file i)
      → i < e_phnum file → is_segment (program_header file i) ≡ true
      → new ≡ cond (holds_file_byte (program_header file i) address) (get_or file ((program_header file i).p_offset + (address - (program_header file i).p_vaddr)) 0) old
      → IsFilled file segments n address old → IsFilled file segments (n + 1) address new
  IsFilled-copied segments n address old new i is within segment copied filled =
      let h = program_header file i in
      ⊎_elim
      (λ (c : covers h address ≡ true). inl (copied-covered segments n address old new i within c copied filled))
      (λ (c : covers h address ≡ false).
      let kept : new ≡ old = copied ∙ cond-false _ _ old (copied-uncovered address i within segment c) in
      subst (λ byte. IsFilled file segments (n + 1) address byte) (sym kept) (IsFilled-more segments n address old i is c filled))
      (cases_Bool (covers h address))

  -- Where none of the segments covers an address between the two, no header does.
  uncovered : (segments : List Segment) (start end address : ℕ) → HasSegmentsBetween file start end segments → start ≤ address → address < end
      → ((k : ℕ) (d : Segment) → k < length segments → covers (get_or segments k d).header address ≡ false)
      → (i : ℕ) → i < e_phnum file → covers (program_header file i) address ≡ false
  unfolding covers
  uncovered segments start end address has from below none i within =
      let h = program_header file i in
      false_from_ne_true (covers h address)
      (λ covered.
      let parts = and_parts (is_segment h) _ covered in
      let bounds = and_parts (leb h.p_vaddr address) (ltb address (memory_end h)) parts.1 in
      let low : h.p_vaddr ≤ address = leb-true h.p_vaddr address bounds.0 in
      let high : address < memory_end h = ltb-true address (memory_end h) bounds.1 in
      let found = has i within parts.0 (omega arith) (omega arith) in
      let header : (get_or segments found.0 (segment_of file i)).header ≡ h = ap (λ s. s.header) found.2 in
      both_ways _ (subst (λ x. covers x address ≡ false) header (none found.0 (segment_of file i) found.1)) covered)

  -- After all segments.
  IsFilled-all : (segments : List Segment) (start end address byte : ℕ) → HasSegmentsBetween file start end segments → start ≤ address → address < end
      → IsFilled file segments (length segments) address byte → byte ≡ byte_of file address
  IsFilled-all segments start end address byte has from below (inl right) = right
  IsFilled-all segments start end address byte has from below (inr rest) =
      rest.0 ∙ sym (byte_below-uncovered file address (e_phnum file) (λ i within. uncovered segments start end address has from below rest.1 i within))

  pub bytes-filled : (segments : List Segment) (start n : ℕ) (memory : List ℕ) → length memory ≡ n → HasSegmentsBetween file start (start + n) segments
      → ((k : ℕ) → k < n → IsFilled file segments (length segments) (start + k) (get_or memory k 0)) → memory ≡ bytes_at file start n
  unfolding bytes_at
  bytes-filled segments start n memory size has filled =
      map-from_reads (byte_of file) start n memory size
      (λ k below. IsFilled-all segments start (start + n) (start + k) (get_or memory k 0) has (omega arith) (omega arith) (filled k below))

-- The segments from a place on

module _ (file : List ℕ) (segments : List Segment) (start : ℕ) where
  pub HasSegmentsAbove-drop : (place : ℕ) → HasSegments file (e_phnum file) segments
      → ((k : ℕ) (d : Segment) → k < place → memory_end (get_or segments k d).header ≤ start) → HasSegmentsAbove file start (drop place segments)
  HasSegmentsAbove-drop place has below = λ i within segment above.
      let found = has i within segment in
      let end : memory_end (get_or segments found.0 (segment_of file i)).header ≡ memory_end (program_header file i) = ap (λ s. memory_end s.header) found.2 in
      let from : place ≤ found.0 =
      ⊎_elim (λ (l : found.0 < place). let low = below found.0 (segment_of file i) l in absurd (omega arith)) (λ (l : place ≤ found.0). l) (cases_lt found.0 place) in
      let at : place + (found.0 - place) ≡ found.0 = omega arith in (
        found.0 - place,
        omega (arith, length-drop place segments, found.1),
        get_or-drop place segments (found.0 - place) (segment_of file i) ∙ (ap (λ k. get_or segments k (segment_of file i)) at ∙ found.2),
      )
