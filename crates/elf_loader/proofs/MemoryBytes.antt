-- The bytes of memory: of one segment more, and what a copy from the file leaves.
use Rattle.std.proofs.Common.{◌≡◌, ℕ, zero, suc, ◌+◌, ◌-◌, ◌<◌, ◌≤◌, min, max, true, false, cond, leb, ltb, List, [], ◌∷◌, map, replicate, length, take, drop, get_or, ◌++◌, refl, ap, ap₂, sym, subst, ◌∙◌, ⊎_elim, arith, add-one, length-drop}
use Rattle.std.specs.List.{range_with_len}
use Rattle.std.proofs.lemmas.Bool.{cond-true, cond-false, and_left, and_right, and_from, and_parts, cases_lt, le-leb, lt-leb, leb-true, lt-ltb, le-ltb, ltb-true, false_from_ne_true, both_ways}
use Rattle.std.proofs.lemmas.List.{map-append, take_at, drop_at, get_or_append_left, get_or-append_right, get_or-take, get_or-drop, length-take-le, ext_get_or}
use Rattle.std.proofs.lemmas.List.FromFn.{length-map-range_with_len, get_or-map-range_with_len}
use borrow.Rule.Slice.PartMut.{put_mid}
use Rattle.elf_loader.proofs.Below.{at_last}
use Rattle.elf_loader.specs.declared.header.ProgramHeader.{ProgramHeader}
use Rattle.elf_loader.specs.Fields.{program_header}
use Rattle.elf_loader.specs.Segments.{is_segment, memory_end, meets, covers, segment_byte, byte_below, byte_of}
use Rattle.elf_loader.specs.Image.{bytes_at}
use Rattle.elf_loader.specs.Steps.{holds_file_byte, IsPlaced}

-- An element of a list of which a part was overwritten

module _ (at len : ℕ) (memory part : List ℕ) (inside : at + len ≤ length memory) (whole : length part ≡ len) (k : ℕ) where
  front : length (take at memory) ≡ at
  front = length-take-le at memory (omega arith)

  pub get_or-put_mid_before : k < at → get_or (put_mid at len memory part) k 0 ≡ get_or memory k 0
  get_or-put_mid_before before =
      get_or_append_left (take at memory) _ 0 k (omega (arith, front)) ∙ get_or-take at memory k 0 before

  pub get_or-put_mid_inside : at ≤ k → k < at + len → get_or (put_mid at len memory part) k 0 ≡ get_or part (k - at) 0
  get_or-put_mid_inside above below =
      get_or-append_right (take at memory) _ at k 0 front above ∙ get_or_append_left part _ 0 (k - at) (omega (arith, whole))

  pub get_or-put_mid_behind : at + len ≤ k → get_or (put_mid at len memory part) k 0 ≡ get_or memory k 0
  get_or-put_mid_behind behind =
      get_or-append_right (take at memory) _ at k 0 front (omega arith)
      ∙ (get_or-append_right part _ len (k - at) 0 whole (omega arith)
      ∙ (get_or-drop len (drop at memory) (k - at - len) 0
      ∙ (get_or-drop at memory (len + (k - at - len)) 0
      ∙ ap (λ n. get_or memory n 0) (omega arith))))

-- A copy of the bytes of a segment that the file has

module _ (file memory part : List ℕ) (h : ProgramHeader) (placed : IsPlaced file h) (start from end at len : ℕ)
    (first : from ≡ max start h.p_vaddr) (last : end ≡ min (start + length memory) (h.p_vaddr + h.p_filesz)) (some : from < end)
    (at_is : at ≡ from - start) (len_is : len ≡ end - from) (copied : part ≡ take len (drop (h.p_offset + (from - h.p_vaddr)) file)) (k : ℕ) (within : k < length memory) where
  source_fits : h.p_offset + (from - h.p_vaddr) + len ≤ length file
  source_fits = let in_file = placed.in_file (omega arith) in omega arith

  whole_part : length part ≡ len
  whole_part =
      ap length copied
      ∙ length-take-le len (drop (h.p_offset + (from - h.p_vaddr)) file) (let rest = length-drop (h.p_offset + (from - h.p_vaddr)) file in let fits = source_fits in omega arith)

  pub get_or-copied : get_or (put_mid at len memory part) k 0 ≡ cond (holds_file_byte h (start + k)) (get_or file (h.p_offset + (start + k - h.p_vaddr)) 0) (get_or memory k 0)
  get_or-copied =
      let inside : at + len ≤ length memory = omega arith in
      ⊎_elim
      (λ (l : k < at).
      get_or-put_mid_before at len memory part inside whole_part k l
      ∙ sym (cond-false (holds_file_byte h (start + k)) _ _ (and_left _ _ (lt-leb h.p_vaddr (start + k) (omega arith)))))
      (λ (l : at ≤ k).
      ⊎_elim
      (λ (m : k < at + len).
      get_or-put_mid_inside at len memory part inside whole_part k l m
      ∙ (ap (λ p. get_or p (k - at) 0) copied
      ∙ (get_or-take len (drop (h.p_offset + (from - h.p_vaddr)) file) (k - at) 0 (omega arith)
      ∙ (get_or-drop (h.p_offset + (from - h.p_vaddr)) file (k - at) 0
      ∙ (ap (λ n. get_or file n 0) (omega arith)
      ∙ sym (cond-true (holds_file_byte h (start + k)) _ _ (and_from _ _ (le-leb h.p_vaddr (start + k) (omega arith)) (lt-ltb (start + k) (h.p_vaddr + h.p_filesz) (omega arith)))))))))
      (λ (m : at + len ≤ k).
      get_or-put_mid_behind at len memory part inside whole_part k m
      ∙ sym (cond-false (holds_file_byte h (start + k)) _ _ (and_right _ _ (le-ltb (start + k) (h.p_vaddr + h.p_filesz) (omega arith)))))
      (cases_lt k (at + len)))
      (cases_lt k at)

-- One segment more

module _ (file : List ℕ) where
  pub byte_below-more : (address i : ℕ) → byte_below file address (i + 1) ≡ cond (covers (program_header file i) address) (segment_byte file (program_header file i) address) (byte_below file address i)
  unfolding byte_below
  byte_below-more address i = rw add-one refl

  pub byte_below-uncovered : (address n : ℕ) → ((j : ℕ) → j < n → covers (program_header file j) address ≡ false) → byte_below file address n ≡ 0
  unfolding byte_below
  byte_below-uncovered address zero none = refl
  byte_below-uncovered address (suc n) none =
      rw (none n (omega arith)) (byte_below-uncovered address n (λ j below. none j (omega arith)))

  -- segments that have no address in common don't cover one together
  pub covers-apart : (address : ℕ) (h other : ProgramHeader) → meets h other ≡ false → covers h address ≡ true → covers other address ≡ false
  unfolding meets covers
  covers-apart address h other apart covered =
      let mine = and_parts (is_segment h) _ covered in
      let bounds = and_parts (leb h.p_vaddr address) (ltb address (memory_end h)) mine.1 in
      let above : h.p_vaddr ≤ address = leb-true h.p_vaddr address bounds.0 in
      let below : address < memory_end h = ltb-true address (memory_end h) bounds.1 in
      false_from_ne_true _ (λ yours.
      let theirs = and_parts (is_segment other) _ yours in
      let limits = and_parts (leb other.p_vaddr address) (ltb address (memory_end other)) theirs.1 in
      let above' : other.p_vaddr ≤ address = leb-true other.p_vaddr address limits.0 in
      let below' : address < memory_end other = ltb-true address (memory_end other) limits.1 in
      both_ways _ apart
      (and_from (is_segment h) _ mine.0
      (and_from (is_segment other) _ theirs.0
      (and_from (ltb h.p_vaddr (memory_end other)) (ltb other.p_vaddr (memory_end h))
      (lt-ltb h.p_vaddr (memory_end other) (omega arith))
      (lt-ltb other.p_vaddr (memory_end h) (omega arith))))))

  -- what the file has of a segment, over what the segments before it leave
  pub byte_below-copied : (address i : ℕ) → is_segment (program_header file i) ≡ true → IsPlaced file (program_header file i) → ((j : ℕ) → j < i → meets (program_header file i) (program_header file j) ≡ false) → byte_below file address (i + 1) ≡ cond (holds_file_byte (program_header file i) address) (get_or file ((program_header file i).p_offset + (address - (program_header file i).p_vaddr)) 0) (byte_below file address i)
  unfolding covers segment_byte
  byte_below-copied address i segment placed apart =
      let h = program_header file i in
      let byte : ℕ = get_or file (h.p_offset + (address - h.p_vaddr)) 0 in
      let old = byte_below file address i in
      byte_below-more address i
      ∙ ⊎_elim
      (λ (l : address < h.p_vaddr).
      cond-false (covers h address) _ _ (and_right (is_segment h) _ (and_left _ _ (lt-leb h.p_vaddr address l)))
      ∙ sym (cond-false (holds_file_byte h address) byte old (and_left _ _ (lt-leb h.p_vaddr address l))))
      (λ (l : h.p_vaddr ≤ address).
      ⊎_elim
      (λ (m : address < memory_end h).
      let covered : covers h address ≡ true =
      and_from (is_segment h) _ segment (and_from _ _ (le-leb h.p_vaddr address l) (lt-ltb address (memory_end h) m)) in
      let clear : old ≡ 0 = byte_below-uncovered address i (λ j below. covers-apart address h (program_header file j) (apart j below) covered) in
      cond-true (covers h address) (segment_byte file h address) old covered
      ∙ ⊎_elim
      (λ (n : address - h.p_vaddr < h.p_filesz).
      cond-true (ltb (address - h.p_vaddr) h.p_filesz) byte 0 (lt-ltb (address - h.p_vaddr) h.p_filesz n)
      ∙ sym (cond-true (holds_file_byte h address) byte old (and_from _ _ (le-leb h.p_vaddr address l) (lt-ltb address (h.p_vaddr + h.p_filesz) (omega arith)))))
      (λ (n : h.p_filesz ≤ address - h.p_vaddr).
      cond-false (ltb (address - h.p_vaddr) h.p_filesz) byte 0 (le-ltb (address - h.p_vaddr) h.p_filesz n)
      ∙ (sym clear
      ∙ sym (cond-false (holds_file_byte h address) byte old (and_right _ _ (le-ltb address (h.p_vaddr + h.p_filesz) (omega arith))))))
      (cases_lt (address - h.p_vaddr) h.p_filesz))
      (λ (m : memory_end h ≤ address).
      let short = placed.fits in
      cond-false (covers h address) _ _ (and_right (is_segment h) _ (and_right _ _ (le-ltb address (memory_end h) m)))
      ∙ sym (cond-false (holds_file_byte h address) byte old (and_right _ _ (le-ltb address (h.p_vaddr + h.p_filesz) (omega arith)))))
      (cases_lt address (memory_end h)))
      (cases_lt address h.p_vaddr)

  pub byte_below-no_segment : (address i : ℕ) → is_segment (program_header file i) ≡ false → byte_below file address (i + 1) ≡ byte_below file address i
  unfolding covers
  byte_below-no_segment address i none =
      byte_below-more address i ∙ cond-false _ _ _ (and_left (is_segment (program_header file i)) _ none)

-- the one header that covers an address gives its byte
pub byte_below-covered : (file : List ℕ) (address n i : ℕ) → i < n → ((j k : ℕ) → k < j → j < n → meets (program_header file j) (program_header file k) ≡ false) → covers (program_header file i) address ≡ true → byte_below file address n ≡ segment_byte file (program_header file i) address
unfolding byte_below
byte_below-covered file address zero i within apart covered = absurd (omega arith)
byte_below-covered file address (suc n) i within apart covered =
    ⊎_elim
    (λ (e : i ≡ n). rw (subst (λ j. covers (program_header file j) address ≡ true) e covered) (ap (λ j. segment_byte file (program_header file j) address) (sym e)))
    (λ (l : i < n).
    rw
    (false_from_ne_true (covers (program_header file n) address)
    (λ both. both_ways _ (covers-apart file address (program_header file n) (program_header file i) (apart n i l (omega arith)) both) covered))
    (byte_below-covered file address n i l (λ j k order below. apart j k order (omega arith)) covered))
    (at_last i n within)

-- Lists of bytes

range_with_len-append : (m a n : ℕ) → range_with_len a (m + n) ≡ range_with_len a m ++ range_with_len (a + m) n
range_with_len-append zero a n = ap₂ (λ x k. range_with_len x k) (omega arith) (omega arith)
range_with_len-append (suc m) a n =
    let next : suc m + n ≡ suc (m + n) = omega arith in
    ap (λ k. range_with_len a k) next
    ∙ ap (λ xs. a ∷ xs) (range_with_len-append m (a + 1) n ∙ ap (λ x. range_with_len (a + 1) m ++ range_with_len x n) (omega arith))

module _ (file : List ℕ) where
  pub length-bytes_at : (start size : ℕ) → length (bytes_at file start size) ≡ size
  unfolding bytes_at
  length-bytes_at start size = length-map-range_with_len (byte_of file) start size

  pub bytes_at-append : (start m n : ℕ) → bytes_at file start (m + n) ≡ bytes_at file start m ++ bytes_at file (start + m) n
  unfolding bytes_at
  bytes_at-append start m n =
      ap (map (byte_of file)) (range_with_len-append m start n)
      ∙ map-append (byte_of file) (range_with_len start m) (range_with_len (start + m) n)

  -- a part of the bytes
  pub bytes_at-part : (start n from size : ℕ) → from + size ≤ n → bytes_at file (start + from) size ≡ take size (drop from (bytes_at file start n))
  bytes_at-part start n from size within =
      let rest : ℕ = n - from - size in
      let split : bytes_at file start n ≡ bytes_at file start from ++ bytes_at file (start + from) (size + rest) =
      ap (bytes_at file start) (omega arith) ∙ bytes_at-append start from (size + rest) in
      sym (ap (λ bytes. take size (drop from bytes)) split
      ∙ (ap (take size) (drop_at (bytes_at file start from) _ from (length-bytes_at start from))
      ∙ (ap (take size) (bytes_at-append (start + from) size rest)
      ∙ take_at (bytes_at file (start + from) size) _ size (length-bytes_at (start + from) size))))

pub map-same : (f g : ℕ → ℕ) (xs : List ℕ) → ((x : ℕ) → f x ≡ g x) → map f xs ≡ map g xs
map-same f g [] same = refl
map-same f g (x ∷ xs) same = ap₂ (λ y ys. y ∷ ys) (same x) (map-same f g xs same)

-- a list that a function of the address gives, from the reads of it
pub map-from_reads : (f : ℕ → ℕ) (start n : ℕ) (xs : List ℕ) → length xs ≡ n → ((k : ℕ) → k < n → get_or xs k 0 ≡ f (start + k)) → xs ≡ map f (range_with_len start n)
map-from_reads f start n xs size reads =
    ext_get_or 0 xs (map f (range_with_len start n)) (size ∙ sym (length-map-range_with_len f start n))
    (λ k within.
    let below : k < n = omega (arith, size) in
    reads k below ∙ sym (get_or-map-range_with_len f start n k (start + k) 0 below refl))

pub replicate-is_map : (start n : ℕ) → replicate {A = ℕ} n 0 ≡ map (λ address. 0) (range_with_len start n)
replicate-is_map start zero = refl
replicate-is_map start (suc n) = ap (λ xs. 0 ∷ xs) (replicate-is_map (start + 1) n)

-- memory after the copy of a segment's bytes, from what it was
pub bytes-copied : (file : List ℕ) (h : ProgramHeader) (i start n : ℕ) (old new : List ℕ) → h ≡ program_header file i → is_segment h ≡ true → IsPlaced file h → ((j : ℕ) → j < i → meets (program_header file i) (program_header file j) ≡ false) → old ≡ map (λ address. byte_below file address i) (range_with_len start n) → length new ≡ length old → ((k : ℕ) → k < length old → get_or new k 0 ≡ cond (holds_file_byte h (start + k)) (get_or file (h.p_offset + (start + k - h.p_vaddr)) 0) (get_or old k 0)) → new ≡ map (λ address. byte_below file address (i + 1)) (range_with_len start n)
bytes-copied file h i start n old new is segment placed apart before same reads =
    let size : length old ≡ n = ap length before ∙ length-map-range_with_len (λ address. byte_below file address i) start n in
    map-from_reads (λ address. byte_below file address (i + 1)) start n new (same ∙ size)
    (λ k below.
    let was : get_or old k 0 ≡ byte_below file (start + k) i =
    ap (λ xs. get_or xs k 0) before ∙ get_or-map-range_with_len (λ address. byte_below file address i) start n k (start + k) 0 below refl in
    reads k (omega (arith, size))
    ∙ (ap (λ byte. cond (holds_file_byte h (start + k)) (get_or file (h.p_offset + (start + k - h.p_vaddr)) 0) byte) was
    ∙ (ap (λ x. cond (holds_file_byte x (start + k)) (get_or file (x.p_offset + (start + k - x.p_vaddr)) 0) (byte_below file (start + k) i)) is
    ∙ sym (byte_below-copied file (start + k) i (subst (λ x. is_segment x ≡ true) is segment) (subst (λ x. IsPlaced file x) is placed) apart))))
