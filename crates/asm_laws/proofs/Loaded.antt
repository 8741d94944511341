-- The image of an assembled file.
use Rattle.std.proofs.Common.{◌≡◌, ℕ, ◌+◌, ◌*◌, ◌≤◌, ◌<◌, ◌%◌, true, ◌&&◌, ◌==◌, List, [], ◌∷◌, ◌++◌, length, get_or, replicate, None, Ok, Err, refl, sym, ap, ◌∙◌, arith}
use Rattle.std.specs.List.{range_with_len}
use Rattle.std.specs.Int.{bit_at}
use Rattle.std.proofs.lemmas.List.{get_or-replicate, length-replicate}
use Rattle.std.proofs.lemmas.List.Sums.{length-filter, count_by-le-length}
use Rattle.std.proofs.lemmas.List.FromFn.{length-range_with_len}
use Rattle.elf_loader.specs.declared.Program.{Program}
use Rattle.elf_loader.specs.declared.ElfError.TheVariants.{Entry}
use Rattle.elf_loader.specs.Fields.{number_at, program_header, e_entry}
use Rattle.elf_loader.specs.Segments.{any_below, union_below, max_below, covers, meets, segment_byte, touches, segment_rights, is_touched, page_rights, end_page, byte_below, byte_of}
use Rattle.elf_loader.specs.Refusal.{file_refusal, is_misplaced, leaves_file, meets_earlier, lone_refusal, header_refusal, header_refusals, pages, is_runnable, program_refusal, refusal}
use Rattle.elf_loader.specs.Image.{bytes_at, page_bytes, loaded}
use Rattle.elf_loader.proofs.Refusals.{program_refusal-none, refusal-of_program}
use Rattle.elf_loader.proofs.ImageLaws.{loaded-accepted, program_of-made}
use Rattle.elf_loader.proofs.MemoryBytes.{bytes_at-append, map-from_reads}
use Rattle.rv_asm.specs.Encoding.{base, limit}
use Rattle.rv_asm.specs.File.{file_of}
use Rattle.rv_asm.specs.Program.{assembled}
use Rattle.rv_asm.specs.Program as asm
use Rattle.asm_laws.proofs.Texts.{program_of-within, assembled-parts}
use Rattle.asm_laws.specs.Image.{page_count, rest, image_of}
use Rattle.asm_laws.proofs.Headers.{e_entry-file_of, file_refusal-file_of, header_refusals-file_of}
use Rattle.asm_laws.proofs.Placed.{layout, layout-is, end-is, first_rights, byte-before, byte-inside, byte-behind}

few_pages : (file : List ℕ) → length (pages file) ≤ end_page file
unfolding pages
few_pages file =
    let all = range_with_len 0 (end_page file) in
    omega (arith, length-filter (is_touched file) all, count_by-le-length (is_touched file) all, length-range_with_len 0 (end_page file))

zeros-at : (file : List ℕ) (start n : ℕ) → ((k : ℕ) → k < n → byte_of file (start + k) ≡ 0) → replicate n 0 ≡ bytes_at file start n
unfolding bytes_at
zeros-at file start n none =
    map-from_reads (byte_of file) start n (replicate n 0) (length-replicate n 0) (λ k below. get_or-replicate n k 0 0 below ∙ sym (none k below))

bytes-read : (file bytes : List ℕ) (start : ℕ) → ((k : ℕ) → k < length bytes → get_or bytes k 0 ≡ byte_of file (start + k)) → bytes ≡ bytes_at file start (length bytes)
unfolding bytes_at
bytes-read file bytes start reads = map-from_reads (byte_of file) start (length bytes) bytes refl reads

module _ (bytes : List ℕ) (some : 1 ≤ length bytes) (few : base + length bytes ≤ limit) where
  accepted : refusal (file_of bytes) ≡ None
  accepted =
      let file = file_of bytes in
      let count : length (pages file) ≤ 1008 = omega (arith, few_pages file, end-is bytes some few) in
      let runs : (e_entry file % 4 == 0 && is_runnable file (e_entry file)) ≡ true =
      ap (λ e. e % 4 == 0 && is_runnable file e) (e_entry-file_of bytes) ∙ ap (λ r. bit_at r 2 == 1) (first_rights bytes some few) in
      refusal-of_program file (file_refusal-file_of bytes) (header_refusals-file_of bytes some few) ∙ program_refusal-none file count (sym runs)

  page_bytes-is : page_bytes (file_of bytes) 16 (page_count (length bytes)) ≡ replicate 120 0 ++ bytes ++ replicate (rest (length bytes)) 0
  page_bytes-is =
      let file = file_of bytes in
      let n = length bytes in
      let size : 4096 * page_count n ≡ 120 + (n + rest n) = omega arith in
      let before = zeros-at file 65536 120 (λ k below. byte-before bytes some few (65536 + k) (omega arith)) in
      let own = bytes-read file bytes base (byte-inside bytes some few) in
      let behind = zeros-at file (base + n) (rest n) (λ k below. byte-behind bytes some few (base + n + k) (omega arith)) in
      ap (bytes_at file 65536) size
      ∙ (bytes_at-append file 65536 120 (n + rest n)
      ∙ (ap (λ xs. xs ++ bytes_at file base (n + rest n)) (sym before)
      ∙ (ap (λ xs. replicate 120 0 ++ xs) (bytes_at-append file base n (rest n))
      ∙ (ap (λ xs. replicate 120 0 ++ xs ++ bytes_at file (base + n) (rest n)) (sym own)
      ∙ ap (λ xs. replicate 120 0 ++ bytes ++ xs) (sym behind)))))

  -- An assembled file is loaded as its image.
  pub loaded-file_of : loaded (file_of bytes) ≡ Ok (image_of bytes)
  loaded-file_of =
      let file = file_of bytes in
      let image : List ℕ → Program = λ xs. record {
        entry = base;
        runs = record { page = 16; rights = 7; bytes = xs } ∷ [];
        end = 4096 * (16 + page_count (length bytes));
      } in
      loaded-accepted file accepted
      ∙ (ap (λ p. Ok p) (program_of-made file (layout (length bytes)) (layout-is bytes some few))
      ∙ ap (λ xs. Ok (image xs)) page_bytes-is)

-- A file of no bytes has nothing to run.
pub loaded-empty : loaded (file_of []) ≡ Err Entry
unfolding file_of number_at program_header any_below union_below max_below covers meets segment_byte touches segment_rights is_touched page_rights end_page byte_below file_refusal is_misplaced leaves_file meets_earlier lone_refusal header_refusal header_refusals pages program_refusal
loaded-empty = refl

-- The file of an accepted text is loaded as the image of its bytes.
pub loaded-assembled : (text file : List ℕ) → assembled text ≡ Ok file
    → (bytes : List ℕ) × (asm.program_of text ≡ Ok bytes) × (file ≡ file_of bytes) × (1 ≤ length bytes → loaded file ≡ Ok (image_of bytes))
loaded-assembled text file e =
    let parts = assembled-parts text file e in (
      parts.0,
      parts.1,
      parts.2,
      λ some. ap loaded parts.2 ∙ loaded-file_of parts.0 some (program_of-within text parts.0 parts.1),
    )
