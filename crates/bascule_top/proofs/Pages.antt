-- The memory that a program of one page begins with.
use Rattle.std.proofs.Common.{◌≡◌, ℕ, ◌+◌, ◌/◌, ◌<◌, ◌≤◌, List, [], ◌∷◌, length, get_or, cond, slice_index, refl, ◌∙◌, ap, arith}
use Rattle.std.specs.List.{All}
use Rattle.std.specs.Option.{option_map}
use Rattle.std.specs.Ordering.{nat_cmp}
use Rattle.std.specs.FinMap.{empty, get}
use Rattle.std.specs.declared.option.Option.{Option}
use Rattle.std.specs.declared.option.Option.TheVariants.{Some}
use Rattle.rv_core.specs.Memory.{Memory, Cell, cell_with}
use Rattle.guest_space.specs.Space.{Space, Frame, IsSpace, blank, in_run, cell_in, memory_of, with_run, with_memory, protected, bytes_from, byte_or_zero, frame_in_run, frame_of_memory}
use Rattle.guest_space.specs.Access.{with_bytes}
use Rattle.guest_space.specs.Run.{is_run}
use Rattle.guest_space.proofs.Gets.{get-with_run, get-protected, get-with_memory}
use Rattle.guest_space.proofs.Cells.{SameRights-with_bytes, memory_of-place, get_or-bytes_from, memory_of-with_memory}
use Rattle.guest_space.proofs.Bytes.{with_bytes_before, with_bytes_within}
use Rattle.guest_space.proofs.Spaces.{HasBytes-memory_of, HasBytes-with_bytes, IsSpace-empty, IsSpace-with_run, IsSpace-protected, IsSpace-with_memory}
use Rattle.elf_loader.specs.declared.Run.{Run}
use Rattle.elf_loader.specs.Image.{page_count}
use Rattle.mono_model.specs.Starting.{STACK_PAGE, STACK_PAGES, stack_pointer, argument_block, loaded, stacked, with_stack}

-- A byte that can be read, written and run.
abbrev pub program_cell : ℕ → Option Cell
program_cell byte = Some (record { byte = byte; rights = 7 })

module _ (bytes : List ℕ) (args : List (List ℕ)) (whole : length bytes ≡ 4096) where
  abbrev run : Run
  run = record { page = 16; rights = 7; bytes = bytes }

  abbrev made : Space
  made = with_run (empty {R = nat_cmp}) 16 (page_count run) 3

  abbrev written : Memory
  written = with_bytes (memory_of made) 65536 bytes

  abbrev filled : Space
  filled = with_memory made written

  abbrev program : Space
  program = protected filled 16 (page_count run) 7

  -- What the program begins with: its page, and the stack with its arguments.
  abbrev pub begins_with : Space
  begins_with = stacked (loaded empty (run ∷ [])) args

  one_page : page_count run ≡ 1
  one_page = ap (λ n. n / 4096) whole

  get_made : get {R = nat_cmp} made 16 ≡ Some (blank 3)
  get_made = get-with_run empty 16 (page_count run) 3 16 ∙ ap (λ n. cond (in_run 16 n 16) (Some (blank 3)) (get {X = Frame} {R = nat_cmp} empty 16)) one_page

  get_filled : get {R = nat_cmp} filled 16 ≡ Some (record { rights = 3; bytes = bytes_from written 65536 4096 })
  get_filled = get-with_memory made written 16 ∙ ap (option_map (frame_of_memory written 16)) get_made

  get_program : get {R = nat_cmp} program 16 ≡ Some (record { rights = 7; bytes = bytes_from written 65536 4096 })
  get_program =
      get-protected filled 16 (page_count run) 7 16
      ∙ ap (λ n. option_map (frame_in_run 16 n 7 16) (get {R = nat_cmp} filled 16)) one_page
      ∙ ap (option_map (frame_in_run 16 1 7 16)) get_filled

  get_stacked : get {R = nat_cmp} (with_stack program) 16 ≡ Some (record { rights = 7; bytes = bytes_from written 65536 4096 })
  get_stacked = get-with_run program STACK_PAGE STACK_PAGES 3 16 ∙ get_program

  cell_made : (k : ℕ) → k < 4096 → memory_of made (65536 + k) ≡ Some (record { byte = slice_index (blank 3).bytes k; rights = 3 })
  cell_made k h = memory_of-place made 16 k h ∙ ap (λ (f : Option Frame). cell_in f k) get_made

  cell_stacked : (k : ℕ) → k < 4096 → memory_of (with_stack program) (65536 + k) ≡ program_cell (get_or (bytes_from written 65536 4096) k 0)
  cell_stacked k h = memory_of-place (with_stack program) 16 k h ∙ ap (λ (f : Option Frame). cell_in f k) get_stacked

  byte_written : (k : ℕ) → k < 4096 → byte_or_zero (written (65536 + k)) ≡ get_or bytes k 0
  byte_written k h =
      ap byte_or_zero (with_bytes_within (memory_of made) 65536 bytes k (omega arith) ∙ ap (λ (c : Option Cell). cell_with c (get_or bytes k 0)) (cell_made k h))

  cell_there : (k : ℕ) → k < 4096 → memory_of (with_stack program) (65536 + k) ≡ program_cell (get_or bytes k 0)
  cell_there k h =
      cell_stacked k h ∙ ap program_cell (get_or-bytes_from written 65536 4096 k h ∙ byte_written k h)

  memory_with_block : memory_of begins_with ≡ with_bytes (memory_of (with_stack program)) (stack_pointer args) (argument_block args)
  memory_with_block =
      memory_of-with_memory (with_stack program) (with_bytes (memory_of (with_stack program)) (stack_pointer args) (argument_block args))
      (SameRights-with_bytes (memory_of (with_stack program)) (stack_pointer args) (argument_block args))

  -- the program's bytes are there, below the argument block
  pub program_there : 69632 ≤ stack_pointer args → (k : ℕ) → k < 4096 → memory_of begins_with (65536 + k) ≡ program_cell (get_or bytes k 0)
  program_there below k h =
      ap (λ (m : Memory). m (65536 + k)) memory_with_block
      ∙ with_bytes_before (memory_of (with_stack program)) (stack_pointer args) (argument_block args) (65536 + k) (omega arith)
      ∙ cell_there k h

  -- each page is one that a process may have, where the program's bytes and those of the argument block are bytes
  pub begins_in_space : All (λ byte. byte < 256) bytes → All (λ byte. byte < 256) (argument_block args) → IsSpace begins_with
  begins_in_space small block =
      let first : IsSpace made = IsSpace-with_run empty 16 (page_count run) 3 (ap (is_run 16) one_page) (omega arith) IsSpace-empty in
      let filled_whole : IsSpace program = IsSpace-protected filled 16 (page_count run) 7 (omega arith) (IsSpace-with_memory made written (HasBytes-with_bytes (memory_of made) 65536 bytes small (HasBytes-memory_of made first)) first) in
      let stack : IsSpace (with_stack program) = IsSpace-with_run program STACK_PAGE STACK_PAGES 3 refl (omega arith) filled_whole in
      IsSpace-with_memory (with_stack program) _ (HasBytes-with_bytes (memory_of (with_stack program)) (stack_pointer args) (argument_block args) block (HasBytes-memory_of (with_stack program) stack)) stack
