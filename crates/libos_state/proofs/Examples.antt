-- A worked example: a start of a program of two runs, one of code and one of data. Its file has two segments, one of
-- 184 bytes from 0x10000 on, to be read and run, and one of 8 bytes from 0x120B8 on, to be read and written.
use Rattle.std.specs.Prelude.{◌≡◌, ℕ, ◌+◌, List, [], ◌∷◌, ◌++◌, length, slice_index, nat_lt, if◌then◌else◌}
use Rattle.std.specs.declared.option.Option.TheVariants.{None}
use Rattle.std.proofs.Common.{get_or, refl, sym, ap, ◌∙◌}
use Rattle.std.proofs.lemmas.List.{length-map}
use Rattle.guest_space.specs.declared.Extent.{Extent}
use Rattle.guest_space.specs.Regions.{merged}
use Rattle.abi_calls.specs.declared.call.Call.TheVariants.{MemoryAllocate, MemoryProtect}
use Rattle.abi_calls.specs.declared.reply.Reply.TheVariants.{Done}
use Rattle.elf_loader.specs.Fields.{number_at, program_header}
use Rattle.elf_loader.specs.Segments.{any_below, union_below, max_below, meets, segment_rights, touches, is_touched, page_rights, end_page}
use Rattle.elf_loader.specs.Refusal.{file_refusal, is_misplaced, leaves_file, meets_earlier, lone_refusal, header_refusal, header_refusals, pages, program_refusal, refusal}
use Rattle.elf_loader.specs.Image.{extent_of, layout_of}
use Rattle.elf_loader.proofs.ImageLaws.{without_bytes-program_of}
use Rattle.libos_program.specs.Runs.{no_run}
use Rattle.libos_state.specs.declared.cont.Cont.{Cont}
use Rattle.libos_state.specs.declared.cont.Stage.TheVariants.{AllocateRun, ProtectRun, AllocateStack}
use Rattle.libos_state.specs.declared.state.LibOs.{LibOs}
use Rattle.libos_state.specs.declared.step.Step.{Step}
use Rattle.libos_state.specs.declared.step.Step.TheVariants.{Asks}
use Rattle.libos_state.specs.Pending.{asked, file_or_child, runs_in, run_in}
use Rattle.libos_state.specs.Answered.{next, starting}
use Rattle.libos_state.specs.Fits.{extents_in}
use Rattle.libos_state.proofs.Programs.{run_extent}

two_runs : List ℕ
two_runs =
    (127 ∷ 69 ∷ 76 ∷ 70 ∷ 2 ∷ 1 ∷ 1 ∷ 0 ∷ 0 ∷ 0 ∷ 0 ∷ 0 ∷ 0 ∷ 0 ∷ 0 ∷ 0 ∷ []) ++
    (2 ∷ 0 ∷ 243 ∷ 0 ∷ 1 ∷ 0 ∷ 0 ∷ 0 ∷ 176 ∷ 0 ∷ 1 ∷ 0 ∷ 0 ∷ 0 ∷ 0 ∷ 0 ∷ []) ++
    (64 ∷ 0 ∷ 0 ∷ 0 ∷ 0 ∷ 0 ∷ 0 ∷ 0 ∷ 0 ∷ 0 ∷ 0 ∷ 0 ∷ 0 ∷ 0 ∷ 0 ∷ 0 ∷ []) ++
    (0 ∷ 0 ∷ 0 ∷ 0 ∷ 64 ∷ 0 ∷ 56 ∷ 0 ∷ 2 ∷ 0 ∷ 0 ∷ 0 ∷ 0 ∷ 0 ∷ 0 ∷ 0 ∷ []) ++
    (1 ∷ 0 ∷ 0 ∷ 0 ∷ 5 ∷ 0 ∷ 0 ∷ 0 ∷ 0 ∷ 0 ∷ 0 ∷ 0 ∷ 0 ∷ 0 ∷ 0 ∷ 0 ∷ []) ++
    (0 ∷ 0 ∷ 1 ∷ 0 ∷ 0 ∷ 0 ∷ 0 ∷ 0 ∷ 0 ∷ 0 ∷ 1 ∷ 0 ∷ 0 ∷ 0 ∷ 0 ∷ 0 ∷ []) ++
    (184 ∷ 0 ∷ 0 ∷ 0 ∷ 0 ∷ 0 ∷ 0 ∷ 0 ∷ 184 ∷ 0 ∷ 0 ∷ 0 ∷ 0 ∷ 0 ∷ 0 ∷ 0 ∷ []) ++
    (0 ∷ 16 ∷ 0 ∷ 0 ∷ 0 ∷ 0 ∷ 0 ∷ 0 ∷ 1 ∷ 0 ∷ 0 ∷ 0 ∷ 6 ∷ 0 ∷ 0 ∷ 0 ∷ []) ++
    (184 ∷ 0 ∷ 0 ∷ 0 ∷ 0 ∷ 0 ∷ 0 ∷ 0 ∷ 184 ∷ 32 ∷ 1 ∷ 0 ∷ 0 ∷ 0 ∷ 0 ∷ 0 ∷ []) ++
    (184 ∷ 32 ∷ 1 ∷ 0 ∷ 0 ∷ 0 ∷ 0 ∷ 0 ∷ 4 ∷ 0 ∷ 0 ∷ 0 ∷ 0 ∷ 0 ∷ 0 ∷ 0 ∷ []) ++
    (8 ∷ 0 ∷ 0 ∷ 0 ∷ 0 ∷ 0 ∷ 0 ∷ 0 ∷ 0 ∷ 16 ∷ 0 ∷ 0 ∷ 0 ∷ 0 ∷ 0 ∷ 0 ∷ []) ++
    (147 ∷ 8 ∷ 208 ∷ 5 ∷ 115 ∷ 0 ∷ 0 ∷ 0 ∷ 1 ∷ 2 ∷ 3 ∷ 4 ∷ [])

-- what computes on a file that is written out
unfoldable computed : Unit {0}
unfolding two_runs number_at program_header any_below union_below max_below meets segment_rights touches is_touched page_rights end_page file_refusal is_misplaced leaves_file meets_earlier lone_refusal header_refusal header_refusals pages program_refusal merged layout_of
computed = tt

taken : refusal two_runs ≡ None
unfolding computed
taken = refl

abbrev code : Extent
code = record { page = 16; count = 1; rights = 5 }

abbrev data_pages : Extent
data_pages = record { page = 18; count = 1; rights = 3 }

laid_out : (layout_of two_runs).runs ≡ code ∷ data_pages ∷ []
unfolding computed
laid_out = refl

module _ (os : LibOs) (c : Cont) (program : c.bytes ≡ two_runs) where
  runs_are : extents_in c ≡ code ∷ data_pages ∷ []
  runs_are = ap (λ l. l.runs) (without_bytes-program_of c.bytes) ∙ ap (λ file. (layout_of file).runs) program ∙ laid_out

  two : length (runs_in c) ≡ 2
  two = sym (length-map (runs_in c) extent_of) ∙ ap length runs_are

  -- the run of that number
  run_is : (n : ℕ) → c.numbers ≡ n ∷ [] → extent_of (run_in c) ≡ get_or (code ∷ data_pages ∷ []) n (extent_of no_run)
  run_is n kept = sym (run_extent c) ∙ (λ i. get_or (runs_are i) (slice_index (kept i) 0) (extent_of no_run))

  -- the second run's pages are made, and get their rights in the end
  second_made : c.numbers ≡ 1 ∷ [] → asked os c AllocateRun ≡ MemoryAllocate (file_or_child c) 18 1 3
  second_made kept = ap (λ (e : Extent). MemoryAllocate (file_or_child c) e.page e.count 3) (run_is 1 kept)

  first_protected : c.numbers ≡ 0 ∷ [] → asked os c ProtectRun ≡ MemoryProtect (file_or_child c) 16 1 5
  first_protected kept = ap (λ (e : Extent). MemoryProtect (file_or_child c) e.page e.count e.rights) (run_is 0 kept)

  -- behind the first run the second one is loaded, and behind that the stack is made
  abbrev loads : ℕ → ℕ → Step
  loads run runs =
      Asks (if nat_lt run runs then starting c AllocateRun c.bytes c.handles (run ∷ [])
      else starting c AllocateStack c.bytes c.handles [])

  behind_first : c.numbers ≡ 0 ∷ [] → next c ProtectRun Done ≡ Asks (starting c AllocateRun c.bytes c.handles (1 ∷ []))
  behind_first kept = λ i. loads (slice_index (kept i) 0 + 1) (two i)

  behind_second : c.numbers ≡ 1 ∷ [] → next c ProtectRun Done ≡ Asks (starting c AllocateStack c.bytes c.handles [])
  behind_second kept = λ i. loads (slice_index (kept i) 0 + 1) (two i)
