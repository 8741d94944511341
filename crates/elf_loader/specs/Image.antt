-- What an accepted file asks for in memory: runs of pages, where they lie, and their bytes.
use Rattle.std.specs.Prelude.{◌≡◌, ℕ, ◌-◌, ◌*◌, ◌/◌, ◌%◌, ◌^◌, ◌<◌, ◌≤◌, if◌then◌else◌, IsOk, List, map, length}
use Rattle.std.specs.List.{range_with_len, AllByRecursion, sum_by}
use Rattle.std.specs.declared.option.Option.{Option}
use Rattle.std.specs.declared.option.Option.TheVariants.{None, Some}
use Rattle.std.specs.declared.result.Result.{Result}
use Rattle.std.specs.declared.result.Result.TheVariants.{Ok, Err}
use Rattle.guest_space.specs.declared.Extent.{Extent}
use Rattle.guest_space.specs.Regions.{extent_end, AreMaximal, extent_rights, merged}
use Rattle.elf_loader.specs.declared.runs.Layout.{Layout}
use Rattle.elf_loader.specs.declared.Program.{Program}
use Rattle.elf_loader.specs.declared.Run.{Run}
use Rattle.elf_loader.specs.declared.ElfError.{ElfError}
use Rattle.elf_loader.specs.declared.LoadError.{LoadError}
use Rattle.elf_loader.specs.declared.LoadError.TheVariants.{Refused, Memory}
use Rattle.elf_loader.specs.Fields.{e_entry}
use Rattle.elf_loader.specs.Segments.{is_touched, page_rights, end_page, byte_of}
use Rattle.elf_loader.specs.Refusal.{refusal, pages}

-- The layout and the program, as functions of the file

-- A touched page as a run.
abbrev pub page_extent : List ℕ → ℕ → Extent
page_extent file page = record { page = page; count = 1; rights = page_rights file page }

-- Where the runs of the program lie: the touched pages, joined where they are adjacent and have
-- equal rights.
unfoldable pub layout_of : List ℕ → Layout
layout_of file = record {
  entry = e_entry file;
  runs = merged (map (page_extent file) (pages file));
  end = 4096 * end_page file;
}

-- The bytes of so many addresses, from one on.
unfoldable pub bytes_at : List ℕ → ℕ → ℕ → List ℕ
bytes_at file start size = map (byte_of file) (range_with_len start size)

-- The bytes of so many pages, from one on.
abbrev pub page_bytes : List ℕ → ℕ → ℕ → List ℕ
page_bytes file page count = bytes_at file (4096 * page) (4096 * count)

-- A run with its bytes.
abbrev pub run_of : List ℕ → Extent → Run
run_of file extent = record {
  page = extent.page;
  rights = extent.rights;
  bytes = page_bytes file extent.page extent.count;
}

abbrev pub with_bytes : List ℕ → Layout → Program
with_bytes file layout = record {
  entry = layout.entry;
  runs = map (run_of file) layout.runs;
  end = layout.end;
}

unfoldable pub program_of : List ℕ → Program
program_of file = with_bytes file (layout_of file)

-- What comes of a file, or its refusal.
abbrev pub unless_refused : {A : Type 0} → Option ElfError → A → Result A ElfError
unless_refused None value = Ok value
unless_refused (Some error) value = Err error

-- The layout of a file, or its refusal.
abbrev pub laid_out : List ℕ → Result Layout ElfError
laid_out file = unless_refused (refusal file) (layout_of file)

-- The program of a file, or its refusal.
abbrev pub loaded : List ℕ → Result Program ElfError
loaded file = unless_refused (refusal file) (program_of file)

-- The answer tells what comes of the file. Want of memory comes only of a file that has a program.
abbrev pub Tells : {A : Type 0} → Result A LoadError → Result A ElfError → Type 0
Tells (Ok value) answer = answer ≡ Ok value
Tells (Err (Refused error)) answer = answer ≡ Err error
Tells (Err Memory) answer = IsOk answer

-- The layout and the program, in words

-- The runs have the touched pages, each with its rights, rise, and are as long as can be.
pub record IsLayout (file : List ℕ) (layout : Layout) : Type 0 where
  pub maximal : AreMaximal layout.runs
  pub rights : (page : ℕ) → extent_rights layout.runs page
      ≡ (if is_touched file page then Some (page_rights file page) else None)
  pub entry : layout.entry ≡ e_entry file
  pub end : layout.end ≡ 4096 * end_page file

-- The pages of a run.
abbrev pub page_count : Run → ℕ
page_count run = length run.bytes / 4096

abbrev pub extent_of : Run → Extent
extent_of run = record { page = run.page; count = page_count run; rights = run.rights }

abbrev pub without_bytes : Program → Layout
without_bytes program = record {
  entry = program.entry;
  runs = map extent_of program.runs;
  end = program.end;
}

-- The runs lie as the file's layout says, and each has the bytes of its pages.
pub record IsImage (file : List ℕ) (program : Program) : Type 0 where
  pub layout : IsLayout file (without_bytes program)
  pub bytes : AllByRecursion (λ run. run.bytes ≡ page_bytes file run.page (page_count run))
      program.runs

-- What a new process needs: few pages, below those of its stack, and an entry that can be run.
pub record IsRunOfProcess (extent : Extent) : Type 0 where
  pub above : 1 ≤ extent.page
  pub below : extent_end extent ≤ 2 ^ 26 - 16
  pub rights : extent.rights < 8

pub record FitsProcess (layout : Layout) : Type 0 where
  pub runs : AllByRecursion IsRunOfProcess layout.runs
  pub rising : AreMaximal layout.runs
  pub few : sum_by (λ extent. extent.count) layout.runs ≤ 1008
  pub entry : layout.entry % 4 ≡ 0

-- Each run has the bytes of whole pages.
abbrev pub AreWhole : List Run → Type 0
AreWhole runs = AllByRecursion (λ run. length run.bytes ≡ 4096 * page_count run) runs
