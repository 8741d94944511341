-- How a run starts: the program is opened, read and loaded, and one process with one thread begins.
use Rattle.std.specs.Prelude.{ℕ, ◌+◌, ◌-◌, ◌*◌, ◌/◌, ◌^◌, false, List, [], ◌∷◌, ◌++◌, length, sum_by, replicate}
use Rattle.std.specs.List.{flat_map}
use Rattle.std.specs.Int.{to_le_bytes, w64}
use Rattle.std.specs.Ordering.{nat_cmp}
use Rattle.std.specs.FinMap.{FinMap, insert, empty}
use Rattle.std.specs.declared.option.Option.{Option}
use Rattle.std.specs.declared.option.Option.TheVariants.{None, Some}
use Rattle.std.specs.declared.result.Result.{Result}
use Rattle.std.specs.declared.result.Result.TheVariants.{Ok, Err}
use Rattle.rv_core.specs.declared.context.Context.{Context}
use Rattle.guest_space.specs.Space.{Space, memory_of, with_run, protected, with_memory}
use Rattle.guest_space.specs.Access.{with_bytes}
use Rattle.bas_edge.specs.Files.{Files, file_of}
use Rattle.bas_names.specs.Names.{Passed, Named, passed, judged}
use Rattle.bas_names.specs.declared.Rule.{Rule}
use Rattle.bas_names.specs.declared.StreamName.TheVariants.{ConIn, ConOut, ConErr}
use Rattle.turn_sched.specs.declared.settings.Positions.{Positions}
use Rattle.turn_sched.specs.declared.settings.Settings.{Settings}
use Rattle.mono_model.specs.Readable.{Readable}
use Rattle.mono_model.specs.Machine.{Mono, Description, Process}
use Rattle.elf_loader.specs.declared.ElfError.{ElfError}
use Rattle.elf_loader.specs.declared.Program.{Program}
use Rattle.elf_loader.specs.declared.Run.{Run}
use Rattle.elf_loader.specs.Image as elf
use Rattle.elf_loader.specs.Image.{page_count}
use Rattle.turn_sched.specs.Lists.{no_threads, with_ready}

-- The name of the program that is opened, and the program's arguments, of which the first is its
-- own name.
pub record Job : Type 0 where
  pub name : List ℕ
  pub args : List (List ℕ)

-- What a run begins with: a machine; or there is no file of the program's name, or it is no program
-- for this cause.
pub data Started : Type 0 where
  Runs : Mono → Started
  NoProgram : Started
  BadProgram : (cause : ElfError) → Started

-- The machine before the start, with these lists of rules on names, or with none.
abbrev pub blank_under : List (List Rule) → Settings → Positions → Readable → Mono
blank_under rules settings positions c = record {
  processes = empty;
  threads = empty;
  descriptions = empty;
  lists = no_threads;
  queue = [];
  rules = rules;
  files = c.files;
  input = c.input;
  next_id = 1;
  positions = positions;
  settings = settings;
}

abbrev pub blank : Settings → Positions → Readable → Mono
blank settings positions c = blank_under [] settings positions c

-- A name where a list ends it leads to no file; where it lets it through, to what is below.
abbrev pub file_below : (List ℕ → Option (List ℕ)) → Passed → Option (List ℕ)
file_below below (Named name) = below name
file_below below _ = None

-- The file that a name leads to through lists of rules, top first; it passes each list once.
abbrev pub file_under : List (List Rule) → Files → List ℕ → Option (List ℕ)
file_under [] files name = file_of files name
file_under (rules ∷ lists) files name =
    file_below (file_under lists files) (judged 1 (passed rules name))

-- The stack: 16 pages that end at address 2^38 and can be read and written.
abbrev pub STACK_PAGE : ℕ
STACK_PAGE = 2 ^ 26 - 16

abbrev pub STACK_PAGES : ℕ
STACK_PAGES = 16

abbrev pub STACK_END : ℕ
STACK_END = 2 ^ 38

-- The argument block: the count, a pointer to each argument, two zero words, all of 8 bytes, and
-- the arguments, each with a zero byte.
abbrev pub block_size : List (List ℕ) → ℕ
block_size args = 8 * (length args + 3) + sum_by (λ arg. length arg + 1) args

-- Where the block stands: at the greatest multiple of 16 from which it fits below the stack's end.
abbrev pub stack_pointer : List (List ℕ) → ℕ
stack_pointer args = (STACK_END - block_size args) / 16 * 16

abbrev pub pointers : ℕ → List (List ℕ) → List ℕ
pointers at [] = []
pointers at (arg ∷ args) = to_le_bytes w64 at ++ pointers (at + length arg + 1) args

abbrev pub block_at : ℕ → List (List ℕ) → List ℕ
block_at sp args =
    to_le_bytes w64 (length args) ++ (pointers (sp + 8 * (length args + 3)) args ++
    (replicate 16 0 ++ flat_map (λ arg. arg ++ 0 ∷ []) args))

abbrev pub argument_block : List (List ℕ) → List ℕ
argument_block args = block_at (stack_pointer args) args

-- The bytes of a run written from the n-th on, and then its rights.
abbrev pub filled_from : Space → ℕ → List ℕ → Space
filled_from s at bytes = with_memory s (with_bytes (memory_of s) at bytes)

abbrev pub with_rights_of : Space → Run → Space
with_rights_of s run = protected s run.page (page_count run) run.rights

abbrev pub with_pages_of : Space → Run → Space
with_pages_of s run = with_run s run.page (page_count run) 3

abbrev pub loaded_run : Space → Run → Space
loaded_run s run =
    with_rights_of (filled_from (with_pages_of s run) (run.page * 4096) run.bytes) run

-- Each run's pages are made, filled and given their rights.
abbrev pub loaded : Space → List Run → Space
loaded s [] = s
loaded s (run ∷ runs) = loaded (loaded_run s run) runs

abbrev pub with_stack : Space → Space
with_stack s = with_run s STACK_PAGE STACK_PAGES 3

abbrev pub with_block : Space → List (List ℕ) → Space
with_block s args = filled_from s (stack_pointer args) (argument_block args)

-- The stack with the argument block.
abbrev pub stacked : Space → List (List ℕ) → Space
stacked s args = with_block (with_stack s) args

-- The registers of a thread that begins: the program's entry, the stack pointer, and 0.
abbrev pub start_context : Program → List (List ℕ) → Context
start_context program args =
    record { pc = program.entry; x = 0 ∷ stack_pointer args ∷ replicate 29 0 }

-- The descriptors of process 1 name its descriptions: console input, output and errors.
abbrev pub console_descriptors : FinMap nat_cmp ℕ
console_descriptors = insert (insert (insert empty 2 3) 1 2) 0 1

abbrev pub console_descriptions : FinMap nat_cmp Description
console_descriptions =
    insert (insert (insert empty
    3 (record { stream = ConErr; access = 2; append = false; position = 0 }))
    2 (record { stream = ConOut; access = 2; append = false; position = 0 }))
    1 (record { stream = ConIn; access = 1; append = false; position = 0 })

-- A process that begins has no parent and no handler, and its break stands where its program ends.
abbrev pub new_process : Space → ℕ → FinMap nat_cmp ℕ → Process
new_process memory end descriptors = record {
  memory = memory;
  parent = 0;
  break_start = end;
  break_now = end;
  handler = 0;
  code = None;
  descriptors = descriptors;
}

-- A process begins with one thread, which becomes ready; both get the next id.
abbrev pub with_child : Mono → Process → Context → Mono
with_child m process context = record m {
  processes = insert m.processes m.next_id process;
  threads =
      insert m.threads m.next_id
      (record { process = m.next_id; context = context; woken = false; saved = None });
  lists = with_ready m.lists m.next_id;
  next_id = m.next_id + 1;
}

-- The first process begins, with the console open: its memory, where its program ends, and the
-- registers of its thread.
abbrev pub begun : Mono → Space → ℕ → Context → Mono
begun m memory end context =
    record (with_child m (new_process memory end console_descriptors) context) {
      descriptions = console_descriptions;
    }

abbrev pub begun_from : Mono → List (List ℕ) → Result Program ElfError → Started
begun_from m args (Err cause) = BadProgram cause
begun_from m args (Ok program) =
    let memory = stacked (loaded empty program.runs) args in
    Runs (begun m memory program.end (start_context program args))

-- The file's bytes are the program.
abbrev pub started_with : Mono → List (List ℕ) → List ℕ → Started
started_with m args file = begun_from m args (elf.loaded file)

abbrev pub started_if : Mono → List (List ℕ) → Option (List ℕ) → Started
started_if m args None = NoProgram
started_if m args (Some file) = started_with m args file

-- The program's file is opened.
abbrev pub started : Mono → Job → Started
started m job = started_if m job.args (file_under m.rules m.files job.name)

-- A run's start: at turn 0, over these files and this input.
abbrev pub boot : Settings → Readable → Job → Started
boot settings contents job =
    started (blank settings (record { turns = 0; pick = 0; random = 0 }) contents) job
