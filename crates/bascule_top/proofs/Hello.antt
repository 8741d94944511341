-- The run of /bin/hi, worked out.
use Rattle.std.proofs.Common.{nat_lt, ◌≡◌, ℕ, suc, ◌+◌, ◌-◌, ◌*◌, ◌%◌, ◌^◌, ◌<◌, true, false, cond, List, [], ◌∷◌, length, get_or, refl, sym, subst, ◌∙◌, ap, arith, inl, inr}
use Rattle.std.specs.Option.{option_or}
use Rattle.std.specs.List.{All, list_all, list_any}
use Rattle.std.proofs.lemmas.Bool.{and_from, and_parts, cases_lt, cond-true, cond_both, le-leb, lt-ltb, ltb-true}
use Rattle.std.proofs.lemmas.List.{get_or_past}
use Rattle.std.proofs.lemmas.List.Elements.{All-nil, All-cons, All-get_or, All-from_get_or}
use Rattle.std.proofs.lemmas.List.FromFn.{get_or-map-range_with_len}
use Rattle.std.specs.Ordering.{nat_cmp}
use Rattle.std.specs.FinMap.{empty, entries, get, insert}
use Rattle.std.specs.declared.option.Option.{Option}
use Rattle.std.specs.declared.option.Option.TheVariants.{None, Some}
use Rattle.rv_core.specs.declared.context.Context.{Context}
use Rattle.rv_core.specs.Memory.{Memory, byte_if, above, fetched}
use Rattle.rv_core.specs.Listing.{decoded}
use Rattle.rv_core.specs.Machine.{Outcome, Goes, Faults, Reached, instruction, instructions, go_on, executed_at}
use Rattle.guest_space.specs.First.{first_some}
use Rattle.guest_space.specs.Space.{Space, IsSpace, memory_of, bytes_from, byte_or_zero}
use Rattle.guest_space.specs.Access.{first_fault, fault_of_cell}
use Rattle.guest_space.specs.Running.{Ran, run_space, ran_from}
use Rattle.guest_space.proofs.Cells.{with_memory_same}
use Rattle.bas_edge.specs.Files.{file_of}
use Rattle.bas_names.specs.declared.StreamName.TheVariants.{ConOut, ConErr}
use Rattle.bas_items.proofs.NumberMaps.{get-insert-same, get-insert-other, insert-insert}
use Rattle.std.specs.declared.result.Result.TheVariants.{Ok}
use Rattle.elf_loader.specs.declared.header.ProgramHeader.{ProgramHeader}
use Rattle.elf_loader.specs.declared.runs.Layout.{Layout}
use Rattle.elf_loader.specs.Fields.{e_phnum, number_at, program_header}
use Rattle.elf_loader.specs.Segments.{any_below, union_below, max_below, covers, meets, segment_byte, touches, segment_rights, is_touched, page_rights, end_page, byte_below, byte_of}
use Rattle.elf_loader.specs.Refusal.{file_refusal, is_misplaced, leaves_file, meets_earlier, lone_refusal, header_refusal, header_refusals, pages, program_refusal, refusal}
use Rattle.elf_loader.specs.Image.{bytes_at, layout_of, page_bytes}
use Rattle.elf_loader.proofs.ImageLaws.{loaded-accepted, program_of-made}
use Rattle.elf_loader.proofs.MemoryBytes.{byte_below-more, byte_below-uncovered, length-bytes_at}
use Rattle.guest_space.specs.Regions.{merged}
use Rattle.mono_model.specs.Readable.{Readable}
use Rattle.mono_model.specs.Written.{nothing}
use Rattle.mono_model.specs.Machine.{Mono, Process, Thread, Description, process_at, thread_at, with_memory_in, with_process, with_thread, with_registers, exit_code, code_in, exited}
use Rattle.mono_model.specs.Calls.{Caller, Served, silently, finished, is_other_thread, has_other_thread, without_thread, ended, description_of, described_in, described_by, writable, write_to, write_unless, memory_in, with_exited}
use Rattle.mono_model.specs.SystemCalls.{served}
use Rattle.mono_model.specs.Starting.{argument_block, Runs, blank, begun, begun_from, started_if, boot, console_descriptors, console_descriptions, new_process}
use Rattle.mono_model.specs.Turns.{Ending, Exited, ends_as, behind, with_pick, with_run_of, after_run, run_thread, turn_of, run_of}
use Rattle.mono_model.proofs.RunLaws.{run_of-exited, run_of-turn}
use Rattle.libos_state.proofs.Leaving.{list_any-mapped}
use Rattle.bascule_top.specs.Commands.{TURNS, start_settings, start_job}
use Rattle.bascule_top.specs.Hello.{hello, hello_name, hello_file, hello_text, SaysHello}
use Rattle.bascule_top.proofs.Pages.{program_cell, begins_with, program_there, begins_in_space}

-- ---- instructions

-- A word of the program.
word_there : (m : Memory) (at a b c d : ℕ) → m at ≡ program_cell a → m ((at + 1) % 2 ^ 64) ≡ program_cell b → m (((at + 1) % 2 ^ 64 + 1) % 2 ^ 64) ≡ program_cell c → m ((((at + 1) % 2 ^ 64 + 1) % 2 ^ 64 + 1) % 2 ^ 64) ≡ program_cell d
    → fetched m at ≡ Some (a + (b + (c + (d + 0 * 256) * 256) * 256) * 256)
word_there m at a b c d p q r s = λ i. above (byte_if 4 (p i)) (above (byte_if 4 (q i)) (above (byte_if 4 (r i)) (above (byte_if 4 (s i)) (Some 0))))

goes_on : (n : ℕ) (cx cx' : Context) (m : Memory) → instruction cx m ≡ Goes cx' m → instructions (suc n) cx m ≡ instructions n cx' m
unfolding instructions
goes_on n cx cx' m e = ap (λ (o : Outcome). go_on (λ (c : Context) (k : Memory). instructions n c k) cx m o) e

traps : (n : ℕ) (cx : Context) (m : Memory) (cause value : ℕ) → instruction cx m ≡ Faults cause value → instructions (suc n) cx m ≡ record { context = cx; memory = m; trap = Some (cause, value) }
unfolding instructions
traps n cx m cause value e = ap (λ (o : Outcome). go_on (λ (c : Context) (k : Memory). instructions n c k) cx m o) e

-- The registers: the stack pointer, a0 to a2, and a7; the others are 0.
abbrev registers : ℕ → ℕ → ℕ → ℕ → ℕ → Context
registers pc a0 a1 a2 a7 = record {
  pc = pc;
  x = 0 ∷ 0x3FFFFFFFD0 ∷ 0 ∷ 0 ∷ 0 ∷ 0 ∷ 0 ∷ 0 ∷ 0 ∷ a0 ∷ a1 ∷ a2 ∷ 0 ∷ 0 ∷ 0 ∷ 0 ∷ a7 ∷ 0 ∷ 0 ∷ 0 ∷ 0 ∷ 0 ∷ 0 ∷ 0 ∷ 0 ∷ 0 ∷ 0 ∷ 0 ∷ 0 ∷ 0 ∷ 0 ∷ [];
}

-- A memory that holds the program.
record HoldsHello (m : Memory) : Type 0 where
  there : (k : ℕ) → k < 39 → m (65536 + (120 + k)) ≡ program_cell (get_or hello_file (120 + k) 0)

module _ (m : Memory) (holds : HoldsHello m) where
  -- li a0, 1
  first : instruction (registers 0x10078 0 0 0 0) m ≡ Goes (registers 0x1007c 1 0 0 0) m
  unfolding hello_file decoded
  first = ap (executed_at (registers 0x10078 0 0 0 0) m) (word_there m 0x10078 0x13 0x05 0x10 0 (holds.there 0 (omega arith)) (holds.there 1 (omega arith)) (holds.there 2 (omega arith)) (holds.there 3 (omega arith)))

  -- auipc a1, 0
  second : instruction (registers 0x1007c 1 0 0 0) m ≡ Goes (registers 0x10080 1 0x1007c 0 0) m
  unfolding hello_file decoded
  second = ap (executed_at (registers 0x1007c 1 0 0 0) m) (word_there m 0x1007c 0x97 0x05 0 0 (holds.there 4 (omega arith)) (holds.there 5 (omega arith)) (holds.there 6 (omega arith)) (holds.there 7 (omega arith)))

  -- addi a1, a1, 32
  third : instruction (registers 0x10080 1 0x1007c 0 0) m ≡ Goes (registers 0x10084 1 0x1009c 0 0) m
  unfolding hello_file decoded
  third = ap (executed_at (registers 0x10080 1 0x1007c 0 0) m) (word_there m 0x10080 0x93 0x85 0x05 0x02 (holds.there 8 (omega arith)) (holds.there 9 (omega arith)) (holds.there 10 (omega arith)) (holds.there 11 (omega arith)))

  -- li a2, 3
  fourth : instruction (registers 0x10084 1 0x1009c 0 0) m ≡ Goes (registers 0x10088 1 0x1009c 3 0) m
  unfolding hello_file decoded
  fourth = ap (executed_at (registers 0x10084 1 0x1009c 0 0) m) (word_there m 0x10084 0x13 0x06 0x30 0 (holds.there 12 (omega arith)) (holds.there 13 (omega arith)) (holds.there 14 (omega arith)) (holds.there 15 (omega arith)))

  -- li a7, 64
  fifth : instruction (registers 0x10088 1 0x1009c 3 0) m ≡ Goes (registers 0x1008c 1 0x1009c 3 64) m
  unfolding hello_file decoded
  fifth = ap (executed_at (registers 0x10088 1 0x1009c 3 0) m) (word_there m 0x10088 0x93 0x08 0 0x04 (holds.there 16 (omega arith)) (holds.there 17 (omega arith)) (holds.there 18 (omega arith)) (holds.there 19 (omega arith)))

  -- ecall
  sixth : instruction (registers 0x1008c 1 0x1009c 3 64) m ≡ Faults 8 0
  unfolding hello_file decoded
  sixth = ap (executed_at (registers 0x1008c 1 0x1009c 3 64) m) (word_there m 0x1008c 0x73 0 0 0 (holds.there 20 (omega arith)) (holds.there 21 (omega arith)) (holds.there 22 (omega arith)) (holds.there 23 (omega arith)))

  -- li a0, 0
  seventh : instruction (registers 0x10090 3 0x1009c 3 64) m ≡ Goes (registers 0x10094 0 0x1009c 3 64) m
  unfolding hello_file decoded
  seventh = ap (executed_at (registers 0x10090 3 0x1009c 3 64) m) (word_there m 0x10090 0x13 0x05 0 0 (holds.there 24 (omega arith)) (holds.there 25 (omega arith)) (holds.there 26 (omega arith)) (holds.there 27 (omega arith)))

  -- li a7, 93
  eighth : instruction (registers 0x10094 0 0x1009c 3 64) m ≡ Goes (registers 0x10098 0 0x1009c 3 93) m
  unfolding hello_file decoded
  eighth = ap (executed_at (registers 0x10094 0 0x1009c 3 64) m) (word_there m 0x10094 0x93 0x08 0xd0 0x05 (holds.there 28 (omega arith)) (holds.there 29 (omega arith)) (holds.there 30 (omega arith)) (holds.there 31 (omega arith)))

  -- ecall
  ninth : instruction (registers 0x10098 0 0x1009c 3 93) m ≡ Faults 8 0
  unfolding hello_file decoded
  ninth = ap (executed_at (registers 0x10098 0 0x1009c 3 93) m) (word_there m 0x10098 0x73 0 0 0 (holds.there 32 (omega arith)) (holds.there 33 (omega arith)) (holds.there 34 (omega arith)) (holds.there 35 (omega arith)))

  up_to_write : instructions 1000 (registers 0x10078 0 0 0 0) m ≡ record { context = registers 0x1008c 1 0x1009c 3 64; memory = m; trap = Some (8, 0) }
  up_to_write =
      goes_on 999 (registers 0x10078 0 0 0 0) (registers 0x1007c 1 0 0 0) m first
      ∙ goes_on 998 (registers 0x1007c 1 0 0 0) (registers 0x10080 1 0x1007c 0 0) m second
      ∙ goes_on 997 (registers 0x10080 1 0x1007c 0 0) (registers 0x10084 1 0x1009c 0 0) m third
      ∙ goes_on 996 (registers 0x10084 1 0x1009c 0 0) (registers 0x10088 1 0x1009c 3 0) m fourth
      ∙ goes_on 995 (registers 0x10088 1 0x1009c 3 0) (registers 0x1008c 1 0x1009c 3 64) m fifth
      ∙ traps 994 (registers 0x1008c 1 0x1009c 3 64) m 8 0 sixth

  up_to_exit : instructions 1000 (registers 0x10090 3 0x1009c 3 64) m ≡ record { context = registers 0x10098 0 0x1009c 3 93; memory = m; trap = Some (8, 0) }
  up_to_exit =
      goes_on 999 (registers 0x10090 3 0x1009c 3 64) (registers 0x10094 0 0x1009c 3 64) m seventh
      ∙ goes_on 998 (registers 0x10094 0 0x1009c 3 64) (registers 0x10098 0 0x1009c 3 93) m eighth
      ∙ traps 997 (registers 0x10098 0 0x1009c 3 93) m 8 0 ninth

  -- the text that is written
  text_there : bytes_from m 0x1009c 3 ≡ hello_text
  unfolding hello_file bytes_from
  text_there = λ i. byte_or_zero (holds.there 36 (omega arith) i) ∷ byte_or_zero (holds.there 37 (omega arith) i) ∷ byte_or_zero (holds.there 38 (omega arith) i) ∷ []

  text_readable : first_fault m 1 0x1009c 3 ≡ None
  unfolding hello_file first_some
  text_readable = λ i. option_or (fault_of_cell 1 (holds.there 36 (omega arith) i)) (option_or (fault_of_cell 1 (holds.there 37 (omega arith) i)) (option_or (fault_of_cell 1 (holds.there 38 (omega arith) i)) None))

-- A run of instructions that leaves the memory leaves the pages.
run_unwritten : (n : ℕ) (cx cx' : Context) (s : Space) (trap : Option (ℕ × ℕ)) → IsSpace s → instructions n cx (memory_of s) ≡ record { context = cx'; memory = memory_of s; trap = trap } → run_space n cx s ≡ record { context = cx'; space = s; trap = trap }
run_unwritten n cx cx' s trap is e = ap (λ (r : Reached). ran_from s r) e ∙ ap (λ (t : Space). record { context = cx'; space = t; trap = trap }) (with_memory_same s is)

-- ---- a turn of the only thread, which traps

abbrev first_process : Space → Process
first_process s = new_process s 0x11000 console_descriptors

abbrev first_thread : Context → Thread
first_thread cx = record { process = 1; context = cx; woken = false; saved = None }

abbrev caller : Context → Caller
caller cx = record { thread = 1; process = 1; context = cx }

-- A machine whose thread 1 alone is ready, with the settings of a start.
abbrev with_one_ready : Mono → Mono
with_one_ready m = record m {
  settings = start_settings;
  lists = record { ready = 1 ∷ []; waiting = []; suspended = []; current = None };
}

-- It has these registers, in this memory.
record IsReady (m : Mono) (s : Space) (cx : Context) : Type 0 where
  thread : thread_at m 1 ≡ Some (first_thread cx)
  process : process_at m 1 ≡ Some (first_process s)
  descriptions : m.descriptions ≡ console_descriptions

-- The machine at the trap.
abbrev at_trap : Mono → Space → Context → Mono
at_trap m s cx = with_thread (with_process (with_pick (with_one_ready m) 0) 1 (first_process s)) 1 (first_thread cx)

turn_trapped : (m : Mono) (s : Space) (cx cx' : Context) (cause value : ℕ) → IsReady m s cx → run_space 1000 cx s ≡ record { context = cx'; space = s; trap = Some (cause, value) }
    → turn_of (with_one_ready m) ≡ served (at_trap m s cx') (caller cx') (cause, value)
unfolding turn_of
turn_trapped m s cx cx' cause value is run =
    let picked : Mono = with_pick (with_one_ready m) 0 in
    let ran : run_space 1000 cx (memory_in (process_at m 1)) ≡ record { context = cx'; space = s; trap = Some (cause, value) } =
    ap (λ (p : Option Process). run_space 1000 cx (memory_in p)) is.process ∙ run in
    ap (λ (t : Option Thread). run_thread picked 1 t) is.thread
    ∙ ap (λ (r : Ran). after_run (with_run_of picked 1 1 r) 1 1 r.context r.trap) ran
    ∙ (λ i. served (with_thread (with_memory_in picked 1 s (is.process i)) 1 (with_registers cx' (thread_in (is.process i)) 1)) (caller cx') (cause, value))
    ∙ ap (λ (t : Option Thread). served (with_thread (with_process picked 1 (first_process s)) 1 (with_registers cx' t 1)) (caller cx') (cause, value)) is.thread
  where
    thread_in : Option Process → Option Thread
    thread_in p = thread_at (with_memory_in (with_pick (with_one_ready m) 0) 1 s p) 1

-- ---- the system calls

output_descriptor : get {R = nat_cmp} console_descriptors 1 ≡ Some 2
output_descriptor = get-insert-other (insert (insert empty 2 3) 1 2) 0 1 1 (λ e. omega arith) ∙ get-insert-same (insert empty 2 3) 1 2

abbrev console_output : Description
console_output = record { stream = ConOut; access = 2; append = false; position = 0 }

abbrev console_errors : Description
console_errors = record { stream = ConErr; access = 2; append = false; position = 0 }

output_description : get {R = nat_cmp} console_descriptions 2 ≡ Some console_output
output_description =
    get-insert-other _ 1 _ 2 (λ e. omega arith) ∙ get-insert-same (insert {R = nat_cmp} empty 3 console_errors) 2 console_output

-- write(1, the text, 3)
write_served : (m : Mono) (s : Space) → process_at m 1 ≡ Some (first_process s) → m.descriptions ≡ console_descriptions → HoldsHello (memory_of s)
    → served m (caller (registers 0x1008c 1 0x1009c 3 64)) (8, 0) ≡ (finished m (caller (registers 0x1008c 1 0x1009c 3 64)) 3, record { output = hello_text; errors = [] })
write_served m s process descriptions holds =
    let who = caller (registers 0x1008c 1 0x1009c 3 64) in
    let open_output : description_of m 1 1 ≡ Some console_output =
    ap (λ (p : Option Process). described_in m 1 p) process ∙ ap (λ (d : Option ℕ). described_by m d) output_descriptor ∙ (λ i. get {R = nat_cmp} (descriptions i) 2) ∙ output_description in
    ap (λ (d : Option Description). write_to m who (writable d)) open_output
    ∙ ap (λ (p : Option Process). write_unless m who console_output (bytes_from (memory_of (memory_in p)) 0x1009c 3) (first_fault (memory_of (memory_in p)) 1 0x1009c 3)) process
    ∙ (λ i. write_unless m who console_output (text_there (memory_of s) holds i) (text_readable (memory_of s) holds i))

-- ---- the run

module _ (x : Readable) (s : Space) (space : IsSpace s) (holds : HoldsHello (memory_of s)) where
  abbrev begins : Mono
  begins = begun (blank start_settings (record { turns = 0; pick = 0; random = 0 }) x) s 0x11000 (registers 0x10078 0 0 0 0)

  abbrev at_write : Mono
  at_write = at_trap begins s (registers 0x1008c 1 0x1009c 3 64)

  abbrev has_written : Mono
  has_written = finished at_write (caller (registers 0x1008c 1 0x1009c 3 64)) 3

  abbrev at_exit : Mono
  at_exit = at_trap has_written s (registers 0x10098 0 0x1009c 3 93)

  abbrev has_exited : Mono
  has_exited = ended at_exit 1 0

  begins_ready : IsReady begins s (registers 0x10078 0 0 0 0)
  begins_ready = record {
    thread = get-insert-same empty 1 (first_thread (registers 0x10078 0 0 0 0));
    process = get-insert-same empty 1 (first_process s);
    descriptions = refl;
  }

  first_turn : turn_of begins ≡ (has_written, record { output = hello_text; errors = [] })
  first_turn =
      turn_trapped begins s (registers 0x10078 0 0 0 0) (registers 0x1008c 1 0x1009c 3 64) 8 0 begins_ready (run_unwritten 1000 (registers 0x10078 0 0 0 0) (registers 0x1008c 1 0x1009c 3 64) s (Some (8, 0)) space (up_to_write (memory_of s) holds))
      ∙ write_served at_write s (get-insert-same begins.processes 1 (first_process s)) refl holds

  -- the thread that wrote has its registers, and isn't woken
  written_thread : thread_at has_written 1 ≡ Some (first_thread (registers 0x10090 3 0x1009c 3 64))
  written_thread =
      get-insert-same at_write.threads 1 _
      ∙ ap (λ (t : Option Thread). Some (with_registers (registers 0x10090 3 0x1009c 3 64) t 1)) (get-insert-same begins.threads 1 (first_thread (registers 0x1008c 1 0x1009c 3 64)))

  written_ready : IsReady has_written s (registers 0x10090 3 0x1009c 3 64)
  written_ready = record {
    thread = written_thread;
    process = get-insert-same begins.processes 1 (first_process s);
    descriptions = refl;
  }

  -- its process has no other thread
  thread_alone : has_other_thread at_exit (caller (registers 0x10098 0 0x1009c 3 93)) ≡ false
  thread_alone =
      let thread = first_thread (registers 0x10098 0 0x1009c 3 93) in
      ap (λ threads. list_any (is_other_thread 1 1) (entries threads)) (insert-insert at_write.threads 1 _ thread ∙ insert-insert begins.threads 1 _ thread ∙ insert-insert empty 1 _ thread)
      ∙ list_any-mapped (λ (e : ℕ × Thread). e.0) (λ e. e.1) (is_other_thread 1 1) ((1, thread) ∷ []) refl

  second_turn : turn_of has_written ≡ silently has_exited
  second_turn =
      turn_trapped has_written s (registers 0x10090 3 0x1009c 3 64) (registers 0x10098 0 0x1009c 3 93) 8 0 written_ready
      (run_unwritten 1000 (registers 0x10090 3 0x1009c 3 64) (registers 0x10098 0 0x1009c 3 93) s (Some (8, 0)) space (up_to_exit (memory_of s) holds))
      ∙ ap (λ other. silently (cond other (without_thread at_exit 1) has_exited)) thread_alone

  has_code : exit_code has_exited 1 ≡ Some 0
  has_code =
      ap (λ (p : Option Process). code_in (get {R = nat_cmp} (with_exited at_exit.processes 1 0 p) 1)) (get-insert-same has_written.processes 1 (first_process s))
      ∙ ap code_in (get-insert-same at_exit.processes 1 (exited (first_process s) 0))

  whole_run : run_of TURNS begins ≡ behind (record { output = hello_text; errors = [] }) (behind nothing (ends_as (Exited 0) has_exited))
  whole_run =
      run_of-turn 999999 begins (ap code_in begins_ready.process) refl
      ∙ ap (λ (t : Served). behind t.1 (run_of 999999 t.0)) first_turn
      ∙ ap (behind (record { output = hello_text; errors = [] })) (run_of-turn 999998 has_written (ap code_in written_ready.process) refl
      ∙ ap (λ (t : Served). behind t.1 (run_of 999998 t.0)) second_turn
      ∙ ap (behind nothing) (run_of-exited 999998 has_exited 0 has_code))

  run_says_hello : boot start_settings x (start_job hello) ≡ Runs begins → SaysHello x
  run_says_hello booted = record {
    machine = begins;
    booted = booted;
    ends = ap (λ (r : Ending). r.end) whole_run;
    turns = ap (λ (r : Ending). r.last.positions.turns) whole_run;
    output = ap (λ (r : Ending). r.written.output) whole_run;
    errors = ap (λ (r : Ending). r.written.errors) whole_run;
    input = ap (λ (r : Ending). r.last.input) whole_run;
    files = ap (λ (r : Ending). r.last.files) whole_run;
  }

-- ---- the start

-- what computes on a file that is written out
unfoldable computed : Unit {0}
unfolding hello_file number_at program_header any_below union_below max_below meets segment_rights touches is_touched page_rights end_page file_refusal is_misplaced leaves_file meets_earlier lone_refusal header_refusal header_refusals pages program_refusal merged layout_of
computed = tt

hello_taken : refusal hello_file ≡ None
unfolding computed
hello_taken = refl

-- one run of one page
abbrev hello_layout : Layout
hello_layout = record { entry = 0x10078; runs = record { page = 16; count = 1; rights = 7 } ∷ []; end = 69632 }

hello_laid_out : layout_of hello_file ≡ hello_layout
unfolding computed
hello_laid_out = refl

one_header : e_phnum hello_file ≡ 1
unfolding computed
one_header = refl

abbrev segment : ProgramHeader
segment = record { p_type = 1; p_flags = 7; p_offset = 120; p_vaddr = 65656; p_filesz = 39; p_memsz = 39 }

segment_is : program_header hello_file 0 ≡ segment
unfolding computed
segment_is = refl

-- the byte at an address: of the segment, or 0
hello_byte : (address : ℕ) → byte_of hello_file address ≡ cond (covers segment address) (segment_byte hello_file segment address) 0
hello_byte address =
    ap (byte_below hello_file address) one_header
    ∙ byte_below-more hello_file address 0
    ∙ ap (λ (h : ProgramHeader). cond (covers h address) (segment_byte hello_file h address) (byte_below hello_file address 0)) segment_is
    ∙ ap (λ n. cond (covers segment address) (segment_byte hello_file segment address) n) (byte_below-uncovered hello_file address 0 (λ j below. absurd (omega arith)))

covered : (k : ℕ) → k < 39 → covers segment (65656 + k) ≡ true
unfolding covers
covered k h = and_from _ _ (le-leb 65656 (65656 + k) (omega arith)) (lt-ltb (65656 + k) 65695 (omega arith))

in_segment : (k : ℕ) → k < 39 → segment_byte hello_file segment (65656 + k) ≡ get_or hello_file (120 + k) 0
unfolding segment_byte
in_segment k h =
    let place : 65656 + k - 65656 ≡ k = omega arith in
    ap (λ n. cond (nat_lt n 39) (get_or hello_file (120 + n) 0) 0) place ∙ cond-true _ _ _ (lt-ltb k 39 h)

abbrev hello_bytes : List ℕ
hello_bytes = page_bytes hello_file 16 1

hello_bytes_at : (k : ℕ) → k < 39 → get_or hello_bytes (120 + k) 0 ≡ get_or hello_file (120 + k) 0
unfolding bytes_at
hello_bytes_at k h =
    get_or-map-range_with_len (byte_of hello_file) 65536 4096 (120 + k) (65656 + k) 0 (omega arith) (omega arith)
    ∙ hello_byte (65656 + k) ∙ cond-true _ _ _ (covered k h) ∙ in_segment k h

hello_whole : length hello_bytes ≡ 4096
hello_whole = length-bytes_at hello_file 65536 4096

abbrev hello_space : Space
hello_space = begins_with hello_bytes (hello_name ∷ []) hello_whole

hello_holds : HoldsHello (memory_of hello_space)
hello_holds = record {
  there = λ k h. program_there hello_bytes (hello_name ∷ []) hello_whole (omega arith) (120 + k) (omega arith)
      ∙ ap program_cell (hello_bytes_at k h);
}

all_small : (xs : List ℕ) → list_all (λ byte. nat_lt byte 256) xs ≡ true → All (λ byte. byte < 256) xs
all_small [] all = All-nil (λ byte. byte < 256)
all_small (x ∷ xs) all =
    let parts = and_parts (nat_lt x 256) (list_all (λ byte. nat_lt byte 256) xs) all in
    All-cons (λ byte. byte < 256) x xs (ltb-true x 256 parts.0) (all_small xs parts.1)

hello_small : All (λ byte. byte < 256) hello_file
unfolding hello_file
hello_small = all_small hello_file refl

block_small : All (λ byte. byte < 256) (argument_block (hello_name ∷ []))
block_small = all_small (argument_block (hello_name ∷ [])) refl

in_file : (k : ℕ) → get_or hello_file k 0 < 256
in_file k =
    elim (cases_lt k (length hello_file)) [
      | inl within ↦ All-get_or (λ byte. byte < 256) hello_file k 0 within hello_small
      | inr past ↦ let e = get_or_past hello_file k 0 past in omega arith
    ]

small_byte : (address : ℕ) → byte_of hello_file address < 256
unfolding segment_byte
small_byte address =
    subst (λ n. n < 256) (sym (hello_byte address))
    (cond_both (covers segment address) (segment_byte hello_file segment address) 0 (λ n. n < 256)
    (λ _. cond_both (nat_lt (address - 65656) 39) (get_or hello_file (120 + (address - 65656)) 0) 0 (λ n. n < 256) (λ _. in_file (120 + (address - 65656))) (λ _. omega arith))
    (λ _. omega arith))

hello_bytes_small : All (λ byte. byte < 256) hello_bytes
unfolding bytes_at
hello_bytes_small =
    All-from_get_or (λ byte. byte < 256) hello_bytes 0
    (λ k within. subst (λ n. n < 256) (sym (get_or-map-range_with_len (byte_of hello_file) 65536 4096 k (65536 + k) 0 (let whole = hello_whole in omega arith) refl)) (small_byte (65536 + k)))

hello_in_space : IsSpace hello_space
hello_in_space = begins_in_space hello_bytes (hello_name ∷ []) hello_whole hello_bytes_small block_small

hello_booted : (x : Readable) → file_of x.files hello_name ≡ Some hello_file → boot start_settings x (start_job hello) ≡ Runs (begins x hello_space hello_in_space hello_holds)
hello_booted x there =
    let m : Mono = blank start_settings (record { turns = 0; pick = 0; random = 0 }) x in
    ap (λ (file : Option (List ℕ)). started_if m (hello_name ∷ []) file) there
    ∙ ap (begun_from m (hello_name ∷ [])) (loaded-accepted hello_file hello_taken)
    ∙ ap (λ program. begun_from m (hello_name ∷ []) (Ok program)) (program_of-made hello_file hello_layout (sym hello_laid_out))

-- the program's run
pub says_hello : (x : Readable) → file_of x.files hello_name ≡ Some hello_file → SaysHello x
says_hello x there =
    run_says_hello x hello_space hello_in_space hello_holds (hello_booted x there)
