-- Worked examples: a library OS with two processes and three threads that fits its objects, and four neighbours that fit none.
use Rattle.std.specs.Prelude.{◌≡◌, ℕ, ◌+◌, ◌==◌, true, false, cond, not, List, [], ◌∷◌, ◌++◌, map, find, replicate}
use Rattle.std.specs.List.{list_all}
use Rattle.std.specs.FinMap.{from_entries, empty}
use Rattle.std.specs.Option.{option_map}
use Rattle.std.specs.declared.option.Option.{Option}
use Rattle.std.specs.declared.option.Option.TheVariants.{None, Some}
use Rattle.std.proofs.Common.{refl, sym, ap, ◌∙◌, arith, eqb-true}
use Rattle.std.proofs.lemmas.Bool.{and_parts, not-true}
use Rattle.rv_core.specs.declared.context.Context.{Context}
use Rattle.guest_space.specs.Space.{Space}
use Rattle.turn_sched.specs.Lists.{contains}
use Rattle.bas_names.specs.declared.StreamName.TheVariants as stream
use Rattle.abi_calls.specs.declared.object.Object.TheVariants.{Process, Thread, Event, Stream}
use Rattle.abi_calls.specs.declared.call.Call.TheVariants.{MemoryAllocate}
use Rattle.abi_calls.specs.declared.reply.Reply.TheVariants.{Done, BadAddress, NoRoom}
use Rattle.abi_calls.specs.declared.threads.Upcall.{Upcall}
use Rattle.turn_sched.specs.declared.settings.Positions.{Positions}
use Rattle.turn_sched.specs.declared.settings.Settings.{Settings}
use Rattle.abi_calls.specs.Objects.{Object, Objects, object_at, is_thread_of}
use Rattle.libos_state.specs.declared.cont.Cont.{Cont}
use Rattle.libos_state.specs.declared.cont.Event.TheVariants as event
use Rattle.libos_state.specs.declared.cont.Stage.{Stage}
use Rattle.libos_state.specs.declared.cont.Stage.TheVariants.{CloseHandles, Resume, AllocatePages, FreePages, ProtectPages, CloseEvent, ExitThread}
use Rattle.libos_state.specs.declared.notes.Description.{Description}
use Rattle.libos_state.specs.declared.notes.DescriptorNote.{DescriptorNote}
use Rattle.libos_state.specs.declared.notes.Kind.{Kind}
use Rattle.libos_state.specs.declared.notes.Kind.TheVariants.{ConIn, ConOut, ConErr}
use Rattle.libos_state.specs.declared.notes.ProcessNote.{ProcessNote}
use Rattle.libos_state.specs.declared.notes.Queued.{Queued}
use Rattle.libos_state.specs.declared.notes.ThreadNote.{ThreadNote}
use Rattle.libos_state.specs.declared.state.Boot.TheVariants.{Up, NoProgram}
use Rattle.libos_state.specs.declared.state.LibOs.{LibOs}
use Rattle.libos_state.specs.Named.{Named, is_of, recorded, times_named}
use Rattle.libos_state.specs.Fits.{FitsRecords, FitsObjects, FitsUp, are_distinct, is_to_name, is_code, handle_in}
use Rattle.libos_state.specs.Records.{process_named, no_context}
use Rattle.libos_state.specs.Breaks.{with_break}
use Rattle.libos_state.specs.Pending.{asked}
use Rattle.libos_state.specs.Answered.{answered_at, gives_break, goes_on, service_with_result, bare, service_leaving}
use Rattle.libos_state.specs.Entered.{entered, handles_of, result_of, entered_with, has_other_thread, ends_process}
use Rattle.libos_state.specs.Alone.{fits_alone, fits_service}
use Rattle.libos_state.proofs.Alone.{Decides-fits_records}
use Rattle.libos_state.proofs.Distinct.{find-absent, contains-map}
use Rattle.libos_state.proofs.Naming.{times_named-cons, times_named-most}
use Rattle.libos_state.proofs.Bases.{get-mapped}

-- ---- objects of a table

-- Some objects, each under its number.
abbrev Table : Type 0
Table = List (ℕ × Object)

abbrev numbers : Table → List ℕ
numbers table = map (λ e. e.0) table

abbrev entry : Table → ℕ → Option Object
entry table q = option_map (λ e. e.1) (find (λ e. e.0 == q) table)

-- Names of the same numbers, which are different, name each once.
named_once : (table : Table) (names : List Named) → map (λ n. n.0) names ≡ numbers table → are_distinct (numbers table) ≡ true → (q : ℕ) → times_named q names ≡ cond (is_to_name None (entry table q)) 1 0
named_once [] [] same distinct q = refl
named_once [] (n ∷ names) same distinct q = absurd (cc)
named_once (e ∷ table) [] same distinct q = absurd (cc)
named_once (e ∷ table) (n ∷ names) same distinct q =
    let parts = and_parts (not (contains (numbers table) e.0)) (are_distinct (numbers table)) distinct in
    let number : n.0 ≡ e.0 = cc in
    let rest = named_once table names (let tail : map (λ (j : Named). j.0) names ≡ numbers table = cc in tail) parts.1 q in
    times_named-cons q n.0 n.1 names ∙ ap (λ k. cond (k == q) 1 0 + times_named q names) number ∙ ap (λ k. cond (e.0 == q) 1 0 + k) rest
    ∙ elim (e.0 == q) as (λ b. (e.0 == q) ≡ b → cond b 1 0 + cond (is_to_name None (entry table q)) 1 0 ≡ cond (is_to_name None (option_map (λ (j : ℕ × Object). j.1) (cond b (Some e) (find (λ j. j.0 == q) table)))) 1 0) [
      | true ↦ λ here. ap (λ x. 1 + cond (is_to_name None (option_map (λ (j : ℕ × Object). j.1) x)) 1 0) (find-absent (λ (j : ℕ × Object). j.0 == q) table
          (sym (contains-map (λ (j : ℕ × Object). j.0) table q) ∙ ap (contains (numbers table)) (sym (eqb-true e.0 q here)) ∙ not-true _ parts.0))
      | false ↦ λ _. omega arith
    ] refl

-- ---- two processes, three threads, and a description that both processes have open

abbrev descriptor : ℕ → ℕ → DescriptorNote
descriptor number description = record { number = number; description = description }

abbrev process : ℕ → ℕ → ℕ → Option ℕ → List DescriptorNote → ProcessNote
process pid parent handle code descriptors = record {
  pid = pid;
  parent = parent;
  handle = handle;
  break_start = 0x12000;
  break_now = 0x12000;
  handler = 0;
  code = code;
  descriptors = descriptors;
}

-- The second process is a child of the first.
abbrev first_process : ProcessNote
first_process = process 1 0 11 None (descriptor 0 1 ∷ descriptor 1 2 ∷ descriptor 2 3 ∷ [])

abbrev second_process : ProcessNote
second_process = process 2 1 12 None (descriptor 1 2 ∷ [])

abbrev thread : ℕ → ℕ → ℕ → ℕ → ThreadNote
thread tid pid handle event = record { tid = tid; pid = pid; handle = handle; event = event; saved = None }

abbrev description : ℕ → ℕ → Kind → ℕ → Description
description id handle kind access = record { id = id; handle = handle; kind = kind; access = access; append = false; position = 0 }

abbrev console : List Description
console =
    description 1 19 ConIn 1 ∷ description 2 20 ConOut 2 ∷ description 3 21 ConErr 2 ∷ []

module _ (settings : Settings) (positions : Positions) (memory : Space) (context : Context) where
  abbrev with_records : List ProcessNote → List ThreadNote → LibOs
  with_records processes threads = record {
    settings = settings;
    boot = Up;
    next_id = 4;
    processes = processes;
    threads = threads;
    descriptions = console;
    queue = [];
    cont = None;
  }

  abbrev two_processes : List ProcessNote
  two_processes = first_process ∷ second_process ∷ []

  abbrev three_threads : List ThreadNote
  three_threads = thread 1 1 13 16 ∷ thread 2 2 14 17 ∷ thread 3 1 15 18 ∷ []

  abbrev worked : LibOs
  worked = with_records two_processes three_threads

  abbrev table : Table
  table =
      (11, Process memory None) ∷ (12, Process memory None) ∷
      (13, Thread 11 context) ∷ (14, Thread 12 context) ∷ (15, Thread 11 context) ∷
      (16, Event false) ∷ (17, Event true) ∷ (18, Event false) ∷
      (19, Stream stream.ConIn) ∷ (20, Stream stream.ConOut) ∷ (21, Stream stream.ConErr) ∷ []

  -- Two threads are ready, and the third waits for the second process, or to be woken.
  abbrev objects : Objects
  objects = record {
    live = from_entries table;
    pipes = empty;
    lists = record {
      ready = 14 ∷ 13 ∷ [];
      waiting = record { thread = 15; handles = 12 ∷ 18 ∷ []; deadline = None } ∷ [];
      suspended = [];
      current = None;
    };
    positions = positions;
    settings = settings;
  }

  is_at : (q : ℕ) → object_at objects q ≡ entry table q
  is_at q = get-mapped (λ (e : ℕ × Object). e.0) (λ e. e.1) table q

  -- By themselves the records fit, as the test shows.
  worked_alone : fits_alone worked ≡ true
  worked_alone = refl

  worked_records : FitsRecords worked
  worked_records = (Decides-fits_records worked).0 refl

  worked_objects : FitsObjects worked objects [] None
  worked_objects = record {
    once = λ q. named_once table (recorded worked) refl refl q ∙ ap (λ x. cond (is_to_name None x) 1 0) (sym (is_at q));
    kinds = λ i. list_all (λ (n : Named). is_of n.1 (is_at n.0 i)) (recorded worked);
    homes = λ i. list_all (λ (n : ThreadNote). is_thread_of (handle_in (process_named n.pid two_processes)) (is_at n.handle i)) three_threads;
    codes = λ i. list_all (λ (n : ProcessNote). is_code n.code (is_at n.handle i)) two_processes;
  }

  -- They fit.
  worked_fits : FitsUp worked objects
  worked_fits = record { records = worked_records; first = refl; objects = worked_objects; current = refl }

  -- ---- what fits no objects, or not these

  -- Two records have one handle: the second thread has that of the first.
  twice : LibOs
  twice = with_records two_processes (thread 1 1 13 16 ∷ thread 2 2 13 17 ∷ thread 3 1 15 18 ∷ [])

  twice_fits_none : (o : Objects) → FitsUp twice o → ⊥
  unfolding twice
  twice_fits_none o fits =
      let two : times_named 13 (recorded twice) ≡ 2 = refl in
      omega (arith, two, times_named-most twice o [] None fits.objects 13)

  -- A thread with a record is no more.
  dead_fits_none : (o : Objects) → object_at o 15 ≡ None → FitsUp worked o → ⊥
  dead_fits_none o dead fits =
      let one : times_named 15 (recorded worked ++ []) ≡ 1 = refl in
      let none : times_named 15 (recorded worked ++ []) ≡ 0 = fits.objects.once 15 ∙ ap (λ x. cond (is_to_name None x) 1 0) dead in
      omega arith

  -- An object is live that nothing names.
  unnamed_fits_none : (o : Objects) (x : Object) → object_at o 22 ≡ Some x → FitsUp worked o → ⊥
  unnamed_fits_none o x live fits =
      let none : times_named 22 (recorded worked ++ []) ≡ 0 = refl in
      let one : times_named 22 (recorded worked ++ []) ≡ 1 = fits.objects.once 22 ∙ ap (λ y. cond (is_to_name None y) 1 0) live in
      omega arith

  -- A description is open without a descriptor: the first process has closed its descriptor 2.
  abbrev closed_process : ProcessNote
  closed_process = record first_process { descriptors = descriptor 0 1 ∷ descriptor 1 2 ∷ [] }

  undescribed : LibOs
  undescribed = with_records (closed_process ∷ second_process ∷ []) three_threads

  undescribed_fits_none : (o : Objects) → FitsUp undescribed o → ⊥
  unfolding undescribed
  undescribed_fits_none o fits = absurd (let e : false ≡ true = fits.records.described in cc)

  undescribed_unfit : fits_alone undescribed ≡ false
  unfolding undescribed
  undescribed_unfit = refl

  -- A descriptor of the second process names a description that isn't there.
  dangling_unfit : fits_alone (with_records (first_process ∷ record second_process { descriptors = descriptor 1 4 ∷ [] } ∷ []) three_threads) ≡ false
  dangling_unfit = refl

  -- Two threads have one id; a thread's process has exited; an id wasn't given yet.
  same_id_unfit : fits_alone (with_records two_processes (thread 1 1 13 16 ∷ thread 1 2 14 17 ∷ [])) ≡ false
  same_id_unfit = refl

  exited_unfit : fits_alone (with_records (first_process ∷ process 2 1 12 (Some 0) [] ∷ []) three_threads) ≡ false
  exited_unfit = refl

  ungiven_unfit : fits_alone (with_records two_processes (thread 4 1 13 16 ∷ [])) ≡ false
  ungiven_unfit = refl

  -- A parent came before its child, and is there; what the console is open to has no end; a queue has a thread with a record, and once.
  later_parent_unfit : fits_alone (with_records (record first_process { parent = 2 } ∷ second_process ∷ []) three_threads) ≡ false
  later_parent_unfit = refl

  absent_parent_unfit : fits_alone (with_records (first_process ∷ process 3 2 12 None (descriptor 1 2 ∷ []) ∷ []) (thread 1 1 13 16 ∷ [])) ≡ false
  absent_parent_unfit = refl

  appending_unfit : fits_alone (record worked { descriptions = description 1 19 ConIn 1 ∷ record (description 2 20 ConOut 2) { append = true } ∷ description 3 21 ConErr 2 ∷ [] }) ≡ false
  appending_unfit = refl

  abbrev waits : ℕ → Queued
  waits tid = record { tid = tid; address = 0x12008 }

  queued_alone : fits_alone (record worked { queue = waits 3 ∷ waits 2 ∷ [] }) ≡ true
  queued_alone = refl

  queued_twice_unfit : fits_alone (record worked { queue = waits 3 ∷ waits 2 ∷ waits 3 ∷ [] }) ≡ false
  queued_twice_unfit = refl

  queued_unknown_unfit : fits_alone (record worked { queue = waits 4 ∷ [] }) ≡ false
  queued_unknown_unfit = refl

  many_ids_unfit : fits_alone (record worked { next_id = 0x80000001 }) ≡ false
  many_ids_unfit = refl

  -- Without its first process a run that has begun fits nothing, and a start has no record yet.
  orphaned_unfit : fits_alone (with_records (second_process ∷ []) []) ≡ false
  orphaned_unfit = refl

  recorded_start_unfit : fits_alone (record worked { boot = NoProgram }) ≡ false
  recorded_start_unfit = refl

  -- Records in which a handle stands twice fit nothing.
  twice_unfit : fits_alone twice ≡ false
  unfolding twice
  twice_unfit = refl

  -- With descriptor 1 closed in its place the description stays open, as the second process has it.
  shared : LibOs
  shared = with_records (record first_process { descriptors = descriptor 0 1 ∷ descriptor 2 3 ∷ [] } ∷ second_process ∷ []) three_threads

  shared_records : FitsRecords shared
  unfolding shared
  shared_records = (Decides-fits_records shared).0 refl

  shared_fits : FitsUp shared objects
  unfolding shared
  shared_fits =
      let named = worked_objects in
      let same : FitsObjects shared objects [] None = record { once = named.once; kinds = named.kinds; homes = named.homes; codes = named.codes } in
      record { records = shared_records; first = refl; objects = same; current = refl }

  -- ---- a service in progress, by itself

  -- The first process has ended by an illegal instruction of its first thread, and its handles are closed: of its threads no record is left.
  abbrev ended : LibOs
  ended = with_records (process 1 0 11 (Some 132) [] ∷ second_process ∷ []) (thread 2 2 14 17 ∷ [])

  abbrev closing : Context → List ℕ → List ℕ → List ℕ → Cont
  closing next bytes handles numbers = record {
    event = event.Up (record { process = 11; thread = 13; cause = 2; value = 0; context = no_context });
    stage = CloseHandles;
    next = next;
    names = [];
    bytes = bytes;
    handles = handles;
    later = [];
    numbers = numbers;
  }

  -- It fits with handles to close and the exit code, and without a handle, with another code or none, with bytes or other registers it doesn't.
  closing_fits : fits_service ended (closing no_context [] (19 ∷ 16 ∷ []) (132 ∷ [])) CloseHandles ≡ true
  closing_fits = refl

  nothing_to_close : fits_service ended (closing no_context [] [] (132 ∷ [])) CloseHandles ≡ false
  nothing_to_close = refl

  another_code : fits_service ended (closing no_context [] (19 ∷ []) (133 ∷ [])) CloseHandles ≡ false
  another_code = refl

  no_code : fits_service ended (closing no_context [] (19 ∷ []) []) CloseHandles ≡ false
  no_code = refl

  stray_bytes : fits_service ended (closing no_context (1 ∷ []) (19 ∷ []) (132 ∷ [])) CloseHandles ≡ false
  stray_bytes = refl

  other_registers : fits_service ended (closing (record no_context { pc = 4 }) [] (19 ∷ []) (132 ∷ [])) CloseHandles ≡ false
  other_registers = refl

  -- No fault comes to the stage that resumes a thread.
  other_stage : fits_service ended (closing no_context [] (19 ∷ []) (132 ∷ [])) Resume ≡ false
  other_stage = refl

  -- ---- a thread that ends alone

  -- The call of this number by a thread of a process, each by its handle.
  abbrev calls : ℕ → ℕ → ℕ → Upcall
  calls process thread number = record {
    process = process;
    thread = thread;
    cause = 8;
    value = 0;
    context = record { pc = 0; x = replicate 16 0 ++ (number ∷ replicate 14 0) };
  }

  -- The first process has two threads, and the second has one.
  first_has_another : has_other_thread worked (calls 11 15 93) ≡ true
  first_has_another = refl

  second_has_none : has_other_thread worked (calls 12 14 93) ≡ false
  second_has_none = refl

  -- exit of the third thread leaves the other two, and nothing of it in the queue; its event is closed. exit_group ends its process, and
  -- so does exit of an only thread.
  abbrev two_threads : List ThreadNote
  two_threads = thread 1 1 13 16 ∷ thread 2 2 14 17 ∷ []

  exit_of_one : entered (record worked { queue = waits 3 ∷ waits 1 ∷ [] }) (calls 11 15 93)
      ≡ goes_on (record (with_records two_processes two_threads) { queue = waits 1 ∷ [] }) (service_leaving (entered_with (calls 11 15 93)) 18)
  exit_of_one = refl

  exit_of_all : entered worked (calls 11 15 94) ≡ ends_process worked (calls 11 15 94) 0
  exit_of_all = refl

  exit_of_the_last : entered worked (calls 12 14 93) ≡ ends_process worked (calls 12 14 93) 0
  exit_of_the_last = refl

  -- A process that has three descriptions open by its descriptors 0, 1, 2 and 5 closes the streams of 3, 1 and 2 in this order, each once,
  -- and then its threads' events. What another process has open stays.
  abbrev four_descriptors : ProcessNote
  four_descriptors = record first_process { descriptors = descriptor 0 3 ∷ descriptor 1 1 ∷ descriptor 2 3 ∷ descriptor 5 2 ∷ [] }

  closes_in_order : handles_of (with_records (four_descriptors ∷ []) three_threads) 1 ≡ 21 ∷ 19 ∷ 20 ∷ 16 ∷ 18 ∷ []
  closes_in_order = refl

  closes_its_own : handles_of (with_records (four_descriptors ∷ second_process ∷ []) three_threads) 1 ≡ 21 ∷ 19 ∷ 16 ∷ 18 ∷ []
  closes_its_own = refl

  -- The service keeps the event alone, and then nothing. exit_group comes to neither stage.
  abbrev leaves : ℕ → List ℕ → Cont
  leaves number handles = record (bare (entered_with (calls 11 15 number)) CloseEvent) { handles = handles }

  leaving_fits : fits_service (with_records two_processes two_threads) (leaves 93 (18 ∷ [])) CloseEvent ≡ true
  leaving_fits = refl

  no_event : fits_service (with_records two_processes two_threads) (leaves 93 []) CloseEvent ≡ false
  no_event = refl

  two_events : fits_service (with_records two_processes two_threads) (leaves 93 (18 ∷ 16 ∷ [])) CloseEvent ≡ false
  two_events = refl

  event_of_a_group : fits_service (with_records two_processes two_threads) (leaves 94 (18 ∷ [])) CloseEvent ≡ false
  event_of_a_group = refl

  exiting_fits : fits_service (with_records two_processes two_threads) (leaves 93 []) ExitThread ≡ true
  exiting_fits = refl

  event_kept_on : fits_service (with_records two_processes two_threads) (leaves 93 (18 ∷ [])) ExitThread ≡ false
  event_kept_on = refl

  -- mmap of a byte by the first thread of the first process, which looks for so many pages from one on.
  abbrev mapping : ℕ → ℕ → Cont
  mapping page count =
      let registers : Context = record { pc = 0; x = replicate 10 0 ++ (1 ∷ 3 ∷ 0x22 ∷ 0 ∷ 0 ∷ 0 ∷ 222 ∷ replicate 14 0) } in
      record {
        event = event.Up (record { process = 11; thread = 13; cause = 8; value = 0; context = registers });
        stage = AllocatePages;
        next = registers;
        names = [];
        bytes = [];
        handles = [];
        later = [];
        numbers = page ∷ count ∷ [];
      }

  -- It fits from page 65,536 on, with 1,024 pages at most, and below the stack.
  mapping_fits : fits_service worked (mapping 65536 1) AllocatePages ≡ true
  mapping_fits = refl

  last_run_fits : fits_service worked (mapping 67107824 1024) AllocatePages ≡ true
  last_run_fits = refl

  too_low : fits_service worked (mapping 65535 1) AllocatePages ≡ false
  too_low = refl

  in_the_stack : fits_service worked (mapping 67107825 1024) AllocatePages ≡ false
  in_the_stack = refl

  too_many : fits_service worked (mapping 65536 1025) AllocatePages ≡ false
  too_many = refl

  no_page : fits_service worked (mapping 65536 0) AllocatePages ≡ false
  no_page = refl

  -- No mmap comes to the stages of munmap and mprotect.
  not_freed : fits_service worked (mapping 65536 1) FreePages ≡ false
  not_freed = refl

  not_protected : fits_service worked (mapping 65536 1) ProtectPages ≡ false
  not_protected = refl

  -- brk by the same thread, of a process whose break stands where it started, at 0x12000, or at 0x13800 behind two pages.
  abbrev breaks : ℕ → Upcall
  breaks address = record {
    process = 11;
    thread = 13;
    cause = 8;
    value = 0;
    context = record { pc = 0; x = replicate 9 0 ++ (address ∷ 0 ∷ 0 ∷ 0 ∷ 0 ∷ 0 ∷ 0 ∷ 214 ∷ replicate 14 0) };
  }

  abbrev breaking : Stage → ℕ → ℕ → ℕ → Cont
  breaking stage address page count = record {
    event = event.Up (breaks address);
    stage = stage;
    next = (breaks address).context;
    names = [];
    bytes = [];
    handles = [];
    later = [];
    numbers = page ∷ count ∷ [];
  }

  abbrev broken : LibOs
  broken = with_break worked 11 0x13800

  -- Pages are made where it rises by some, and go where it falls by some.
  rising_fits : fits_service worked (breaking AllocatePages 0x12001 18 1) AllocatePages ≡ true
  rising_fits = refl

  falling_fits : fits_service broken (breaking FreePages 0x12000 18 2) FreePages ≡ true
  falling_fits = refl

  rising_by_none : fits_service worked (breaking AllocatePages 0x12001 18 0) AllocatePages ≡ false
  rising_by_none = refl

  not_falling : fits_service worked (breaking FreePages 0x12001 18 1) FreePages ≡ false
  not_falling = refl

  not_rising : fits_service broken (breaking AllocatePages 0x12000 18 2) AllocatePages ≡ false
  not_rising = refl

  within_page : fits_service broken (breaking AllocatePages 0x14000 20 1) AllocatePages ≡ false
  within_page = refl

  below_start : fits_service broken (breaking FreePages 0x11000 17 3) FreePages ≡ false
  below_start = refl

  -- The pages can be read and written. The break moves once they are made, and else it stays.
  pages_asked : asked worked (breaking AllocatePages 0x12001 18 1) AllocatePages ≡ MemoryAllocate 11 18 1 3
  pages_asked = refl

  pages_had : answered_at worked (breaking AllocatePages 0x12001 18 1) AllocatePages Done ≡ gives_break (with_break worked 11 0x12001) (breaking AllocatePages 0x12001 18 1)
  pages_had = refl

  pages_refused : answered_at worked (breaking AllocatePages 0x12001 18 1) AllocatePages NoRoom ≡ goes_on worked (service_with_result (breaking AllocatePages 0x12001 18 1) 0x12000)
  pages_refused = refl

  page_missing : answered_at broken (breaking FreePages 0x12000 18 2) FreePages BadAddress ≡ goes_on broken (service_with_result (breaking FreePages 0x12000 18 2) 0x13800)
  page_missing = refl

  -- Within its page it moves at once, and below its start it stays.
  moved_within : entered broken (breaks 0x14000) ≡ result_of (with_break worked 11 0x14000) (breaks 0x14000) 0x14000
  moved_within = refl

  kept_below : entered broken (breaks 0x11FFF) ≡ result_of broken (breaks 0x11FFF) 0x13800
  kept_below = refl
