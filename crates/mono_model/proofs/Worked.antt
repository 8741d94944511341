-- The definitions computed on worked examples.
use Rattle.std.specs.FinMap.{get, len, FinMap, insert, empty, entries, entries-insert, len-entries, len-empty}
use Rattle.std.proofs.Common.{◌≡◌, ℕ, ◌+◌, ◌*◌, ◌≤◌, ◌<◌, Bool, true, false, not, ◌&&◌, if◌then◌else◌, nat_lt, is_some, List, [], ◌∷◌, refl, sym, ap, ◌∙◌, arith, take, replicate, ◌++◌, length}
use Rattle.std.specs.List.{list_any}
use Rattle.std.specs.Ordering.{nat_cmp}
use Rattle.std.specs.Cmp.{nat_cmp_total}
use Rattle.std.specs.FinMap.Entries.{put}
use Rattle.std.specs.declared.option.Option.{Option}
use Rattle.std.specs.declared.option.Option.TheVariants.{None, Some}
use Rattle.rv_core.specs.declared.context.Context.{Context}
use Rattle.guest_space.specs.Space.{Space, Frame, with_run, without_run}
use Rattle.guest_space.specs.Run.{first_missing, if_missing}
use Rattle.guest_space.proofs.FirstSome.{first_some-here}
use Rattle.bas_names.specs.declared.StreamName.TheVariants.{ConOut, ConIn}
use Rattle.bas_items.proofs.NumberMaps.{get-insert-same}
use Rattle.mono_model.specs.Machine.{Mono, returned, register, Process, process_at, with_process, with_break_in, Thread, Exits, Wakes, Gone}
use Rattle.mono_model.specs.Calls.{Caller, error, EBADF, EINVAL, ENOMEM, writable, moved, finished, finished_with, memory_at, memory_in, munmap, munmap_known, mprotect_known, mmap, mmap_known, map_pages, break_in, break_given, break_moved_with, break_asked, brk, brk_by, is_exit, parent_in, known_result, is_other_thread, has_other_thread, without_thread, ended, exit}
use Rattle.mono_model.specs.SystemCalls.{fault_code}
use Rattle.mono_model.specs.Mapping.{HasNoPages, is_free, is_whole, lowest_free, pages_for}
use Rattle.mono_model.specs.Breaks.{break_move}
use Rattle.mono_model.specs.declared.breaks.BreakMove.{BreakMove}
use Rattle.mono_model.specs.declared.breaks.BreakMove.TheVariants.{Grows, Shrinks, Within, Stays}
use Rattle.mono_model.proofs.Mapping.{is_free-decides, lowest_free-here, lowest_free-next}
use Rattle.mono_model.specs.Starting.{stack_pointer, argument_block, block_size}

-- `/bin/hi`
name : List ℕ
name = 47 ∷ 98 ∷ 105 ∷ 110 ∷ 47 ∷ 104 ∷ 105 ∷ []

-- where its one argument is its name, its stack pointer is 0x3FFFFFFFD0, and its argument block has 40 bytes
stack : stack_pointer (name ∷ []) ≡ 0x3FFFFFFFD0
unfolding name
stack = refl

block : block_size (name ∷ []) ≡ 40
unfolding name
block = refl

block_bytes : take 16 (argument_block (name ∷ [])) ≡ 1 ∷ 0 ∷ 0 ∷ 0 ∷ 0 ∷ 0 ∷ 0 ∷ 0 ∷ 0xf0 ∷ 0xff ∷ 0xff ∷ 0xff ∷ 0x3f ∷ 0 ∷ 0 ∷ 0 ∷ []
unfolding name
block_bytes = refl

-- errors are negative numbers, and a result leads behind the call
not_open : error EBADF ≡ 18446744073709551607
not_open = refl

behind : (returned (record { pc = 0x10090; x = replicate 31 0 }) 3).pc ≡ 0x10094
behind = refl

result : register (returned (record { pc = 0x10090; x = replicate 31 0 }) 3) 10 ≡ 3
result = refl

-- what can be written, and how much at once
output_written : writable (Some (record { stream = ConOut; access = 2; append = false; position = 0 }))
    ≡ Some (record { stream = ConOut; access = 2; append = false; position = 0 })
output_written = refl

input_refused : writable (Some (record { stream = ConIn; access = 1; append = false; position = 0 })) ≡ None
input_refused = refl

cut : moved 65537 ≡ 65536
cut = refl

-- both calls of an exit end the caller, and a write doesn't
exits : is_exit 93 ≡ true
exits = refl

exits_group : is_exit 94 ≡ true
exits_group = refl

goes_on : is_exit 64 ≡ false
goes_on = refl

-- Thread 5 of process 3 calls an exit with 263. Beside it there are threads of other numbers, each of a process.
module _ (m : Mono) (any : Thread) where
  abbrev leaving : Caller
  leaving = record { thread = 5; process = 3; context = record { pc = 0x10090; x = replicate 9 0 ++ 263 ∷ replicate 21 0 } }

  abbrev Threads : Type 0
  Threads = FinMap nat_cmp Thread

  abbrev in_process : ℕ → Thread
  in_process p = record any { process = p }

  -- the thread 5 alone, and beside it another thread of process 3 or of process 4
  abbrev alone : Threads
  alone = insert empty 5 (in_process 3)

  abbrev beside : ℕ → Threads
  beside p = insert alone 7 (in_process p)

  no_rows : (es : List (ℕ × Thread)) → length es ≡ 0 → es ≡ []
  no_rows [] none = refl
  no_rows (e ∷ es) none = absurd (omega (arith, none))

  rows_alone : entries alone ≡ (5, in_process 3) ∷ []
  rows_alone = entries-insert nat_cmp_total empty 5 (in_process 3)
      ∙ ap (put nat_cmp 5 (in_process 3)) (no_rows (entries empty) (sym (len-entries empty) ∙ len-empty nat_cmp Thread))

  rows_beside : (p : ℕ) → entries (beside p) ≡ (5, in_process 3) ∷ (7, in_process p) ∷ []
  rows_beside p = entries-insert nat_cmp_total alone 7 (in_process p) ∙ ap (put nat_cmp 7 (in_process p)) rows_alone

  last_thread : has_other_thread (record m { threads = alone }) leaving ≡ false
  last_thread = ap (list_any (is_other_thread 3 5)) rows_alone

  another_thread : has_other_thread (record m { threads = beside 3 }) leaving ≡ true
  another_thread = ap (list_any (is_other_thread 3 5)) (rows_beside 3)

  of_another_process : has_other_thread (record m { threads = beside 4 }) leaving ≡ false
  of_another_process = ap (list_any (is_other_thread 3 5)) (rows_beside 4)

  -- exit ends the thread where process 3 has another, and the process with 263 % 256 where it has none; exit_group ends
  -- the process
  abbrev left_by : Mono → Bool → Mono
  left_by m other = if other then without_thread m 5 else ended m 3 7

  thread_exits : exit (record m { threads = beside 3 }) leaving 93 ≡ without_thread (record m { threads = beside 3 }) 5
  thread_exits = ap (left_by (record m { threads = beside 3 })) another_thread

  last_exits : exit (record m { threads = alone }) leaving 93 ≡ ended (record m { threads = alone }) 3 7
  last_exits = ap (left_by (record m { threads = alone })) last_thread

  only_of_its_process_exits : exit (record m { threads = beside 4 }) leaving 93 ≡ ended (record m { threads = beside 4 }) 3 7
  only_of_its_process_exits = ap (left_by (record m { threads = beside 4 })) of_another_process

  group_exits : exit (record m { threads = beside 3 }) leaving 94 ≡ ended (record m { threads = beside 3 }) 3 7
  group_exits = refl

  -- The thread that ends is ready no more, and stands in no queue; who waits that it is woken waits for what has gone.
  standing : Mono → Mono
  standing m = record m {
    lists = record { ready = 7 ∷ 5 ∷ []; waiting = record { thread = 8; targets = Wakes 5 ∷ Wakes 7 ∷ Exits 3 ∷ []; deadline = None } ∷ []; suspended = []; current = None };
    queue = record { thread = 5; address = 64 } ∷ record { thread = 8; address = 64 } ∷ [];
  }

  ready_left : (without_thread (standing m) 5).lists.ready ≡ 7 ∷ []
  unfolding standing
  ready_left = refl

  waiting_left : (without_thread (standing m) 5).lists.waiting ≡ record { thread = 8; targets = Gone ∷ Wakes 7 ∷ Exits 3 ∷ []; deadline = None } ∷ []
  unfolding standing
  waiting_left = refl

  queue_left : (without_thread (standing m) 5).queue ≡ record { thread = 8; address = 64 } ∷ []
  unfolding standing
  queue_left = refl

-- what thread 5 of process 3, whose parent is process 1, is told
module _ (m : Mono) (process : Process) (there : process_at m 3 ≡ Some (record process { parent = 1 })) (context : Context) where
  abbrev caller : Caller
  caller = record { thread = 5; process = 3; context = context }

  yields : known_result m caller 124 ≡ 0
  yields = refl

  own_process : known_result m caller 172 ≡ 3
  own_process = refl

  own_parent : known_result m caller 173 ≡ 1
  own_parent = ap parent_in there

  own_thread : known_result m caller 178 ≡ 5
  own_thread = refl

  no_call : known_result m caller 179 ≡ 18446744073709551578
  no_call = refl

-- an illegal word, and an access
illegal : fault_code 2 ≡ 132
illegal = refl

access : fault_code 5 ≡ 139
access = refl

-- ---- calls on pages

-- a0 to a3 at a call; all other registers are 0
arguments : ℕ → ℕ → ℕ → ℕ → Context
arguments a b c d = record { pc = 0; x = replicate 9 0 ++ a ∷ b ∷ c ∷ d ∷ replicate 18 0 }

-- a byte takes a page, and one more than a page's takes two
one_page : pages_for 1 ≡ 1
one_page = refl

two_pages : pages_for 4097 ≡ 2
two_pages = refl

-- errors that the arguments alone decide: of no bytes, of rights past 7, of other flags, of an address within a page,
-- of more pages than a process may have
no_bytes : mmap_known (arguments 0 0 3 0x22) ≡ Some (error EINVAL)
unfolding arguments
no_bytes = refl

more_rights : mmap_known (arguments 0 1 8 0x22) ≡ Some (error EINVAL)
unfolding arguments
more_rights = refl

shared : mmap_known (arguments 0 1 3 0x21) ≡ Some (error EINVAL)
unfolding arguments
shared = refl

most : mmap_known (arguments 0 4194304 3 0x22) ≡ None
unfolding arguments
most = refl

too_many : mmap_known (arguments 0 4194305 3 0x22) ≡ Some (error ENOMEM)
unfolding arguments
too_many = refl

within_page : munmap_known (arguments 4097 1 0 0) ≡ Some (error EINVAL)
unfolding arguments
within_page = refl

nothing_freed : munmap_known (arguments 4096 0 0 0) ≡ Some (error EINVAL)
unfolding arguments
nothing_freed = refl

nothing_protected : mprotect_known (arguments 4096 0 7 0) ≡ Some 0
unfolding arguments
nothing_protected = refl

unknown_rights : mprotect_known (arguments 4096 0 8 0) ≡ Some (error EINVAL)
unfolding arguments
unknown_rights = refl

module _ (m : Mono) (t p : ℕ) (s : Space) (there : memory_at m p ≡ s) where
  asks : ℕ → ℕ → ℕ → ℕ → Caller
  asks a b c d = record { thread = t; process = p; context = arguments a b c d }

  abbrev mapped : Caller → ℕ → Space → Bool → Mono
  mapped who page s full = if full then finished m who (error ENOMEM) else finished_with m who (with_run s page 1 3) (page * 4096)

  -- mmap of a byte, by the lowest free page
  mmap_byte : (page : ℕ) → lowest_free s 65536 1 ≡ Some page → nat_lt 1024 (len s + 1) ≡ false
      → mmap m (asks 0 1 3 0x22) ≡ finished_with m (asks 0 1 3 0x22) (with_run s page 1 3) (page * 4096)
  unfolding asks arguments
  mmap_byte page lowest few =
      ap (λ (s : Space). map_pages m (asks 0 1 3 0x22) 1 (lowest_free s 65536 1)) there
      ∙ ap (map_pages m (asks 0 1 3 0x22) 1) lowest
      ∙ ap (λ (s : Space). mapped (asks 0 1 3 0x22) page s (nat_lt 1024 (len s + 1))) there
      ∙ ap (mapped (asks 0 1 3 0x22) page s) few

  -- where no page is there from 65,536 on, it gives 0x10000000
  first_mmap : HasNoPages s 65536 1 → nat_lt 1024 (len s + 1) ≡ false → mmap m (asks 0 1 3 0x22) ≡ finished_with m (asks 0 1 3 0x22) (with_run s 65536 1 3) 0x10000000
  first_mmap none few = mmap_byte 65536 (lowest_free-here s 1 65536 (omega arith) ((is_free-decides s 65536 1).1 none)) few

  taken : (page count q : ℕ) (frame : Frame) → page ≤ q → q < page + count → get s q ≡ Some frame → is_free s page count ≡ false
  taken page count q frame low high held = elim (is_free s page count) as (λ b. is_free s page count ≡ b → b ≡ false) [
    | true ↦ λ free. absurd (let e : None ≡ Some frame = sym ((is_free-decides s page count).0 free q low high) ∙ held in cc)
    | false ↦ λ _. refl
  ] refl

  -- the second gives 0x10001000
  second_mmap : (frame : Frame) → get s 65536 ≡ Some frame → HasNoPages s 65537 1 → nat_lt 1024 (len s + 1) ≡ false
      → mmap m (asks 0 1 3 0x22) ≡ finished_with m (asks 0 1 3 0x22) (with_run s 65537 1 3) 0x10001000
  second_mmap frame held none few =
      let lowest = lowest_free-next s 1 65536 (omega arith) (taken 65536 1 65536 frame (omega arith) (omega arith) held)
      ∙ lowest_free-here s 1 65537 (omega arith) ((is_free-decides s 65537 1).1 none) in
      mmap_byte 65537 lowest few

  -- a hole of two pages takes a run of two, and not one of three
  hole_taken : (frame : Frame) → get s 65536 ≡ Some frame → HasNoPages s 65537 2 → lowest_free s 65536 2 ≡ Some 65537
  hole_taken frame held none =
      lowest_free-next s 2 65536 (omega arith) (taken 65536 2 65536 frame (omega arith) (omega arith) held)
      ∙ lowest_free-here s 2 65537 (omega arith) ((is_free-decides s 65537 2).1 none)

  hole_passed : (frame behind : Frame) → get s 65536 ≡ Some frame → get s 65539 ≡ Some behind → HasNoPages s 65540 3 → lowest_free s 65536 3 ≡ Some 65540
  hole_passed frame behind held last none =
      lowest_free-next s 3 65536 (omega arith) (taken 65536 3 65536 frame (omega arith) (omega arith) held)
      ∙ lowest_free-next s 3 65537 (omega arith) (taken 65537 3 65539 behind (omega arith) (omega arith) last)
      ∙ lowest_free-next s 3 65538 (omega arith) (taken 65538 3 65539 behind (omega arith) (omega arith) last)
      ∙ lowest_free-next s 3 65539 (omega arith) (taken 65539 3 65539 behind (omega arith) (omega arith) last)
      ∙ lowest_free-here s 3 65540 (omega arith) ((is_free-decides s 65540 3).1 none)

  -- munmap of page 0, which is never there, is -22
  abbrev freed : Space → Option ℕ → Mono
  freed s missing = if not (is_some missing) then finished_with m (asks 0 1 0 0) (without_run s 0 1) 0 else finished m (asks 0 1 0 0) (error EINVAL)

  munmap_zero : get s 0 ≡ None → munmap m (asks 0 1 0 0) ≡ finished m (asks 0 1 0 0) 0xFFFFFFFFFFFFFFEA
  unfolding asks arguments
  munmap_zero none =
      let missing : if_missing s 0 ≡ Some 0 = ap (λ x. if is_some x then None else Some 0) none in
      ap (λ (s : Space). freed s (first_missing s 0 1)) there ∙ ap (freed s) (first_some-here (if_missing s) 0 0 0 missing)

-- ---- the break, which started at 0x12000 and stands at 0x12800, within page 18

-- up to the end of the page, a byte further, back to the start, and below it
page_end : break_move 0x12000 0x12800 0x13000 ≡ Within
page_end = refl

page_passed : break_move 0x12000 0x12800 0x13001 ≡ Grows 19 1
page_passed = refl

back : break_move 0x12000 0x12800 0x12000 ≡ Shrinks 18 1
back = refl

below_start : break_move 0x12000 0x12800 0x11FFF ≡ Stays
below_start = refl

-- as far as an address goes
furthest : break_move 0x12000 0x12800 0xFFFFFFFFFFFFFFFF ≡ Grows 19 0xFFFFFFFFFFFED
furthest = refl

module _ (m : Mono) (t p : ℕ) (s : Space) (process : Process) (there : process_at m p ≡ Some (record process { memory = s; break_start = 0x12000; break_now = 0x12800 })) where
  brk_of : ℕ → Caller
  brk_of a = record { thread = t; process = p; context = arguments a 0 0 0 }

  abbrev old : ℕ → Mono
  old a = finished m (brk_of a) 0x12800

  moves : (a : ℕ) (x : BreakMove) → break_move 0x12000 0x12800 a ≡ x → brk m (brk_of a) ≡ brk_by m (brk_of a) x
  unfolding brk_of arguments
  moves a x is = ap (λ process. brk_by m (brk_of a) (break_asked process a)) there ∙ ap (brk_by m (brk_of a)) is

  stays : (a : ℕ) → break_given m (brk_of a) ≡ old a
  unfolding brk_of
  stays a = ap (λ process. finished m (brk_of a) (break_in process)) there

  -- below its start it stays
  brk_below : brk m (brk_of 0x11FFF) ≡ finished m (brk_of 0x11FFF) 0x12800
  brk_below = moves 0x11FFF Stays refl ∙ stays 0x11FFF

  -- further than any page: it stays
  brk_furthest : brk m (brk_of 0xFFFFFFFFFFFFFFFF) ≡ finished m (brk_of 0xFFFFFFFFFFFFFFFF) 0x12800
  brk_furthest = moves 0xFFFFFFFFFFFFFFFF (Grows 19 0xFFFFFFFFFFFED) refl ∙ stays 0xFFFFFFFFFFFFFFFF

  memory_is : memory_at m p ≡ s
  memory_is = ap memory_in there

  -- a page further: the page is made, or it is there already, or the process has too many
  abbrev grown : Bool → Bool → Mono
  grown free full =
      if free && not full then break_moved_with m (brk_of 0x13001) (with_run s 19 1 3)
      else break_given m (brk_of 0x13001)

  page_more : (free full : Bool) → is_free s 19 1 ≡ free → nat_lt 1024 (len s + 1) ≡ full → brk m (brk_of 0x13001) ≡ grown free full
  unfolding brk_of
  page_more free full f l =
      moves 0x13001 (Grows 19 1) refl
      ∙ ap (λ s. if is_free s 19 1 && not (nat_lt 1024 (len s + 1)) then break_moved_with m (brk_of 0x13001) (with_run s 19 1 3) else break_given m (brk_of 0x13001)) memory_is
      ∙ (λ i. grown (f i) (l i))

  brk_grows : HasNoPages s 19 1 → nat_lt 1024 (len s + 1) ≡ false → brk m (brk_of 0x13001) ≡ break_moved_with m (brk_of 0x13001) (with_run s 19 1 3)
  brk_grows none few = page_more true false ((is_free-decides s 19 1).1 none) few

  brk_taken : (full : Bool) → is_free s 19 1 ≡ false → nat_lt 1024 (len s + 1) ≡ full → brk m (brk_of 0x13001) ≡ finished m (brk_of 0x13001) 0x12800
  brk_taken full held l = page_more false full held l ∙ stays 0x13001

  brk_full : is_free s 19 1 ≡ true → nat_lt 1024 (len s + 1) ≡ true → brk m (brk_of 0x13001) ≡ finished m (brk_of 0x13001) 0x12800
  brk_full free full = page_more true true free full ∙ stays 0x13001

  -- back to its start: its one page goes, or isn't there
  abbrev shrunk : Bool → Mono
  shrunk whole =
      if whole then break_moved_with m (brk_of 0x12000) (without_run s 18 1)
      else break_given m (brk_of 0x12000)

  page_less : (whole : Bool) → is_whole s 18 1 ≡ whole → brk m (brk_of 0x12000) ≡ shrunk whole
  unfolding brk_of
  page_less whole w =
      moves 0x12000 (Shrinks 18 1) refl
      ∙ ap (λ s. if is_whole s 18 1 then break_moved_with m (brk_of 0x12000) (without_run s 18 1) else break_given m (brk_of 0x12000)) memory_is
      ∙ ap shrunk w

  brk_shrinks : is_whole s 18 1 ≡ true → brk m (brk_of 0x12000) ≡ break_moved_with m (brk_of 0x12000) (without_run s 18 1)
  brk_shrinks whole = page_less true whole

  brk_missing : is_whole s 18 1 ≡ false → brk m (brk_of 0x12000) ≡ finished m (brk_of 0x12000) 0x12800
  brk_missing missing = page_less false missing ∙ stays 0x12000

  -- within its page it is where it is asked to be, and is given
  abbrev at_page_end : Process
  at_page_end = record process { memory = s; break_start = 0x12000; break_now = 0x13000 }

  brk_within : brk m (brk_of 0x13000) ≡ finished (with_process m p at_page_end) (brk_of 0x13000) 0x13000
  unfolding brk_of arguments
  brk_within =
      moves 0x13000 Within refl
      ∙ ap (λ process. break_given (with_break_in m p 0x13000 process) (brk_of 0x13000)) there
      ∙ ap (λ process. finished (with_process m p at_page_end) (brk_of 0x13000) (break_in process)) (get-insert-same m.processes p at_page_end)
