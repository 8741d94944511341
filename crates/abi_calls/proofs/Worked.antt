-- Worked examples: what the definitions say of small worlds.
use Rattle.std.specs.Prelude.{◌≡◌, ℕ, ◌+◌, ◌==◌, ◌-◌, ◌^◌, Bool, true, false, cond, ◌||◌, if◌then◌else◌, nat_lt, nat_le, is_some, List, [], ◌∷◌, ◌++◌, map, not, replicate, take, drop, unwrap_or}
use Rattle.std.specs.Option.{option_or}
use Rattle.std.specs.FinMap.{insert, empty, len, len-empty}
use Rattle.std.specs.Ordering.{nat_cmp}
use Rattle.std.specs.declared.option.Option.{Option}
use Rattle.std.specs.declared.option.Option.TheVariants.{None, Some}
use Rattle.std.proofs.Common.{refl, sym, ap, ◌∙◌, eq-eqb, arith}
use Rattle.rv_core.specs.declared.context.Context.{Context}
use Rattle.rv_core.specs.Machine.{instructions, Reached, go_on, executed_at}
use Rattle.rv_core.specs.Memory.{fetched, byte_if, above, number_at}
use Rattle.guest_space.specs.Space.{Space, Frame, memory_of, cell_in, with_run, without_run, protected, bytes_from}
use Rattle.guest_space.specs.Running.{run_space, ran_from}
use Rattle.guest_space.specs.First.{first_some}
use Rattle.guest_space.specs.Run.{first_held, first_missing}
use Rattle.bas_names.specs.declared.StreamName.TheVariants.{File, ConIn, ConOut}
use Rattle.bas_edge.specs.Files.{Files, file_of, with_file, with_bytes_at, with_length, without_file, with_renamed}
use Rattle.bas_edge.proofs.FilesIn.{same_files, same_name, same_name-≡, get-insert_name, get-remove_name}
use Rattle.turn_sched.specs.Lists.{Waiting, Lists, is_resting, with_resumed, contains, is_at, no_threads, without_numbers}
use Rattle.abi_calls.specs.declared.call.Call.TheVariants.{MemoryAllocate, MemoryFree, MemoryProtect, MemoryRead, ThreadCreate, ThreadResume, ThreadExit, EventCreate, StreamOpen, StreamRead, StreamWrite, StreamSetLength, StreamDelete, StreamRename, Share, Close, ProcessCreate, ProcessExit, ProcessStatus, Configure, Positions as AskPositions}
use Rattle.abi_calls.specs.declared.object.Object.TheVariants.{Process, Thread, Event, Stream}
use Rattle.turn_sched.specs.declared.settings.Positions.{Positions}
use Rattle.turn_sched.specs.declared.settings.Settings.{Settings}
use Rattle.abi_calls.specs.declared.reply.Reply.{Reply}
use Rattle.abi_calls.specs.declared.reply.Reply.TheVariants.{Done, Handle, Bytes, Count, Running, Exited, Places, BadHandle, NotFound, Exists, Busy, NoAccess, BadAddress, NoRoom, TooBig}
use Rattle.abi_calls.specs.declared.threads.Turned.TheVariants.{Idle, Stuck, Exception}
use Rattle.turn_sched.specs.Clock.{next_position}
use Rattle.abi_calls.specs.Objects.{is_process, is_thread, number_of, Objects, Live, object_at, running, with_object, with_lists, without_handles}
use Rattle.abi_calls.specs.World.{World, Answer, with_objects, with_contents, with_files, on_objects, on_contents, on_files}
use Rattle.abi_calls.specs.Memory.{memory_allocate_row, memory_free_row, memory_protect_row, memory_read_row, with_pages}
use Rattle.abi_calls.specs.Threads.{with_thread, thread_create_row, thread_resume_row, thread_exit_row}
use Rattle.abi_calls.specs.Streams.{open_found, open_answer, stream_read_row, stream_write_row, stream_set_length_row, is_open, delete_found, rename_found, shared_object, share_row}
use Rattle.abi_calls.specs.Processes.{close_row, process_exit_row, process_status_row, is_running, without_threads}
use Rattle.abi_calls.specs.Turn.{world_turn, with_pick, pick_of, run_thread, run_in, run_answer, with_due_ready, is_due, is_signalled_object, with_turn}
use Rattle.abi_calls.specs.Abi.{Abi, answer, new_number}
use Rattle.abi_calls.proofs.Counts.{count_empty}
use Rattle.bas_items.proofs.NumberMaps.{get-empty, get-insert-same, get-insert-other}

-- ---- a process: its first page, other rights, what is read of it, and its exit

allocate_page_zero : (w : World) (p : ℕ) (s : Space) (r : Reply) → running (object_at w.objects p) ≡ Some s → answer w (MemoryAllocate p 0 1 3) r ≡ (BadAddress, w)
allocate_page_zero w p s r runs = ap (λ x. on_objects w (memory_allocate_row w.objects p 0 1 3 x)) runs

none_held : first_held empty 1 1 ≡ None
unfolding first_some
none_held = ap (λ (x : Option Frame). option_or (if is_some x then Some 1 else None) None) (get-empty 1)

allocate_page_one : (w : World) (p : ℕ) (r : Reply) → running (object_at w.objects p) ≡ Some empty →
    answer w (MemoryAllocate p 1 1 3) r ≡ (Done, with_objects w (with_pages w.objects p (with_run empty 1 1 3)))
allocate_page_one w p r runs =
    let done : Reply × Objects = (Done, with_pages w.objects p (with_run empty 1 1 3)) in
    ap (λ x. on_objects w (memory_allocate_row w.objects p 1 1 3 x)) runs
    ∙ ap (λ (held : Option ℕ). on_objects w (if is_some held then (Exists, w.objects) else (if nat_lt 1024 (len {X = Frame} {R = nat_cmp} empty + 1) then (NoRoom, w.objects) else done))) none_held
    ∙ ap (λ (n : ℕ). on_objects w (if nat_lt 1024 (n + 1) then (NoRoom, w.objects) else done)) (len-empty nat_cmp Frame)

missing_one : first_missing empty 1 1 ≡ Some 1
unfolding first_some
missing_one = ap (λ (x : Option Frame). option_or (if is_some x then None else Some 1) None) (get-empty 1)

protect_missing : (w : World) (p : ℕ) (r : Reply) → running (object_at w.objects p) ≡ Some empty → answer w (MemoryProtect p 1 1 3) r ≡ (BadAddress, w)
protect_missing w p r runs =
    ap (λ x. on_objects w (memory_protect_row w.objects p 1 1 3 x)) runs
    ∙ ap (λ (missing : Option ℕ). on_objects w (if is_some missing || false then (BadAddress, w.objects) else (Done, with_pages w.objects p (protected empty 1 1 3)))) missing_one

protect_no_page : (w : World) (p : ℕ) (s : Space) (r : Reply) → running (object_at w.objects p) ≡ Some s → answer w (MemoryProtect p 1 0 3) r ≡ (BadAddress, w)
protect_no_page w p s r runs = ap (λ x. on_objects w (memory_protect_row w.objects p 1 0 3 x)) runs

free_missing : (w : World) (p : ℕ) (r : Reply) → running (object_at w.objects p) ≡ Some empty → answer w (MemoryFree p 1 1) r ≡ (BadAddress, w)
free_missing w p r runs =
    ap (λ x. on_objects w (memory_free_row w.objects p 1 1 x)) runs
    ∙ ap (λ (missing : Option ℕ). on_objects w (if is_some missing then (BadAddress, w.objects) else (Done, with_pages w.objects p (without_run empty 1 1)))) missing_one

free_no_page : (w : World) (p : ℕ) (s : Space) (r : Reply) → running (object_at w.objects p) ≡ Some s → answer w (MemoryFree p 1 0) r ≡ (BadAddress, w)
free_no_page w p s r runs = ap (λ x. on_objects w (memory_free_row w.objects p 1 0 x)) runs

free_page : (w : World) (p : ℕ) (s : Space) (r : Reply) → running (object_at w.objects p) ≡ Some s → first_missing s 1 1 ≡ None → answer w (MemoryFree p 1 1) r ≡ (Done, with_objects w (with_pages w.objects p (without_run s 1 1)))
free_page w p s r runs there =
    ap (λ x. on_objects w (memory_free_row w.objects p 1 1 x)) runs
    ∙ ap (λ (missing : Option ℕ). on_objects w (if is_some missing then (BadAddress, w.objects) else (Done, with_pages w.objects p (without_run s 1 1)))) there

free_exited : (w : World) (p : ℕ) (r : Reply) → running (object_at w.objects p) ≡ None → answer w (MemoryFree p 1 1) r ≡ (BadHandle, w)
free_exited w p r none = ap (λ x. on_objects w (memory_free_row w.objects p 1 1 x)) none

read_too_much : (w : World) (p : ℕ) (s : Space) (r : Reply) → running (object_at w.objects p) ≡ Some s → answer w (MemoryRead p 0 65537) r ≡ (TooBig, w)
read_too_much w p s r runs = ap (λ x. on_objects w (memory_read_row w.objects 0 65537 x)) runs

read_no_bytes : (w : World) (p : ℕ) (s : Space) (r : Reply) → running (object_at w.objects p) ≡ Some s → answer w (MemoryRead p 5 0) r ≡ (Bytes [], w)
unfolding first_some bytes_from
read_no_bytes w p s r runs = ap (λ x. on_objects w (memory_read_row w.objects 5 0 x)) runs

exit_of_running : (w : World) (p : ℕ) (s : Space) (r : Reply) → object_at w.objects p ≡ Some (Process s None) →
    answer w (ProcessExit p 7) r ≡ (Done, with_objects w (with_object (without_threads w.objects p) p (Process empty (Some 7))))
exit_of_running w p s r is = ap (λ x. on_objects w (process_exit_row w.objects p 7 (running x))) is

exit_of_exited : (w : World) (p : ℕ) (s : Space) (r : Reply) → object_at w.objects p ≡ Some (Process s (Some 0)) → answer w (ProcessExit p 7) r ≡ (BadHandle, w)
exit_of_exited w p s r is = ap (λ x. on_objects w (process_exit_row w.objects p 7 (running x))) is

-- Whether a process has exited, with which code; what is no process has no status.
status_running : (w : World) (p : ℕ) (s : Space) (r : Reply) → object_at w.objects p ≡ Some (Process s None) → answer w (ProcessStatus p) r ≡ (Running, w)
status_running w p s r is = ap (λ x. on_objects w (process_status_row w.objects x)) is

status_exited : (w : World) (p : ℕ) (r : Reply) → object_at w.objects p ≡ Some (Process empty (Some 7)) → answer w (ProcessStatus p) r ≡ (Exited 7, w)
status_exited w p r is = ap (λ x. on_objects w (process_status_row w.objects x)) is

status_event : (w : World) (e : ℕ) (r : Reply) → object_at w.objects e ≡ Some (Event true) → answer w (ProcessStatus e) r ≡ (BadHandle, w)
status_event w e r is = ap (λ x. on_objects w (process_status_row w.objects x)) is

positions_told : (w : World) (r : Reply) → answer w AskPositions r ≡ (Places w.objects.positions, w)
positions_told w r = refl

-- ---- limits: the 17th process, the 65th thread, the least and the greatest slice

process_seventeen : (w : World) (r : Reply) → number_of is_process w.objects.live ≡ 16 → answer w ProcessCreate r ≡ (NoRoom, w)
process_seventeen w r full =
    ap (λ n. on_objects w (if nat_le 16 n then (NoRoom, w.objects) else (Handle (new_number r), with_object w.objects (new_number r) (Process empty None)))) full

process_sixteen : (w : World) → number_of is_process w.objects.live ≡ 15 → answer w ProcessCreate (Handle 9) ≡ (Handle 9, with_objects w (with_object w.objects 9 (Process empty None)))
process_sixteen w full = ap (λ n. on_objects w (if nat_le 16 n then (NoRoom, w.objects) else (Handle 9, with_object w.objects 9 (Process empty None)))) full

thread_sixty_five : (w : World) (p : ℕ) (s : Space) (context : Context) (r : Reply) → running (object_at w.objects p) ≡ Some s → number_of is_thread w.objects.live ≡ 64 → answer w (ThreadCreate p context) r ≡ (NoRoom, w)
thread_sixty_five w p s context r runs full =
    ap (λ x. on_objects w (thread_create_row w.objects p context x (new_number r))) runs
    ∙ ap (λ n. on_objects w (if nat_le 64 n then (NoRoom, w.objects) else (Handle (new_number r), with_thread w.objects (new_number r) p context))) full

abbrev with_slice : ℕ → Settings
with_slice slice = record { start = 0; step = 0; salt = 0; slice = slice; picks = []; randoms = [] }

configure_no_slice : (w : World) (positions : Positions) (r : Reply) → answer w (Configure (with_slice 0) positions) r ≡ (TooBig, w)
configure_no_slice w positions r = refl

configure_long_slice : (w : World) (positions : Positions) (r : Reply) → answer w (Configure (with_slice 65537) positions) r ≡ (TooBig, w)
configure_long_slice w positions r = refl

configure_late : (w : World) (positions : Positions) (r : Reply) → w.objects.positions.turns ≡ 1 → answer w (Configure (with_slice 65536) positions) r ≡ (Busy, w)
configure_late w positions r late =
    ap (λ n. on_objects w (if not (n == 0) || nat_lt 0 (number_of is_running w.objects.live) then (Busy, w.objects) else (Done, record w.objects { settings = with_slice 65536; positions = positions }))) late

-- ---- a thread: it starts once

rests : (l : Lists Waiting) (t : ℕ) → l.suspended ≡ t ∷ [] → is_resting l t ≡ true
rests l t suspended = ap (λ ts. contains ts t || is_at t l.current) suspended ∙ ap (λ b. (b || false) || is_at t l.current) (eq-eqb t t refl)

pub resume_suspended : (w : World) (t p : ℕ) (context : Context) (r : Reply) → object_at w.objects t ≡ Some (Thread p context) → w.objects.lists.suspended ≡ t ∷ [] →
    answer w (ThreadResume t) r ≡ (Done, with_objects w (with_lists w.objects (with_resumed w.objects.lists t)))
resume_suspended w t p context r is suspended =
    ap (λ x. on_objects w (thread_resume_row w.objects t x)) is
    ∙ ap (λ b. on_objects w (if b then (Done, with_lists w.objects (with_resumed w.objects.lists t)) else (Busy, w.objects))) (rests w.objects.lists t suspended)

resume_ready : (w : World) (t p : ℕ) (context : Context) (r : Reply) → object_at w.objects t ≡ Some (Thread p context) → w.objects.lists.suspended ≡ [] → w.objects.lists.current ≡ None →
    answer w (ThreadResume t) r ≡ (Busy, w)
resume_ready w t p context r is suspended current =
    ap (λ x. on_objects w (thread_resume_row w.objects t x)) is
    ∙ ap (λ b. on_objects w (if b then (Done, with_lists w.objects (with_resumed w.objects.lists t)) else (Busy, w.objects))) (λ i. contains (suspended i) t || is_at t (current i))

exit_of_thread : (w : World) (t p : ℕ) (context : Context) (r : Reply) → object_at w.objects t ≡ Some (Thread p context) → answer w (ThreadExit t) r ≡ (Done, with_objects w (without_handles w.objects (λ k. k == t)))
exit_of_thread w t p context r is = ap (λ x. on_objects w (thread_exit_row w.objects t x)) is

exit_of_event : (w : World) (e : ℕ) (r : Reply) → object_at w.objects e ≡ Some (Event false) → answer w (ThreadExit e) r ≡ (BadHandle, w)
exit_of_event w e r is = ap (λ x. on_objects w (thread_exit_row w.objects e x)) is

-- A number that ends is 0 where a thread waits for it, and a thread that ends waits no more.
gone_from_waits : without_numbers (λ k. k == 5) (record no_threads { ready = 5 ∷ 6 ∷ []; waiting = record { thread = 7; handles = 4 ∷ 5 ∷ []; deadline = None } ∷ record { thread = 5; handles = []; deadline = Some 9 } ∷ [] })
    ≡ record no_threads { ready = 6 ∷ []; waiting = record { thread = 7; handles = 4 ∷ 0 ∷ []; deadline = None } ∷ [] }
gone_from_waits = refl

resume_event : (w : World) (e : ℕ) (r : Reply) → object_at w.objects e ≡ Some (Event false) → answer w (ThreadResume e) r ≡ (BadHandle, w)
resume_event w e r is = ap (λ x. on_objects w (thread_resume_row w.objects e x)) is

-- ---- an event: it is made, and its handle ends

create_event : (w : World) → answer w EventCreate (Handle 7) ≡ (Handle 7, with_objects w (with_object w.objects 7 (Event false)))
create_event w = refl

close_event : (w : World) (e : ℕ) (r : Reply) → object_at w.objects e ≡ Some (Event true) → answer w (Close e) r ≡ (Done, with_objects w (without_handles w.objects (λ k. k == e)))
close_event w e r is = ap (λ x. on_objects w (close_row w.objects e x)) is

close_thread : (w : World) (t p : ℕ) (context : Context) (r : Reply) → object_at w.objects t ≡ Some (Thread p context) → answer w (Close t) r ≡ (Busy, w)
close_thread w t p context r is = ap (λ x. on_objects w (close_row w.objects t x)) is

close_nothing : (w : World) (h : ℕ) (r : Reply) → object_at w.objects h ≡ None → answer w (Close h) r ≡ (BadHandle, w)
close_nothing w h r is = ap (λ x. on_objects w (close_row w.objects h x)) is

-- ---- the console: "ab" of "abc" is read, and the input takes nothing

read_console : (w : World) (h : ℕ) (r : Reply) → object_at w.objects h ≡ Some (Stream ConIn) → w.contents.input ≡ 97 ∷ 98 ∷ 99 ∷ [] →
    answer w (StreamRead h 0 2) r ≡ (Bytes (97 ∷ 98 ∷ []), with_contents w (record w.contents { input = 99 ∷ [] }))
read_console w h r is input =
    ap (stream_read_row w 0 2 r) is
    ∙ ap (λ bytes. (Bytes (take 2 bytes), with_contents w (record w.contents { input = drop 2 bytes }))) input

write_console_input : (w : World) (h : ℕ) (r : Reply) → object_at w.objects h ≡ Some (Stream ConIn) → answer w (StreamWrite h 0 (104 ∷ 105 ∷ [])) r ≡ (NoAccess, w)
write_console_input w h r is = ap (stream_write_row w 0 (104 ∷ 105 ∷ []) r) is

write_console_output : (w : World) (h : ℕ) (r : Reply) → object_at w.objects h ≡ Some (Stream ConOut) →
    answer w (StreamWrite h 0 (104 ∷ 105 ∷ [])) r ≡ (Count 2, with_contents w (record w.contents { output = w.contents.output ++ 104 ∷ 105 ∷ [] }))
write_console_output w h r is = ap (stream_write_row w 0 (104 ∷ 105 ∷ []) r) is

-- ---- a file by the name "a"

open_there : (w : World) (bytes : List ℕ) → file_of w.contents.files (97 ∷ []) ≡ Some bytes →
    answer w (StreamOpen (File (97 ∷ [])) false false) (Handle 3) ≡ (Handle 3, with_objects w (with_object w.objects 3 (Stream (File (97 ∷ [])))))
open_there w bytes is = ap (λ x. let row = open_found w.contents.files (97 ∷ []) false false x in open_answer w (File (97 ∷ [])) 3 row.1 row.0) is

open_absent : (w : World) (r : Reply) → file_of w.contents.files (97 ∷ []) ≡ None → answer w (StreamOpen (File (97 ∷ [])) false false) r ≡ (NotFound, w)
open_absent w r is = ap (λ x. let row = open_found w.contents.files (97 ∷ []) false false x in open_answer w (File (97 ∷ [])) (new_number r) row.1 row.0) is

open_without_name : (w : World) (r : Reply) → answer w (StreamOpen (File []) true false) r ≡ (NotFound, w)
open_without_name w r = refl

open_long_name : (w : World) (r : Reply) → answer w (StreamOpen (File (replicate 81 97)) true false) r ≡ (TooBig, w)
open_long_name w r = refl

open_again : (w : World) (bytes : List ℕ) (r : Reply) → file_of w.contents.files (97 ∷ []) ≡ Some bytes → answer w (StreamOpen (File (97 ∷ [])) true true) r ≡ (Exists, w)
open_again w bytes r is = ap (λ x. let row = open_found w.contents.files (97 ∷ []) true true x in open_answer w (File (97 ∷ [])) (new_number r) row.1 row.0) is

-- ---- the length of a file, up to 16 MiB

set_length : (w : World) (h : ℕ) (r : Reply) → object_at w.objects h ≡ Some (Stream (File (97 ∷ []))) →
    answer w (StreamSetLength h 16777216) r ≡ (Done, with_contents w (with_files w.contents (with_length (97 ∷ []) 16777216 w.contents.files)))
set_length w h r is = ap (stream_set_length_row w 16777216) is

set_length_past : (w : World) (h : ℕ) (r : Reply) → object_at w.objects h ≡ Some (Stream (File (97 ∷ []))) → answer w (StreamSetLength h 16777217) r ≡ (TooBig, w)
set_length_past w h r is = ap (stream_set_length_row w 16777217) is

-- Whether the kind or the size is judged first: the kind.
set_length_console : (w : World) (h : ℕ) (r : Reply) → object_at w.objects h ≡ Some (Stream ConIn) → answer w (StreamSetLength h 16777217) r ≡ (NoAccess, w)
set_length_console w h r is = ap (stream_set_length_row w 16777217) is

set_length_event : (w : World) (e : ℕ) (r : Reply) → object_at w.objects e ≡ Some (Event true) → answer w (StreamSetLength e 0) r ≡ (BadHandle, w)
set_length_event w e r is = ap (stream_set_length_row w 0) is

-- Bytes end at 16 MiB at the latest, and none can be written behind it.
write_to_the_limit : (w : World) (h : ℕ) (r : Reply) → object_at w.objects h ≡ Some (Stream (File (97 ∷ []))) →
    answer w (StreamWrite h 16777215 (1 ∷ [])) r ≡ (Count 1, with_contents w (with_files w.contents (with_bytes_at (97 ∷ []) 16777215 (1 ∷ []) w.contents.files)))
write_to_the_limit w h r is = ap (stream_write_row w 16777215 (1 ∷ []) r) is

write_past_the_limit : (w : World) (h : ℕ) (r : Reply) → object_at w.objects h ≡ Some (Stream (File (97 ∷ []))) → answer w (StreamWrite h 16777216 (1 ∷ [])) r ≡ (TooBig, w)
write_past_the_limit w h r is = ap (stream_write_row w 16777216 (1 ∷ []) r) is

write_nothing_past_the_limit : (w : World) (h : ℕ) (r : Reply) → object_at w.objects h ≡ Some (Stream (File (97 ∷ []))) → answer w (StreamWrite h 16777217 []) r ≡ (TooBig, w)
write_nothing_past_the_limit w h r is = ap (stream_write_row w 16777217 [] r) is

-- ---- a file goes, or gets another name, where no handle is open on it

abbrev deleted : World → Option (List ℕ) → Bool → Answer
deleted w found in_use = on_contents w (on_files w.contents (delete_found w.contents.files (97 ∷ []) in_use found))

delete_there : (w : World) (bytes : List ℕ) (r : Reply) → file_of w.contents.files (97 ∷ []) ≡ Some bytes → is_open w.objects (97 ∷ []) ≡ false →
    answer w (StreamDelete (97 ∷ [])) r ≡ (Done, with_contents w (with_files w.contents (without_file (97 ∷ []) w.contents.files)))
delete_there w bytes r there shut = (λ i. deleted w (there i) (shut i))

delete_open : (w : World) (bytes : List ℕ) (r : Reply) → file_of w.contents.files (97 ∷ []) ≡ Some bytes → is_open w.objects (97 ∷ []) ≡ true → answer w (StreamDelete (97 ∷ [])) r ≡ (Busy, w)
delete_open w bytes r there used = (λ i. deleted w (there i) (used i))

delete_absent : (w : World) (r : Reply) → file_of w.contents.files (97 ∷ []) ≡ None → answer w (StreamDelete (97 ∷ [])) r ≡ (NotFound, w)
delete_absent w r none = (λ i. deleted w (none i) (is_open w.objects (97 ∷ [])))

delete_long_name : (w : World) (r : Reply) → answer w (StreamDelete (replicate 81 97)) r ≡ (TooBig, w)
delete_long_name w r = refl

delete_without_name : (w : World) (r : Reply) → answer w (StreamDelete []) r ≡ (NotFound, w)
delete_without_name w r = refl

abbrev renamed : World → Option (List ℕ) → Bool → Bool → Answer
renamed w found from_used to_used = on_contents w (on_files w.contents (rename_found w.contents.files (97 ∷ []) (98 ∷ []) (from_used || to_used) found))

rename_there : (w : World) (bytes : List ℕ) (r : Reply) → file_of w.contents.files (97 ∷ []) ≡ Some bytes → is_open w.objects (97 ∷ []) ≡ false → is_open w.objects (98 ∷ []) ≡ false →
    answer w (StreamRename (97 ∷ []) (98 ∷ [])) r ≡ (Done, with_contents w (with_files w.contents (with_renamed (97 ∷ []) (98 ∷ []) w.contents.files)))
rename_there w bytes r there shut shut_too = (λ i. renamed w (there i) (shut i) (shut_too i))

rename_onto_open : (w : World) (bytes : List ℕ) (r : Reply) → file_of w.contents.files (97 ∷ []) ≡ Some bytes → is_open w.objects (97 ∷ []) ≡ false → is_open w.objects (98 ∷ []) ≡ true →
    answer w (StreamRename (97 ∷ []) (98 ∷ [])) r ≡ (Busy, w)
rename_onto_open w bytes r there shut used = (λ i. renamed w (there i) (shut i) (used i))

rename_absent : (w : World) (r : Reply) → file_of w.contents.files (97 ∷ []) ≡ None → answer w (StreamRename (97 ∷ []) (98 ∷ [])) r ≡ (NotFound, w)
rename_absent w r none = (λ i. renamed w (none i) (is_open w.objects (97 ∷ [])) (is_open w.objects (98 ∷ [])))

-- The first name is judged before the second, and both before the file is looked for.
rename_to_long_name : (w : World) (r : Reply) → answer w (StreamRename (97 ∷ []) (replicate 81 97)) r ≡ (TooBig, w)
rename_to_long_name w r = refl

rename_without_names : (w : World) (r : Reply) → answer w (StreamRename [] (replicate 81 97)) r ≡ (NotFound, w)
rename_without_names w r = refl

-- A file that gets its own name stays.
put_back : (files : Files) (name bytes q : List ℕ) → file_of files name ≡ Some bytes → (b : Bool) → same_name q name ≡ b → cond b (Some bytes) (cond b None (file_of files q)) ≡ file_of files q
put_back files name bytes q there true same = sym (ap (file_of files) (same_name-≡ q name same) ∙ there)
put_back files name bytes q there false other = refl

pub with_renamed-same : (files : Files) (name bytes : List ℕ) → file_of files name ≡ Some bytes → with_renamed name name files ≡ files
with_renamed-same files name bytes there = same_files _ _ (λ q.
    get-insert_name (without_file name files) name (unwrap_or (file_of files name) []) q
    ∙ (λ i. cond (same_name q name) (Some (unwrap_or (there i) [])) (get-remove_name files name q i))
    ∙ put_back files name bytes q there (same_name q name) refl)

rename_to_itself : (files : Files) (name bytes : List ℕ) → file_of files name ≡ Some bytes → rename_found files name name false (file_of files name) ≡ (Done, files)
rename_to_itself files name bytes there = ap (rename_found files name name false) there ∙ ap (λ x. (Done, x)) (with_renamed-same files name bytes there)

-- ---- a further handle

share_file : (w : World) (h : ℕ) (name : List ℕ) → object_at w.objects h ≡ Some (Stream (File name)) → answer w (Share h) (Handle 9) ≡ (Handle 9, with_objects w (with_object w.objects 9 (Stream (File name))))
share_file w h name is = ap (λ x. on_objects w (share_row w.objects (shared_object x) 9)) is

share_event : (w : World) (e : ℕ) (r : Reply) → object_at w.objects e ≡ Some (Event true) → answer w (Share e) r ≡ (BadHandle, w)
share_event w e r is = ap (λ x. on_objects w (share_row w.objects (shared_object x) (new_number r))) is

-- ---- turns

-- Settings whose tape has the word 1, and one instruction a turn; the time is 1,000 nanoseconds.
abbrev settings : Settings
settings = record { start = 1000; step = 0; salt = 0; slice = 1; picks = 1 ∷ []; randoms = [] }

abbrev resting : Objects
resting = record {
  live = empty;
  pipes = empty;
  lists = no_threads;
  positions = record { turns = 0; pick = 0; random = 0 };
  settings = settings;
}

turn_of_nothing : world_turn resting ≡ (Stuck, resting)
turn_of_nothing = refl

-- The first registers of a thread.
abbrev start : Context
start = record { pc = 0; x = replicate 31 0 }

-- A process without memory at 1, and its ready threads at 2 and 3.
abbrev process_there : Live
process_there = insert empty 1 (Process empty None)

abbrev one_there : Live
one_there = insert process_there 2 (Thread 1 start)

abbrev two_ready : Objects
two_ready = record resting { live = insert one_there 3 (Thread 1 start); lists = record no_threads { ready = 2 ∷ 3 ∷ [] } }

-- The tape's word 1 picks thread 3, whose process has nothing at the address 0: an instruction access fault there.
nothing_fetched : fetched (memory_of empty) 0 ≡ None
nothing_fetched = ap (λ (x : Option Frame). above (byte_if 4 (cell_in x 0)) (number_at (memory_of empty) 4 1 3)) (get-empty 0)

abbrev fault : Reached
fault = record { context = start; memory = memory_of empty; trap = Some (1, 0) }

first_run : instructions 1 start (memory_of empty) ≡ fault
unfolding instructions
first_run = ap (λ word. go_on (instructions 0) start (memory_of empty) (executed_at start (memory_of empty) word)) nothing_fetched

picked_runs : world_turn two_ready ≡ run_answer (with_pick two_ready 1) 3 1 (run_space 1 start empty)
picked_runs =
    ap (run_thread (with_pick two_ready 1) 3) (get-insert-same one_there 3 (Thread 1 start))
    ∙ ap (λ x. run_in (with_pick two_ready 1) 3 1 start (running x)) (get-insert-other one_there 3 (Thread 1 start) 1 (λ same. absurd (omega arith)) ∙ get-insert-other process_there 2 (Thread 1 start) 1 (λ same. absurd (omega arith)) ∙ get-insert-same empty 1 (Process empty None))

turn_by_tape : (world_turn two_ready).0 ≡ Exception (record { process = 1; thread = 3; cause = 1; value = 0; context = start })
turn_by_tape = ap (λ x. x.0) (picked_runs ∙ ap (λ run. run_answer (with_pick two_ready 1) 3 1 (ran_from empty run)) first_run)

turn_leaves_ready : (world_turn two_ready).1.lists.ready ≡ 2 ∷ []
turn_leaves_ready = ap (λ x. x.1.lists.ready) (picked_runs ∙ ap (λ run. run_answer (with_pick two_ready 1) 3 1 (ran_from empty run)) first_run)

turn_leaves_current : (world_turn two_ready).1.lists.current ≡ Some 3
turn_leaves_current = ap (λ x. x.1.lists.current) (picked_runs ∙ ap (λ run. run_answer (with_pick two_ready 1) 3 1 (ran_from empty run)) first_run)

-- Past the tape's end the word is 0, which picks the first ready thread.
past_the_tape : pick_of (record two_ready { positions = record { turns = 7; pick = 1; random = 0 } }) ≡ 0
past_the_tape = refl

-- ---- positions wrap

last_position : next_position (2 ^ 64 - 1) ≡ 0
last_position = refl

turn_at_the_end : (with_pick (record two_ready { positions = record { turns = 2 ^ 64 - 1; pick = 2 ^ 64 - 1; random = 5 } }) 1).positions ≡ record { turns = 0; pick = 0; random = 5 }
turn_at_the_end = refl

-- ---- threads that wait: for a time below, at and above the time now

abbrev waits : ℕ → List ℕ → Option ℕ → Waiting
waits thread handles deadline = record { thread = thread; handles = handles; deadline = deadline }

abbrev three_deadlines : Objects
three_deadlines = record resting { lists = record no_threads { waiting = waits 2 [] (Some 999) ∷ waits 3 [] (Some 1000) ∷ waits 4 [] (Some 1001) ∷ [] } }

due_by_deadline : (with_due_ready three_deadlines).lists ≡ record no_threads { ready = 2 ∷ 3 ∷ []; waiting = waits 4 [] (Some 1001) ∷ [] }
due_by_deadline = refl

-- With no thread ready, one that waits for a time makes a turn idle: the count of turns alone rises.
abbrev one_deadline : Objects
one_deadline = record resting { lists = record no_threads { waiting = waits 4 [] (Some 1001) ∷ [] } }

turn_is_idle : world_turn one_deadline ≡ (Idle, with_turn one_deadline)
turn_is_idle = refl

-- One that waits for nothing more makes it stuck, and nothing changes.
abbrev never_due : Objects
never_due = record resting { lists = record no_threads { waiting = waits 4 [] None ∷ [] } }

turn_is_stuck : world_turn never_due ≡ (Stuck, never_due)
turn_is_stuck = refl

-- ---- and for an event that is set, for one that isn't, and for a number that is gone

abbrev events : Live
events = insert (insert empty 5 (Event true)) 6 (Event false)

abbrev three_events : Objects
three_events = record resting { live = events; lists = record no_threads { waiting = waits 9 (6 ∷ []) None ∷ waits 2 (6 ∷ 5 ∷ []) None ∷ waits 3 (0 ∷ []) None ∷ [] } }

at_zero : object_at three_events 0 ≡ None
at_zero = get-insert-other (insert empty 5 (Event true)) 6 (Event false) 0 (λ same. absurd (omega arith)) ∙ get-insert-other empty 5 (Event true) 0 (λ same. absurd (omega arith)) ∙ get-empty 0

at_five : object_at three_events 5 ≡ Some (Event true)
at_five = get-insert-other (insert empty 5 (Event true)) 6 (Event false) 5 (λ same. absurd (omega arith)) ∙ get-insert-same empty 5 (Event true)

at_six : object_at three_events 6 ≡ Some (Event false)
at_six = get-insert-same (insert empty 5 (Event true)) 6 (Event false)

-- those that are due, by which of the three are
ready_by : Bool → Bool → Bool → List Waiting
ready_by a b c = cond a (waits 9 (6 ∷ []) None ∷ cond b (waits 2 (6 ∷ 5 ∷ []) None ∷ cond c (waits 3 (0 ∷ []) None ∷ []) []) (cond c (waits 3 (0 ∷ []) None ∷ []) [])) (cond b (waits 2 (6 ∷ 5 ∷ []) None ∷ cond c (waits 3 (0 ∷ []) None ∷ []) []) (cond c (waits 3 (0 ∷ []) None ∷ []) []))

not_set : is_due three_events (waits 9 (6 ∷ []) None) ≡ false
not_set = ap (λ x. (is_signalled_object three_events x || false) || false) at_six

one_set : is_due three_events (waits 2 (6 ∷ 5 ∷ []) None) ≡ true
one_set = λ i. (is_signalled_object three_events (at_six i) || (is_signalled_object three_events (at_five i) || false)) || false

is_gone : is_due three_events (waits 3 (0 ∷ []) None) ≡ true
is_gone = ap (λ x. (is_signalled_object three_events x || false) || false) at_zero

due_by_event : (with_due_ready three_events).lists.ready ≡ 2 ∷ 3 ∷ []
unfolding ready_by
due_by_event = λ i. map (λ (w : Waiting). w.thread) (ready_by (not_set i) (one_set i) (is_gone i))

-- ---- a fresh world: its first process, at the handle 1

abbrev first_world : World
first_world = record { objects = resting; contents = record { files = empty; input = []; output = []; errors = [] } }

abbrev second_world : World
second_world = with_objects first_world (with_object resting 1 (Process empty None))

first_process : Abi first_world ProcessCreate (Handle 1) second_world
first_process = record {
  choice = record { positive = omega arith; free = get-empty 1; unlisted = refl };
  row = ap (λ n. on_objects first_world (if nat_le 16 n then (NoRoom, resting) else (Handle 1, with_object resting 1 (Process empty None)))) (count_empty is_process);
}
