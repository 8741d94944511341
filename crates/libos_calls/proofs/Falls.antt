-- With each reply a service is nearer to its end.
use Rattle.std.specs.Prelude.{◌≡◌, ℕ, ◌+◌, ◌-◌, ◌*◌, ◌^◌, ◌≤◌, ◌<◌, ◌==◌, Bool, true, false, if◌then◌else◌, nat_le, nat_lt, List, [], ◌∷◌, ◌++◌, length, drop, min, IfSome}
use Rattle.std.specs.declared.option.Option.{Option}
use Rattle.std.specs.declared.option.Option.TheVariants.{None, Some}
use Rattle.std.specs.declared.result.Result.{Result}
use Rattle.std.specs.declared.result.Result.TheVariants.{Ok, Err}
use Rattle.std.proofs.Common.{refl, arith, lit<, ltb-true, leb-false, length-append}
use Rattle.std.proofs.lemmas.Bool.{eqb-false}
use Rattle.std.proofs.lemmas.List.{length_push}
use Rattle.abi_calls.specs.declared.reply.Reply.{Reply}
use Rattle.abi_calls.specs.declared.reply.Reply.TheVariants.{Done, Handle, Bytes, Count, Length, Exists, BadAddress, NoAccess, NoRoom, TooBig}
use Rattle.mono_model.specs.Machine.{register}
use Rattle.mono_model.specs.Calls.{ENOMEM, EINVAL, error}
use Rattle.mono_model.specs.FileCalls.{sought, status}
use Rattle.mono_model.specs.Starting.{STACK_PAGE}
use Rattle.elf_loader.specs.declared.Program.{Program}
use Rattle.elf_loader.specs.declared.ElfError.{ElfError}
use Rattle.elf_loader.specs.Image.{loaded, page_count}
use Rattle.libos_state.specs.declared.cont.Cont.{Cont}
use Rattle.libos_state.specs.declared.cont.Stage.{Stage}
use Rattle.libos_state.specs.declared.cont.Stage.TheVariants.{SetContext, CloseEvent, CloseHandles, ReadStream, StoreBytes, ReadBuffer, AppendLength, WriteStream, FileLength, SetFileLength, AllocatePages, FreePages, ProtectPages, Configure, OpenConsole, OpenProgram, ProgramLength, ReadProgram, CloseProgram, CreateProcess, AllocateRun, WriteRun, ProtectRun, AllocateStack, WriteBlock, CreateThread, CreateEvent, StartThread, CloseStream}
use Rattle.libos_state.specs.declared.state.LibOs.{LibOs}
use Rattle.libos_state.specs.declared.step.Step.{Step}
use Rattle.libos_state.specs.declared.step.Step.TheVariants.{GivesBreak, Ends, Asks}
use Rattle.libos_state.specs.declared.notes.Description.{Description}
use Rattle.libos_state.specs.Pending.{upcall_in, number, argument, is_brk, runs_in, run_in, run_piece}
use Rattle.libos_state.specs.Records.{description_behind, is_file}
use Rattle.libos_state.specs.Answered.{bare, starting, with_step, with_change, service_with_result, service_closing, service_storing, service_writing, service_sending, service_with_bytes, service_with_length, seek_result, is_lseek, store_change, length_change, break_change, mapping_step, changed_step, load_step, answered_at, answered, answered_in, closing_change}
use Rattle.libos_state.specs.Kept.{KeptAt, IsKept}
use Rattle.libos_state.proofs.Programs.{few_runs, lies_behind}
use Rattle.libos_state.proofs.RunPieces.{length-run_piece}
use Rattle.libos_calls.specs.Left.{weighed, runs_left, left_at, left_of, calls_left, IsLengthSmall}

closes_falls : (c : Cont) (handles : List ℕ) → left_of (Some (service_closing c (drop 1 handles))) < weighed 0 0 1 (length handles) + 1
closes_falls c [] = omega arith
closes_falls c (h ∷ []) = omega arith
closes_falls c (h ∷ k ∷ handles) = omega arith

closed_falls : (os : LibOs) (c : Cont) → calls_left (with_step os (Asks (record (bare c SetContext) { next = c.next }))) < weighed 0 0 2 0 + 1
closed_falls os c = lit< tt

-- The bytes of a stream are stored, unless there are none.
bytes_fall : (c : Cont) (bytes : List ℕ) (none : Bool) →
    left_of (Some (if none then service_with_result c 0 else service_storing c (argument c 1) bytes (length bytes))) < weighed 0 0 3 0 + 1
bytes_fall c bytes true = lit< tt
bytes_fall c bytes false = lit< tt

-- The length of a file gives a position, or a status that is stored.
file_length_falls : (c : Cont) (size : ℕ) (lseek : Bool) →
    left_of (Some (if lseek then service_with_result c (seek_result (sought size (argument c 1))) else service_storing c (argument c 1) (status true size) 0)) < weighed 0 0 3 0 + 1
file_length_falls c size true = lit< tt
file_length_falls c size false = lit< tt

-- Bytes that are sent are written, or the length of their file is asked for before.
sends_fall_by : (c : Cont) (append : Bool) (offset : ℕ) →
    left_of (Some (if append then record (bare c AppendLength) { bytes = c.bytes } else service_writing c c.bytes offset)) < weighed 0 0 4 0 + 1
sends_fall_by c true offset = lit< tt
sends_fall_by c false offset = lit< tt

sends_fall : (c : Cont) (d : Option Description) → left_of (Some (service_sending c d)) < weighed 0 0 4 0 + 1
sends_fall c None = lit< tt
sends_fall c (Some d) = sends_fall_by c d.append (if is_file d.kind then d.position else 0)

-- The run is looked for from a higher page on.
mapping_falls : (c : Cont) (page count : ℕ) (below : Bool) → 1 ≤ count → page + count ≤ STACK_PAGE →
    left_of (Some (if below then record (bare c AllocatePages) { numbers = (page + 1) ∷ count ∷ [] } else service_with_result c (error ENOMEM))) < weighed 0 0 2 (STACK_PAGE - page) + 1
mapping_falls c page count true some there = omega arith
mapping_falls c page count false some there = omega arith

changed_falls : (os : LibOs) (c : Cont) (refused : ℕ) (r : Reply) → calls_left (with_step os (changed_step c refused r)) < weighed 0 0 2 0 + 1
changed_falls os c refused Done = lit< tt
changed_falls os c refused BadAddress = lit< tt
changed_falls os c refused r = omega arith

-- The break is given, or it is another call.
given_falls : (os : LibOs) (c : Cont) (brk : Bool) (step : Step) (rest : ℕ) → (brk ≡ false → calls_left (with_step os step) < weighed 0 0 2 rest + 1)
    → calls_left (with_step os (if brk then GivesBreak c else step)) < weighed 0 0 2 rest + 1
given_falls os c true step rest falls = omega arith
given_falls os c false step rest falls = falls refl

opened_falls : (c : Cont) (handles : List ℕ) (h : ℕ) (all : Bool) → length handles < 3 →
    left_of (Some (starting c (if all then OpenProgram else OpenConsole) [] (handles ++ h ∷ []) [])) < weighed 2 0 5 (3 - length handles) + 1
opened_falls c handles h true few = omega arith
opened_falls c handles h false few = omega (arith, length_push handles h)

length_falls : (c : Cont) (size : ℕ) (none : Bool) → size < 2 ^ 64 →
    left_of (Some (if none then starting c CloseProgram [] c.handles [] else starting c ReadProgram [] c.handles (size ∷ []))) < weighed 2 0 3 0 + 1
length_falls c size true small = omega arith
length_falls c size false small = omega arith

read_falls : (c : Cont) (bytes : List ℕ) (none all : Bool) → (length bytes == 0) ≡ none → nat_le (number c 0) (length (c.bytes ++ bytes)) ≡ all →
    left_of (Some (if none then starting c CloseProgram c.bytes c.handles []
    else (if all then starting c CloseProgram (c.bytes ++ bytes) c.handles []
    else starting c ReadProgram (c.bytes ++ bytes) c.handles c.numbers))) < weighed 2 0 2 (number c 0 - length c.bytes) + 1
read_falls c bytes true all n a = omega arith
read_falls c bytes false true n a = omega arith
read_falls c bytes false false n a =
    let some = eqb-false (length bytes) 0 n in
    let more = leb-false (number c 0) (length (c.bytes ++ bytes)) a in
    omega (arith, length-append c.bytes bytes)

loads_falls : (os : LibOs) (c : Cont) (program : Result Program ElfError) → calls_left (with_step os (load_step c program)) < weighed 2 0 1 0 + 1
loads_falls os c (Ok program) = omega arith
loads_falls os c (Err cause) = omega arith

-- The first run is loaded next, of no more runs than there are pages.
made_falls : (runs : ℕ) → runs ≤ 1008 → weighed 1 (runs - 0) 2 0 + 1 < weighed 2 0 0 0 + 1
made_falls runs few = omega arith

run_small : (left size count : ℕ) → size ≡ 4096 * count → count ≤ 1008 → weighed 1 left 1 (size - 0) + 1 < weighed 1 left 2 0 + 1
run_small left size count pages few = omega arith

piece_nearer : (left size from cut : ℕ) → cut ≡ min 65536 (size - from) → from + cut < size → weighed 1 left 1 (size - (from + cut)) + 1 < weighed 1 left 1 (size - from) + 1
piece_nearer left size from cut piece more = omega arith

writes_falls : (c : Cont) (more : Bool) → nat_lt (number c 1 + length (run_piece c)) (length (run_in c).bytes) ≡ more →
    left_of (Some (if more then starting c WriteRun c.bytes c.handles (number c 0 ∷ (number c 1 + length (run_piece c)) ∷ []) else starting c ProtectRun c.bytes c.handles (number c 0 ∷ []))) < left_at c WriteRun + 1
writes_falls c true m = piece_nearer (runs_left c) (length (run_in c).bytes) (number c 1) (length (run_piece c)) (length-run_piece c) (ltb-true _ _ m)
writes_falls c false m = omega arith

next_falls : (runs run : ℕ) → run + 1 < runs → weighed 1 (runs - (run + 1)) 2 0 + 1 < weighed 1 (runs - run) 0 0 + 1
next_falls runs run more = omega arith

run_falls : (c : Cont) (more : Bool) → nat_lt (number c 0 + 1) (length (runs_in c)) ≡ more →
    left_of (Some (if more then starting c AllocateRun c.bytes c.handles ((number c 0 + 1) ∷ []) else starting c AllocateStack c.bytes c.handles [])) < left_at c ProtectRun + 1
run_falls c true m = next_falls (length (runs_in c)) (number c 0) (ltb-true _ _ m)
run_falls c false m = omega arith

falls_at : (os : LibOs) (c : Cont) (stage : Stage) (r : Reply) → KeptAt c stage → (stage ≡ ProgramLength → IsLengthSmall r) → calls_left (answered_at os c stage r) < left_at c stage + 1
falls_at os c SetContext Done kept small = lit< tt
falls_at os c CloseStream Done kept small = closed_falls (with_change os (closing_change c)) c
falls_at os c CloseEvent Done kept small = lit< tt
falls_at os c CloseHandles Done kept small = closes_falls c c.handles
falls_at os c ReadStream (Bytes bytes) kept small = bytes_fall c bytes (length bytes == 0)
falls_at os c StoreBytes Done kept small = lit< tt
falls_at os c StoreBytes BadAddress kept small = lit< tt
falls_at os c StoreBytes NoAccess kept small = lit< tt
falls_at os c ReadBuffer (Bytes bytes) kept small =
    let u = upcall_in c.event in
    sends_fall (record c { bytes = bytes }) (description_behind os u.process (register u.context 10))
falls_at os c ReadBuffer BadAddress kept small = lit< tt
falls_at os c ReadBuffer NoAccess kept small = lit< tt
falls_at os c AppendLength (Length size) kept small = lit< tt
falls_at os c WriteStream (Count n) kept small = lit< tt
falls_at os c WriteStream TooBig kept small = lit< tt
falls_at os c FileLength (Length size) kept small = file_length_falls c size (is_lseek c)
falls_at os c SetFileLength Done kept small = lit< tt
falls_at os c SetFileLength TooBig kept small = lit< tt
falls_at os c AllocatePages Done kept small =
    given_falls (with_change os (break_change c)) c (is_brk c) (mapping_step c Done) (STACK_PAGE - number c 0) (λ _. omega arith)
falls_at os c AllocatePages Exists kept small =
    given_falls os c (is_brk c) (mapping_step c Exists) (STACK_PAGE - number c 0)
    (λ other. let pages = (kept other).0 in mapping_falls c (number c 0) (number c 1) (nat_le (number c 0 + 1 + number c 1) STACK_PAGE) pages.some pages.below)
falls_at os c AllocatePages NoRoom kept small = given_falls os c (is_brk c) (mapping_step c NoRoom) (STACK_PAGE - number c 0) (λ _. omega arith)
falls_at os c AllocatePages _ kept small = given_falls os c (is_brk c) Ends (STACK_PAGE - number c 0) (λ _. omega arith)
falls_at os c FreePages Done kept small =
    given_falls (with_change os (break_change c)) c (is_brk c) (changed_step c EINVAL Done) 0 (λ _. changed_falls (with_change os (break_change c)) c EINVAL Done)
falls_at os c FreePages BadAddress kept small = given_falls os c (is_brk c) (changed_step c EINVAL BadAddress) 0 (λ _. changed_falls os c EINVAL BadAddress)
falls_at os c FreePages _ kept small = given_falls os c (is_brk c) Ends 0 (λ _. omega arith)
falls_at os c ProtectPages r kept small = changed_falls os c ENOMEM r
falls_at os c Configure Done kept small = lit< tt
falls_at os c OpenConsole (Handle h) kept small = opened_falls c c.handles h (length (c.handles ++ h ∷ []) == 3) kept
falls_at os c OpenProgram (Handle h) kept small = lit< tt
falls_at os c ProgramLength (Length size) kept small = length_falls c size (size == 0) (small refl)
falls_at os c ReadProgram (Bytes bytes) kept small = read_falls c bytes (length bytes == 0) (nat_le (number c 0) (length (c.bytes ++ bytes))) refl refl
falls_at os c CloseProgram Done kept small = loads_falls os c (loaded c.bytes)
falls_at os c CreateProcess (Handle h) kept small = made_falls (length (runs_in c)) (few_runs c kept)
falls_at os c AllocateRun Done kept small = let lies = lies_behind c kept in run_small (runs_left c) (length (run_in c).bytes) (page_count (run_in c)) lies.whole (let room = lies.room in omega arith)
falls_at os c WriteRun Done kept small = writes_falls c (nat_lt (number c 1 + length (run_piece c)) (length (run_in c).bytes)) refl
falls_at os c ProtectRun Done kept small = run_falls c (nat_lt (number c 0 + 1) (length (runs_in c))) refl
falls_at os c AllocateStack Done kept small = lit< tt
falls_at os c WriteBlock Done kept small = lit< tt
falls_at os c CreateThread (Handle h) kept small = lit< tt
falls_at os c CreateEvent (Handle h) kept small = lit< tt
falls_at os c StartThread Done kept small = lit< tt
falls_at os c stage r kept small = omega arith

falls_in : (os : LibOs) (cont : Option Cont) (r : Reply) → IfSome cont (λ c. KeptAt c c.stage) → IfSome cont (λ c. c.stage ≡ ProgramLength → IsLengthSmall r) → 0 < left_of cont → calls_left (answered_in os cont r) < left_of cont
falls_in os None r kept small some = absurd (omega arith)
falls_in os (Some c) r kept small some = falls_at os c c.stage r kept small

pub calls_left_falls : (os : LibOs) (r : Reply) → IsKept os → IfSome os.cont (λ c. c.stage ≡ ProgramLength → IsLengthSmall r) → 0 < calls_left os → calls_left (answered os r) < calls_left os
calls_left_falls os r kept small some = falls_in os os.cont r kept small some
