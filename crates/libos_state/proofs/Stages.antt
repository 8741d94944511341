-- Every stage gives what it owes.
use Rattle.std.specs.Prelude.{◌≡◌, ◌==◌, Bool, true, false, if◌then◌else◌, List, length}
use Rattle.std.specs.declared.result.Result.TheVariants.{Ok}
use Rattle.std.proofs.Common.{refl}
use Rattle.bas_names.specs.declared.Rule.{Rule}
use Rattle.bas_names.specs.declared.StreamName.TheVariants.{ConIn, ConOut, ConErr}
use Rattle.abi_calls.specs.declared.call.Call.TheVariants.{StreamOpen}
use Rattle.abi_calls.specs.Rules.{call_behind}
use Rattle.abi_calls.specs.declared.reply.Reply.{Reply}
use Rattle.abi_calls.specs.Sound.{IsSound}
use Rattle.libos_state.specs.declared.cont.Cont.{Cont}
use Rattle.libos_state.specs.declared.cont.Stage.{Stage}
use Rattle.libos_state.specs.declared.cont.Stage.TheVariants.{SetContext, Resume, CloseEvent, ExitThread, CloseHandles, ExitProcess, ReadStream, StoreBytes, ReadBuffer, AppendLength, WriteStream, FileLength, SetFileLength, AllocatePages, FreePages, ProtectPages, Configure, OpenConsole, OpenProgram, ProgramLength, ReadProgram, CloseProgram, CreateProcess, AllocateRun, WriteRun, ProtectRun, AllocateStack, WriteBlock, CreateThread, CreateEvent, StartThread, CloseStream}
use Rattle.libos_state.specs.declared.state.LibOs.{LibOs}
use Rattle.libos_state.specs.Records.{View}
use Rattle.libos_state.specs.Pending.{asked}
use Rattle.libos_state.specs.Answered.{answered}
use Rattle.libos_state.specs.Fits.{FitsStage, is_of_start}
use Rattle.libos_state.specs.Laws.{KeepsMeaning}
use Rattle.libos_state.proofs.Holds.{Holds, HoldsQuietly}
use Rattle.libos_state.proofs.Answering.{answered_from}
use Rattle.libos_state.proofs.Resuming.{keeps_set_context, keeps_resume}
use Rattle.libos_state.proofs.StreamClosing.{keeps_close_stream}
use Rattle.libos_state.proofs.Ending.{keeps_close_handles, keeps_exit_process}
use Rattle.libos_state.proofs.EndingThread.{keeps_close_event, keeps_exit_thread}
use Rattle.libos_state.proofs.Writing.{keeps_read_buffer, keeps_append_length, keeps_write_stream}
use Rattle.libos_state.proofs.StreamReading.{keeps_read_stream}
use Rattle.libos_state.proofs.Storing.{keeps_store_bytes}
use Rattle.libos_state.proofs.Measuring.{keeps_file_length}
use Rattle.libos_state.proofs.Cutting.{keeps_set_file_length}
use Rattle.libos_state.proofs.Mapping.{keeps_protect_pages}
use Rattle.libos_state.proofs.Breaking.{keeps_allocate_pages, keeps_free_pages}
use Rattle.libos_state.proofs.Opening.{keeps_configure, keeps_open_console, keeps_open_program}
use Rattle.libos_state.proofs.Reading.{keeps_program_length, keeps_read_program, keeps_close_program}
use Rattle.libos_state.proofs.Making.{keeps_create_process, keeps_create_thread, keeps_create_event}
use Rattle.libos_state.proofs.Loading.{keeps_allocate_run, keeps_write_run, keeps_protect_run}
use Rattle.libos_state.proofs.Stacking.{keeps_allocate_stack, keeps_write_block}
use Rattle.libos_state.proofs.Beginning.{keeps_start_thread}
use Rattle.libos_state.proofs.Views.{AnswersAs, Through, answered_unchanged}

-- The one stage whose call names a file.
abbrev names_file : Stage → Bool
names_file OpenProgram = true
names_file _ = false

console_unchanged : (rules : List Rule) (a b : Bool)
    → call_behind rules (StreamOpen (if a then ConIn else (if b then ConOut else ConErr)) false false)
    ≡ Ok (StreamOpen (if a then ConIn else (if b then ConOut else ConErr)) false false)
console_unchanged rules true b = refl
console_unchanged rules false true = refl
console_unchanged rules false false = refl

unchanged : (os : LibOs) (c : Cont) (stage : Stage) → names_file stage ≡ false → (rules : List Rule)
    → call_behind rules (asked os c stage) ≡ Ok (asked os c stage)
unchanged os c OpenProgram other rules = absurd (cc)
unchanged os c OpenConsole other rules =
    console_unchanged rules (length c.handles == 0) (length c.handles == 1)
unchanged os c _ other rules = refl

keeps_trap : (os : LibOs) (c : Cont) (stage : Stage) (w w' : View) (r : Reply)
    → is_of_start stage ≡ false → FitsStage os w.objects c stage → IsSound w.objects
    → AnswersAs w (asked os c stage) r w' → Holds os c stage w r w'
keeps_trap os c SetContext w w' r other = keeps_set_context os c w w' r
keeps_trap os c Resume w w' r other = keeps_resume os c w w' r
keeps_trap os c CloseStream w w' r other = keeps_close_stream os c w w' r
keeps_trap os c CloseEvent w w' r other = keeps_close_event os c w w' r
keeps_trap os c ExitThread w w' r other = keeps_exit_thread os c w w' r
keeps_trap os c CloseHandles w w' r other = keeps_close_handles os c w w' r
keeps_trap os c ExitProcess w w' r other = keeps_exit_process os c w w' r
keeps_trap os c ReadStream w w' r other = keeps_read_stream os c w w' r
keeps_trap os c StoreBytes w w' r other = keeps_store_bytes os c w w' r
keeps_trap os c ReadBuffer w w' r other = keeps_read_buffer os c w w' r
keeps_trap os c AppendLength w w' r other = keeps_append_length os c w w' r
keeps_trap os c WriteStream w w' r other = keeps_write_stream os c w w' r
keeps_trap os c FileLength w w' r other = keeps_file_length os c w w' r
keeps_trap os c SetFileLength w w' r other = keeps_set_file_length os c w w' r
keeps_trap os c AllocatePages w w' r other = keeps_allocate_pages os c w w' r
keeps_trap os c FreePages w w' r other = keeps_free_pages os c w w' r
keeps_trap os c ProtectPages w w' r other = keeps_protect_pages os c w w' r
keeps_trap os c _ w w' r other = absurd (cc)

keeps_start : (os : LibOs) (c : Cont) (stage : Stage) (w w' : View) (r : Reply)
    → is_of_start stage ≡ true → names_file stage ≡ false → FitsStage os w.objects c stage → IsSound w.objects
    → AnswersAs w (asked os c stage) r w' → HoldsQuietly os c stage w r w'
keeps_start os c Configure w w' r starts other = keeps_configure os c w w' r
keeps_start os c OpenConsole w w' r starts other = keeps_open_console os c w w' r
keeps_start os c ProgramLength w w' r starts other = keeps_program_length os c w w' r
keeps_start os c ReadProgram w w' r starts other = keeps_read_program os c w w' r
keeps_start os c CloseProgram w w' r starts other = keeps_close_program os c w w' r
keeps_start os c CreateProcess w w' r starts other = keeps_create_process os c w w' r
keeps_start os c AllocateRun w w' r starts other = keeps_allocate_run os c w w' r
keeps_start os c WriteRun w w' r starts other = keeps_write_run os c w w' r
keeps_start os c ProtectRun w w' r starts other = keeps_protect_run os c w w' r
keeps_start os c AllocateStack w w' r starts other = keeps_allocate_stack os c w w' r
keeps_start os c WriteBlock w w' r starts other = keeps_write_block os c w w' r
keeps_start os c CreateThread w w' r starts other = keeps_create_thread os c w w' r
keeps_start os c CreateEvent w w' r starts other = keeps_create_event os c w w' r
keeps_start os c StartThread w w' r starts other = keeps_start_thread os c w w' r
keeps_start os c _ w w' r starts other = absurd (cc)

-- Below the lists of rules a trap's call is answered as it is.
keeps_trap_through : (os : LibOs) (c : Cont) (stage : Stage) (w w' : View) (r : Reply)
    → is_of_start stage ≡ false → FitsStage os w.objects c stage → IsSound w.objects
    → Through w (asked os c stage) r w' → Holds os c stage w r w'
keeps_trap_through os c OpenProgram w w' r other fits sound through = absurd (cc)
keeps_trap_through os c stage w w' r other fits sound through =
    keeps_trap os c stage w w' r other fits sound
    (answered_unchanged w w' (asked os c stage) r (unchanged os c stage refl) through)

-- So are those of a start, but for the program's name.
keeps_start_through : (os : LibOs) (c : Cont) (stage : Stage) (w w' : View) (r : Reply)
    → is_of_start stage ≡ true → FitsStage os w.objects c stage → IsSound w.objects
    → Through w (asked os c stage) r w' → HoldsQuietly os c stage w r w'
keeps_start_through os c OpenProgram w w' r starts fits sound through =
    keeps_open_program os c w w' r fits sound through
keeps_start_through os c stage w w' r starts fits sound through =
    keeps_start os c stage w w' r starts refl fits sound
    (answered_unchanged w w' (asked os c stage) r (unchanged os c stage refl) through)

-- The answered library OS keeps what it stands for, in every view with sound objects that it fits.
pub answered_keeps : (os : LibOs) (r : Reply) → KeepsMeaning os r (answered os r)
answered_keeps os r = answered_from os r (record { trap = keeps_trap_through os; start = keeps_start_through os })
