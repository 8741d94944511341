-- The break in the records: where it stands, where brk moves it, and the records with another.
use Rattle.std.specs.Prelude.{ℕ, ◌==◌, if◌then◌else◌, map}
use Rattle.std.specs.declared.option.Option.{Option}
use Rattle.std.specs.declared.option.Option.TheVariants.{None, Some}
use Rattle.abi_calls.specs.declared.threads.Upcall.{Upcall}
use Rattle.mono_model.specs.declared.breaks.BreakMove.{BreakMove}
use Rattle.mono_model.specs.declared.breaks.BreakMove.TheVariants.{Stays}
use Rattle.mono_model.specs.Breaks.{break_move}
use Rattle.mono_model.specs.Machine.{register}
use Rattle.libos_state.specs.declared.notes.ProcessNote.{ProcessNote}
use Rattle.libos_state.specs.declared.state.LibOs.{LibOs}
use Rattle.libos_state.specs.Records.{process_with}

-- Where the break of a process stands, and where it goes that is asked to be at an address.
abbrev pub break_of : Option ProcessNote → ℕ
break_of None = 0
break_of (Some n) = n.break_now

abbrev pub break_asked : Option ProcessNote → ℕ → BreakMove
break_asked None address = Stays
break_asked (Some n) address = break_move n.break_start n.break_now address

-- Where the trap's process moves its break: a0 is the address.
abbrev pub break_goes : LibOs → Upcall → BreakMove
break_goes os u = break_asked (process_with u.process os.processes) (register u.context 10)

-- The break of the process that has a handle is at an address.
abbrev pub note_with_break : ℕ → ℕ → ProcessNote → ProcessNote
note_with_break handle address n =
    if n.handle == handle then record n { break_now = address } else n

abbrev pub with_break : LibOs → ℕ → ℕ → LibOs
with_break os handle address =
    record os { processes = map (note_with_break handle address) os.processes }
