-- Which system call or fault a trap is, and what it does.
use Rattle.std.specs.Prelude.{ℕ, ◌==◌, if◌then◌else◌}
use Rattle.mono_model.specs.Machine.{Mono, register}
use Rattle.mono_model.specs.Calls.{Caller, Trap, Served, silently, finished, DUP, DUP3, CLOSE, WRITE, BRK, MUNMAP, MMAP, MPROTECT, is_exit, exit, ended, write, close, dup, dup3, brk, munmap, mmap, mprotect, known_result}
use Rattle.mono_model.specs.FileCalls.{FTRUNCATE, LSEEK, READ, FSTAT, read, lseek, fstat, ftruncate}

-- The calls on a process's pages, and those whose result is known.
abbrev pub memory_call : Mono → Caller → ℕ → Mono
memory_call m who number =
    if number == BRK then brk m who
    else (if number == MUNMAP then munmap m who
    else (if number == MMAP then mmap m who
    else (if number == MPROTECT then mprotect m who
    else finished m who (known_result m who number))))

-- The calls on a process's descriptors, and all that change neither files nor processes.
abbrev pub descriptor_call : Mono → Caller → ℕ → Mono
descriptor_call m who number =
    if number == CLOSE then close m who
    else (if number == DUP then dup m who
    else (if number == DUP3 then dup3 m who
    else memory_call m who number))

-- The calls on an open file or an end of the console, and all that write nothing and end nobody.
abbrev pub file_call : Mono → Caller → ℕ → Mono
file_call m who number =
    if number == READ then read m who
    else (if number == LSEEK then lseek m who
    else (if number == FSTAT then fstat m who
    else (if number == FTRUNCATE then ftruncate m who
    else descriptor_call m who number)))

abbrev pub system_call : Mono → Caller → ℕ → Served
system_call m who number =
    if number == WRITE then write m who
    else (if is_exit number then silently (exit m who number)
    else silently (file_call m who number))

-- The exit code of a process that a fault ends, by the cause: 132 an illegal instruction, 133 a
-- breakpoint, 135 a misaligned instruction address, 139 an access.
abbrev pub fault_code : ℕ → ℕ
fault_code cause =
    if cause == 2 then 132
    else (if cause == 3 then 133
    else (if cause == 0 then 135
    else 139))

-- What a trap does: cause 8 is a system call, every other a fault.
abbrev pub served : Mono → Caller → Trap → Served
served m who trap =
    if trap.0 == 8 then system_call m who (register who.context 17)
    else silently (ended m who.process (fault_code trap.0))
