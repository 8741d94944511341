-- The runs of a program, by their number.
use Rattle.std.specs.Prelude.{[]}
use Rattle.elf_loader.specs.declared.Run.{Run}

-- What stands where a program has no run of that number.
abbrev pub no_run : Run
no_run = record { page = 0; rights = 0; bytes = [] }
