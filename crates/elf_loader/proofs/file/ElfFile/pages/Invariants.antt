use Rattle.std.proofs.Common.{◌≡◌}
use Rattle.elf_loader.specs.Segments.{end_page}
use Rattle.elf_loader.specs.Steps.{table_of}
use Rattle.elf_loader.proofs.PageTables.{touched_below, rights_below}
use Rattle.elf_loader.proofs.file.ElfFile.pages.Given as goal

abbrev pub invariant-loop-i : goal.invariant-loop-i
invariant-loop-i l = l.table.items ≡ table_of (touched_below l.self.bytes.now l.i) (rights_below l.self.bytes.now l.i) (end_page l.self.bytes.now)
