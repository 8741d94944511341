use Rattle.elf_loader.proofs.PageTables.{between}
use Rattle.elf_loader.specs.Segments.{first_page}
use Rattle.elf_loader.specs.Steps.{Adds}
use Rattle.elf_loader.proofs.pages.add_pages.Given as goal

abbrev pub invariant-loop-number : goal.invariant-loop-number
invariant-loop-number l = Adds (between (first_page l.header) l.number) l.rights l.number l.fn.table.items l.table.items
