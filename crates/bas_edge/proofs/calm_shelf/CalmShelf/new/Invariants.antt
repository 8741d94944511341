use Rattle.std.proofs.Common.{◌≡◌, map}
use Rattle.bas_edge.specs.Files.{files_of, text_entry_of}
use Rattle.bas_edge.proofs.calm_shelf.CalmShelf.new.Given as goal

abbrev pub invariant-loop-name : goal.invariant-loop-name
invariant-loop-name l = l.store ≡ files_of (map text_entry_of l.yielded)
