use Rattle.std.proofs.Common.{◌≡◌, map}
use Rattle.bas_edge.specs.Files.{entry_of, files_of}
use Rattle.bas_edge.proofs.calm_store.CalmStore.new.Given as goal

abbrev pub invariant-loop-name : goal.invariant-loop-name
invariant-loop-name l = l.store ≡ files_of (map entry_of l.yielded)
