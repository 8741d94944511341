use Rattle.std.proofs.Common.{◌≡◌, ◌++◌, map, take, drop}
use Rattle.libos_state.specs.Descriptors.{note_at}
use Rattle.libos_files.proofs.positions.place.Given as goal

-- the first descriptions are placed, and the others are as they were
abbrev pub invariant-loop-note : goal.invariant-loop-note
invariant-loop-note l = l.notes ≡ map (note_at l.id l.position) (take l.note-index l.initial.notes) ++ drop l.note-index l.initial.notes
