use Rattle.std.proofs.Common.{◌≡◌, map, take}
use Rattle.libos_state.specs.Descriptors.{redescribed, joined_in}
use Rattle.libos_files.proofs.descriptors.notes_joined.Given as goal

-- the first records are joined
abbrev pub invariant-loop-note : goal.invariant-loop-note
invariant-loop-note l = l.joined ≡ map (redescribed (joined_in l.pid l.fd l.id)) (take l.note-index l.notes)
