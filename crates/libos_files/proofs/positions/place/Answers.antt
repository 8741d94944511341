-- The next record is that of the id, or another one, which stays.
use Rattle.std.proofs.Common.{◌∙◌, false, arith}
use Rattle.libos_state.specs.declared.notes.Description.{Description}
use Rattle.libos_state.specs.declared.notes.Kind.TheVariants.{ConIn}
use Rattle.libos_files.proofs.Placed.{placed_here, placed_other}
use Rattle.libos_files.proofs.positions.place.Goals as goal
use Rattle.libos_files.proofs.positions.place.Goals.{then-note-id, else-note-id}

none : Description
none = record { id = 0; handle = 0; kind = ConIn; access = 0; append = false; position = 0 }

pub loop-note-preserved : goal.loop-note-preserved
unfolding none
loop-note-preserved c =
    elim c.if-note-id.branch [
      | then-note-id w ↦ w.notes-is ∙ placed_here c.args.id c.args.position c.args.notes.now c.loop-note.notes c.loop-note.note-index none c.loop-note-test.true (omega arith) c.loop-note.invariant w.if-note-id.true
      | else-note-id w ↦ w.notes-is ∙ placed_other c.args.id c.args.position c.args.notes.now c.loop-note.notes c.loop-note.note-index none c.loop-note-test.true (omega arith) c.loop-note.invariant w.if-note-id.false
    ]
