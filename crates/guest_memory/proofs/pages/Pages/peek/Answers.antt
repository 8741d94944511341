use Rattle.std.proofs.Common.{◌*◌, length, sym}
use Rattle.std.proofs.lemmas.Bool.{eqb-true}
use Rattle.guest_space.specs.Space.{memory_of}
use Rattle.guest_memory.proofs.Copies.{nothing_read}
use Rattle.guest_memory.proofs.pages.Pages.peek.Goals as goal

pub returns-else-not-is_empty-clause-ok : goal.returns-else-not-is_empty-clause-ok
returns-else-not-is_empty-clause-ok c = nothing_read (memory_of c.args.self.now) (c.args.page * 4096) c.args.buf.now (eqb-true (length c.args.buf.now) 0 (sym c.if-not-is_empty.ensures))
