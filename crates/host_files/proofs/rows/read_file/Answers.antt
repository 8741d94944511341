use Rattle.std.proofs.Common.{refl}
use Rattle.host_files.proofs.Followed.{reads_too_much, reads}
use Rattle.host_files.proofs.rows.read_file.Goals as goal

pub returns-then-count-gt-MOST_BYTES-clause-row : goal.returns-then-count-gt-MOST_BYTES-clause-row
returns-then-count-gt-MOST_BYTES-clause-row g c = reads_too_much _ _ _ c.if-count-gt-MOST_BYTES.true refl

pub returns-clause-row : goal.returns-clause-row
returns-clause-row g c = reads c.if-count-gt-MOST_BYTES.false c.in_ok-bytes.ensures.read c.in_ok-bytes.ensures.same
