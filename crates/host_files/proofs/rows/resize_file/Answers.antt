use Rattle.std.proofs.Common.{refl}
use Rattle.host_files.proofs.Followed.{resizes_past, resizes}
use Rattle.host_files.proofs.rows.resize_file.Goals as goal

pub returns-then-length-gt-LONGEST_FILE-clause-row :
    goal.returns-then-length-gt-LONGEST_FILE-clause-row
returns-then-length-gt-LONGEST_FILE-clause-row g c = resizes_past _ _ c.if-length-gt-LONGEST_FILE.true refl

pub returns-clause-row : goal.returns-clause-row
returns-clause-row g c = resizes _ _ c.if-length-gt-LONGEST_FILE.false c.in_ok-set_length.ensures.resized
