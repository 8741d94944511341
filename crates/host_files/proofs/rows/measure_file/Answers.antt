use Rattle.host_files.proofs.Followed.{measures}
use Rattle.host_files.proofs.rows.measure_file.Goals as goal

pub returns-clause-row : goal.returns-clause-row
returns-clause-row g c = measures c.in_ok-length_in_use.ensures.found c.in_ok-length_in_use.ensures.same
