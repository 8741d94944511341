use Rattle.std.proofs.Common.{refl, sym, arith}
use Rattle.std.proofs.lemmas.Bool.{eqb-true}
use Rattle.std.proofs.lemmas.List.{nil_from_length}
use Rattle.host_files.proofs.Followed.{writes_too_much, writes_past, writes_nothing, writes}
use Rattle.host_files.proofs.rows.write_file.Goals as goal

pub returns-then-count-gt-MOST_BYTES-clause-row : goal.returns-then-count-gt-MOST_BYTES-clause-row
returns-then-count-gt-MOST_BYTES-clause-row g c = writes_too_much _ _ _ c.if-count-gt-MOST_BYTES.true refl

pub returns-then-offset-count-clause-row : goal.returns-then-offset-count-clause-row
returns-then-offset-count-clause-row g c =
    writes_past _ _ _ c.if-count-gt-MOST_BYTES.false (omega (arith, c.if-offset-count.true, c.if-count-gt-MOST_BYTES.false)) refl

pub returns-then-is_empty-clause-row : goal.returns-then-is_empty-clause-row
returns-then-is_empty-clause-row g c = writes_nothing _ _ c.args.bytes.now (nil_from_length _ (eqb-true _ _ (sym c.if-is_empty.ensures))) (omega (arith, c.if-offset-count.false)) refl

pub returns-clause-row : goal.returns-clause-row
returns-clause-row g c =
    writes _ _ _ c.if-count-gt-MOST_BYTES.false (omega (arith, c.if-offset-count.false, c.if-count-gt-MOST_BYTES.false)) c.in_ok-write_at.ensures.written
