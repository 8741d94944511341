use Rattle.std.proofs.Common.{◌∙◌, sym}
use Rattle.guest_space.proofs.FirstSome.{first_some-end}
use Rattle.libos_state.specs.Entered.{if_free_descriptor}
use Rattle.libos_files.proofs.Closings.{first_stops, first_goes_on}
use Rattle.libos_files.proofs.closing.least_free.Goals as goal

pub returns-then-is_some : goal.returns-then-is_some
returns-then-is_some c =
    first_stops (if_free_descriptor c.args.descriptors.now) c.loop-fd.fd 32 c.loop-fd-test.true c.free_at-free.result c.free_at-free.ensures (sym c.if-is_some.ensures)
    ∙ c.loop-fd.invariant

pub loop-fd-preserved : goal.loop-fd-preserved
loop-fd-preserved c =
    first_goes_on (if_free_descriptor c.args.descriptors.now) c.loop-fd.fd 32 c.loop-fd-test.true c.free_at-free.result c.free_at-free.ensures (sym c.if-is_some.ensures)
    ∙ c.loop-fd.invariant

pub returns : goal.returns
returns c = sym (first_some-end (if_free_descriptor c.args.descriptors.now) c.loop-fd.fd 32 c.loop-fd-test.false) ∙ c.loop-fd.invariant
