use Rattle.std.proofs.Common.{sym, ap, ◌∙◌, ◌+◌, ◌≤◌, length, arith}
use Rattle.guest_space.specs.Space.{memory_of}
use Rattle.guest_space.proofs.Spaces.{length-bytes_from}
use Rattle.guest_memory.specs.Pages.{space_of}
use Rattle.guest_memory.proofs.Copies.{bytes_from-zero, copied-more, done_within, part_of_place, absent_fault}
use Rattle.guest_memory.proofs.access.copy_out.Goals as goal

pub loop-done-init : goal.loop-done-init
loop-done-init c = record { within = omega arith; copied = sym (bytes_from-zero (memory_of (space_of c.args.pages.now)) c.args.at) }

pub unreachable-requires : goal.unreachable-requires
unreachable-requires c =
    absent_fault (space_of c.args.pages.now) 0 c.args.at (length c.args.buf.now) (c.args.at + c.loop-done.done) c.requires.there.there (omega arith) (omega arith) c.in-None.ensures

pub loop-done-preserved : goal.loop-done-preserved
loop-done-preserved c =
    let n = c.min-count.ensures in
    let done = c.loop-done.done in
    let fits : done + c.min-count.result ≤ length c.loop-done.buf = omega arith in
    let is = c.copy_from_slice.ensures.after ∙ part_of_place c.args.pages.now (c.args.at + done) c.in-Some.place c.min-count.result _ c.requires.order c.in-Some.ensures (omega arith) in
    record {
      within = done_within done c.min-count.result c.loop-done.buf c.copy_from_slice.new.self fits
          (ap length is ∙ length-bytes_from (memory_of (space_of c.args.pages.now)) (c.args.at + done) c.min-count.result);
      copied = copied-more (memory_of (space_of c.args.pages.now)) c.args.at done c.min-count.result c.loop-done.buf c.copy_from_slice.new.self fits c.loop-done.invariant.copied is;
    }
