use Rattle.std.proofs.Common.{◌+◌, ◌∙◌, sym}
use Rattle.guest_space.specs.Run.{if_missing}
use Rattle.guest_space.proofs.FirstSome.{first_some-next, first_some-stop, first_some-end}
use Rattle.guest_memory.specs.Pages.{space_of}
use Rattle.guest_memory.proofs.Gaps.{if_missing-found, if_missing-absent}
use Rattle.guest_memory.proofs.run.missing_page.Goals as goal

pub returns-then-is_none : goal.returns-then-is_none
returns-then-is_none c =
    let absent = if_missing-absent c.args.pages.now c.loop-number.number c.find.result c.find.ensures c.if-is_none.ensures in
    sym (first_some-stop (if_missing (space_of c.args.pages.now)) c.loop-number.number (c.args.page + c.args.count) c.loop-number.number c.loop-number-test.true absent)
    ∙ c.loop-number.invariant

pub loop-number-preserved : goal.loop-number-preserved
loop-number-preserved c =
    let found = if_missing-found c.args.pages.now c.loop-number.number c.find.result c.find.ensures c.if-is_none.ensures in
    first_some-next (if_missing (space_of c.args.pages.now)) c.loop-number.number (c.args.page + c.args.count) c.loop-number-test.true found ∙ c.loop-number.invariant

pub returns : goal.returns
returns c =
    sym (first_some-end (if_missing (space_of c.args.pages.now)) c.loop-number.number (c.args.page + c.args.count) c.loop-number-test.false) ∙ c.loop-number.invariant
