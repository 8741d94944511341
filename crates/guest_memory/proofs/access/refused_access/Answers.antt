use Rattle.std.proofs.Common.{◌≡◌, None, ap, sym, ◌∙◌, ◌+◌, ◌*◌, arith}
use Rattle.guest_space.specs.Space.{memory_of}
use Rattle.guest_space.proofs.FirstSome.{first_some-zero}
use Rattle.guest_memory.specs.Pages.{space_of}
use Rattle.guest_memory.specs.Refusals.{byte_refusal, access_refusal}
use Rattle.guest_memory.proofs.Order.{IsSpace-space_of}
use Rattle.guest_memory.proofs.Writes.{found_below}
use Rattle.guest_memory.proofs.Accesses.{AreThere-granted, byte_refusal-absent, byte_refusal-denied, access_refusal-first, access_refusal-next}
use Rattle.guest_memory.proofs.access.refused_access.Goals as goal
use Rattle.guest_memory.proofs.access.refused_access.Goals.{After-loop-left}

pub returns-in-None-clause-cause : goal.returns-in-None-clause-cause
returns-in-None-clause-cause c =
    let s = space_of c.args.pages.now in
    let l = c.loop-left in
    sym (access_refusal-first s c.args.right l.number l.offset l.left _ (omega arith) (byte_refusal-absent s c.args.right l.number l.offset l.invariant.within c.in-None.ensures))
    ∙ l.invariant.same

pub returns-then-pages-place-clause-cause : goal.returns-then-pages-place-clause-cause
returns-then-pages-place-clause-cause c =
    let s = space_of c.args.pages.now in
    let l = c.loop-left in
    sym (access_refusal-first s c.args.right l.number l.offset l.left _ (omega arith)
    (byte_refusal-denied s c.args.right l.number l.offset l.invariant.within _ (c.in-Some.ensures.held _) c.if-pages-place.true))
    ∙ l.invariant.same

pub loop-left-preserved : goal.loop-left-preserved
loop-left-preserved c =
    let s = space_of c.args.pages.now in
    let l = c.loop-left in
    let below = found_below c.args.pages.now l.number c.in-Some.place c.requires c.in-Some.ensures in
    record {
      within = omega arith;
      small = omega arith;
      same = ap (access_refusal (memory_of s) c.args.right ((l.number + 1) * 4096 + 0)) c.saturating_sub-left.ensures
          ∙ access_refusal-next s c.args.right l.number l.offset l.left _ (c.in-Some.ensures.held _) c.if-pages-place.false l.invariant.within
          ∙ l.invariant.same;
    }

same : (c : After-loop-left) → None ≡ access_refusal (memory_of (space_of c.args.pages.now)) c.args.right c.args.at c.args.count
same c =
    let s = space_of c.args.pages.now in
    let l = c.loop-left in
    sym (ap (access_refusal (memory_of s) c.args.right (l.number * 4096 + l.offset)) (omega arith) ∙ first_some-zero (byte_refusal (memory_of s) c.args.right) (l.number * 4096 + l.offset))
    ∙ l.invariant.same

pub returns-clause-cause : goal.returns-clause-cause
returns-clause-cause c = same c

pub returns-clause-there : goal.returns-clause-there
returns-clause-there c =
    AreThere-granted (space_of c.args.pages.now) c.args.right c.args.at c.args.count (IsSpace-space_of 0 c.args.pages.now c.requires) (omega arith) (sym (same c))
