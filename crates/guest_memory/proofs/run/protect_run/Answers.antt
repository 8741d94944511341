use Rattle.std.proofs.Common.{ap, sym, ◌∙◌, subst, arith}
use Rattle.guest_space.specs.Space.{protected}
use Rattle.guest_space.proofs.Runs.{protected-zero, protected-next, protected-next_absent}
use Rattle.guest_memory.specs.Pages.{AreInOrder, space_of}
use Rattle.guest_memory.proofs.Writes.{AreInOrder-with_rights, space_of-with_rights}
use Rattle.guest_memory.proofs.run.protect_run.Goals as goal
use Rattle.guest_memory.proofs.run.protect_run.Goals.{in-Some, in_default}

pub loop-number-init : goal.loop-number-init
loop-number-init c = record {
  order = c.requires.order;
  after = sym (ap (λ n. protected (space_of c.args.pages.now) c.args.page n c.args.rights) (omega arith) ∙ protected-zero (space_of c.args.pages.now) c.args.page c.args.rights);
}

pub loop-number-preserved : goal.loop-number-preserved
loop-number-preserved c =
    let old = c.loop-number.pages in
    let q = c.loop-number.number in
    elim c.match-find.branch [
      | in-Some w ↦ record {
        order = subst AreInOrder (sym w.pages-is) (AreInOrder-with_rights old q w.in-Some.place c.args.rights _ c.loop-number.invariant.order w.in-Some.ensures c.requires.rights);
        after = ap space_of w.pages-is
            ∙ space_of-with_rights old q w.in-Some.place c.args.rights _ c.loop-number.invariant.order w.in-Some.ensures
            ∙ protected-next (space_of c.args.pages.now) (space_of old) c.args.page q c.args.rights _ (omega arith) c.loop-number.invariant.after (w.in-Some.ensures.held _);
      }
      | in_default w ↦ record {
        order = subst AreInOrder (sym w.pages-is) c.loop-number.invariant.order;
        after = ap space_of w.pages-is
            ∙ protected-next_absent (space_of c.args.pages.now) (space_of old) c.args.page q c.args.rights (omega arith) c.loop-number.invariant.after w.in_default.ensures;
      }
    ]
