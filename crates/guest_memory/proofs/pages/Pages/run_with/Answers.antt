use Rattle.guest_space.proofs.Turns.{run_space-ends}
use Rattle.guest_memory.proofs.pages.Pages.run_with.Goals as goal

pub returns : goal.returns
returns c =
    run_space-ends c.args.n c.args.context.now c.slice_with-ended.new.cx c.args.self.now c.slice_with-ended.new.cells c.slice_with-ended.result
    c.pages_are_sound.ensures c.pages_are_sound-2.ensures c.slice_with-ended.ensures
