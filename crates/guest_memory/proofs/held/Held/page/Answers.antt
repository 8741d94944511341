use Rattle.std.proofs.Common.{map}
use Rattle.guest_memory.specs.Pages.{label_of}
use Rattle.guest_memory.proofs.held.Held.page.Goals as goal

pub returns-then-pages-place-ne-RUN : goal.returns-then-pages-place-ne-RUN
returns-then-pages-place-ne-RUN c = c.nothing.ensures (map label_of c.args.pages.now)
