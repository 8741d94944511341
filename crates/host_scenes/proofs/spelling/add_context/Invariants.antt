use Rattle.std.proofs.Common.{length}
use Rattle.host_scenes.proofs.spelling.add_context.Given as goal

abbrev pub decreases-loop-numbers : goal.decreases-loop-numbers
decreases-loop-numbers l = length l.numbers.items
