use Rattle.std.proofs.Common.{◌≡◌, ◌++◌, drop}
use Rattle.bascule_top.specs.Commands.{words_of}
use Rattle.bascule_top.proofs.top.arguments.Given as goal

abbrev pub invariant-loop-arg : goal.invariant-loop-arg
invariant-loop-arg l = l.texts ++ words_of (drop l.arg-index l.args) ≡ words_of l.args
