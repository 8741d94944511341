use Rattle.std.proofs.Common.{◌≡◌, drop, length, nat_le}
use Rattle.std.specs.List.{list_all}
use Rattle.bascule_top.specs.Commands.{words_of}
use Rattle.bascule_top.proofs.command.are_short.Given as goal

abbrev pub invariant-loop-arg : goal.invariant-loop-arg
invariant-loop-arg l =
    list_all (λ arg. nat_le (length arg) 80) (words_of (drop l.arg-index l.args))
    ≡ list_all (λ arg. nat_le (length arg) 80) (words_of l.args)
