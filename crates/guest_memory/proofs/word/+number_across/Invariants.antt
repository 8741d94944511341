use Rattle.guest_memory.proofs.word.+number_across.Given as goal

abbrev pub decreases-number_across : goal.decreases-number_across
decreases-number_across l = l.size
