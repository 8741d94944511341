use Rattle.leaf_tests.proofs.processor.Rom.+number.Given as goal

abbrev pub decreases-number : goal.decreases-number
decreases-number l = l.size
