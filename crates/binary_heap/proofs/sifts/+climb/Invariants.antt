use Rattle.binary_heap.proofs.sifts.+climb.Given as goal

abbrev pub decreases-climb : goal.decreases-climb
decreases-climb l = l.i
