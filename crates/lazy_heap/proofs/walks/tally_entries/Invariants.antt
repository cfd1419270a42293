use Rattle.lazy_heap.proofs.Tallies.{Tally}
use Rattle.lazy_heap.proofs.walks.tally_entries.Given as goal

abbrev pub invariant-loop-i : goal.invariant-loop-i
invariant-loop-i l = Tally l.words l.scores l.entries l.seq l.initial.tally l.i l.tally
