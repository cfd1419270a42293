use Rattle.binary_heap.proofs.Counting.{Counted}
use Rattle.binary_heap.proofs.heap.count_at_most.Given as goal

abbrev pub invariant-loop-i : goal.invariant-loop-i
invariant-loop-i l = Counted l.words l.len l.score l.n l.i
