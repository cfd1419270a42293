use Rattle.binary_heap.specs.Heap.{Ordered}
use Rattle.binary_heap.proofs.heap.is_heap.Given as goal

abbrev pub invariant-loop-i : goal.invariant-loop-i
invariant-loop-i l = Ordered l.words l.i
