use Rattle.lazy_heap.proofs.Settling.{Settling}
use Rattle.lazy_heap.proofs.heap.LazyMinHeap.settle.Given as goal

abbrev pub invariant-loop-discarded : goal.invariant-loop-discarded
invariant-loop-discarded l = Settling l.initial.words l.initial.self l.words l.self l.discarded
