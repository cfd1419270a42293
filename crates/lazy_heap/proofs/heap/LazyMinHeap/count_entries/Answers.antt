use Rattle.binary_heap.proofs.Laws.{heap_counted}
use Rattle.lazy_heap.proofs.heap.LazyMinHeap.count_entries.Goals as goal

pub returns : goal.returns
returns c = record { answer = λ p. heap_counted (rw c.entries.ensures at c.count_at_most.ensures) p.entries }
