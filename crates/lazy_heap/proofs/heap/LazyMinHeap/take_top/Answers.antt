use Rattle.lazy_heap.proofs.Best.{taking}
use Rattle.lazy_heap.proofs.heap.LazyMinHeap.take_top.Goals as goal

pub returns-in-Some : goal.returns-in-Some
returns-in-Some c = rw c.in-Some.is (taking c.pop.ensures c.take_key.ensures)
