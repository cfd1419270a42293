use Rattle.lazy_heap.proofs.Stepping.{renumbering}
use Rattle.lazy_heap.proofs.heap.LazyMinHeap.renumber_within.Goals as goal

pub returns : goal.returns
returns c = renumbering c.number.ensures c.rebuild_within.ensures
