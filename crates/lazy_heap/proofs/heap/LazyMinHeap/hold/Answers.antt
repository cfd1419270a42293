use Rattle.lazy_heap.proofs.Stepping.{holding}
use Rattle.lazy_heap.proofs.heap.LazyMinHeap.hold.Goals as goal

pub returns : goal.returns
returns c = holding c.store_at-answer.ensures c.push.ensures c.saturating_add-self.ensures
