use Rattle.lazy_heap.proofs.Entered.{pushing}
use Rattle.lazy_heap.proofs.heap.LazyMinHeap.push.Goals as goal

pub returns : goal.returns
returns c = let room = c.requires in rw c.entries.ensures (pushing room (rw c.entries.ensures at c.push.ensures))
