use Rattle.lazy_heap.proofs.Entered.{popping}
use Rattle.lazy_heap.proofs.heap.LazyMinHeap.pop.Goals as goal

pub returns : goal.returns
returns c = let room = c.requires in rw c.entries.ensures (popping room (rw c.entries.ensures at c.pop.ensures))
