use Rattle.lazy_heap.proofs.Calling.{place_some}
use Rattle.lazy_heap.proofs.heap.LazyMinHeap.place_after.Goals as goal

pub unwrap-requires : goal.unwrap-requires
unwrap-requires c = place_some _ _ _ c.seek.ensures c.requires.room
