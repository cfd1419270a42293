use Rattle.binary_heap.proofs.Limits.{fitting}
use Rattle.binary_heap.proofs.Pushing.{pushing_done}
use Rattle.binary_heap.proofs.heap.push.Goals as goal

pub returns : goal.returns
returns c = pushing_done (fitting c.can_grow.ensures c.if-not-can_grow.false-raw) c.put.ensures c.sift_up.ensures
