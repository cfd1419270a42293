-- The entries before i are counted.
use native.Mathlib.Omega.{arith}
use Rattle.binary_heap.proofs.Counting.{counted_none, counted_next}
use Rattle.binary_heap.proofs.heap.count_at_most.Goals as goal

pub loop-i-init : goal.loop-i-init
loop-i-init c = counted_none _ _ _

pub loop-i-preserved : goal.loop-i-preserved
loop-i-preserved c = counted_next _ _ _ c.loop-i.invariant (omega arith) c.is_within.ensures
