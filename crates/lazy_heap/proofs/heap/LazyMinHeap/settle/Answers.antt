use Rattle.lazy_heap.proofs.Settling.{settling_on, settled_top, settled_empty}
use native.Mathlib.Omega.{arith}
use Rattle.lazy_heap.proofs.heap.LazyMinHeap.settle.Goals as goal

pub returns-then-is_settled : goal.returns-then-is_settled
returns-then-is_settled c = settled_top c.loop-discarded.invariant (rw c.if-is_settled.true at c.is_settled.ensures)

pub loop-discarded-preserved : goal.loop-discarded-preserved
loop-discarded-preserved c = settling_on c.loop-discarded.invariant (rw c.if-is_settled.false at c.is_settled.ensures) c.pop.ensures

pub returns : goal.returns
returns c = settled_empty c.loop-discarded.invariant (omega arith)
