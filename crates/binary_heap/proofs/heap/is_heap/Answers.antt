-- The entries before i are in order.
use native.Mathlib.Omega.{arith}
use Rattle.binary_heap.proofs.Limits.{unfit}
use Rattle.binary_heap.proofs.Checking.{checking_no}
use Rattle.binary_heap.proofs.heap.is_heap.Goals as goal

pub returns-then-not-in_order : goal.returns-then-not-in_order
returns-then-not-in_order c = checking_no _ (omega arith) (omega arith) (unfit c.in_order.ensures c.if-not-in_order.true-raw)
