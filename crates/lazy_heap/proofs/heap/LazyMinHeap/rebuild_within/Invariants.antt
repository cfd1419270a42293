use Prim.Native.Nat.{◌-◌}
use Rattle.lazy_heap.proofs.Refilling.{Refilling}
use Rattle.lazy_heap.proofs.heap.LazyMinHeap.rebuild_within.Given as goal

abbrev pub invariant-loop : goal.invariant-loop
invariant-loop l = Refilling l.initial.words l.initial.self l.words l.self (l.initial.self.scores.len - l.counter) l.slot
