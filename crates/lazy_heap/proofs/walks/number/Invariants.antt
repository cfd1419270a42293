use Prim.Native.Nat.{◌-◌}
use Rattle.lazy_heap.proofs.Refilling.{Numbering}
use Rattle.lazy_heap.proofs.walks.number.Given as goal

abbrev pub invariant-loop-number : goal.invariant-loop-number
invariant-loop-number l = Numbering l.initial.words l.scores l.words l.number (l.scores.len - l.number) l.slot
