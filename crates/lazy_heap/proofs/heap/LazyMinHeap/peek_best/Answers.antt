use mathlib.Core.Path.{sym, ◌∙◌}
use Rattle.lazy_heap.proofs.Best.{peeking_best}
use Rattle.lazy_heap.proofs.heap.LazyMinHeap.peek_best.Goals as goal

pub returns : goal.returns
returns c = peeking_best c.settle-discarded.ensures c.top.ensures (sym c.admitted.ensures ∙ c.in_ok-admitted.was) c.best_of-answer.ensures
