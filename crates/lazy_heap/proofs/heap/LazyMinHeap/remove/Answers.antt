use mathlib.Core.Path.{sym, ◌∙◌}
use Rattle.lazy_heap.proofs.Calling.{removing}
use Rattle.lazy_heap.proofs.heap.LazyMinHeap.remove.Goals as goal

pub returns : goal.returns
returns c = removing _ c.take_key-answer.ensures (sym c.admitted.ensures ∙ c.in_ok-admitted.was)
