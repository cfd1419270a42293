use mathlib.Core.Path.{sym, ◌∙◌}
use Rattle.lazy_heap.proofs.Calling.{rebuild_call}
use Rattle.lazy_heap.proofs.heap.LazyMinHeap.rebuild.Goals as goal

pub returns : goal.returns
returns c = rebuild_call (sym c.admitted.ensures ∙ c.in_ok-admitted.was) c.rebuild_within.ensures
