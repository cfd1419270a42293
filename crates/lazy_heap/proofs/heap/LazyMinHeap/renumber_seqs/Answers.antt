use mathlib.Core.Path.{sym, ◌∙◌}
use Rattle.lazy_heap.proofs.Calling.{renumber_call}
use Rattle.lazy_heap.proofs.heap.LazyMinHeap.renumber_seqs.Goals as goal

pub returns : goal.returns
returns c = renumber_call (sym c.admitted.ensures ∙ c.in_ok-admitted.was) c.renumber_within.ensures
