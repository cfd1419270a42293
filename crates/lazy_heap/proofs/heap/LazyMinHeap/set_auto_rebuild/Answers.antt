use mathlib.Core.Path.{sym, ◌∙◌}
use Rattle.lazy_heap.proofs.Calling.{factor_call}
use Rattle.lazy_heap.proofs.heap.LazyMinHeap.set_auto_rebuild.Goals as goal

pub returns : goal.returns
returns c = factor_call _ _ c.args.factor (sym c.heap_with_factor.ensures ∙ c.in_ok-heap_with_factor.was) c.at_least_one-self.ensures
