use mathlib.Core.Path.{sym, ◌∙◌}
use Rattle.lazy_heap.proofs.Calling.{open_map, open_done}
use Rattle.lazy_heap.proofs.heap.LazyMinHeap.open.Goals as goal

pub unwrap-scores-requires : goal.unwrap-scores-requires
unwrap-scores-requires c = open_map _ c.args.factor (sym c.heap_with_factor.ensures ∙ c.in_ok-heap_with_factor.was) c.open.ensures

pub returns : goal.returns
returns c = open_done _ c.args.factor (sym c.heap_with_factor.ensures ∙ c.in_ok-heap_with_factor.was) c.open.ensures c.args.seq _ _ c.unwrap-scores.ensures c.at_least_one.ensures
