use mathlib.Core.Path.{sym, ◌∙◌}
use Rattle.lazy_heap.proofs.Calling.{with_room_lem, maybe_call}
use Rattle.lazy_heap.proofs.heap.LazyMinHeap.maybe_rebuild.Goals as goal

pub fit_entries-requires : goal.fit_entries-requires
fit_entries-requires c = (with_room_lem _ _ c.args.factor (sym c.heap_with_factor.ensures ∙ c.in_ok-heap_with_factor.was)).0

pub returns : goal.returns
returns c = maybe_call c.args.factor (sym c.heap_with_factor.ensures ∙ c.in_ok-heap_with_factor.was) c.fit_entries.ensures
