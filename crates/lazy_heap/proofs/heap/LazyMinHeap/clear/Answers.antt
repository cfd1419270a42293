use mathlib.Core.Path.{sym, ◌∙◌}
use Rattle.lazy_heap.proofs.Calling.{clear_map, clear_call}
use Rattle.lazy_heap.proofs.heap.LazyMinHeap.clear.Goals as goal

pub unwrap-requires : goal.unwrap-requires
unwrap-requires c = clear_map c.args.self.now (sym c.admitted.ensures ∙ c.in_ok-admitted.was) c.clear.ensures

pub returns : goal.returns
returns c = clear_call c.args.self.now (sym c.admitted.ensures ∙ c.in_ok-admitted.was) c.clear.ensures c.surplus-discarded.ensures
