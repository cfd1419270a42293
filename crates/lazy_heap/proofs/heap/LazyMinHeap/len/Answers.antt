use mathlib.Core.Path.{sym, ◌∙◌}
use Rattle.linked_hash_map.proofs.Putting.{model_length}
use Rattle.lazy_heap.proofs.Calling.{asking_done}
use Rattle.lazy_heap.proofs.heap.LazyMinHeap.len.Goals as goal

pub returns : goal.returns
returns c = asking_done (sym c.admitted.ensures ∙ c.in_ok-admitted.was) (λ is. sym (model_length c.args.words.now c.args.self.scores))
