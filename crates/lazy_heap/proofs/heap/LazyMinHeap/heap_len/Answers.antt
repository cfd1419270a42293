use mathlib.Core.Path.{sym, ◌∙◌}
use Rattle.binary_heap.proofs.Laws.{model_length}
use Rattle.lazy_heap.specs.Words.{part}
use Rattle.lazy_heap.proofs.Calling.{asking_done}
use Rattle.lazy_heap.proofs.heap.LazyMinHeap.heap_len.Goals as goal

pub returns : goal.returns
returns c = asking_done (sym c.admitted.ensures ∙ c.in_ok-admitted.was) (λ is. sym (model_length (part c.args.self.scores.capacity c.args.words.now) c.args.self.entries))
