use mathlib.Core.Path.{sym, ap, ◌∙◌}
use Prim.Native.Nat.{ℕ}
use lib.Dec.{eqb}
use Rattle.linked_hash_map.proofs.Putting.{model_length}
use Rattle.lazy_heap.proofs.Calling.{asking_done}
use Rattle.lazy_heap.proofs.heap.LazyMinHeap.is_empty.Goals as goal

pub returns : goal.returns
returns c = asking_done (sym c.admitted.ensures ∙ c.in_ok-admitted.was) (λ is. ap (λ (n : ℕ). eqb n 0) (sym (model_length c.args.words.now c.args.self.scores)))
