-- The heap's numbers in words: those of the map of scores, and three more.
use Rattle.std.specs.Prelude.{List, ℕ, get_or, set, Result, Ok, Err}
use Rattle.lazy_heap.specs.declared.heap.LazyMinHeap.{LazyMinHeap}
use Rattle.replay_linked_hash_map.specs.Numbers.{map_in, with_map}

abbrev pub heap_in : List ℕ → LazyMinHeap
heap_in ns = record { scores = map_in ns; entries = get_or ns 3 0; seq = get_or ns 4 0; factor = get_or ns 5 0 }

abbrev pub with_heap : List ℕ → LazyMinHeap → List ℕ
with_heap ns h = set (set (set (with_map ns h.scores) 3 h.entries) 4 h.seq) 5 h.factor

-- the numbers after an opening, which are all 0 where it is refused
abbrev pub opened : {E : Type 0} → Result LazyMinHeap E → LazyMinHeap
opened (Ok h) = h
opened (Err e) = record { scores = record { capacity = 0; len = 0; refill_in = 0 }; entries = 0; seq = 0; factor = 0 }
