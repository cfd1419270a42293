-- The index's numbers in words: those of its heap.
use Rattle.std.specs.Prelude.{List, ℕ, Result, Ok, Err}
use Rattle.expiration_index.specs.declared.index.ExpirationIndex.{ExpirationIndex}
use Rattle.replay_lazy_heap.specs.Numbers.{heap_in, with_heap}

abbrev pub index_in : List ℕ → ExpirationIndex
index_in ns = record { heap = heap_in ns }

abbrev pub with_index : List ℕ → ExpirationIndex → List ℕ
with_index ns x = with_heap ns x.heap

-- the numbers after an opening, which are all 0 where it is refused
abbrev pub opened : {E : Type 0} → Result ExpirationIndex E → ExpirationIndex
opened (Ok x) = x
opened (Err e) = record { heap = record { scores = record { capacity = 0; len = 0; refill_in = 0 }; entries = 0; seq = 0; factor = 0 } }
