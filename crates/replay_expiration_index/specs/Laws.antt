-- The laws of the index's numbers in words: those of its heap's.
use Rattle.std.specs.Prelude.{◌≡◌, List, ℕ, ◌≤◌, length, get_or}
use Rattle.expiration_index.specs.declared.index.ExpirationIndex.{ExpirationIndex}
use Rattle.replay_lazy_heap.specs.Laws.{heap_stored, heap_past}
use Rattle.replay_expiration_index.specs.Numbers.{index_in, with_index}

-- what is stored is read back
pub index_stored : (ns : List ℕ) (x : ExpirationIndex) → 6 ≤ length ns → index_in (with_index ns x) ≡ x
index_stored ns x q = λ i. record { heap = heap_stored ns x.heap q i }

-- no other number changes
pub index_past : (ns : List ℕ) (x : ExpirationIndex) (j : ℕ) → 6 ≤ j → get_or (with_index ns x) j 0 ≡ get_or ns j 0
index_past ns x j q = heap_past ns x.heap j q
