-- What an index in words is, and which model it stands for.
use Rattle.std.specs.Prelude.{◌≡◌, List, [], ◌∷◌, ◌++◌, ℕ}
use Rattle.linked_hash_map.specs.declared.map.Record.{Record}
use Rattle.lazy_heap_model.specs.Model.{Heap}
use Rattle.lazy_heap.specs.Heap as lazy
use Rattle.expiration_index.specs.declared.index.ExpirationIndex.{ExpirationIndex}
use Rattle.expiration_index.specs.Answers.{tick}
use Rattle.expiration_index.specs.Model.{Pair, Pairs}

-- "The index's factor is its own constant, 2."
abbrev pub factor : ℕ
factor = 2

-- a heap of that factor
pub record IsIndex (ws : List ℕ) (x : ExpirationIndex) : Type 0 where
  pub heap : lazy.IsHeap ws x.heap
  pub factor : x.heap.factor ≡ factor

-- a held key read as a pair: its score is its deadline, and its sequence number says nothing
abbrev pub pair_of : Record → Pair
pair_of r = record { key = r.key; deadline = tick r.first }

-- the heap has the latest set first, the model last
unfoldable pub pairs : List Record → Pairs
pairs [] = []
pairs (r ∷ held) = pairs held ++ (pair_of r ∷ [])

unfoldable pub deadlines : Heap → Pairs
deadlines h = pairs h.held

-- the heap that an index stands for, from whose entries the discarded counts are read
abbrev pub heap_of : List ℕ → ExpirationIndex → Heap
heap_of ws x = lazy.model_of ws x.heap

-- and the model
abbrev pub model_of : List ℕ → ExpirationIndex → Pairs
model_of ws x = deadlines (heap_of ws x)
