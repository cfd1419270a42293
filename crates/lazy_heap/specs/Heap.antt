-- What a heap in words is, and which model it stands for.
use Rattle.std.specs.Prelude.{List, ℕ, ◌*◌, ◌≤◌, length}
use Rattle.binary_heap.specs.declared.entries.Entry.{Entry}
use Rattle.binary_heap.specs.Heap as array
use Rattle.linked_hash_map.specs.declared.map.Record.{Record}
use Rattle.linked_hash_map.specs.Map as map
use Rattle.lazy_heap.specs.declared.heap.LazyMinHeap.{LazyMinHeap}
use Rattle.lazy_heap.specs.Words.{part, Room}
use Rattle.lazy_heap_model.specs.Model.{Heap}
use Rattle.lazy_heap.specs.Valid.{Valid}

-- the held keys, latest set first, and the entries in ascending order
abbrev pub held_of : List ℕ → LazyMinHeap → List Record
held_of ws h = map.model_of ws h.scores

abbrev pub entries_of : List ℕ → LazyMinHeap → List Entry
entries_of ws h = array.model_of (part h.scores.capacity ws) h.entries

abbrev pub model_of : List ℕ → LazyMinHeap → Heap
model_of ws h = record { limit = h.scores.capacity; factor = h.factor; next = h.seq; held = held_of ws h; entries = entries_of ws h }

-- a map of scores and a binary heap of entries, side by side
pub record Parts (ws : List ℕ) (h : LazyMinHeap) : Type 0 where
  pub room : Room (length ws) h.scores.capacity
  pub scores : map.IsMap ws h.scores
  pub entries : array.IsHeap (part h.scores.capacity ws) h.entries

-- and what their contents have to do with each other. There is room for another entry.
pub record IsHeap (ws : List ℕ) (h : LazyMinHeap) : Type 0 where
  pub parts : Parts ws h
  pub valid : Valid (model_of ws h)
  pub few : h.entries ≤ 8 * h.scores.capacity
  pub factor : (1 ≤ h.factor) × (h.factor ≤ 8)
