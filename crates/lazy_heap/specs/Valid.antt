-- What holds of every heap that the calls can reach, on the model alone.
use Rattle.std.specs.Prelude.{◌≡◌, cond, ℕ, ◌+◌, ◌<◌, ◌≤◌, eqb, length}
use mathlib.Core.List.{List, [], ◌∷◌, Memᴰ}
use Rattle.binary_heap.specs.declared.entries.Entry.{Entry}
use Rattle.binary_heap.specs.Order.{Sorted, count}
use Rattle.linked_hash_map.specs.declared.map.Record.{Record}
use Rattle.linked_hash_map.specs.Model.{Distinct}
use Rattle.lazy_heap_model.specs.Model.{Heap, entry_of}

-- sequence numbers fall from the latest set to the earliest, and all are below a number
abbrev pub Falling : ℕ → List Record → Type 0
Falling bound [] = Unit {0}
Falling bound (r ∷ held) = (r.second < bound) × Falling r.second held

pub record Valid (h : Heap) : Type 0 where
  -- keys differ, and are no more than the limit
  pub keys : Distinct h.held
  pub few : length h.held ≤ h.limit
  -- later set means a larger number, and the next number is larger than all
  pub numbers : Falling h.next h.held
  pub below : (e : Entry) → Memᴰ e h.entries → e.seq < h.next
  -- each held key has exactly one live entry. A stale one never comes to life: its number is taken, and no key holds it.
  pub once : (r : Record) → Memᴰ r h.held → count (entry_of r) h.entries ≡ 1
  pub sorted : Sorted h.entries

-- how many entries have a sequence number
unfoldable pub with_number : ℕ → List Entry → ℕ
with_number s [] = 0
with_number s (e ∷ es) = cond (eqb e.seq s) 1 0 + with_number s es

-- No two entries share a number. The calls keep this too; none of their answers needs it, so the heap is not held to it.
abbrev pub Different : Heap → Type 0
Different h = (s : ℕ) → with_number s h.entries ≤ 1
