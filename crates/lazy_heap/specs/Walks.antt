-- What the walks over the held keys and the entries promise, and of them the check is made.
use Rattle.std.specs.Prelude.{◌≡◌, Bool, true, false, ℕ, ◌+◌, ◌<◌, ◌≤◌, ◌*◌, min, length, get_or, set, Option, None, Some}
use mathlib.Core.List.{List, Memᴰ}
use Rattle.binary_heap.specs.declared.entries.Entry.{Entry}
use Rattle.binary_heap.specs.Order.{count}
use Rattle.binary_heap.specs.Heap as array
use Rattle.linked_hash_map.specs.declared.map.LinkedHashMap.{LinkedHashMap}
use Rattle.linked_hash_map.specs.declared.map.Record.{Record}
use Rattle.linked_hash_map.specs.Model.{nth}
use Rattle.linked_hash_map.specs.Map as map
use Rattle.lazy_heap.specs.declared.heap.LazyMinHeap.{LazyMinHeap}
use Rattle.lazy_heap.specs.Words.{part}
use Rattle.lazy_heap_model.specs.Model.{entry_of, live, count_at_most, at_most}
use Rattle.lazy_heap.specs.Valid.{Falling, Valid}
use Rattle.lazy_heap.specs.Heap.{model_of, Parts}

-- `record_at`: the record at a place, whose slot was told
pub record RecordAt (ws : List ℕ) (m : LinkedHashMap) (slot : Option ℕ) (r : Record) : Type 0 where
  pub answer : map.IsMap ws m → (i : ℕ) → i < m.len → map.slot_at ws m i ≡ slot → nth i (map.model_of ws m) ≡ Some r

-- `slot_before`: the slot of the place before one
pub record SlotBefore (ws : List ℕ) (m : LinkedHashMap) (slot r : Option ℕ) : Type 0 where
  pub answer : map.IsMap ws m → (i : ℕ) → i + 1 < m.len → map.slot_at ws m (i + 1) ≡ slot → r ≡ map.slot_at ws m i

-- `count_at_most`
pub record CountingAtMost (ws : List ℕ) (m : LinkedHashMap) (score r : ℕ) : Type 0 where
  pub answer : map.IsMap ws m → r ≡ count_at_most score (map.model_of ws m)

-- `count_within`
pub record CountingWithin (ws : List ℕ) (h : LazyMinHeap) (score r : ℕ) : Type 0 where
  pub answer : Parts ws h → Valid (model_of ws h) → r ≡ at_most score (model_of ws h)

-- `live_slot`: the slot of the key whose live entry this is, and none for a stale one
pub record LivingAt (ws : List ℕ) (m : LinkedHashMap) (e : Entry) (r : Option ℕ) : Type 0 where
  pub found : map.IsMap ws m → (s : ℕ) → r ≡ Some s → (live (map.model_of ws m) e ≡ true) × (map.slot_of ws m e.key ≡ Some s)
  pub stale : map.IsMap ws m → r ≡ None → live (map.model_of ws m) e ≡ false

-- none seen, then one, then more, which is 2
abbrev pub one_more : ℕ → ℕ
one_more n = min (n + 1) 2

-- `see`: one more at a slot
abbrev pub seen : List ℕ → Option ℕ → List ℕ
seen t (Some s) = set t s (one_more (get_or t s 0))
seen t None = t

-- the word of each held key's slot says how often its entry is among these
abbrev pub Tallied : List ℕ → LinkedHashMap → List Entry → List ℕ → Type 0
Tallied ws m es t = (r : Record) → Memᴰ r (map.model_of ws m) → (s : ℕ) → map.slot_of ws m r.key ≡ Some s → get_or t s 0 ≡ min (count (entry_of r) es) 2

-- a word for each slot, all 0
pub record Blank (m : LinkedHashMap) (t : List ℕ) : Type 0 where
  pub enough : m.capacity ≤ length t
  pub zero : (s : ℕ) → get_or t s 0 ≡ 0

-- `tally_entries`
pub record Tallying (ws : List ℕ) (m : LinkedHashMap) (n next : ℕ) (t t' : List ℕ) (r : Bool) : Type 0 where
  pub size : length t' ≡ length t
  pub below : array.IsHeap (part m.capacity ws) n → r ≡ true → (e : Entry) → Memᴰ e (array.model_of (part m.capacity ws) n) → e.seq < next
  pub complete : array.IsHeap (part m.capacity ws) n → ((e : Entry) → Memᴰ e (array.model_of (part m.capacity ws) n) → e.seq < next) → r ≡ true
  pub tallied : array.IsHeap (part m.capacity ws) n → map.IsMap ws m → Blank m t → r ≡ true → Tallied ws m (array.model_of (part m.capacity ws) n) t'

-- each slot of a held key was seen once
abbrev pub Once : List ℕ → LinkedHashMap → List ℕ → Type 0
Once ws m t = (i s : ℕ) → map.slot_at ws m i ≡ Some s → get_or t s 0 ≡ 1

-- `records_valid`
pub record RecordsValid (ws : List ℕ) (m : LinkedHashMap) (next : ℕ) (t : List ℕ) (r : Bool) : Type 0 where
  pub sound : map.IsMap ws m → r ≡ true → Falling next (map.model_of ws m) × Once ws m t
  pub complete : map.IsMap ws m → Falling next (map.model_of ws m) → Once ws m t → r ≡ true

-- `is_sound`
pub record Sound (ws : List ℕ) (h : LazyMinHeap) (r : Bool) : Type 0 where
  pub sound : r ≡ true → Parts ws h × (h.entries ≤ 8 * h.scores.capacity) × ((1 ≤ h.factor) × (h.factor ≤ 8))
  pub complete : Parts ws h → h.entries ≤ 8 * h.scores.capacity → (1 ≤ h.factor) × (h.factor ≤ 8) → r ≡ true

-- `is_valid`
pub record Agreeing (ws : List ℕ) (h : LazyMinHeap) (r : Bool) : Type 0 where
  pub sound : Parts ws h → r ≡ true → Valid (model_of ws h)
  pub complete : Parts ws h → Valid (model_of ws h) → r ≡ true
