-- What a map in words is, and which model it stands for.
use Rattle.std.specs.Prelude.{cond, List, [], ◌∷◌, map, ℕ, ◌+◌, ◌-◌, ◌≤◌, eqb, ltb, length, get_or, Option, Some, None}
use Rattle.rings.specs.Ring.{next, along, Two}
use Rattle.cells.specs.Cells.{key_at}
use Rattle.cells.specs.Index.{IndexOf}
use Rattle.linked_hash_map.specs.declared.map.LinkedHashMap.{LinkedHashMap}
use Rattle.linked_hash_map.specs.Words.{Room, record_at}
use Rattle.linked_hash_map.specs.Model.{Model}

-- the slots of the live records, front first, and of the free ones
unfoldable pub live_of : List ℕ → LinkedHashMap → List ℕ
live_of ws m = along ws (next ws m.capacity) m.len

unfoldable pub free_of : List ℕ → LinkedHashMap → List ℕ
free_of ws m = along ws (next ws (m.capacity + 1)) (m.capacity - m.len)

-- the words and numbers form a map: two rings share the nodes, and the cells index the live records. (The last field
-- tells a map's numbers from those that no opening made, which are all 0.)
pub record IsMap (ws : List ℕ) (m : LinkedHashMap) : Type 0 where
  pub room : Room (length ws) m.capacity
  pub count : m.len ≤ m.capacity
  pub rings : Two (m.capacity + 2) ws m.capacity (live_of ws m) (m.capacity + 1) (free_of ws m)
  pub index : IndexOf ws m.capacity (live_of ws m)
  pub opened : 1 ≤ m.refill_in

-- the model that a map stands for
unfoldable pub model_of : List ℕ → LinkedHashMap → Model
model_of ws m = map (record_at ws) (live_of ws m)

-- the slot of a key's record
unfoldable pub slot_in : List ℕ → ℕ → List ℕ → Option ℕ
slot_in ws k [] = None
slot_in ws k (s ∷ l) = cond (eqb (key_at ws s) k) (Some s) (slot_in ws k l)

unfoldable pub slot_of : List ℕ → LinkedHashMap → ℕ → Option ℕ
slot_of ws m k = slot_in ws k (live_of ws m)

-- the slot of the i-th record from the front, counted from 0
unfoldable pub slot_at : List ℕ → LinkedHashMap → ℕ → Option ℕ
slot_at ws m i = cond (ltb i m.len) (Some (get_or (live_of ws m) i 0)) None
